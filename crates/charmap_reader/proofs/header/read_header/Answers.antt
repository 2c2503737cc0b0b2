use Rattle.std.proofs.Common.{sym, ◌∙◌}
use Rattle.std.proofs.lemmas.Result.{err_from_is_err_and}
use Rattle.lc_base.proofs.ReadingLemmas.{fails_first, gives_rest}
use Rattle.charmap_reader.proofs.Headers.{header_named, header_counted, header_unknown}
use Rattle.charmap_reader.proofs.header.read_header.Goals as goal

pub returns-in_err-operand_bytes : goal.returns-in_err-operand_bytes
returns-in_err-operand_bytes c =
    let p = err_from_is_err_and c.from_residual.result c.from_residual.ensures.1 in
    let named = rw c.first_words.ensures.first at (sym c.gives_name.ensures ∙ c.if-gives_name.true) in
    rw (p.1, p.2) (fails_first c.in_err-operand_bytes.field-0.0 _ _ _ (header_named _ _ named) c.in_err-operand_bytes.ensures)

pub returns-then-gives_name : goal.returns-then-gives_name
returns-then-gives_name c =
    let named = rw c.first_words.ensures.first at (sym c.gives_name.ensures ∙ c.if-gives_name.true) in
    gives_rest _ c.named_by.result _ _ _ _ (header_named _ _ named) c.in_ok-operand_bytes.ensures (rw c.place-place.ensures at c.named_by.ensures)

pub returns-in_err-operand_bytes-2 : goal.returns-in_err-operand_bytes-2
returns-in_err-operand_bytes-2 c =
    let p = err_from_is_err_and c.from_residual-in_err-operand_bytes-2.result c.from_residual-in_err-operand_bytes-2.ensures.1 in
    let not_named = rw c.first_words.ensures.first at (sym c.gives_name.ensures ∙ c.if-gives_name.false) in
    let counted = rw c.first_words.ensures.first at (sym c.gives_count.ensures ∙ c.if-gives_count.true) in
    rw (p.1, p.2) (fails_first c.in_err-operand_bytes-2.field-0.0 _ _ _ (header_counted _ _ not_named counted) c.in_err-operand_bytes-2.ensures)

pub returns-then-gives_count : goal.returns-then-gives_count
returns-then-gives_count c =
    let not_named = rw c.first_words.ensures.first at (sym c.gives_name.ensures ∙ c.if-gives_name.false) in
    let counted = rw c.first_words.ensures.first at (sym c.gives_count.ensures ∙ c.if-gives_count.true) in
    gives_rest _ c.counted_by.result _ _ _ _ (header_counted _ _ not_named counted) c.in_ok-operand_bytes-2.ensures (rw c.place-place.ensures at c.counted_by.ensures)

pub returns : goal.returns
returns c =
    let not_named = rw c.first_words.ensures.first at (sym c.gives_name.ensures ∙ c.if-gives_name.false) in
    let not_counted = rw c.first_words.ensures.first at (sym c.gives_count.ensures ∙ c.if-gives_count.false) in
    rw c.place-place.ensures (header_unknown _ _ not_named not_counted)
