use Rattle.std.proofs.Common.{◌≡◌, [], ◌∷◌, ◌++◌, get_or, sym, ◌∙◌, arith, lit<}
use Rattle.std.specs.Fmt.{decimal}
use Rattle.std.proofs.lemmas.Result.{err_from_is_err_and}
use Rattle.output_reader.proofs.HandleTexts.{handle_parts, handle_same, handle_text_same}
use Rattle.output_reader.proofs.Lacking.{decimal_lacks, name_lacks}
use Rattle.output_reader.proofs.items.handle.Goals as goal

pub returns-in_err-name-clause-back : goal.returns-in_err-name-clause-back
returns-in_err-name-clause-back c = λ h fits is.
    let parts : c.args.bytes.now ≡ get_or c.args.threads.now h.owner [] ++ 46 ∷ (decimal h.row ++ 46 ∷ decimal h.generation) = sym is ∙ handle_parts c.args.threads.now h in
    let lacks = name_lacks c.args.threads.now h.owner 46 c.requires fits.owner.0 (lit< tt) in
    absurd (c.in_err-name.ensures.back (get_or c.args.threads.now h.owner []) (decimal h.row ++ 46 ∷ decimal h.generation) lacks parts)

pub returns-in_err-row_digits-clause-back : goal.returns-in_err-row_digits-clause-back
returns-in_err-row_digits-clause-back c = λ h fits is.
    let parts : c.args.bytes.now ≡ get_or c.args.threads.now h.owner [] ++ 46 ∷ (decimal h.row ++ 46 ∷ decimal h.generation) = sym is ∙ handle_parts c.args.threads.now h in
    let lacks = name_lacks c.args.threads.now h.owner 46 c.requires fits.owner.0 (lit< tt) in
    let cut = c.in_ok-name.ensures.back (get_or c.args.threads.now h.owner []) (decimal h.row ++ 46 ∷ decimal h.generation) lacks parts in
    absurd (c.in_err-row_digits.ensures.back (decimal h.row) (decimal h.generation) (decimal_lacks h.row 46 (omega (arith, fits.row)) (lit< tt)) cut.1)

pub returns-in_err-owner-clause-back : goal.returns-in_err-owner-clause-back
returns-in_err-owner-clause-back c = λ h fits is.
    let parts : c.args.bytes.now ≡ get_or c.args.threads.now h.owner [] ++ 46 ∷ (decimal h.row ++ 46 ∷ decimal h.generation) = sym is ∙ handle_parts c.args.threads.now h in
    let lacks = name_lacks c.args.threads.now h.owner 46 c.requires fits.owner.0 (lit< tt) in
    let cut = c.in_ok-name.ensures.back (get_or c.args.threads.now h.owner []) (decimal h.row ++ 46 ∷ decimal h.generation) lacks parts in
    let p = err_from_is_err_and c.from_residual-in_err-owner.result c.from_residual-in_err-owner.ensures.1 in
    rw (p.1, p.2) (c.in_err-owner.ensures.back h.owner fits.owner (sym cut.0))

pub returns-in_err-row-clause-back : goal.returns-in_err-row-clause-back
returns-in_err-row-clause-back c = λ h fits is.
    let parts : c.args.bytes.now ≡ get_or c.args.threads.now h.owner [] ++ 46 ∷ (decimal h.row ++ 46 ∷ decimal h.generation) = sym is ∙ handle_parts c.args.threads.now h in
    let lacks = name_lacks c.args.threads.now h.owner 46 c.requires fits.owner.0 (lit< tt) in
    let cut = c.in_ok-name.ensures.back (get_or c.args.threads.now h.owner []) (decimal h.row ++ 46 ∷ decimal h.generation) lacks parts in
    let digits = c.in_ok-row_digits.ensures.back (decimal h.row) (decimal h.generation) (decimal_lacks h.row 46 (omega (arith, fits.row)) (lit< tt)) cut.1 in
    let p = err_from_is_err_and c.from_residual-in_err-row.result c.from_residual-in_err-row.ensures.1 in
    rw (p.1, p.2) (c.in_err-row.ensures.back h.row fits.row (sym digits.0))

pub returns-in_err-generation-clause-back : goal.returns-in_err-generation-clause-back
returns-in_err-generation-clause-back c = λ h fits is.
    let parts : c.args.bytes.now ≡ get_or c.args.threads.now h.owner [] ++ 46 ∷ (decimal h.row ++ 46 ∷ decimal h.generation) = sym is ∙ handle_parts c.args.threads.now h in
    let lacks = name_lacks c.args.threads.now h.owner 46 c.requires fits.owner.0 (lit< tt) in
    let cut = c.in_ok-name.ensures.back (get_or c.args.threads.now h.owner []) (decimal h.row ++ 46 ∷ decimal h.generation) lacks parts in
    let digits = c.in_ok-row_digits.ensures.back (decimal h.row) (decimal h.generation) (decimal_lacks h.row 46 (omega (arith, fits.row)) (lit< tt)) cut.1 in
    let p = err_from_is_err_and c.from_residual-in_err-generation.result c.from_residual-in_err-generation.ensures.1 in
    rw (p.1, p.2) (c.in_err-generation.ensures.back h.generation fits.generation (sym digits.1))

pub returns-clause-back : goal.returns-clause-back
returns-clause-back c = λ h fits is.
    let parts : c.args.bytes.now ≡ get_or c.args.threads.now h.owner [] ++ 46 ∷ (decimal h.row ++ 46 ∷ decimal h.generation) = sym is ∙ handle_parts c.args.threads.now h in
    let lacks = name_lacks c.args.threads.now h.owner 46 c.requires fits.owner.0 (lit< tt) in
    let cut = c.in_ok-name.ensures.back (get_or c.args.threads.now h.owner []) (decimal h.row ++ 46 ∷ decimal h.generation) lacks parts in
    let digits = c.in_ok-row_digits.ensures.back (decimal h.row) (decimal h.generation) (decimal_lacks h.row 46 (omega (arith, fits.row)) (lit< tt)) cut.1 in
    let owner = c.in_ok-owner.ensures.back h.owner fits.owner (sym cut.0) in
    let row = c.in_ok-row.ensures.back h.row fits.row (sym digits.0) in
    let generation = c.in_ok-generation.ensures.back h.generation fits.generation (sym digits.1) in
    (handle_text_same c.args.threads.now h _ _ _ owner.0 row generation, λ distinct. handle_same h _ _ _ (owner.1 distinct) row generation)
