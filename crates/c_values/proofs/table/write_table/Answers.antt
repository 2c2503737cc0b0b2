use Rattle.std.proofs.Common.{◌≡◌, ℕ, ◌+◌, ◌≤◌, List, [], ◌∷◌, ◌++◌, length, take, sym, ap, ◌∙◌, arith}
use Rattle.std.proofs.lemmas.List.{append_assoc}
use Rattle.text_buffer.specs.Written.{over}
use Rattle.c_values.specs.Table.{laid, texts_by}
use Rattle.c_values.proofs.NameLemmas.{then_ends, then_written}
use Rattle.c_values.proofs.TableLemmas.{laid_more, laid_within, length_more, start_more}
use Rattle.c_values.proofs.table.write_table.Goals as goal

pub put_at-behind-requires : goal.put_at-behind-requires
put_at-behind-requires c =
    let texts : List (List ℕ) = texts_by c.args.view.now c.args.given.now in
    let size = length_more texts c.loop-i.i c.text_at.result.now c.text_at.ensures in
    let within = laid_within texts (c.loop-i.i + 1) in
    omega (arith, c.loop-i.invariant.0, size, within, c.requires, c.loop-i.auto.buffer)

pub put_byte-end-requires : goal.put_byte-end-requires
put_byte-end-requires c =
    let texts : List (List ℕ) = texts_by c.args.view.now c.args.given.now in
    let size = length_more texts c.loop-i.i c.text_at.result.now c.text_at.ensures in
    let within = laid_within texts (c.loop-i.i + 1) in
    omega (arith, c.loop-i.invariant.0, size, within, c.requires, c.loop-i.auto.buffer, c.put_at-behind.ensures.ends, c.put_at-behind.auto.target)

pub loop-i-preserved : goal.loop-i-preserved
loop-i-preserved c =
    let texts : List (List ℕ) = texts_by c.args.view.now c.args.given.now in
    let old : List ℕ = c.args.buffer.now in
    let text : List ℕ = c.text_at.result.now in
    let before : List ℕ = laid (take c.loop-i.i texts) in
    let nul : List ℕ = 0 ∷ [] in
    let fits : 0 ≤ length old = omega arith in
    let size = length_more texts c.loop-i.i text c.text_at.ensures in
    let starts_at : c.loop-i.end ≡ 0 + length before = omega (arith, c.loop-i.invariant.0) in
    let first : c.put_at-behind.new.target ≡ over old 0 (before ++ text) = then_written old c.loop-i.buffer c.put_at-behind.new.target 0 c.loop-i.end before text fits starts_at c.loop-i.invariant.1 c.put_at-behind.ensures.written in
    let ends : c.put_at-behind.result ≡ 0 + length (before ++ text) = then_ends 0 c.loop-i.end c.put_at-behind.result before text starts_at c.put_at-behind.ensures.ends in (
      omega (arith, c.loop-i.invariant.0, size, c.put_at-behind.ensures.ends, c.put_byte-end.ensures.ends),
      then_written old c.put_at-behind.new.target c.put_byte-end.new.target 0 c.put_at-behind.result (before ++ text) nul fits ends first c.put_byte-end.ensures.written
          ∙ ap (λ t. over old 0 t) (append_assoc before text nul ∙ sym (laid_more texts c.loop-i.i text c.text_at.ensures)),
      start_more c.loop-i.table.starts c.loop-i.i c.loop-i.end (λ k. length (laid (take k texts))) (omega (arith, c.loop-i-test.true)) c.loop-i.invariant.0 c.loop-i.invariant.2,
    )
