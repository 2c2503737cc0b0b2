use Rattle.std.proofs.Common.{◌≡◌, ◌≤◌, ℕ, List, Ok, length, take, arith, ap, sym, subst, ◌∙◌}
use Rattle.std.proofs.lemmas.List.{take_at, length-take}
use Rattle.text_buffer.proofs.WrittenLemmas.{is_there}
use Rattle.digit_groups.specs.declared.fault.FormatFault.TheVariants.{Stopped}
use Rattle.digit_groups.specs.Formats.{formatted, Stops}
use Rattle.digit_groups.proofs.TextLemmas.{stops}
use Rattle.digit_groups.proofs.list.put_text.Goals as goal

pub returns-in-Ok-clause-text : goal.returns-in-Ok-clause-text
returns-in-Ok-clause-text g c =
    let buffer : List ℕ = c.write_text.new.buffer in
    let size : length buffer ≡ c.resize.new.self.len = omega (arith, c.as_mut_slice.ensures.len, c.write_text.auto.buffer) in
    let there = is_there _ _ _ _ c.in-Ok.ensures in
    there.text ∙ sym (ap (λ t. Ok t) (c.truncate.ensures.items ∙ ap (λ t. take c.in-Ok.len t) (take_at buffer _ c.resize.new.self.len size)))

pub returns-in-Ok-clause-short : goal.returns-in-Ok-clause-short
returns-in-Ok-clause-short g c =
    let there = is_there _ _ _ _ c.in-Ok.ensures in
    let fits : c.in-Ok.len ≤ length c.as_mut_slice.result.now = there.fits in
    omega (arith, fits, c.as_mut_slice.ensures.len, c.in_ok-resize.ensures.len, ap length c.truncate.ensures.items, length-take {A = ℕ})

pub returns-in-Err-clause-fault : goal.returns-in-Err-clause-fault
returns-in-Err-clause-fault g c =
    let size : length c.as_mut_slice.result.now ≡ c.args.room = omega (arith, c.as_mut_slice.ensures.len, c.in_ok-resize.ensures.len) in
    let P : ℕ → Type 0 = λ n. Stops g.C.FormatConversion.lacks n (Stopped c.in-Err.stop) (formatted g.C.FormatConversion.conversion (g.C.FormatConversion.text c.args.category.now) g.C.FormatConversion.lacks c.args.format.now c.args.values.now) in
    subst P size (stops g.C.FormatConversion.lacks c.as_mut_slice.result.now c.write_text.new.buffer c.in-Err.stop _ c.in-Err.ensures)
