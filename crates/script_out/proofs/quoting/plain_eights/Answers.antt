use Rattle.std.proofs.Common.{◌≡◌, ◌≤◌, ℕ, List, length, take, drop, ap, sym, subst, ◌∙◌}
use Rattle.std.specs.List.{flat_map}
use Rattle.script_out.specs.Output.{escaped}
use Rattle.script_out.proofs.PlainTexts.{more_plain, drop_more, drop_room}
use Rattle.script_out.proofs.quoting.plain_eights.Goals as goal

pub loop-left-preserved : goal.loop-left-preserved
loop-left-preserved c =
    let here : drop c.loop-left.eights c.args.text.now ≡ c.loop-left.left.now = c.loop-left.invariant.1 in
    let so_far : flat_map escaped (take c.loop-left.eights c.args.text.now) ≡ take c.loop-left.eights c.args.text.now = c.loop-left.invariant.2 in
    let first = c.begins_plain.ensures c.loop-left-test.true in
    let behind : c.split_at.result.1.now ≡ drop 8 c.loop-left.left.now = c.split_at.ensures.back in
    let room : 8 ≤ length (drop c.loop-left.eights c.args.text.now) = subst (λ (t : List ℕ). 8 ≤ length t) (sym here) first.0 in
    let later : flat_map escaped (take 8 (drop c.loop-left.eights c.args.text.now)) ≡ take 8 (drop c.loop-left.eights c.args.text.now) = subst (λ (t : List ℕ). flat_map escaped (take 8 t) ≡ take 8 t) (sym here) first.1 in (
      drop_room c.loop-left.eights c.args.text.now room,
      drop_more c.loop-left.eights 8 c.args.text.now ∙ ap (λ (t : List ℕ). drop 8 t) here ∙ sym behind,
      more_plain c.args.text.now c.loop-left.eights 8 so_far later,
    )
