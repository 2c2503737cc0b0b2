use Rattle.std.proofs.Common.{◌≡◌, take, drop, subst, List, ℕ}
use Rattle.std.specs.List.{flat_map}
use Rattle.script_out.specs.Output.{escaped}
use Rattle.script_out.proofs.PlainTexts.{more_plain}
use Rattle.script_out.proofs.quoting.plain_length.Goals as goal

pub returns-clause-plain : goal.returns-clause-plain
returns-clause-plain c =
    let singles : flat_map escaped (take c.plain_singles.result c.split_at.result.1.now) ≡ take c.plain_singles.result c.split_at.result.1.now = c.plain_singles.ensures.plain in
    let there : c.split_at.result.1.now ≡ drop c.plain_eights-eights.result c.args.text.now = c.split_at.ensures.back in
    more_plain c.args.text.now c.plain_eights-eights.result c.plain_singles.result c.plain_eights-eights.ensures.plain (subst (λ (t : List ℕ). flat_map escaped (take c.plain_singles.result t) ≡ take c.plain_singles.result t) there singles)
