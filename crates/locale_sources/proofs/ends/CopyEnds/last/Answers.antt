use Rattle.std.proofs.Common.{ℕ, ◌+◌, ◌<◌, List, Option, length, map, ap, ◌∙◌, arith}
use Rattle.locale_sources.specs.Sources.{Source}
use Rattle.locale_sources.specs.Seen.{source}
use Rattle.locale_sources.specs.Copies.{last}
use Rattle.locale_sources.specs.Tables.{led}
use Rattle.locale_sources.proofs.TableLemmas.{led-map}
use Rattle.locale_sources.proofs.ends.CopyEnds.last.Goals as goal

pub returns : goal.returns
returns c =
    let S = map source c.self.inside.sources.now in
    let within : c.args.number < length S + 1 = let same = ap length c.self.view_is in omega arith in
    c.led.ensures
    ∙ (ap (λ (t : List (Option ℕ)). led t c.args.number) (c.as_slice.ensures.value ∙ (ap (λ v. v.items) c.get.ensures ∙ c.self.invariant.each c.args.category))
    ∙ (led-map (last S c.args.category) (length S + 1) c.args.number within
    ∙ ap (λ (s : List Source). last s c.args.category c.args.number) c.self.view_is))
