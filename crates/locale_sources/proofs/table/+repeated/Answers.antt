use Rattle.std.proofs.Common.{◌≡◌, ◌∙◌, ap, map, List, Option, ℕ}
use Rattle.std.proofs.lemmas.Result.{IfOk-weaker}
use Rattle.locale_sources.specs.Tables.{led_on}
use Rattle.locale_sources.proofs.TableLemmas.{twice-even, twice-odd}
use Rattle.locale_sources.proofs.table.+repeated.Goals as goal

pub returns-then-times-eq0-2 : goal.returns-then-times-eq0-2
returns-then-times-eq0-2 t c =
    let half = c.in_ok-half.half.items in
    let joined : c.in_ok-twice.twice.items ≡ map (led_on half) half = c.in_ok-twice.ensures ∙ (ap (λ (x : List (Option ℕ)). map (led_on x) c.as_slice.result.now) c.as_slice-2.ensures.value ∙ ap (map (led_on half)) c.as_slice.ensures.value) in
    twice-even c.args.table.now half c.in_ok-twice.twice.items c.args.times c.requires.closed c.in_ok-half.ensures joined c.if-times-eq0-2.true

pub returns : goal.returns
returns t c =
    let half = c.in_ok-half.half.items in
    let joined : c.in_ok-twice.twice.items ≡ map (led_on half) half = c.in_ok-twice.ensures ∙ (ap (λ (x : List (Option ℕ)). map (led_on x) c.as_slice.result.now) c.as_slice-2.ensures.value ∙ ap (map (led_on half)) c.as_slice.ensures.value) in
    IfOk-weaker c.joined-else-times-eq0-2.result _ _
    (λ v last. twice-odd c.args.table.now half c.in_ok-twice.twice.items v.items c.args.times c.requires.closed c.in_ok-half.ensures joined (last ∙ ap (map (led_on c.args.table.now)) c.as_slice-else-times-eq0-2.ensures.value) c.if-times-eq0-2.false)
    c.joined-else-times-eq0-2.ensures
