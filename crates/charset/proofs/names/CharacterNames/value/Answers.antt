use Rattle.std.proofs.Common.{◌≡◌, length, Some, None, ap, sym, ◌∙◌, arith}
use Rattle.std.specs.List.{find}
use Rattle.std.specs.Str.Parse.{digits_value}
use Rattle.charset.specs.Fronts.{IsPlaceOf}
use Rattle.charset.specs.Spans.{Spot, is_in}
use Rattle.charset.specs.Tails.{front, tail_number}
use Rattle.charset.proofs.NameLemmas.{spot_of, spot_is, value_found, value_lacking, value_fits, value_absent}
use Rattle.charset.proofs.names.CharacterNames.value.Goals as goal

pub returns-in_err-front : goal.returns-in_err-front
returns-in_err-front c =
    let name = c.args.name.now in
    let place : IsPlaceOf (front name) c.self.inside.fronts None = rw (c.split_tail.ensures.front) at c.in_err-front.ensures in
    rw (← c.self.view_is) (c.from_residual.ensures ∙ value_absent c.self.inside.fronts c.self.inside.spans name c.self.invariant.formed place)

pub returns-in_err-span : goal.returns-in_err-span
returns-in_err-span c =
    let name = c.args.name.now in
    let number : c.number_of-number.result ≡ tail_number name = c.number_of-number.ensures.is ∙ ap (digits_value 10) c.split_tail.ensures.tail in
    let spot = spot_is c.in_ok-front.front (length c.split_tail.result.1.now) c.number_of-number.result name c.split_tail.ensures.width number in
    let place : IsPlaceOf (front name) c.self.inside.fronts (Some c.in_ok-front.front) = rw (c.split_tail.ensures.front) at c.in_ok-front.ensures in
    let none : find (is_in (spot_of c.in_ok-front.front name)) c.self.inside.spans ≡ None = ap (λ (q : Spot). find (is_in q) c.self.inside.spans) (sym spot) ∙ sym c.in_err-span.ensures in
    rw (← c.self.view_is) (c.from_residual-in_err-span.ensures ∙ value_lacking c.self.inside.fronts c.self.inside.spans name c.in_ok-front.front c.self.invariant.formed place none)

pub overflow_sub-result : goal.overflow_sub-result
overflow_sub-result c = (value_fits c.self.inside.fronts c.self.inside.spans _ c.in_ok-span.span c.self.invariant.formed (sym c.in_ok-span.ensures)).0

pub overflow_add-result : goal.overflow_add-result
overflow_add-result c =
    let fits = value_fits c.self.inside.fronts c.self.inside.spans _ c.in_ok-span.span c.self.invariant.formed (sym c.in_ok-span.ensures) in
    omega (arith, fits.1)

pub returns : goal.returns
returns c =
    let name = c.args.name.now in
    let number : c.number_of-number.result ≡ tail_number name = c.number_of-number.ensures.is ∙ ap (digits_value 10) c.split_tail.ensures.tail in
    let spot = spot_is c.in_ok-front.front (length c.split_tail.result.1.now) c.number_of-number.result name c.split_tail.ensures.width number in
    let place : IsPlaceOf (front name) c.self.inside.fronts (Some c.in_ok-front.front) = rw (c.split_tail.ensures.front) at c.in_ok-front.ensures in
    let found : find (is_in (spot_of c.in_ok-front.front name)) c.self.inside.spans ≡ Some c.in_ok-span.span = ap (λ (q : Spot). find (is_in q) c.self.inside.spans) (sym spot) ∙ sym c.in_ok-span.ensures in
    rw (← c.self.view_is, number) (value_found c.self.inside.fronts c.self.inside.spans name c.in_ok-front.front c.in_ok-span.span c.self.invariant.formed place found)
