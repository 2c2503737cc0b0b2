use Rattle.std.proofs.Common.{◌≡◌, Ok, refl, ap, sym, ◌∙◌, lit<}
use Rattle.std.specs.Fmt.{decimal}
use Rattle.std.proofs.lemmas.Result.{err_from_is_err_and}
use Rattle.script_out.specs.declared.output.Places.TheVariants as places
use Rattle.script_out.specs.Output.{places_text}
use Rattle.output_reader.specs.Ranges.{ArePlaces}
use Rattle.output_reader.specs.Reading.{Gives}
use Rattle.output_reader.proofs.HandleTexts.{places_parts, no_number, no_places, no_comma, dash_no_catalog, number_no_catalog, places_no_catalog}
use Rattle.output_reader.proofs.Lacking.{decimal_lacks}
use Rattle.output_reader.proofs.items.places.Goals as goal

pub returns-then-is_word-clause-back : goal.returns-then-is_word-clause-back
returns-then-is_word-clause-back c = λ p.
    elim p as (λ p. ArePlaces p → places_text p ≡ c.args.bytes.now → Gives p (Ok places.None)) [
      | places.None ↦ λ fits is. refl
      | places.One a ↦ λ fits is. absurd (no_number a fits (is ∙ c.is_word.ensures.is c.if-is_word.true))
      | places.Two a b ↦ λ fits is. absurd (no_places a b (sym (places_parts a b) ∙ is ∙ c.is_word.ensures.is c.if-is_word.true))
      | places.Catalog a ↦ λ fits is. absurd (dash_no_catalog (decimal a) (sym (is ∙ c.is_word.ensures.is c.if-is_word.true)))
    ]

pub returns-in_err-catalog_place-clause-back : goal.returns-in_err-catalog_place-clause-back
returns-in_err-catalog_place-clause-back c = λ p.
    elim p as (λ p. ArePlaces p → places_text p ≡ c.args.bytes.now → Gives p c.from_residual.result) [
      | places.None ↦ λ fits is. absurd (cc (c.is_word.ensures.back (sym is), c.if-is_word.false))
      | places.One a ↦ λ fits is. absurd (number_no_catalog a c.in-Some.digits.now fits (is ∙ c.in-Some.ensures.read))
      | places.Two a b ↦ λ fits is. absurd (places_no_catalog a b c.in-Some.digits.now fits.0 fits.1 (is ∙ c.in-Some.ensures.read))
      | places.Catalog a ↦ λ fits is. let p = err_from_is_err_and c.from_residual.result c.from_residual.ensures.1 in rw (p.1, p.2) (c.in_err-catalog_place.ensures.back a fits (sym (c.in-Some.ensures.back (decimal a) (sym is))))
    ]

pub returns-in-Some-clause-back : goal.returns-in-Some-clause-back
returns-in-Some-clause-back c = λ p.
    elim p as (λ p. ArePlaces p → places_text p ≡ c.args.bytes.now → Gives p (Ok (places.Catalog c.in_ok-catalog_place.catalog_place))) [
      | places.None ↦ λ fits is. absurd (cc (c.is_word.ensures.back (sym is), c.if-is_word.false))
      | places.One a ↦ λ fits is. absurd (number_no_catalog a c.in-Some.digits.now fits (is ∙ c.in-Some.ensures.read))
      | places.Two a b ↦ λ fits is. absurd (places_no_catalog a b c.in-Some.digits.now fits.0 fits.1 (is ∙ c.in-Some.ensures.read))
      | places.Catalog a ↦ λ fits is. ap (λ k. places.Catalog k) (c.in_ok-catalog_place.ensures.back a fits (sym (c.in-Some.ensures.back (decimal a) (sym is))))
    ]

pub returns-in_err-hold-in-Ok-clause-back : goal.returns-in_err-hold-in-Ok-clause-back
returns-in_err-hold-in-Ok-clause-back c = λ p.
    elim p as (λ p. ArePlaces p → places_text p ≡ c.args.bytes.now → Gives p c.from_residual-in_err-hold-in-Ok.result) [
      | places.None ↦ λ fits is. absurd (cc (c.is_word.ensures.back (sym is), c.if-is_word.false))
      | places.One a ↦ λ fits is. absurd (no_comma a c.in-Ok.hold_digits.now c.in-Ok.release_digits.now fits (is ∙ c.in-Ok.ensures.read.0))
      | places.Two a b ↦ λ fits is. let p = err_from_is_err_and c.from_residual-in_err-hold-in-Ok.result c.from_residual-in_err-hold-in-Ok.ensures.1 in rw (p.1, p.2) (c.in_err-hold-in-Ok.ensures.back a fits.0 (sym (c.in-Ok.ensures.back (decimal a) (decimal b) (decimal_lacks a 44 fits.0 (lit< tt)) (sym is ∙ places_parts a b)).0))
      | places.Catalog a ↦ λ fits is. absurd (c.in_default.ensures.back (decimal a) (sym is))
    ]

pub returns-in_err-release-in-Ok-clause-back : goal.returns-in_err-release-in-Ok-clause-back
returns-in_err-release-in-Ok-clause-back c = λ p.
    elim p as (λ p. ArePlaces p → places_text p ≡ c.args.bytes.now → Gives p c.from_residual-in_err-release-in-Ok.result) [
      | places.None ↦ λ fits is. absurd (cc (c.is_word.ensures.back (sym is), c.if-is_word.false))
      | places.One a ↦ λ fits is. absurd (no_comma a c.in-Ok.hold_digits.now c.in-Ok.release_digits.now fits (is ∙ c.in-Ok.ensures.read.0))
      | places.Two a b ↦ λ fits is. let p = err_from_is_err_and c.from_residual-in_err-release-in-Ok.result c.from_residual-in_err-release-in-Ok.ensures.1 in rw (p.1, p.2) (c.in_err-release-in-Ok.ensures.back b fits.1 (sym (c.in-Ok.ensures.back (decimal a) (decimal b) (decimal_lacks a 44 fits.0 (lit< tt)) (sym is ∙ places_parts a b)).1))
      | places.Catalog a ↦ λ fits is. absurd (c.in_default.ensures.back (decimal a) (sym is))
    ]

pub returns-in_ok-release-in-Ok-clause-back : goal.returns-in_ok-release-in-Ok-clause-back
returns-in_ok-release-in-Ok-clause-back c = λ p.
    elim p as (λ p. ArePlaces p → places_text p ≡ c.args.bytes.now → Gives p (Ok (places.Two c.in_ok-hold-in-Ok.hold c.in_ok-release-in-Ok.release))) [
      | places.None ↦ λ fits is. absurd (cc (c.is_word.ensures.back (sym is), c.if-is_word.false))
      | places.One a ↦ λ fits is. absurd (no_comma a c.in-Ok.hold_digits.now c.in-Ok.release_digits.now fits (is ∙ c.in-Ok.ensures.read.0))
      | places.Two a b ↦ λ fits is. let first : c.in_ok-hold-in-Ok.hold ≡ a = c.in_ok-hold-in-Ok.ensures.back a fits.0 (sym (c.in-Ok.ensures.back (decimal a) (decimal b) (decimal_lacks a 44 fits.0 (lit< tt)) (sym is ∙ places_parts a b)).0) in let second : c.in_ok-release-in-Ok.release ≡ b = c.in_ok-release-in-Ok.ensures.back b fits.1 (sym (c.in-Ok.ensures.back (decimal a) (decimal b) (decimal_lacks a 44 fits.0 (lit< tt)) (sym is ∙ places_parts a b)).1) in cc (first, second)
      | places.Catalog a ↦ λ fits is. absurd (c.in_default.ensures.back (decimal a) (sym is))
    ]

pub returns-in_err-place-in-Err-clause-back : goal.returns-in_err-place-in-Err-clause-back
returns-in_err-place-in-Err-clause-back c = λ p.
    elim p as (λ p. ArePlaces p → places_text p ≡ c.args.bytes.now → Gives p c.from_residual-in_err-place-in-Err.result) [
      | places.None ↦ λ fits is. absurd (cc (c.is_word.ensures.back (sym is), c.if-is_word.false))
      | places.One a ↦ λ fits is. let p = err_from_is_err_and c.from_residual-in_err-place-in-Err.result c.from_residual-in_err-place-in-Err.ensures.1 in rw (p.1, p.2) (c.in_err-place-in-Err.ensures.back a fits is)
      | places.Two a b ↦ λ fits is. absurd (c.in-Err.ensures.back (decimal a) (decimal b) (decimal_lacks a 44 fits.0 (lit< tt)) (sym is ∙ places_parts a b))
      | places.Catalog a ↦ λ fits is. absurd (c.in_default.ensures.back (decimal a) (sym is))
    ]

pub returns-in_ok-place-in-Err-clause-back : goal.returns-in_ok-place-in-Err-clause-back
returns-in_ok-place-in-Err-clause-back c = λ p.
    elim p as (λ p. ArePlaces p → places_text p ≡ c.args.bytes.now → Gives p (Ok (places.One c.in_ok-place-in-Err.place))) [
      | places.None ↦ λ fits is. absurd (cc (c.is_word.ensures.back (sym is), c.if-is_word.false))
      | places.One a ↦ λ fits is. ap (λ k. places.One k) (c.in_ok-place-in-Err.ensures.back a fits is)
      | places.Two a b ↦ λ fits is. absurd (c.in-Err.ensures.back (decimal a) (decimal b) (decimal_lacks a 44 fits.0 (lit< tt)) (sym is ∙ places_parts a b))
      | places.Catalog a ↦ λ fits is. absurd (c.in_default.ensures.back (decimal a) (sym is))
    ]
