use Rattle.std.proofs.Common.{◌≡◌, ℕ, List, Option, Some, Ok, ap, sym, subst, ◌∙◌}
use Rattle.std.specs.Prelude.{IfSome}
use Rattle.std.specs.Str.{IsUtf8}
use Rattle.script_out.specs.Output.{year_text}
use Rattle.output_reader.proofs.Fields.{year_small, year_lacks, year_absent, year_there}
use Rattle.std.proofs.Common.{ℤ, to_z, of_z}
use Rattle.std.proofs.Math.Facts.{to_z-of_z}
use Rattle.std.proofs.lemmas.Fmt.{parse-signed_decimal, IsAscii-signed}
use Rattle.std.proofs.lemmas.Str.{IsUtf8-from_ascii}
use Rattle.std.specs.Fmt.{signed_decimal}
use Rattle.std.specs.Int.{w32}
use Rattle.std.specs.Int.RustNames.{FitsSigned}
use Rattle.output_reader.proofs.reply.next_year.Goals as goal

pub returns-in_err-word-clause-back : goal.returns-in_err-word-clause-back
returns-in_err-word-clause-back c = λ v rest fits is.
    absurd (c.in_err-word.ensures.back (year_text v) rest (year_lacks v fits) is)

pub returns-then-is_word-clause-back : goal.returns-then-is_word-clause-back
returns-then-is_word-clause-back c = λ v rest fits is.
    let cut = c.in_ok-word.ensures.back (year_text v) rest (year_lacks v fits) is in
    (year_absent v fits (sym cut.0 ∙ c.is_word.ensures.is c.if-is_word.true), cut.1)

pub returns-in_default-clause-back : goal.returns-in_default-clause-back
returns-in_default-clause-back c = λ v rest fits is.
    let cut = c.in_ok-word.ensures.back (year_text v) rest (year_lacks v fits) is in
    let there = year_there v (λ e. cc (c.is_word.ensures.back (cut.0 ∙ e), c.if-is_word.false)) in
    let year : FitsSigned w32 there.0 = subst (λ (o : Option ℤ). IfSome o (λ (y : ℤ). FitsSigned w32 y)) there.1 fits in
    let digits : c.in_ok-word.word.now ≡ signed_decimal there.0 = cut.0 ∙ ap (λ o. year_text o) there.1 in
    let text : IsUtf8 c.in_ok-word.word.now = subst (λ (t : List ℕ). IsUtf8 t) (sym digits) (IsUtf8-from_ascii (signed_decimal there.0) (IsAscii-signed there.0 (year_small there.0 year))) in
    absurd (c.in_default.ensures.cases.0 text)

pub returns-in-Ok-parse-clause-back : goal.returns-in-Ok-parse-clause-back
returns-in-Ok-parse-clause-back c = λ v rest fits is.
    let cut = c.in_ok-word.ensures.back (year_text v) rest (year_lacks v fits) is in
    let there = year_there v (λ e. cc (c.is_word.ensures.back (cut.0 ∙ e), c.if-is_word.false)) in
    let year : FitsSigned w32 there.0 = subst (λ (o : Option ℤ). IfSome o (λ (y : ℤ). FitsSigned w32 y)) there.1 fits in
    let digits : c.in_ok-word.word.now ≡ signed_decimal there.0 = cut.0 ∙ ap (λ o. year_text o) there.1 in
    let parsed : c.parse.result ≡ Ok there.0 = parse-signed_decimal w32 there.0 c.in-Ok.text.now c.parse.result year (year_small there.0 year) (c.in-Ok.ensures.cases.0 ∙ digits) c.parse.ensures.value.0 in
    let same : c.in-Ok-parse.year ≡ there.0 = cc (parsed, c.in-Ok-parse.is) in
    (ap (λ y. Some (to_z w32 (of_z w32 y))) same ∙ ap (λ y. Some y) (to_z-of_z year) ∙ sym there.1, cut.1)

pub returns-in-Err-clause-back : goal.returns-in-Err-clause-back
returns-in-Err-clause-back c = λ v rest fits is.
    let cut = c.in_ok-word.ensures.back (year_text v) rest (year_lacks v fits) is in
    let there = year_there v (λ e. cc (c.is_word.ensures.back (cut.0 ∙ e), c.if-is_word.false)) in
    let year : FitsSigned w32 there.0 = subst (λ (o : Option ℤ). IfSome o (λ (y : ℤ). FitsSigned w32 y)) there.1 fits in
    let digits : c.in_ok-word.word.now ≡ signed_decimal there.0 = cut.0 ∙ ap (λ o. year_text o) there.1 in
    let parsed : c.parse.result ≡ Ok there.0 = parse-signed_decimal w32 there.0 c.in-Ok.text.now c.parse.result year (year_small there.0 year) (c.in-Ok.ensures.cases.0 ∙ digits) c.parse.ensures.value.0 in
    cc (parsed, c.in-Err.is)
