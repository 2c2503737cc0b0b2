use Rattle.std.proofs.Common.{◌≡◌, Some, None, Ok, refl, ap, sym, ◌∙◌}
use Rattle.std.specs.Fmt.{decimal}
use Rattle.std.proofs.lemmas.Result.{err_from_is_err_and}
use Rattle.script_out.specs.Output.{version_text}
use Rattle.output_reader.specs.Ranges.{IsVersion}
use Rattle.output_reader.specs.Reading.{Gives}
use Rattle.output_reader.proofs.HandleTexts.{no_version}
use Rattle.output_reader.proofs.items.version.Goals as goal

pub returns-in_err-version-in-Some-clause-back : goal.returns-in_err-version-in-Some-clause-back
returns-in_err-version-in-Some-clause-back c = λ v.
    elim v as (λ v. IsVersion v → version_text v ≡ c.args.bytes.now → Gives v c.from_residual.result) [
      | None ↦ λ fits is. absurd (no_version c.in-Some.digits.now (is ∙ c.in-Some.ensures.read))
      | Some n ↦ λ fits is.
          let p = err_from_is_err_and c.from_residual.result c.from_residual.ensures.1 in
          rw (p.1, p.2) (c.in_err-version-in-Some.ensures.back n fits (sym (c.in-Some.ensures.back (decimal n) (sym is))))
    ]

pub returns-in_ok-version-in-Some-clause-back : goal.returns-in_ok-version-in-Some-clause-back
returns-in_ok-version-in-Some-clause-back c = λ v.
    elim v as (λ v. IsVersion v → version_text v ≡ c.args.bytes.now → Gives v (Ok (Some c.in_ok-version-in-Some.version))) [
      | None ↦ λ fits is. absurd (no_version c.in-Some.digits.now (is ∙ c.in-Some.ensures.read))
      | Some n ↦ λ fits is. ap (λ k. Some k) (c.in_ok-version-in-Some.ensures.back n fits (sym (c.in-Some.ensures.back (decimal n) (sym is))))
    ]

pub returns-in-None-clause-back : goal.returns-in-None-clause-back
returns-in-None-clause-back c = λ v.
    elim v as (λ v. IsVersion v → version_text v ≡ c.args.bytes.now → Gives v (Ok None)) [
      | None ↦ λ fits is. refl
      | Some n ↦ λ fits is. absurd (c.in-None.ensures.back (decimal n) (sym is))
    ]
