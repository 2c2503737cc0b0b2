-- A summary does not have the places of lines.
use Rattle.std.proofs.Common.{◌≡◌, ℕ, ◌+◌, true, Result, Ok, Err, List, [], ◌∷◌, refl, sym, ap, ◌∙◌}
use Rattle.std.specs.Prelude.{map, IfOk, if◌then◌else◌}
use Rattle.std.specs.List.{sum_by}
use Rattle.std.proofs.lemmas.List.Sums.{sum_by-cons}
use Rattle.script_plan.specs.Private.{placeless, all_keep_to_themselves, PrintAlike}
use Rattle.script_serial.proofs.SerialNewest.{serial_prints_in_order}
use Rattle.script_plan.specs.Prints.{Prints}
use Rattle.script_lang.specs.declared.bundle.Bundle.{Bundle}
use Rattle.script_out.specs.declared.output.OutLine.{OutLine}
use Rattle.script_plan.specs.Plan.{PlanData}
use Rattle.script_plan.specs.Serial.{serial_lines, setting}
use Rattle.bundle_maker.specs.Summary.{is_refused, bytes_of, refused_count, reply_bytes, summary}
use Rattle.locale_cli.specs.Limits.{DEFAULT_ROWS, DEFAULT_GENERATIONS}
use Rattle.locale_cli.specs.Made.{made_line}

-- a sum over lines does not, where its terms do not
sum_same : (f : OutLine → ℕ) → ((l : OutLine) → f (placeless l) ≡ f l) → (lines : List OutLine) → sum_by f (map placeless lines) ≡ sum_by f lines
sum_same f same [] = refl
sum_same f same (l ∷ ls) =
    sum_by-cons f (placeless l) (map placeless ls)
    ∙ ap (λ (n : ℕ). f (placeless l) + n) (sum_same f same ls)
    ∙ ap (λ (n : ℕ). n + sum_by f ls) (same l)
    ∙ sym (sum_by-cons f l ls)

refused_same : (rounds : ℕ) (names : List (List ℕ)) (lines : List OutLine) → refused_count rounds names (map placeless lines) ≡ refused_count rounds names lines
refused_same rounds names lines = sum_same (λ (l : OutLine). if is_refused rounds names l then 1 else 0) (λ l. refl) lines

bytes_same : (rounds : ℕ) (names : List (List ℕ)) (lines : List OutLine) → reply_bytes rounds names (map placeless lines) ≡ reply_bytes rounds names lines
bytes_same rounds names lines = sum_same (bytes_of rounds names) (λ l. refl) lines

placeless_summary : (commands rounds : ℕ) (names : List (List ℕ)) (lines : List OutLine) → summary commands rounds names (map placeless lines) ≡ summary commands rounds names lines
placeless_summary commands rounds names lines = rw (refused_same rounds names lines) (rw (bytes_same rounds names lines) refl)

-- lines that are alike but for the places have one summary
pub made_of : (commands : ℕ) (plan : PlanData) (lines : List OutLine) → map placeless lines ≡ map placeless (serial_lines DEFAULT_ROWS DEFAULT_GENERATIONS plan)
    → summary commands plan.bundle.rounds plan.bundle.threads lines ≡ made_line commands plan
made_of commands plan lines alike =
    sym (placeless_summary commands plan.bundle.rounds plan.bundle.threads lines)
    ∙ ap (summary commands plan.bundle.rounds plan.bundle.threads) alike
    ∙ placeless_summary commands plan.bundle.rounds plan.bundle.threads (serial_lines DEFAULT_ROWS DEFAULT_GENERATIONS plan)

-- lines of `run` are alike with those of `serial`, where threads keep to themselves
pub like_serial : PrintAlike → (plan : PlanData) (lines : List OutLine) → all_keep_to_themselves plan.bundle ≡ true → Prints (setting plan DEFAULT_ROWS DEFAULT_GENERATIONS) plan lines
    → map placeless lines ≡ map placeless (serial_lines DEFAULT_ROWS DEFAULT_GENERATIONS plan)
like_serial law plan lines apart prints =
    law (setting plan DEFAULT_ROWS DEFAULT_GENERATIONS) plan lines (serial_lines DEFAULT_ROWS DEFAULT_GENERATIONS plan) apart prints (serial_prints_in_order DEFAULT_ROWS DEFAULT_GENERATIONS plan).prints

-- so is what `run` gives, if it gives lines
pub run_like_serial : {E : Type 0} → PrintAlike → (plan : PlanData) (result : Result (List OutLine) E) → all_keep_to_themselves plan.bundle ≡ true
    → IfOk result (λ lines. Prints (setting plan DEFAULT_ROWS DEFAULT_GENERATIONS) plan lines)
    → IfOk result (λ lines. map placeless lines ≡ map placeless (serial_lines DEFAULT_ROWS DEFAULT_GENERATIONS plan))
run_like_serial law plan (Ok lines) apart prints = like_serial law plan lines apart prints
run_like_serial law plan (Err e) apart prints = tt

-- the summary of such lines, if there is one
pub line_of : {E : Type 0} (commands : ℕ) (plan : PlanData) (bundle : Bundle) (names : List (List ℕ)) (lines : List OutLine) (result : Result (List ℕ) E) → bundle ≡ plan.bundle → names ≡ plan.bundle.threads
    → map placeless lines ≡ map placeless (serial_lines DEFAULT_ROWS DEFAULT_GENERATIONS plan)
    → IfOk result (λ text. text ≡ summary commands bundle.rounds names lines) → IfOk result (λ text. text ≡ made_line commands plan)
line_of commands plan bundle names lines (Ok text) same threads alike is =
    is
    ∙ ap (λ (b : Bundle). summary commands b.rounds names lines) same
    ∙ ap (λ (ns : List (List ℕ)). summary commands plan.bundle.rounds ns lines) threads
    ∙ made_of commands plan lines alike
line_of commands plan bundle names lines (Err e) same threads alike is = tt
