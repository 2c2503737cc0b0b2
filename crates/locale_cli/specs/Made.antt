-- What `make` prints, and what each status of it means (our own).
use Rattle.std.specs.Prelude.{◌≡◌, ℕ, List, Option, Ok, Err, ◌⊎◌}
use Rattle.std.specs.Io.KnownBytes.{Appends}
use Rattle.lc_base.specs.declared.place.Place.{Place}
use Rattle.lc_base.specs.declared.reason.Reason.{Reason}
use Rattle.lc_base.specs.Bytes.{AddsPrefix}
use Rattle.lc_base.specs.Reading.{Reads, ◌>>=◌}
use Rattle.script_out.specs.Refusal.{refusal_line}
use Rattle.script_plan.specs.Plan.{PlanData, plan_of}
use Rattle.script_plan.specs.Serial.{serial_lines}
use Rattle.bundle_maker.specs.Generated.{generated}
use Rattle.bundle_maker.specs.Summary.{summary}
use Rattle.locale_cli.specs.declared.answer.Status.{Status}
use Rattle.locale_cli.specs.declared.answer.Status.TheVariants.{Memory}
use Rattle.locale_cli.specs.Limits.{DEFAULT_ROWS, DEFAULT_GENERATIONS}
use Rattle.locale_cli.specs.Answer.{text_for, answer_for}
use Rattle.locale_cli.specs.Run.{SinkStep, Wrote}
use Rattle.locale_cli.specs.Status.{status_of}

-- the summary of what `serial` prints of a plan with so many commands
abbrev pub made_line : ℕ → PlanData → List ℕ
made_line commands plan = summary commands plan.bundle.rounds plan.bundle.threads (serial_lines DEFAULT_ROWS DEFAULT_GENERATIONS plan)

-- that of the bundle that a seed makes, or the bundle's first fault
abbrev pub made_text : ℕ → ℕ → Reads (List ℕ)
made_text seed commands = plan_of (generated seed commands) >>= λ plan. Ok (made_line commands plan)

-- the status for the bundle that a seed makes
abbrev pub made_status : ℕ → ℕ → Status
made_status seed commands = status_of (plan_of (generated seed commands))

-- status 0: the made bundle is accepted, and the summary of what `serial` prints of it was written
abbrev pub IsMade : ℕ → ℕ → Option (List ℕ) → Option (List ℕ) → Type 0
IsMade seed commands written written' = (plan : PlanData) × (plan_of (generated seed commands) ≡ Ok plan) × Appends written written' (made_line commands plan)

-- status 3: the made bundle is not accepted, and the line of its first fault, with its place, was written
abbrev pub IsMadeRefused : ℕ → ℕ → Option (List ℕ) → Option (List ℕ) → Type 0
IsMadeRefused seed commands written written' = (fault : Place × Reason) × (plan_of (generated seed commands) ≡ Err fault) × Appends written written' (refusal_line fault.0 fault.1)

-- status 5: the front of what was to be written was written
abbrev pub IsMadeCut : ℕ → ℕ → Option (List ℕ) → Option (List ℕ) → Type 0
IsMadeCut seed commands written written' = AddsPrefix written written' (text_for (made_text seed commands))

-- the answer was written, or nothing when out of memory
abbrev pub RanMade : ℕ → ℕ → SinkStep → Type 0 → Status → Type 0
RanMade seed commands k Unwritten result =
    Wrote (answer_for (made_text seed commands)).status (answer_for (made_text seed commands)).text result k
    ⊎ (Unwritten × (result ≡ Memory))
