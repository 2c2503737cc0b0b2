-- The answer to an input (our own).
use Rattle.std.specs.Prelude.{◌≡◌, ℕ, List, ◌++◌, codes, Result, Ok, Err}
use Rattle.std.specs.Fmt.{decimal}
use Rattle.lc_base.specs.Reading.{Reads, ◌>>=◌, Fails}
use Rattle.lc_base.specs.declared.fault.TextFault.{TextFault}
use Rattle.script_out.specs.Output.{newline, printed}
use Rattle.script_out.specs.Refusal.{refusal_line}
use Rattle.script_plan.specs.declared.plan.Counts.{Counts}
use Rattle.script_plan.specs.Plan.{PlanData, counts, plan_of, counts_of}
use Rattle.script_out.specs.declared.output.OutLine.{OutLine}
use Rattle.script_plan.specs.Serial.{serial_lines, setting}
use Rattle.script_plan.specs.Prints.{Prints}
use Rattle.script_plan.specs.Isolation.{IsIsolated}
use Rattle.locale_cli.specs.declared.words.Mode.{Mode}
use Rattle.locale_cli.specs.declared.words.Mode.TheVariants.{Check, Serial, Run}
use Rattle.locale_cli.specs.declared.answer.Status.{Status}
use Rattle.locale_cli.specs.declared.answer.Status.TheVariants.{Done, Refused}
use Rattle.locale_cli.specs.declared.answer.Answer.{Answer}

-- the line of counts
abbrev pub counts_line : Counts → List ℕ
counts_line c =
    codes "ok: locales " ++ decimal c.locales ++
    codes " charmaps " ++ decimal c.charmaps ++
    codes " threads " ++ decimal c.threads ++
    codes " rounds " ++ decimal c.rounds ++
    codes " commands " ++ decimal c.commands ++ newline

-- the line of counts of an input, or its first fault
abbrev pub counts_text : List ℕ → Reads (List ℕ)
counts_text input = counts_of input >>= λ counts. Ok (counts_line counts)

-- lines that `run` may print: those of one history of the calls that they print, in which threads that share handles with nobody read
-- what they would read without the others
pub record MayBePrinted (rows generations : ℕ) (plan : PlanData) (lines : List OutLine) : Type 0 where
  pub prints : Prints (setting plan rows generations) plan lines
  pub isolated : IsIsolated (setting plan rows generations) plan lines

-- the lines of a script, whose threads have so many rows, and each row so many generations
abbrev pub serial_text : ℕ → ℕ → PlanData → List ℕ
serial_text rows generations plan = printed (serial_lines rows generations plan) plan.bundle.threads

-- what an accepted bundle may print. `run` prints the lines of one history of the calls that they print: which one it is no clause says
abbrev pub Outputs : Mode → PlanData → List ℕ → Type 0
Outputs Check plan text = text ≡ counts_line (counts plan.bundle)
Outputs (Serial rows generations) plan text = text ≡ serial_text rows generations plan
Outputs (Run rows generations) plan text = (lines : List OutLine) × MayBePrinted rows generations plan lines × (text ≡ printed lines plan.bundle.threads)

-- what an input may print, or its first fault
abbrev pub OutputsOf : Mode → Reads PlanData → Reads (List ℕ) → Type 0
OutputsOf mode (Ok plan) (Ok text) = Outputs mode plan text
OutputsOf mode (Ok plan) (Err fault) = ⊥
OutputsOf mode (Err fault) (Ok text) = ⊥
OutputsOf mode (Err fault) (Err other) = other ≡ fault

-- the status for an output or a fault
abbrev pub status_for : Reads (List ℕ) → Status
status_for (Ok text) = Done
status_for (Err fault) = Refused

-- the text for an output or a fault
abbrev pub text_for : Reads (List ℕ) → List ℕ
text_for (Ok text) = text
text_for (Err (place, reason)) = refusal_line place reason

-- the status and the text for an output or a fault
abbrev pub answer_for : Reads (List ℕ) → Answer
answer_for out = record { status = status_for out; text = text_for out }

-- a status and a text that may answer an input that was read whole
abbrev pub IsAnswer : Mode → List ℕ → Answer → Type 0
IsAnswer mode input a = (out : Reads (List ℕ)) × OutputsOf mode (plan_of input) out × (a ≡ answer_for out)

-- what a function that prints an input gives: what may be printed, or the first fault; out of memory says nothing
abbrev pub MayPrint : Mode → List ℕ → Result (List ℕ) TextFault → Type 0
MayPrint mode input (Ok text) = OutputsOf mode (plan_of input) (Ok text)
MayPrint mode input (Err fault) = Fails fault (plan_of input)
