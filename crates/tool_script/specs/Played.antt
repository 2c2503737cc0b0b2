-- What the script of a bundle prints (our own).
use Rattle.std.specs.Prelude.{◌≡◌, ℕ, Bool, true, false, List, Result, Ok, Err}
use Rattle.std.specs.List.{list_any}
use Rattle.lc_base.specs.declared.fault.TextFault.{TextFault}
use Rattle.lc_base.specs.Reading.{Fails}
use Rattle.script_out.specs.declared.output.OutLine.{OutLine}
use Rattle.script_out.specs.Output.{printed}
use Rattle.script_plan.specs.Plan.{PlanData, plan_of}
use Rattle.script_plan.specs.Prints.{Prints}
use Rattle.script_plan.specs.Serial.{serial_lines, setting}
use Rattle.tool_script.specs.Limits.{ROWS, GENERATIONS}
use Rattle.tool_script.specs.declared.played.Played.{Played}
use Rattle.tool_script.specs.declared.played.Playing.{Playing}
use Rattle.tool_script.specs.Explained.{explained_text, is_refused}

-- lines that a plan may print: just those of one command after another, or, where threads run concurrently, those of any
-- order in which they may call
abbrev pub MayPrint : Bool → PlanData → List OutLine → Type 0
MayPrint false plan lines = lines ≡ serial_lines ROWS GENERATIONS plan
MayPrint true plan lines = Prints (setting plan ROWS GENERATIONS) plan lines

-- the text of lines, with the commands that they answer or without
abbrev pub shown : Bool → PlanData → List ℕ → List OutLine → List ℕ
shown false plan text lines = printed lines plan.bundle.threads
shown true plan text lines = explained_text plan.bundle.threads plan.bundle.commands text lines

-- whether a command is refused
abbrev pub has_refusal : List OutLine → Bool
has_refusal lines = list_any (λ (l : OutLine). is_refused l.reply) lines

-- an accepted bundle's script was run in this way: its lines are shown, and it is known whether a command was refused
pub record IsPlayed (text : List ℕ) (how : Playing) (played : Played) : Type 0 where
  pub plan : PlanData
  pub lines : List OutLine
  pub accepted : plan_of text ≡ Ok plan
  pub may_print : MayPrint how.is_run plan lines
  pub output : played.output ≡ shown how.explain plan text lines
  pub refusal : played.has_refusal ≡ has_refusal lines

-- what running the script of a text may give: how it was played, its first fault, or out of memory
abbrev pub MayPlay : List ℕ → Playing → Result Played TextFault → Type 0
MayPlay text how (Ok played) = IsPlayed text how played
MayPlay text how (Err fault) = Fails fault (plan_of text)
