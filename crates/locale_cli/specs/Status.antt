-- What each status of the program means (our own).
use Rattle.std.specs.Prelude.{◌≡◌, ◌≢◌, ℕ, ◌+◌, ◌-◌, ◌^◌, ◌≤◌, nat_lt, List, length, codes, ◌++◌, Option, Ok, Err, if◌then◌else◌, ◌⊎◌}
use Rattle.std.specs.Io.KnownBytes.{Appends, Consumes, IsAtEnd}
use Rattle.lc_base.specs.declared.place.Place.{Place}
use Rattle.lc_base.specs.declared.reason.Reason.{Reason}
use Rattle.lc_base.specs.Bytes.{CameExactly, AddsPrefix}
use Rattle.lc_base.specs.Reading.{Reads}
use Rattle.script_plan.specs.declared.plan.Counts.{Counts}
use Rattle.locale_cli.specs.Limits.{INPUT_LIMIT}
use Rattle.locale_cli.specs.declared.answer.Status.{Status}
use Rattle.locale_cli.specs.declared.answer.Status.TheVariants.{Done, Usage, Refused, ReadFault, WriteFault, Memory, TooLarge}
use Rattle.locale_cli.specs.declared.words.Mode.{Mode}
use Rattle.locale_cli.specs.declared.answer.Answer.{Answer}
use Rattle.locale_cli.specs.Answer.{IsAnswer, Outputs, counts_line}
use Rattle.script_out.specs.Output.{newline}
use Rattle.script_plan.specs.Plan.{PlanData, plan_of, counts_of}
use Rattle.script_out.specs.Refusal.{refusal_line}

-- what is written for wrong words
abbrev pub usage_line : List ℕ
usage_line = codes "refused: usage" ++ newline

-- what is written for too large an input
abbrev pub too_large_line : List ℕ
too_large_line = codes "refused: too large" ++ newline

-- all bytes of the source came, within the limit
pub record WholeInput (old new : Option (List ℕ)) (input : List ℕ) : Type 0 where
  pub came : Consumes old new input
  pub ended : IsAtEnd new
  pub within : length input ≤ INPUT_LIMIT

-- status 0: the whole input is an accepted bundle, and what the mode may print of it was written
abbrev pub IsDone : Mode → Option (List ℕ) → Option (List ℕ) → Option (List ℕ) → Option (List ℕ) → Type 0
IsDone mode left left' written written' = (input : List ℕ) × (plan : PlanData) × (text : List ℕ) × WholeInput left left' input × (plan_of input ≡ Ok plan) × Outputs mode plan text × Appends written written' text

-- status 0 of `check`: the whole input is an accepted bundle, and its counts were written
abbrev pub IsChecked : Option (List ℕ) → Option (List ℕ) → Option (List ℕ) → Option (List ℕ) → Type 0
IsChecked left left' written written' = (input : List ℕ) × (counts : Counts) × WholeInput left left' input × (counts_of input ≡ Ok counts) × Appends written written' (counts_line counts)

-- status 3: the whole input is no accepted bundle, and the line of its first fault, with its place, was written
abbrev pub IsRefused : Option (List ℕ) → Option (List ℕ) → Option (List ℕ) → Option (List ℕ) → Type 0
IsRefused left left' written written' = (input : List ℕ) × (fault : Place × Reason) × WholeInput left left' input × (plan_of input ≡ Err fault) × Appends written written' (refusal_line fault.0 fault.1)

-- status 7: one byte more than the limit came, and the line for that was written
abbrev pub IsTooLarge : Option (List ℕ) → Option (List ℕ) → Option (List ℕ) → Option (List ℕ) → Type 0
IsTooLarge left left' written written' = CameExactly left left' (INPUT_LIMIT + 1) × Appends written written' too_large_line

-- status 5, for right words: the front of what was to be written was written
abbrev pub IsCutShort : Mode → Option (List ℕ) → Option (List ℕ) → Option (List ℕ) → Option (List ℕ) → Type 0
IsCutShort mode left left' written written' =
    ((input : List ℕ) × (a : Answer) × WholeInput left left' input × IsAnswer mode input a × AddsPrefix written written' a.text)
    ⊎ (CameExactly left left' (INPUT_LIMIT + 1) × AddsPrefix written written' too_large_line)

-- the status for a plan or a fault
abbrev pub status_of : Reads PlanData → Status
status_of (Ok plan) = Done
status_of (Err fault) = Refused

-- the status for an input, whatever its length; it is the same in each mode
abbrev pub due_status : List ℕ → Status
due_status input = if nat_lt INPUT_LIMIT (length input) then TooLarge else status_of (plan_of input)

-- the status is the one that is due, unless the source or the sink failed or memory ran out
abbrev pub IsDue : Status → Status → Type 0
IsDue ReadFault due = Unit {0}
IsDue WriteFault due = Unit {0}
IsDue Memory due = Unit {0}
IsDue Done due = due ≡ Done
IsDue Usage due = due ≡ Usage
IsDue Refused due = due ≡ Refused
IsDue TooLarge due = due ≡ TooLarge

-- a count of faults did not rise
pub record StayedSound (before after : ℕ) : Type 0 where
  pub same : after ≡ before
  pub not_last : after ≢ 2 ^ 64 - 1
