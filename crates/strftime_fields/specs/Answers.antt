-- What strftime answers.
use Rattle.std.specs.Prelude.{◌≡◌, ℕ, List, Option, Some, None, IfSome, Result, Ok, Err}
use Rattle.lc_base.specs.declared.refusal.FormatRefusal.{FormatRefusal}
use Rattle.lc_base.specs.declared.refusal.FormatRefusal.TheVariants.{BadFormat, TooBig}
use Rattle.lc_base.specs.Limits.{within}
use Rattle.strftime_fields.specs.declared.stop.Stop.{Stop}
use Rattle.strftime_fields.specs.declared.stop.Stop.TheVariants as stops
use Rattle.strftime_fields.specs.declared.fault.TimeFault.{TimeFault}
use Rattle.strftime_fields.specs.declared.fault.TimeFault.TheVariants as faults
use Rattle.time_cat.specs.Times.{TmValues}
use Rattle.time_cat.specs.TimeValues.{TimeValues}
use Rattle.time_cat.specs.Shown.{time_text}

-- a text that is not longer than it may be
abbrev pub limited : ℕ → Result (List ℕ) ℕ → Result (List ℕ) FormatRefusal
limited max (Ok text) = within max text
limited max (Err at) = Err (BadFormat at)

-- the text of a time, or why there is none: a `%` that begins no conversion goes before a text that is too long
abbrev pub answer : TimeValues → TmValues → List ℕ → ℕ → Result (List ℕ) FormatRefusal
answer v t format max = limited max (time_text v t format)

-- why there is no text, unless it was out of memory
abbrev pub refusal_of : TimeFault → Option FormatRefusal
refusal_of (faults.BadFormat at) = Some (BadFormat at)
refusal_of faults.TooBig = Some TooBig
refusal_of faults.Memory = None

-- the fault of a text that is given up
abbrev pub fault_of : Stop → TimeFault
fault_of stops.TooBig = faults.TooBig
fault_of stops.Memory = faults.Memory

-- a result is that answer, or out of memory, which says nothing
abbrev pub Answers : Result (List ℕ) TimeFault → Result (List ℕ) FormatRefusal → Type 0
Answers (Ok text) wanted = wanted ≡ Ok text
Answers (Err e) wanted = IfSome (refusal_of e) (λ why. wanted ≡ Err why)

-- a result with the text that was put elsewhere
abbrev pub with_text : {A : Type 0} → List ℕ → Result A TimeFault → Result (List ℕ) TimeFault
with_text text (Ok a) = Ok text
with_text text (Err e) = Err e

-- the text of a time whatever its length, or why there is none
abbrev pub unlimited : Result (List ℕ) ℕ → Result (List ℕ) FormatRefusal
unlimited (Ok text) = Ok text
unlimited (Err at) = Err (BadFormat at)

abbrev pub whole_answer : TimeValues → TmValues → List ℕ → Result (List ℕ) FormatRefusal
whole_answer v t format = unlimited (time_text v t format)
