-- The problems that faults are told as (our own).
use Rattle.std.specs.Prelude.{◌≡◌, ℕ, ◌+◌, ◌-◌, ◌^◌, min, nat_le, Bool, true, false, List, [], ◌∷◌, if◌then◌else◌}
use Rattle.lc_base.specs.declared.place.Place.{Place}
use Rattle.lc_base.specs.declared.reason.Reason.{Reason}
use Rattle.lc_base.specs.declared.reason.Reason.TheVariants.{BadFormat}
use Rattle.lc_base.specs.declared.fault.TextFault.{TextFault}
use Rattle.lc_base.specs.declared.fault.TextFault.TheVariants as faults
use Rattle.reason_rules.specs.Words.{reason_text}
use Rattle.tool_messages.specs.declared.answer.Problem.{Problem}
use Rattle.tool_messages.specs.declared.answer.Problem.TheVariants.{Refused, Usage, Memory}
use Rattle.tool_messages.specs.Message.{BeginsWith, fault_head}
use Rattle.tool_files.specs.declared.sources.FilePath.{FilePath}

-- the path and the first line of the last of these files that does not begin behind a line, or else what was found before
abbrev pub file_from : List ℕ × ℕ → ℕ → List FilePath → List ℕ × ℕ
file_from found line [] = found
file_from found line (file ∷ files) = file_from (if nat_le file.first_line line then (file.path, file.first_line) else found) line files

-- the path and the first line of the file that a line is in
abbrev pub file_of : List FilePath → ℕ → List ℕ × ℕ
file_of files line = file_from ([], 1) line files

-- a place by the lines of a file that begins on this line
abbrev pub place_in : ℕ → Place → Place
place_in first place = record place { line = min (place.line - first + 1) (2 ^ 32 - 1) }

-- whether a reason is that of a format
abbrev pub is_format : Reason → Bool
is_format (BadFormat at) = true
is_format reason = false

-- the message of a fault: it begins with the file, the line, the column and the reason. That of a format is shown at a byte of it
pub record IsMessage (path : List ℕ) (place : Place) (reason : Reason) (message : List ℕ) : Type 0 where
  pub spot : Place
  pub spot_is : is_format reason ≡ false → spot ≡ place
  pub begins : BeginsWith (fault_head path spot.line spot.column (reason_text reason)) message

-- the message of a fault at a place among the lines of all files
abbrev pub IsFileMessage : List FilePath → Place → Reason → List ℕ → Type 0
IsFileMessage files place reason message = IsMessage (file_of files place.line).0 (place_in (file_of files place.line).1 place) reason message

-- a fault with a place is told as a refusal with such a message, unless it is out of memory, and being out of memory as such
abbrev pub IsTold : (Place → Reason → List ℕ → Type 0) → TextFault → Problem → Type 0
IsTold of fault Memory = Unit {0}
IsTold of fault (Usage message) = ⊥
IsTold of faults.Memory (Refused message) = ⊥
IsTold of (faults.At place reason) (Refused message) = of place reason message
