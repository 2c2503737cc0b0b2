-- Pieces of a format that are told at first sight.
use Rattle.std.specs.Prelude.{◌≡◌, ℕ, ◌+◌, List, [], ◌∷◌, ◌++◌, Some, None}
use Rattle.time_cat.specs.declared.conversion.Shows.TheVariants.{Format}
use Rattle.time_cat.specs.declared.step.Step.{Step}
use Rattle.time_cat.specs.declared.step.Step.TheVariants as steps
use Rattle.time_cat.specs.Conversions.{conversion}
use Rattle.time_cat.specs.Times.{TmValues}
use Rattle.time_cat.specs.TimeValues.{TimeValues}
use Rattle.time_cat.specs.Shown.{plain_text, format_for}
use Rattle.strftime_fields.specs.Kept.{Kind, kept}
use Rattle.strftime_fields.specs.declared.read.Short.{Short}
use Rattle.strftime_fields.specs.declared.read.Short.TheVariants.{Byte, Plain}
use Rattle.strftime_fields.specs.declared.read.Seen.{Seen}
use Rattle.strftime_fields.specs.declared.read.Seen.TheVariants.{Added, Inner, Other}

-- how many bytes of the format a piece takes
abbrev pub width : Short → ℕ
width (Byte c) = 1
width (Plain letter found) = 2

-- the step at a place is this piece
abbrev pub IsShort : ℕ → Step → Short → Type 0
IsShort at s (Byte c) = s ≡ steps.Byte c
IsShort at s (Plain letter found) = (s ≡ steps.Conv 0 letter found.rank (at + 2)) × (conversion 0 letter ≡ Some found)

-- it stands for no format
abbrev pub IsFormatless : TimeValues → TmValues → Short → Type 0
IsFormatless v t (Byte c) = Unit {0}
IsFormatless v t (Plain letter found) = format_for v t found.shows ≡ None

-- what it gives then
abbrev pub short_text : TimeValues → TmValues → Short → List ℕ
short_text v t (Byte c) = c ∷ []
short_text v t (Plain letter found) = plain_text v t found.shows

-- what a first look says of the step at a place
abbrev pub IsSeen : ℕ → Step → Seen → Type 0
IsSeen at s (Added short) = IsShort at s short
IsSeen at s (Inner key) = (letter : ℕ) × (rank : ℕ) × (s ≡ steps.Conv 0 letter rank (at + 2)) × (conversion 0 letter ≡ Some (record { rank = rank; shows = Format key }))
IsSeen at s Other = Unit {0}

-- a piece that it adds stands for no format
abbrev pub SeenFormatless : TimeValues → TmValues → Seen → Type 0
SeenFormatless v t (Added short) = IsFormatless v t short
SeenFormatless v t (Inner key) = Unit {0}
SeenFormatless v t Other = Unit {0}

-- what it adds to a text
abbrev pub AddsSeen : Kind → TimeValues → TmValues → List ℕ → List ℕ → Seen → Type 0
AddsSeen kind v t old new (Added short) = new ≡ old ++ kept kind (short_text v t short)
AddsSeen kind v t old new (Inner key) = new ≡ old
AddsSeen kind v t old new Other = new ≡ old
