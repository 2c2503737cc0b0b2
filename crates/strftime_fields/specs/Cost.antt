-- How many conversions are read on the way to a text (our own rule).
use Rattle.std.specs.Prelude.{◌≡◌, ℕ, zero, suc, ◌+◌, ◌≤◌, Bool, nat_le, List, [], ◌∷◌, length, Option, Some, None, Result, Ok, Err, if◌then◌else◌}
use Rattle.time_cat.specs.declared.conversion.TimeConversion.{TimeConversion}
use Rattle.time_cat.specs.Conversions.{conversion}
use Rattle.time_cat.specs.Formats.{Piece, Literal, Converted, Wrong, pieces, bad_place}
use Rattle.time_cat.specs.Times.{TmValues}
use Rattle.time_cat.specs.TimeValues.{TimeValues}
use Rattle.time_cat.specs.Shown.{format_for, piece_text, expanded, conversions_of}
use Rattle.strftime_fields.specs.declared.stop.Stop.{Stop}
use Rattle.strftime_fields.specs.declared.stop.Stop.TheVariants as stops
use Rattle.strftime_fields.specs.declared.fault.TimeFault.{TimeFault}
use Rattle.strftime_fields.specs.declared.fault.TimeFault.TheVariants.{BadFormat, TooBig, Memory}

-- how many are read of the format for which a conversion stands, if it stands for one, where of a format so many are
abbrev pub read_of : (List ℕ → ℕ) → Option (List ℕ) → ℕ
read_of reads None = 0
read_of reads (Some format) = reads format

abbrev pub read_for : TimeValues → TmValues → (List ℕ → ℕ) → Option TimeConversion → ℕ
read_for v t reads None = 0
read_for v t reads (Some c) = read_of reads (format_for v t c.shows)

-- a conversion is read where the text before it is not too long yet, and with it those of the format for which it stands
abbrev pub piece_reads : TimeValues → TmValues → (List ℕ → ℕ) → Bool → Piece → ℕ
piece_reads v t reads fits (Literal c) = 0
piece_reads v t reads fits (Converted modifier letter rank) = if fits then 1 + read_for v t reads (conversion modifier letter) else 0
piece_reads v t reads fits (Wrong at) = 0

-- of pieces behind so many bytes of a text, where a format gives what expand says, and of one behind so many bytes so many are read
abbrev pub pieces_read : ℕ → TimeValues → TmValues → (List ℕ → List ℕ) → (ℕ → List ℕ → ℕ) → ℕ → List Piece → ℕ
pieces_read max v t expand reads before [] = 0
pieces_read max v t expand reads before (p ∷ ps) =
    piece_reads v t (reads before) (nat_le before max) p + pieces_read max v t expand reads (before + length (piece_text v t expand p)) ps

-- of a format behind so many bytes of a text, with so many formats within one another
unfoldable pub reads : ℕ → ℕ → TimeValues → TmValues → ℕ → List ℕ → ℕ
reads max zero v t before format = 0
reads max (suc levels) v t before format = pieces_read max v t (expanded levels v t) (reads max levels v t) before (pieces format)

abbrev pub unless_wrong : Option ℕ → ℕ → ℕ
unless_wrong None n = n
unless_wrong (Some at) n = 0

-- what a format costs: its conversions are read once to see whether each is one, and where each is, again for the text, with those
-- of the formats for which they stand, until the text is too long
abbrev pub cost : TimeValues → TmValues → List ℕ → ℕ → ℕ
cost v t format max = conversions_of format + unless_wrong (bad_place (pieces format)) (reads max 5 v t 0 format)

-- so many steps were counted, or when out of memory at most so many
abbrev pub CountsTo : Result (Unit {0}) Stop → ℕ → ℕ → Type 0
CountsTo (Ok u) wanted steps = steps ≡ wanted
CountsTo (Err stops.TooBig) wanted steps = steps ≡ wanted
CountsTo (Err stops.Memory) wanted steps = steps ≤ wanted

-- so many steps were counted as an answer costs, or when out of memory at most so many
abbrev pub Counts : {A : Type 0} → Result A TimeFault → ℕ → ℕ → Type 0
Counts (Ok text) wanted steps = steps ≡ wanted
Counts (Err Memory) wanted steps = steps ≤ wanted
Counts (Err TooBig) wanted steps = steps ≡ wanted
Counts (Err (BadFormat at)) wanted steps = steps ≡ wanted
