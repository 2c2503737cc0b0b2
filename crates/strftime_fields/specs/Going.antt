-- How the reading of formats within formats goes on.
use Rattle.std.specs.Prelude.{◌≡◌, ℕ, ◌+◌, ◌-◌, ◌*◌, ◌<◌, ◌≤◌, Bool, true, false, List, ◌++◌, length, drop, Option, None, Result, Ok, Err}
use Rattle.std.specs.List.{flat_map}
use Rattle.time_cat.specs.Formats.{rest_of, bad_place}
use Rattle.time_cat.specs.Times.{TmValues}
use Rattle.time_cat.specs.TimeValues.{TimeValues}
use Rattle.time_cat.specs.Shown.{expanded, piece_text}
use Rattle.strftime_fields.specs.declared.expand.Left.{Left}
use Rattle.strftime_fields.specs.declared.stop.Stop.{Stop}
use Rattle.strftime_fields.specs.Appending.{Appends}
use Rattle.strftime_fields.specs.Cost.{pieces_read, reads, CountsTo}
use Rattle.strftime_fields.specs.Kept.{Kind, kept}

-- the format that is read, what is left of it, how many formats may lie within one another, and whether it is the caller's
pub record Place : Type 0 where
  pub format : List ℕ
  pub rest : List ℕ
  pub levels : ℕ
  pub whole : Bool

abbrev pub place_of : Left → Place
place_of l = record { format = l.format.now; rest = l.rest.now; levels = l.levels; whole = l.whole }

-- what is left is the end of the format, and there is a level for it
pub record Stands (p : Place) : Type 0 where
  pub within : length p.rest ≤ length p.format
  pub left : p.rest ≡ drop (length p.format - length p.rest) p.format
  pub some : 0 < p.levels

-- what is left of a format at a place gives, where a format that stands behind a conversion lies one level deeper
unfoldable pub text_left : ℕ → TimeValues → TmValues → List ℕ → ℕ → List ℕ
text_left levels v t format at = flat_map (piece_text v t (expanded (levels - 1) v t)) (rest_of format at)

-- how many conversions are read of it, behind so many bytes of the text
unfoldable pub reads_left : ℕ → ℕ → TimeValues → TmValues → ℕ → List ℕ → ℕ → ℕ
reads_left max levels v t before format at = pieces_read max v t (expanded (levels - 1) v t) (reads max (levels - 1) v t) before (rest_of format at)

-- what a place gives, and what it costs
abbrev pub text_of : TimeValues → TmValues → Place → List ℕ
text_of v t p = text_left p.levels v t p.format (length p.format - length p.rest)

abbrev pub reads_of : ℕ → TimeValues → TmValues → ℕ → Place → ℕ
reads_of max v t before p = reads_left max p.levels v t before p.format (length p.format - length p.rest)

-- where a `%` stands that begins no conversion: there in what is left of the whole format, or nowhere where another one ends it
abbrev pub Bads : Bool → Option ℕ → Option ℕ → Type 0
Bads true left all = left ≡ all
Bads false left all = all ≡ None

-- where it stands in what is left at a place
abbrev pub bad_of : Place → Option ℕ
bad_of p = bad_place (rest_of p.format (length p.format - length p.rest))

-- a measure: a format is shorter than 2 to the 64th
abbrev pub size_of : Place → ℕ
size_of p = 18446744073709551616 * p.levels + length p.rest

-- from a text that is kept, a count and a place to others: what is left then gives the same, costs the same and is wrong at the same place
pub record Goes (kind : Kind) (max : ℕ) (v : TimeValues) (t : TmValues) (out : List ℕ) (n : ℕ) (p : Place) (out' : List ℕ) (n' : ℕ) (p' : Place) : Type 0 where
  pub text : out' ++ kept kind (text_of v t p') ≡ out ++ kept kind (text_of v t p)
  pub steps : n' + reads_of max v t (length out') p' ≡ n + reads_of max v t (length out) p
  pub bad : (all : Option ℕ) → Bads p.whole (bad_of p) all → Bads p'.whole (bad_of p') all
  pub stands : Stands p'
  pub deep : p'.levels ≤ p.levels
  pub less : size_of p' ≤ size_of p

-- whether a text was added, whatever more the result says of it
abbrev pub added : {A : Type 0} → Result A Stop → Result (Unit {0}) Stop
added (Ok a) = Ok tt
added (Err e) = Err e

-- what is left is added, up to the first `%` that begins no conversion, and it is said where that stands in the whole format
pub record Ends (kind : Kind) (max : ℕ) (v : TimeValues) (t : TmValues) (out : List ℕ) (n : ℕ) (p : Place) (out' : List ℕ) (n' : ℕ) (r : Result (Option ℕ) Stop) : Type 0 where
  pub text : Appends kind max out (text_of v t p) out' (added r)
  pub steps : CountsTo (added r) (n + reads_of max v t (length out) p) n'
  pub bad : (found all : Option ℕ) → r ≡ Ok found → Bads p.whole (bad_of p) all → found ≡ all
