-- What the best of the names is (our own law above its definition).
use Rattle.std.specs.Prelude.{◌≡◌, ℕ, ◌+◌, ◌<◌, ◌≤◌, ◌⊎◌, List, length, Option, Some, None}
use Rattle.time_cat.specs.TimeValues.{TimeValues}
use Rattle.strptime_fields.specs.declared.item.Names.{Names}
use Rattle.strptime_fields.specs.Reading.{Value, behind, short_name, full_name, name_count, first_value, longest}

-- a name of an index stands at the front of a text, and so much is left behind it
abbrev pub Stands : TimeValues → Names → List ℕ → ℕ → List ℕ → Type 0
Stands v names text i rest = (behind (short_name v names i) text ≡ Some rest) ⊎ (behind (full_name v names i) text ≡ Some rest)

-- no name that stands there is longer, and none of its length has a lesser index
pub record IsLongest (v : TimeValues) (names : Names) (text : List ℕ) (i : ℕ) (rest : List ℕ) : Type 0 where
  pub within : i < name_count names
  pub stands : Stands v names text i rest
  pub some : length rest < length text
  pub longest : (j : ℕ) (other : List ℕ) → j < name_count names → Stands v names text j other → length rest ≤ length other
  pub first : (j : ℕ) (other : List ℕ) → j < name_count names → Stands v names text j other → length other ≡ length rest → i ≤ j

-- the value of the longest name, of which the first one is that of index 0; or only empty names stand there
abbrev pub IsFound : TimeValues → Names → List ℕ → Option Value → Type 0
IsFound v names text None = (j : ℕ) (other : List ℕ) → j < name_count names → Stands v names text j other → length text ≤ length other
IsFound v names text (Some found) = (i : ℕ) × (found.0 ≡ first_value names + i) × IsLongest v names text i found.1

abbrev pub AreLongest : Type 0
AreLongest = (v : TimeValues) (names : Names) (text : List ℕ) → IsFound v names text (longest v names text)
