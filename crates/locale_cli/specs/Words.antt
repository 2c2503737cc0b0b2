-- The words of the command line (our own).
use Rattle.std.specs.Prelude.{ℕ, ◌≤◌, nat_le, ◌==◌, not, ◌&&◌, Bool, true, List, [], ◌∷◌, codes, Option, Some, None, option_map, option_and_then, unwrap_or, IfSome, if◌then◌else◌}
use Rattle.std.specs.Str.{bytes_eq}
use Rattle.lc_base.specs.Numbers.{decimal_number}
use Rattle.script_words.specs.Words.{behind_front}
use Rattle.locale_cli.specs.Limits.{DEFAULT_ROWS, MOST_ROWS, DEFAULT_GENERATIONS, MOST_GENERATIONS}
use Rattle.locale_cli.specs.declared.words.Options.{Options}
use Rattle.locale_cli.specs.declared.words.Mode.{Mode}
use Rattle.locale_cli.specs.declared.words.Mode.TheVariants.{Check, Serial, Run}

-- ---- options of `serial` and of `run`

-- whether digits have no zero in front, unless it stands alone
abbrev pub is_unpadded : List ℕ → Bool
is_unpadded [] = true
is_unpadded (d ∷ []) = true
is_unpadded (d ∷ e ∷ ds) = not (d == 48)

-- a number from 1 on, up to another
abbrev pub from_one_to : ℕ → ℕ → Option ℕ
from_one_to most n = if nat_le 1 n && nat_le n most then Some n else None

-- the number that digits without leading zeros spell, from 1 on
unfoldable pub number_up_to : ℕ → List ℕ → Option ℕ
number_up_to most digits = if is_unpadded digits then option_and_then (from_one_to most) (decimal_number digits) else None

-- a number that was not given before
abbrev pub once : Option ℕ → Option ℕ → Option ℕ
once None n = n
once (Some m) n = None

abbrev pub none_given : Options
none_given = record { rows = None; generations = None }

-- the options with one more word, which is `rows=N` or `generations=N`
unfoldable pub with_option : Options → List ℕ → Option Options
with_option given word = elim (behind_front (codes "rows=") word) [
  | Some digits ↦ option_map (λ n. record given { rows = Some n }) (once given.rows (number_up_to MOST_ROWS digits))
  | None ↦ elim (behind_front (codes "generations=") word) [
    | Some digits ↦ option_map (λ n. record given { generations = Some n }) (once given.generations (number_up_to MOST_GENERATIONS digits))
    | None ↦ None
  ]
]

-- the options with more words, each at most once and in any order
abbrev pub with_options : Options → List (List ℕ) → Option Options
with_options given [] = Some given
with_options given (word ∷ words) = option_and_then (λ more. with_options more words) (with_option given word)

-- ---- modes

-- the rows and the generations of options; one that is not given has its default
abbrev pub sizes : Options → ℕ × ℕ
sizes given = (unwrap_or given.rows DEFAULT_ROWS, unwrap_or given.generations DEFAULT_GENERATIONS)

-- `serial` and `run` with options
abbrev pub serial_mode : Options → Mode
serial_mode given = Serial (sizes given).0 (sizes given).1

abbrev pub run_mode : Options → Mode
run_mode given = Run (sizes given).0 (sizes given).1

-- `check`, which has no options
abbrev pub check_mode : List (List ℕ) → Option Mode
check_mode [] = Some Check
check_mode (word ∷ words) = None

-- the mode of a name and options
abbrev pub mode_named : List ℕ → List (List ℕ) → Option Mode
mode_named name options =
    if bytes_eq name (codes "check") then check_mode options else
    if bytes_eq name (codes "serial") then option_map serial_mode (with_options none_given options) else
    if bytes_eq name (codes "run") then option_map run_mode (with_options none_given options) else
    None

-- the mode that the words name, if they are in the grammar: first the name of a mode, and then its options
abbrev pub mode_of : List (List ℕ) → Option Mode
mode_of [] = None
mode_of (name ∷ options) = mode_named name options

-- ---- what holds of each mode that words name

-- a number from 1 on, up to another
abbrev pub IsFromOneTo : ℕ → ℕ → Type 0
IsFromOneTo most n = (1 ≤ n) × (n ≤ most)

-- the options that are given are from 1 to their greatest numbers
pub record AreWithin (given : Options) : Type 0 where
  pub rows : IfSome given.rows (IsFromOneTo MOST_ROWS)
  pub generations : IfSome given.generations (IsFromOneTo MOST_GENERATIONS)

abbrev pub IsSized : Mode → Type 0
IsSized Check = Unit {0}
IsSized (Serial rows generations) = IsFromOneTo MOST_ROWS rows × IsFromOneTo MOST_GENERATIONS generations
IsSized (Run rows generations) = IsFromOneTo MOST_ROWS rows × IsFromOneTo MOST_GENERATIONS generations
