-- What the words of the command line ask for (our own).
use Rattle.std.specs.Prelude.{ℕ, ◌^◌, nat_lt, ◌==◌, not, ◌||◌, List, [], ◌∷◌, codes, length, Option, Some, None, option_map, option_and_then, IfSome, if◌then◌else◌}
use Rattle.std.specs.Char.{is_ascii_digit}
use Rattle.std.specs.List.{list_all}
use Rattle.std.specs.Str.{bytes_eq}
use Rattle.std.specs.Str.Parse.{digits_value}
use Rattle.script_words.specs.Words.{behind_front}
use Rattle.bundle_maker.specs.Limits.{MOST_COMMANDS}
use Rattle.locale_cli.specs.declared.request.Recipe.{Recipe}
use Rattle.locale_cli.specs.declared.request.Request.{Request}
use Rattle.locale_cli.specs.declared.request.Request.TheVariants.{Read, Make}
use Rattle.locale_cli.specs.Words.{is_unpadded, number_up_to, once, mode_named, IsFromOneTo, IsSized}

-- ---- options of `make`

-- the value of digits, if it has 64 bits
abbrev pub wide_value : List ℕ → Option ℕ
wide_value ds = if nat_lt (digits_value 10 ds) (2 ^ 64) then Some (digits_value 10 ds) else None

-- the number of 64 bits that digits spell
unfoldable pub wide_number : List ℕ → Option ℕ
wide_number ds = if (length ds == 0) || not (list_all is_ascii_digit ds) then None else wide_value ds

-- the same, without leading zeros
abbrev pub seed_number : List ℕ → Option ℕ
seed_number ds = if is_unpadded ds then wide_number ds else None

-- a seed that was not given before
abbrev pub seed_once : Option ℕ → Option ℕ → Option ℕ
seed_once None n = n
seed_once (Some m) n = None

abbrev pub no_recipe : Recipe
no_recipe = record { seed = None; commands = None }

-- the options with one more word, which is `seed=N` or `commands=N`
unfoldable pub with_part : Recipe → List ℕ → Option Recipe
with_part given word = elim (behind_front (codes "seed=") word) [
  | Some digits ↦ option_map (λ n. record given { seed = Some n }) (seed_once given.seed (seed_number digits))
  | None ↦ elim (behind_front (codes "commands=") word) [
    | Some digits ↦ option_map (λ n. record given { commands = Some n }) (once given.commands (number_up_to MOST_COMMANDS digits))
    | None ↦ None
  ]
]

-- the options with more words, each at most once and in any order
abbrev pub with_parts : Recipe → List (List ℕ) → Option Recipe
with_parts given [] = Some given
with_parts given (word ∷ words) = option_and_then (λ more. with_parts more words) (with_part given word)

-- ---- requests

-- `make` with options, of which none may be missing
abbrev pub recipe_request : Recipe → Option Request
recipe_request given = option_and_then (λ seed. option_map (λ commands. Make seed commands) given.commands) given.seed

abbrev pub make_request : List (List ℕ) → Option Request
make_request options = option_and_then recipe_request (with_parts no_recipe options)

-- what the words ask for, if they are in the grammar: `make`, or a mode in which the input is answered
abbrev pub request_of : List (List ℕ) → Option Request
request_of [] = None
request_of (name ∷ options) = if bytes_eq name (codes "make") then make_request options else option_map Read (mode_named name options)

-- ---- what holds of each request that words make

-- as many commands as a bundle may have, where their number is given
abbrev pub IsRecipe : Recipe → Type 0
IsRecipe given = IfSome given.commands (IsFromOneTo MOST_COMMANDS)

abbrev pub IsPossible : Request → Type 0
IsPossible (Read mode) = IsSized mode
IsPossible (Make seed commands) = IsFromOneTo MOST_COMMANDS commands
