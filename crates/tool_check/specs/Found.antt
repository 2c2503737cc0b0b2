-- The faults that are told of a source (our own).
use Rattle.std.specs.Prelude.{◌≡◌, ◌⊎◌, ℕ, ◌+◌, ◌<◌, ◌≤◌, ◌==◌, nat_lt, Bool, true, ◌&&◌, List, [], ◌∷◌, ◌++◌, length, Option, Some, None, Err, if◌then◌else◌}
use Rattle.std.specs.List.{list_any, list_all, insert, position_or_len}
use Rattle.lc_base.specs.declared.block.Block.{Block}
use Rattle.tool_files.specs.Library.{library}
use Rattle.tool_check.specs.Looks.{AreAlone, look_at}
use Rattle.tool_check.specs.Limits.{LOOK_COUNT}
use Rattle.tool_check.specs.declared.fault.Fault.{Fault}

-- whether a fault stands on this line
abbrev pub has_line : ℕ → List Fault → Bool
has_line line faults = list_any (λ (f : Fault). f.place.line == line) faults

-- where the first fault on a later line stands, or the end
abbrev pub place_of : ℕ → List Fault → ℕ
place_of line faults = position_or_len (λ (f : Fault). nat_lt line f.place.line) faults

-- one more fault before the first one on a later line, if there is one and it stands on a line of its own
abbrev pub with_fault : List Fault → Option Fault → List Fault
with_fault faults None = faults
with_fault faults (Some fault) = if has_line fault.place.line faults then faults else insert faults (place_of fault.place.line faults) fault

-- whether each fault stands on an earlier line than those behind it
abbrev pub are_ordered : List Fault → Bool
are_ordered [] = true
are_ordered (fault ∷ faults) = list_all (λ (f : Fault). nat_lt fault.place.line f.place.line) faults && are_ordered faults

-- the faults of a source: this one among them, each on an earlier line than those behind it, and at most so many
pub record AreTold (first : Fault) (most : ℕ) (faults : List Fault) : Type 0 where
  pub before : List Fault
  pub behind : List Fault
  pub first_is : faults ≡ before ++ first ∷ behind
  pub ordered : are_ordered faults ≡ true
  pub few : length faults ≤ most

-- the faults that are told: the first one that is found, and beside it at most one for each look
abbrev pub AreAllTold : Fault → List Fault → Type 0
AreAllTold first faults = AreTold first (LOOK_COUNT + 1) faults

-- the first fault of what one look takes of these locales
pub record IsFaultAlone (charmaps locales : List Block) (fault : Fault) : Type 0 where
  pub number : ℕ
  pub within : number < LOOK_COUNT
  pub alone : List Block
  pub alone_is : AreAlone (look_at number) locales alone
  pub refused : library charmaps alone ≡ Err (fault.place, fault.reason)

-- the first fault of a source, or that of a look
abbrev pub IsFaultOf : List Block → List Block → Fault → Fault → Type 0
IsFaultOf charmaps locales first fault = (fault ≡ first) ⊎ IsFaultAlone charmaps locales fault

-- what a look finds, if it finds a fault
abbrev pub IsFoundAlone : List Block → List Block → Option Fault → Type 0
IsFoundAlone charmaps locales None = Unit {0}
IsFoundAlone charmaps locales (Some fault) = IsFaultAlone charmaps locales fault
