-- The fronts of the names of a charmap, by their numbers.
use Rattle.std.specs.Prelude.{◌≡◌, ◌≢◌, ℕ, ◌<◌, ◌⊎◌, Bool, List, [], ◌∷◌, ◌++◌, length, get_or, All, Contains, Option, Some, None}
use Rattle.std.specs.BTreeMap.{BTreeMap, get_by, values}
use Rattle.std.specs.Cmp.Lexicographic.{slice_cmp}
use Rattle.std.specs.List.Sorted.{IsSortedBy}
use Rattle.std.specs.Ordering.{nat_cmp, is_lt}
use Rattle.std.specs.declared.vec.Vec.{Vec}
use Rattle.charset.specs.Portable.{Name}

-- an answer is the one place of a front, or none where it is not there
abbrev pub IsPlaceOf : Name → List Name → Option ℕ → Type 0
IsPlaceOf front fronts None = (i : ℕ) → i < length fronts → get_or fronts i [] ≢ front
IsPlaceOf front fronts (Some n) = (n < length fronts) × (get_or fronts n [] ≡ front) × ((i : ℕ) → i < length fronts → get_or fronts i [] ≡ front → i ≡ n)

-- the fronts keep their numbers
abbrev pub Keeps : List Name → List Name → Type 0
Keeps old new = (new ≡ old) ⊎ ((front : Name) × (new ≡ old ++ front ∷ []))

-- what is kept under a front
abbrev pub number_under : {A : Type 0} → BTreeMap (Vec ℕ A) ℕ → Name → Option ℕ
number_under numbers front = get_by (λ (key : Vec ℕ _). slice_cmp nat_cmp front key.items) numbers

-- whether the string of a number comes before that of another
abbrev pub comes_before : List Name → ℕ → ℕ → Bool
comes_before strings a b = is_lt (slice_cmp nat_cmp (get_or strings a []) (get_or strings b []))

-- a number has a string, and is among these
abbrev pub HasFront : List Name → List ℕ → Name → ℕ → Type 0
HasFront strings numbers string n = Contains numbers n × (get_or strings n [] ≡ string)

-- a number does not have a string
abbrev pub LacksFront : List Name → Name → ℕ → Type 0
LacksFront strings string n = get_or strings n [] ≢ string

-- each front has one number, which stands either in the order of their bytes or under the front
pub record IsPlaced {A : Type 0} (fronts : List Name) (sorted : List ℕ) (recent : BTreeMap (Vec ℕ A) ℕ) : Type 0 where
  pub rising : IsSortedBy (comes_before fronts) sorted
  pub below : All (λ n. n < length fronts) sorted
  pub waiting : All (λ n. n < length fronts) (values recent)
  pub own : (front : Name) (n : ℕ) → number_under recent front ≡ Some n → (n < length fronts) × (get_or fronts n [] ≡ front)
  pub kept : (i : ℕ) → i < length fronts → Contains sorted i ⊎ (number_under recent (get_or fronts i []) ≡ Some i)
  pub apart : (i j : ℕ) → i < length fronts → j < length fronts → get_or fronts i [] ≡ get_or fronts j [] → i ≡ j
