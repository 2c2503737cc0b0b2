-- Spans of names, and where they end.
use Rattle.std.specs.Prelude.{◌≡◌, ℕ, ◌+◌, ◌<◌, ◌≤◌, ◌⊎◌, Bool, true, false, ◌==◌, ◌&&◌, List, [], ◌∷◌, ◌++◌, length, get_or, find, IsSome, Option, Some, None}
use Rattle.std.specs.BTreeMap.{BTreeMap, get}
use Rattle.std.specs.Int.{is_in_range}
use Rattle.std.specs.declared.cmp.Ordering.{Ordering}
use Rattle.std.specs.Ordering.{nat_cmp, ordering_then}
use Rattle.charset.specs.declared.spans.Span.{Span}

-- where a tail stands: the number of its front, its width and its number
abbrev pub Spot : Type 0
Spot = ℕ × ℕ × ℕ

-- the number of a span's last tail
abbrev pub last_of : Span → ℕ
last_of s = s.block.first + s.block.more

-- where a span ends
abbrev pub end_of : Span → Spot
end_of s = (s.front, s.block.width, last_of s)

-- whether a span has a spot
abbrev pub is_in : Spot → Span → Bool
is_in spot s = s.front == spot.0 && s.block.width == spot.1 && is_in_range s.block.first (last_of s) spot.2

-- the spot of a span's name with this place
abbrev pub spot_at : Span → ℕ → Spot
spot_at s k = (s.front, s.block.width, s.block.first + k)

-- a name of a span is there already
abbrev pub Meets : List Span → Span → Type 0
Meets old s = (k : ℕ) × (k ≤ s.block.more) × IsSome (find (is_in (spot_at s k)) old)

-- each name of a span is new
abbrev pub IsNew : List Span → Span → Type 0
IsNew old s = (k : ℕ) → k ≤ s.block.more → find (is_in (spot_at s k)) old ≡ None

-- a span is added where each of its names is new; else one is there already
abbrev pub Adds : List Span → Span → List Span → Bool → Type 0
Adds old s new true = (new ≡ old ++ s ∷ []) × IsNew old s
Adds old s new false = (new ≡ old) × Meets old s

-- the order of spots
abbrev pub spot_cmp : Spot → Spot → Ordering
spot_cmp a b = ordering_then (ordering_then (nat_cmp a.0 b.0) (nat_cmp a.1 b.1)) (nat_cmp a.2 b.2)

-- which span ends at a spot
abbrev pub ending_at : BTreeMap Spot ℕ → Spot → Option ℕ
ending_at ends spot = get spot_cmp ends spot

-- the answer is the first end from a spot on, as far as its front and its width go
abbrev pub IsFirstFrom : BTreeMap Spot ℕ → Spot → Option (Spot × ℕ) → Type 0
IsFirstFrom ends spot None = (n : ℕ) → spot.2 ≤ n → ending_at ends (spot.0, spot.1, n) ≡ None
IsFirstFrom ends spot (Some e) = (ending_at ends e.0 ≡ Some e.1)
    × (e.0.0 ≡ spot.0 → e.0.1 ≡ spot.1 → spot.2 ≤ e.0.2)
    × ((n : ℕ) → spot.2 ≤ n → IsSome (ending_at ends (spot.0, spot.1, n)) → (e.0.0 ≡ spot.0) × (e.0.1 ≡ spot.1) × (e.0.2 ≤ n))

-- a span has the front and the width of a spot
abbrev pub IsAt : Spot → Span → Type 0
IsAt spot s = (s.front ≡ spot.0) × (s.block.width ≡ spot.1)

-- the answer is the first span of a spot's front and width that does not end before the spot
abbrev pub IsNext : List Span → Spot → Option Span → Type 0
IsNext spans spot None = (i : ℕ) (d : Span) → i < length spans → IsAt spot (get_or spans i d) → last_of (get_or spans i d) < spot.2
IsNext spans spot (Some s) = (i : ℕ) × (i < length spans) × ((d : Span) → get_or spans i d ≡ s) × IsAt spot s × (spot.2 ≤ last_of s)
    × ((j : ℕ) (d : Span) → j < length spans → IsAt spot (get_or spans j d) → (j ≡ i) ⊎ ((last_of (get_or spans j d) < spot.2) ⊎ (last_of s < (get_or spans j d).block.first)))

-- two spans have no name in common
abbrev pub AreApart : Span → Span → Type 0
AreApart s t = s.front ≡ t.front → s.block.width ≡ t.block.width → (last_of s < t.block.first) ⊎ (last_of t < s.block.first)

-- a span has no name in common with others
pub record IsClear (spans : List Span) (s : Span) : Type 0 where
  pub free : IsNew spans s
  pub apart : (i : ℕ) (d : Span) → i < length spans → AreApart (get_or spans i d) s

-- each span is found by its end, and no two have a name in common
pub record IsIndexed (spans : List Span) (ends : BTreeMap Spot ℕ) : Type 0 where
  pub there : (spot : Spot) (i : ℕ) (d : Span) → ending_at ends spot ≡ Some i → (i < length spans) × (end_of (get_or spans i d) ≡ spot)
  pub found : (i : ℕ) (d : Span) → i < length spans → ending_at ends (end_of (get_or spans i d)) ≡ Some i
  pub apart : (i j : ℕ) (d : Span) → i < j → j < length spans → AreApart (get_or spans i d) (get_or spans j d)
