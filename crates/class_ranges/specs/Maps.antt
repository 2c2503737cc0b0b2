-- Maps of wide values, and tables of their blocks: what is given for a value by the block that it is in (our own).
use Rattle.std.specs.Prelude.{◌≡◌, ℕ, ◌-◌, ◌/◌, ◌%◌, ◌<◌, ◌≤◌, ◌==◌, Bool, false, List, length, map, slice_get, slice_index, Option, Some, option_map, unwrap_or, if◌then◌else◌}
use Rattle.std.specs.BTreeMap.{is_at}
use Rattle.std.specs.Map.{lookup}
use Rattle.std.specs.Ordering.{nat_cmp}
use Rattle.class_ranges.specs.Ranges.{Range, covers}

-- what a map gives for a value: the value itself where it has none
abbrev pub image : List (ℕ × ℕ) → ℕ → ℕ
image entries w = unwrap_or (lookup (is_at (nat_cmp w)) entries) w

-- the ranges of the values that a map has, each alone
abbrev pub key_ranges : List (ℕ × ℕ) → List Range
key_ranges entries = map (λ entry. (entry.0, entry.0)) entries

-- a map gives itself for each value outside of these ranges
abbrev pub IsFixedOutside : List Range → List (ℕ × ℕ) → Type 0
IsFixedOutside ranges entries = (w : ℕ) → covers ranges w ≡ false → image entries w ≡ w

-- what the block with a number gives for a value, at its place in the block: 0 gives the value itself, and the others have images
abbrev pub block_gives : List (List ℕ) → ℕ → ℕ → ℕ → Option ℕ
block_gives blocks number k w =
    if number == 0 then Some w
    else option_map (λ block. slice_index block k) (slice_get blocks (number - 1))

-- the blocks that are numbered give for each of their values what the map gives
abbrev pub IsPagedMap : List ℕ → List (List ℕ) → List (ℕ × ℕ) → Type 0
IsPagedMap numbers blocks entries = (w : ℕ) → w / 64 < length numbers → block_gives blocks (slice_index numbers (w / 64)) (w % 64) w ≡ Some (image entries w)

-- unless this bool is true, a map gives itself for each value from one to another
abbrev pub IsFixedUnless : Bool → List (ℕ × ℕ) → ℕ → ℕ → Type 0
IsFixedUnless mapped entries first last = (w : ℕ) → first ≤ w → w ≤ last → mapped ≡ false → image entries w ≡ w
