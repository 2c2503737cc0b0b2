-- Where the copies of sources end, as it is kept.
use Rattle.std.specs.Prelude.{◌≡◌, ℕ, ◌+◌, ◌<◌, ◌^◌, List, length, map, Option}
use Rattle.std.specs.List.{range_with_len}
use Rattle.std.specs.declared.vec.Vec.{Vec}
use Rattle.lc_base.specs.declared.category.Category.{Category}
use Rattle.lc_base.specs.declared.by_category.ByCategory.{ByCategory}
use Rattle.lc_base.specs.ByCategory.{in_category}
use Rattle.charset.specs.Portable.{Name}
use Rattle.locale_sources.specs.Sources.{Source}
use Rattle.locale_sources.specs.Copies.{locale_numbers, last}

-- the ends in a category
abbrev pub ends_in : {A : Type 0} → ByCategory (Vec (Option ℕ) A) → Category → List (Option ℕ)
ends_in ends category = (in_category ends category).items

-- the copies of sources were followed: these are the numbers of the locales, and these are the ends for each number up to that
-- of the last source
pub record AreFollowed {A : Type 0} (sources : List Source) (locales : List (Name × ℕ)) (ends : ByCategory (Vec (Option ℕ) A)) : Type 0 where
  pub few : length sources < 2 ^ 31
  pub known : locales ≡ locale_numbers sources
  pub each : (category : Category) → ends_in ends category ≡ map (last sources category) (range_with_len 0 (length sources + 1))
