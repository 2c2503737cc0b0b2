-- Offsets from UTC, by their signs.
use Rattle.std.proofs.Common.{◌≡◌, ℤ, pos, negsuc, ◌<ℤ◌, ◌≤ℤ◌, ◌∷◌, Some, refl, add-one, arith}
use Rattle.std.specs.Prelude.{unsigned_abs}
use Rattle.std.proofs.lemmas.Int.{ints}
use Rattle.time_cat.specs.Shown.{hours_and_minutes, offset_text}

-- below 0 is west of UTC
pub west : (minutes : ℤ) → minutes <ℤ pos 0 → offset_text (Some minutes) ≡ 45 ∷ hours_and_minutes (unsigned_abs minutes)
west (pos n) below = absurd (omega (arith, ints))
west (negsuc n) below = rw add-one refl

-- else east of it
pub east : (minutes : ℤ) → pos 0 ≤ℤ minutes → offset_text (Some minutes) ≡ 43 ∷ hours_and_minutes (unsigned_abs minutes)
east (pos n) above = refl
east (negsuc n) above = absurd (omega (arith, ints))
