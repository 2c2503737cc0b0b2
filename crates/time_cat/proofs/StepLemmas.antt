-- The pieces of a format go on behind each step.
use Rattle.std.proofs.Common.{◌≡◌, ℕ, zero, suc, ◌+◌, ◌-◌, ◌<◌, Bool, true, false, eqb, cond, List, [], ◌∷◌, length, drop, Option, Some, None, refl, sym, ap, ◌∙◌, arith, add-one, length-drop}
use Rattle.time_cat.specs.declared.conversion.TimeConversion.{TimeConversion}
use Rattle.time_cat.specs.declared.step.Step.{Step}
use Rattle.time_cat.specs.declared.step.Step.TheVariants.{Byte}
use Rattle.time_cat.specs.Conversions.{conversion}
use Rattle.time_cat.specs.Formats.{is_modifier, step_of, modified_step, conversion_step, step, Piece, Literal, Converted, Wrong, onward, pieces_from, rest_of, IsStep}

-- what is left behind the first byte that is left
tail_of : (format : List ℕ) (at c : ℕ) (cs : List ℕ) → drop at format ≡ c ∷ cs → drop (at + 1) format ≡ cs
tail_of [] zero c cs e = cc
tail_of [] (suc at) c cs e = cc
tail_of (x ∷ xs) zero c cs e = cc
tail_of (x ∷ xs) (suc at) c cs e = rw add-one (rw add-one at (tail_of xs at c cs e))

-- a step over the bytes that are left
abbrev Goes : List ℕ → ℕ → List ℕ → Step → Type 0
Goes format at left s = onward at s (λ skip. pieces_from (at + 1) skip left) ≡ rest_of format at → IsStep format at s

inside : (format : List ℕ) (at c : ℕ) (cs : List ℕ) → drop at format ≡ c ∷ cs → at < length format
inside format at c cs e = omega (arith, ap length e, length-drop at format)

found_one : (format : List ℕ) (at letter d : ℕ) (ds : List ℕ) (o : Option TimeConversion) → drop (at + 1) format ≡ d ∷ ds → Goes format at (d ∷ ds) (step_of 0 letter (at + 2) o)
unfolding rest_of
found_one format at letter d ds None e is = sym is
found_one format at letter d ds (Some c) e is =
    let behind : drop (at + 1 + 1) format ≡ ds = tail_of format (at + 1) d ds e in
    let one : at + 2 - at - 1 ≡ 1 = omega arith in
    let two : at + 2 ≡ at + 1 + 1 = omega arith in
    (omega arith, omega (arith, inside format (at + 1) d ds e), sym is ∙ rw (one, two, behind) refl)

found_two : (format : List ℕ) (at modifier letter d f : ℕ) (fs : List ℕ) (o : Option TimeConversion) → drop (at + 1) format ≡ d ∷ f ∷ fs → Goes format at (d ∷ f ∷ fs) (step_of modifier letter (at + 3) o)
unfolding rest_of
found_two format at modifier letter d f fs None e is = sym is
found_two format at modifier letter d f fs (Some c) e is =
    let next : drop (at + 1 + 1) format ≡ f ∷ fs = tail_of format (at + 1) d (f ∷ fs) e in
    let behind : drop (at + 1 + 1 + 1) format ≡ fs = tail_of format (at + 1 + 1) f fs next in
    let two : at + 3 - at - 1 ≡ 2 = omega arith in
    let three : at + 3 ≡ at + 1 + 1 + 1 = omega arith in
    (omega arith, omega (arith, inside format (at + 1 + 1) f fs next), sym is ∙ rw (two, three, behind) refl)

behind_modifier : (format : List ℕ) (at d : ℕ) (ds : List ℕ) → drop (at + 1) format ≡ d ∷ ds → Goes format at (d ∷ ds) (modified_step at d ds)
unfolding rest_of
behind_modifier format at d [] e is = sym is
behind_modifier format at d (f ∷ fs) e is = found_two format at d f d f fs (conversion d f) e is

by_modifier : (format : List ℕ) (at d : ℕ) (ds : List ℕ) (b : Bool) → drop (at + 1) format ≡ d ∷ ds → Goes format at (d ∷ ds) (cond b (modified_step at d ds) (step_of 0 d (at + 2) (conversion 0 d)))
by_modifier format at d ds true e is = behind_modifier format at d ds e is
by_modifier format at d ds false e is = found_one format at d d ds (conversion 0 d) e is

behind_percent : (format : List ℕ) (at : ℕ) (cs : List ℕ) → drop (at + 1) format ≡ cs → Goes format at cs (conversion_step at cs)
unfolding rest_of
behind_percent format at [] e is = sym is
behind_percent format at (d ∷ ds) e is = by_modifier format at d ds (is_modifier d) e is

by_percent : (format : List ℕ) (at c : ℕ) (cs : List ℕ) (b : Bool) → drop at format ≡ c ∷ cs → Goes format at cs (cond b (conversion_step at cs) (Byte c))
unfolding rest_of
by_percent format at c cs true e is = behind_percent format at cs (tail_of format at c cs e) is
by_percent format at c cs false e is =
    let behind : drop (at + 1) format ≡ cs = tail_of format at c cs e in
    (inside format at c cs e, sym is ∙ rw behind refl)

of_left : (format : List ℕ) (at : ℕ) (left : List ℕ) → drop at format ≡ left → IsStep format at (step at left)
unfolding rest_of
of_left format at [] e = rw e refl
of_left format at (c ∷ cs) e = by_percent format at c cs (eqb c 37) e (rw e refl)

-- each step is what stands there
pub is_step : (format : List ℕ) (at : ℕ) → IsStep format at (step at (drop at format))
is_step format at = of_left format at (drop at format) refl

-- a whole format is what is left at its beginning
pub rest_at_start : (format : List ℕ) → rest_of format 0 ≡ Rattle.time_cat.specs.Formats.pieces format
unfolding rest_of Rattle.time_cat.specs.Formats.pieces
rest_at_start format = refl
