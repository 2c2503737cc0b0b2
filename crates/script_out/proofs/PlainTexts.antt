-- Texts that stand in quotes as they are.
use Rattle.std.proofs.Common.{◌≡◌, ℕ, zero, suc, ◌+◌, ◌<◌, ◌≤◌, ◌&&◌, ◌||◌, Bool, true, false, not, nat_lt, List, [], ◌∷◌, ◌++◌, length, take, drop, get_or, if◌then◌else◌, refl, ap, sym, subst, arith}
use Rattle.std.specs.Prelude.{◌==◌}
use Rattle.std.specs.List.{flat_map}
use Rattle.std.proofs.lemmas.Grind.{flat_map-append}
use Rattle.script_out.specs.Output.{escaped}
use Rattle.script_out.specs.declared.quoting.TheConstants.{PLAIN}

take_none : (m : ℕ) → ◌≡◌ {A = List ℕ} (take m []) []
take_none zero = refl
take_none (suc m) = refl

take_more : (n m : ℕ) (xs : List ℕ) → take (n + m) xs ≡ take n xs ++ take m (drop n xs)
take_more zero m xs =
    let same : zero + m ≡ m = omega arith in
    rw same refl
take_more (suc n) m [] =
    let same : suc n + m ≡ suc (n + m) = omega arith in
    rw same (sym (take_none m))
take_more (suc n) m (x ∷ xs) =
    let same : suc n + m ≡ suc (n + m) = omega arith in
    rw same (ap (λ (t : List ℕ). x ∷ t) (take_more n m xs))

-- two plain pieces, one behind the other, are one
pub more_plain : (text : List ℕ) (n m : ℕ) → flat_map escaped (take n text) ≡ take n text → flat_map escaped (take m (drop n text)) ≡ take m (drop n text) → flat_map escaped (take (n + m) text) ≡ take (n + m) text
more_plain text n m first later = rw (take_more n m text, flat_map-append escaped (take n text) (take m (drop n text)), first, later) refl

drop_none : (m : ℕ) → ◌≡◌ {A = List ℕ} (drop m []) []
drop_none zero = refl
drop_none (suc m) = refl

pub drop_more : (n m : ℕ) (xs : List ℕ) → drop (n + m) xs ≡ drop m (drop n xs)
drop_more zero m xs =
    let same : zero + m ≡ m = omega arith in
    rw same refl
drop_more (suc n) m [] =
    let same : suc n + m ≡ suc (n + m) = omega arith in
    rw same (sym (drop_none m))
drop_more (suc n) m (x ∷ xs) =
    let same : suc n + m ≡ suc (n + m) = omega arith in
    rw same (drop_more n m xs)

-- ---- the table

-- a byte has no escape
abbrev is_bare : ℕ → Bool
is_bare c = not ((c == 34) || (c == 92)) && not (nat_lt c 32 || (c == 127))

-- the rows from a byte on, of which those that are set are of bytes without an escape
abbrev are_right : List Bool → ℕ → Bool
are_right [] c = true
are_right (b ∷ bs) c = (not b || is_bare c) && are_right bs (suc c)

all_right : are_right PLAIN 0 ≡ true
all_right = refl

both : (a b : Bool) → (a && b) ≡ true → (a ≡ true) × (b ≡ true)
both true b e = (refl, e)
both false b e = absurd cc

one_set : (b bare : Bool) → (not b || bare) ≡ true → b ≡ true → bare ≡ true
one_set true bare e set = e
one_set false bare e set = absurd cc

bare_stays : (quote control : Bool) (a b c : List ℕ) → (not quote && not control) ≡ true → (if quote then a else if control then b else c) ≡ c
bare_stays true control a b c e = absurd cc
bare_stays false true a b c e = absurd cc
bare_stays false false a b c e = refl

set_at : (rows : List Bool) (first at : ℕ) → are_right rows first ≡ true → get_or rows at false ≡ true → is_bare (first + at) ≡ true
set_at [] first zero right set = absurd cc
set_at [] first (suc at) right set = absurd cc
set_at (b ∷ bs) first zero right set =
    let head = one_set b (is_bare first) (both _ _ right).0 set in
    let same : first + 0 ≡ first = omega arith in
    rw same head
set_at (b ∷ bs) first (suc at) right set =
    let same : first + suc at ≡ suc first + at = omega arith in
    rw same (set_at bs (suc first) at (both (not b || is_bare first) (are_right bs (suc first)) right).1 set)

-- a byte that is set in the table stands as it is
pub set_stays : (c : ℕ) → get_or PLAIN c false ≡ true → escaped c ≡ c ∷ []
set_stays c set =
    let same : 0 + c ≡ c = omega arith in
    let bare = subst (λ (k : ℕ). is_bare k ≡ true) same (set_at PLAIN 0 c all_right set) in
    bare_stays ((c == 34) || (c == 92)) (nat_lt c 32 || (c == 127)) _ _ _ bare

-- ---- eight bytes

-- what holds of a byte whose answer is true
abbrev Stays : Bool → ℕ → Type 0
Stays answer c = answer ≡ true → escaped c ≡ c ∷ []

one_at : (xs : List ℕ) (n : ℕ) → n < length xs → take 1 (drop n xs) ≡ get_or xs n 0 ∷ []
one_at [] n lt = absurd (omega arith)
one_at (x ∷ xs) zero lt = refl
one_at (x ∷ xs) (suc n) lt = one_at xs n (omega arith)

stays_more : (p b : Bool) (xs : List ℕ) (n : ℕ) → n < length xs → (p ≡ true → flat_map escaped (take n xs) ≡ take n xs) → Stays b (get_or xs n 0) → (p && b) ≡ true → flat_map escaped (take (n + 1) xs) ≡ take (n + 1) xs
stays_more p b xs n lt front last set =
    let parts = both p b set in
    let here = one_at xs n lt in
    let alone : flat_map escaped (get_or xs n 0 ∷ []) ≡ get_or xs n 0 ∷ [] = rw (last parts.1) refl in
    more_plain xs n 1 (front parts.0) (rw here alone)

pub eight_stay : (xs : List ℕ) (p q r s t u v w : Bool) → 8 ≤ length xs → Stays p (get_or xs 0 0) → Stays q (get_or xs 1 0) → Stays r (get_or xs 2 0) → Stays s (get_or xs 3 0) → Stays t (get_or xs 4 0) → Stays u (get_or xs 5 0) → Stays v (get_or xs 6 0) → Stays w (get_or xs 7 0) → (p && q && r && s && t && u && v && w) ≡ true → flat_map escaped (take 8 xs) ≡ take 8 xs
eight_stay xs p q r s t u v w le sp sq sr ss st su sv sw =
    let a = stays_more true p xs 0 (omega (arith, le)) (λ e. refl) sp in
    let b = stays_more p q xs 1 (omega (arith, le)) a sq in
    let c = stays_more (p && q) r xs 2 (omega (arith, le)) b sr in
    let d = stays_more (p && q && r) s xs 3 (omega (arith, le)) c ss in
    let e = stays_more (p && q && r && s) t xs 4 (omega (arith, le)) d st in
    let f = stays_more (p && q && r && s && t) u xs 5 (omega (arith, le)) e su in
    let g = stays_more (p && q && r && s && t && u) v xs 6 (omega (arith, le)) f sv in
    stays_more (p && q && r && s && t && u && v) w xs 7 (omega (arith, le)) g sw

-- eight bytes behind others are within the text
pub drop_room : (n : ℕ) (xs : List ℕ) → 8 ≤ length (drop n xs) → n + 8 ≤ length xs
drop_room zero xs le = le
drop_room (suc n) [] le = absurd (omega (arith, le))
drop_room (suc n) (x ∷ xs) le =
    let later = drop_room n xs le in
    omega (arith, later)
