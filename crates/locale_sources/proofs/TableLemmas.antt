-- Tables that are followed many times.
use Rattle.std.proofs.Common.{◌≡◌, ℕ, zero, suc, ◌+◌, ◌/◌, ◌%◌, ◌<◌, ◌≤◌, List, ◌∷◌, length, map, Option, Some, None, IfSome, refl, sym, ◌∙◌, ap, arith, add-zero, zero-add, option_map}
use Rattle.std.specs.List.{range_with_len, slice_get}
use Rattle.std.proofs.lemmas.Option.{slice_get-map}
use Rattle.lc_base.specs.Lines.{◌>>=◌}
use Rattle.locale_sources.specs.Tables.{led, led_on, repeated, IsClosed}

-- ---- tables of functions

-- the number at a place of a range
get-range : (a n k : ℕ) → k < n → slice_get (range_with_len a n) k ≡ Some (a + k)
get-range a zero k h = absurd (omega arith)
get-range a (suc n) zero h = ap Some (sym (add-zero a))
get-range a (suc n) (suc k) h = get-range (a + 1) n k (omega arith) ∙ ap Some (omega arith)

-- a table of a function leads as the function does
pub led-map : (f : ℕ → Option ℕ) (n k : ℕ) → k < n → led (map f (range_with_len 0 n)) k ≡ f k
led-map f n k h =
    ap (λ (o : Option (Option ℕ)). o >>= λ (to : Option ℕ). to) (slice_get-map f (range_with_len 0 n) k ∙ ap (λ (o : Option ℕ). option_map f o) (get-range 0 n k h ∙ ap Some (zero-add k)))

map-same : {X : Type 0} (f g : ℕ → X) (a n : ℕ) → ((k : ℕ) → a ≤ k → k < a + n → f k ≡ g k) → map f (range_with_len a n) ≡ map g (range_with_len a n)
map-same f g a zero same = refl
map-same {X} f g a (suc n) same = ap (λ (x : X). x ∷ map f (range_with_len (a + 1) n)) (same a (omega arith) (omega arith)) ∙ ap (λ (xs : List X). g a ∷ xs) (map-same f g (a + 1) n (λ k low high. same k (omega arith) (omega arith)))

-- functions that agree below n have one table
pub tables-same : {X : Type 0} (f g : ℕ → X) (n : ℕ) → ((k : ℕ) → k < n → f k ≡ g k) → map f (range_with_len 0 n) ≡ map g (range_with_len 0 n)
tables-same f g n same = map-same f g 0 n (λ k low high. same k (omega arith))

map-map-range : (f : ℕ → Option ℕ) (g : Option ℕ → Option ℕ) (a n : ℕ) → map g (map f (range_with_len a n)) ≡ map (λ k. g (f k)) (range_with_len a n)
map-map-range f g a zero = refl
map-map-range f g a (suc n) = ap (λ (xs : List (Option ℕ)). g (f a) ∷ xs) (map-map-range f g (a + 1) n)

-- ---- steps

add_on : (t : List (Option ℕ)) (o : Option ℕ) (a b : ℕ) → ((m : ℕ) → repeated t (a + b) m ≡ (repeated t a m >>= repeated t b)) → (o >>= repeated t (a + b)) ≡ ((o >>= repeated t a) >>= repeated t b)
add_on t None a b rest = refl
add_on t (Some m) a b rest = rest m

-- steps after steps
pub repeated-add : (t : List (Option ℕ)) (a b n : ℕ) → repeated t (a + b) n ≡ (repeated t a n >>= repeated t b)
repeated-add t zero b n = ap (λ (m : ℕ). repeated t m n) (zero-add b)
repeated-add t (suc a) b n =
    let one : suc a + b ≡ suc (a + b) = omega arith in
    ap (λ (m : ℕ). repeated t m n) one ∙ add_on t (led t n) a b (λ m. repeated-add t a b m)

if_led : (t : List (Option ℕ)) (o : Option ℕ) (a : ℕ) → IsClosed t → IfSome o (λ to. to < length t) → ((m : ℕ) → m < length t → IfSome (repeated t a m) (λ to. to < length t)) → IfSome (o >>= repeated t a) (λ to. to < length t)
if_led t None a closed inside rest = tt
if_led t (Some m) a closed inside rest = rest m inside

-- steps stay within a closed table
pub repeated-inside : (t : List (Option ℕ)) → IsClosed t → (a n : ℕ) → n < length t → IfSome (repeated t a n) (λ to. to < length t)
repeated-inside t closed zero n h = h
repeated-inside t closed (suc a) n h = if_led t (led t n) a closed (closed n h) (λ m inside. repeated-inside t closed a m inside)

-- ---- tables of steps

led_inside : (t : List (Option ℕ)) (h : ℕ) (o : Option ℕ) → IfSome o (λ to. to < length t) → led_on (map (repeated t h) (range_with_len 0 (length t))) o ≡ (o >>= repeated t h)
led_inside t h None inside = refl
led_inside t h (Some m) inside = led-map (repeated t h) (length t) m inside

-- the table of so many steps, joined with itself
pub joined-twice : (t : List (Option ℕ)) (h : ℕ) → IsClosed t → map (led_on (map (repeated t h) (range_with_len 0 (length t)))) (map (repeated t h) (range_with_len 0 (length t))) ≡ map (repeated t (h + h)) (range_with_len 0 (length t))
joined-twice t h closed =
    let half = map (repeated t h) (range_with_len 0 (length t)) in
    map-map-range (repeated t h) (led_on half) 0 (length t)
    ∙ tables-same (λ k. led_on half (repeated t h k)) (repeated t (h + h)) (length t) (λ k inside. led_inside t h (repeated t h k) (repeated-inside t closed h k inside) ∙ sym (repeated-add t h h k))

some_after : (o : Option ℕ) → (o >>= λ (n : ℕ). Some n) ≡ o
some_after None = refl
some_after (Some n) = refl

led_once : (t : List (Option ℕ)) (o : Option ℕ) → led_on t o ≡ (o >>= repeated t 1)
led_once t None = refl
led_once t (Some m) = sym (some_after (led t m))

-- the table of so many steps, joined with that of one
pub joined-once : (t : List (Option ℕ)) (h : ℕ) → map (led_on t) (map (repeated t h) (range_with_len 0 (length t))) ≡ map (repeated t (h + 1)) (range_with_len 0 (length t))
joined-once t h =
    map-map-range (repeated t h) (led_on t) 0 (length t)
    ∙ tables-same (λ k. led_on t (repeated t h k)) (repeated t (h + 1)) (length t) (λ k inside. led_once t (repeated t h k) ∙ sym (repeated-add t h 1 k))

-- ---- a number of steps, halved

pub twice-even : (t half twice : List (Option ℕ)) (n : ℕ) → IsClosed t → half ≡ map (repeated t (n / 2)) (range_with_len 0 (length t)) → twice ≡ map (led_on half) half → n % 2 ≡ 0 → twice ≡ map (repeated t n) (range_with_len 0 (length t))
twice-even t half twice n closed is joined even =
    let both : n / 2 + n / 2 ≡ n = omega arith in
    joined ∙ (ap (λ (x : List (Option ℕ)). map (led_on x) x) is ∙ (joined-twice t (n / 2) closed ∙ ap (λ (m : ℕ). map (repeated t m) (range_with_len 0 (length t))) both))

pub twice-odd : (t half twice more : List (Option ℕ)) (n : ℕ) → IsClosed t → half ≡ map (repeated t (n / 2)) (range_with_len 0 (length t)) → twice ≡ map (led_on half) half → more ≡ map (led_on t) twice → (n % 2 ≡ 0 → ⊥) → more ≡ map (repeated t n) (range_with_len 0 (length t))
twice-odd t half twice more n closed is joined last odd =
    let all : n / 2 + n / 2 + 1 ≡ n = omega arith in
    last ∙ (ap (λ (x : List (Option ℕ)). map (led_on t) x) (joined ∙ (ap (λ (x : List (Option ℕ)). map (led_on x) x) is ∙ joined-twice t (n / 2) closed))
    ∙ (joined-once t (n / 2 + n / 2) ∙ ap (λ (m : ℕ). map (repeated t m) (range_with_len 0 (length t))) all))
