-- How many turns a script's commands have: no more than there are commands.
use Rattle.std.proofs.Common.{◌≡◌, ℕ, zero, suc, ◌+◌, ◌≤◌, Bool, true, false, cond, List, [], ◌∷◌, ◌++◌, length, ap, ◌∙◌, arith, length-append}
use Rattle.std.specs.Prelude.{◌==◌, nat_lt, filter, flat_map}
use Rattle.std.specs.List.{range_with_len}
use Rattle.std.proofs.lemmas.Bool.Decides.{nat_tests}
use Rattle.std.proofs.lemmas.Grind.{flat_map-append}
use Rattle.std.proofs.lemmas.List.{length-map, append-nil}
use Rattle.std.proofs.lemmas.List.Sums.{length-filter, count_by-le-length}
use Rattle.script_commands.specs.declared.command.Placed.{Placed}
use Rattle.script_lang.specs.declared.bundle.Bundle.{Bundle}
use Rattle.script_wishes.specs.Turns.{Turn, in_round, in_thread, turn_of, thread_turns, round_turns}
use Rattle.script_run.specs.Rounds.{turns_to}
use Rattle.script_run.proofs.Stacking.{range_more}

bits : (k m : ℕ) → cond (nat_lt k m) 1 0 + cond (k == m) 1 0 ≤ cond (nat_lt k (m + 1)) 1 0
bits k m = grind (arith, nat_tests)

with_one : {X : Type 0} (x : X) (xs : List X) (b : Bool) → length (cond b (x ∷ xs) xs) ≡ length xs + cond b 1 0
with_one x xs true = omega arith
with_one x xs false = omega arith

-- the elements whose key is below a number, and those that have it, are no more than those whose key is below the next one
one_number : {X : Type 0} (key : X → ℕ) (m : ℕ) (xs : List X)
    → length (filter (λ (x : X). nat_lt (key x) m) xs) + length (filter (λ (x : X). key x == m) xs) ≤ length (filter (λ (x : X). nat_lt (key x) (m + 1)) xs)
one_number key m [] = omega arith
one_number key m (x ∷ xs) =
    let low = with_one x (filter (λ (y : _). nat_lt (key y) m) xs) (nat_lt (key x) m) in
    let at = with_one x (filter (λ (y : _). key y == m) xs) (key x == m) in
    let next = with_one x (filter (λ (y : _). nat_lt (key y) (m + 1)) xs) (nat_lt (key x) (m + 1)) in
    let rest = one_number key m xs in
    let one = bits (key x) m in
    omega (arith, low, at, next, rest, one)

-- what is made of the elements with each of n numbers is no more than the elements are
numbers_short : {X A : Type 0} (key : X → ℕ) (xs : List X) (f : ℕ → List A) → ((m : ℕ) → length (f m) ≤ length (filter (λ (x : X). key x == m) xs)) → (a n : ℕ)
    → length (flat_map f (range_with_len a n)) ≤ length (filter (λ (x : X). nat_lt (key x) (a + n)) xs)
numbers_short key xs f each a zero = omega arith
numbers_short key xs f each a (suc n) =
    let whole : flat_map f (range_with_len a (suc n)) ≡ flat_map f (range_with_len a n) ++ f (a + n) =
    ap (λ (ms : List ℕ). flat_map f ms) (range_more a n) ∙ flat_map-append f (range_with_len a n) ((a + n) ∷ [])
    ∙ ap (λ (ys : List _). flat_map f (range_with_len a n) ++ ys) (append-nil (f (a + n)))
    in
    let long : length (flat_map f (range_with_len a (suc n))) ≡ length (flat_map f (range_with_len a n)) + length (f (a + n)) =
    ap (λ (ys : List _). length ys) whole ∙ length-append (flat_map f (range_with_len a n)) (f (a + n))
    in
    let before = numbers_short key xs f each a n in
    let here = each (a + n) in
    let one = one_number key (a + n) xs in
    let next : length (filter (λ (x : _). nat_lt (key x) ((a + n) + 1)) xs) ≡ length (filter (λ (x : _). nat_lt (key x) (a + suc n)) xs) =
    ap (λ (m : ℕ). length (filter (λ (x : _). nat_lt (key x) m) xs)) (omega arith)
    in
    omega (arith, long, before, here, one, next)

filter_short : {X : Type 0} (p : X → Bool) (xs : List X) → length (filter p xs) ≤ length xs
filter_short p xs = let same = length-filter p xs in let few = count_by-le-length p xs in omega (arith, same, few)

of_round_short : (threads : ℕ) (ps : List Placed) (round : ℕ) → length (round_turns threads ps round) ≤ length (in_round round ps)
of_round_short threads ps round =
    let all = numbers_short (λ (p : Placed). p.thread) (in_round round ps) (thread_turns (in_round round ps))
    (λ m. let same = length-map (in_thread (in_round round ps) m) turn_of in omega (arith, same)) 0 threads
    in
    let few = filter_short (λ (p : Placed). nat_lt p.thread (0 + threads)) (in_round round ps) in
    omega (arith, all, few)

-- the turns of so many rounds are no more than the commands are
pub few_turns_to : (bundle : Bundle) (rounds : ℕ) → length (turns_to bundle rounds) ≤ length bundle.commands
few_turns_to bundle rounds =
    let all = numbers_short (λ (p : Placed). p.round) bundle.commands (round_turns (length bundle.threads) bundle.commands) (of_round_short (length bundle.threads) bundle.commands) 1 rounds in
    let few = filter_short (λ (p : Placed). nat_lt p.round (1 + rounds)) bundle.commands in
    omega (arith, all, few)

-- one round more
pub turns_next : (bundle : Bundle) (rounds : ℕ) → turns_to bundle (rounds + 1) ≡ turns_to bundle rounds ++ round_turns (length bundle.threads) bundle.commands (rounds + 1)
turns_next bundle rounds =
    let f : ℕ → List Turn = round_turns (length bundle.threads) bundle.commands in
    let one_more : rounds + 1 ≡ suc rounds = omega arith in
    let last : 1 + rounds ≡ rounds + 1 = omega arith in
    ap (λ (ms : List ℕ). flat_map f ms) (ap (range_with_len 1) one_more ∙ range_more 1 rounds ∙ ap (λ (m : ℕ). range_with_len 1 rounds ++ m ∷ []) last)
    ∙ flat_map-append f (range_with_len 1 rounds) ((rounds + 1) ∷ [])
    ∙ ap (λ (ys : List Turn). flat_map f (range_with_len 1 rounds) ++ ys) (append-nil (f (rounds + 1)))
