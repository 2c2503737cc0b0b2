-- Digits one up are the number that is one greater.
use Rattle.std.proofs.Common.{◌≡◌, ◌≤◌, ◌<◌, ◌+◌, ℕ, Bool, true, false, List, [], ◌∷◌, refl, arith}
use Rattle.std.specs.Prelude.{nat_lt, nat_le}
use Rattle.std.specs.Char.{is_ascii_digit}
use Rattle.std.specs.List.{list_all}
use Rattle.std.proofs.lemmas.Bool.Decides.{nat_tests}
use Rattle.tool_decimals.specs.Decimals.{carried, one, value_back}

-- where nothing is carried, nothing changes
same_digits : (ds : List ℕ) → carried false ds ≡ ds
unfolding carried
same_digits [] = refl
same_digits (c ∷ cs) = rw (same_digits cs) refl

-- a digit before others is one, and so are they
first_digit : (c : ℕ) (cs : List ℕ) → list_all is_ascii_digit (c ∷ cs) ≡ true → (48 ≤ c) × (c ≤ 57) × (list_all is_ascii_digit cs ≡ true)
first_digit c cs h = grind (arith, nat_tests)

-- a digit below 9 is one more, and nothing is carried on
below_nine : (c : ℕ) (cs : List ℕ) → 48 ≤ c → c < 57 → value_back (carried true (c ∷ cs)) ≡ value_back (c ∷ cs) + 1
unfolding carried value_back
below_nine c cs low high =
    let is_less : nat_lt c 57 ≡ true = grind (arith, nat_tests) in
    let is_no_nine : nat_le 57 c ≡ false = grind (arith, nat_tests) in
    rw (is_less, is_no_nine, same_digits cs) (omega arith)

-- behind a 9 comes a 0, and 1 is carried on
at_nine : (c : ℕ) (cs : List ℕ) → c ≡ 57 → value_back (carried true cs) ≡ value_back cs + 1 → value_back (carried true (c ∷ cs)) ≡ value_back (c ∷ cs) + 1
unfolding carried value_back
at_nine c cs is next = rw is (omega arith)

by_test : (b : Bool) (c : ℕ) (cs : List ℕ) → nat_lt c 57 ≡ b → 48 ≤ c → c ≤ 57 → value_back (carried true cs) ≡ value_back cs + 1 → value_back (carried true (c ∷ cs)) ≡ value_back (c ∷ cs) + 1
by_test true c cs is low high next = below_nine c cs low (grind (arith, nat_tests))
by_test false c cs is low high next = at_nine c cs (grind (arith, nat_tests)) next

pub carried_value : (carry : Bool) (ds : List ℕ) → list_all is_ascii_digit ds ≡ true → value_back (carried carry ds) ≡ value_back ds + one carry
unfolding carried value_back
carried_value false ds h = rw (same_digits ds) (omega arith)
carried_value true [] h = refl
carried_value true (c ∷ cs) h =
    let parts = first_digit c cs h in
    by_test (nat_lt c 57) c cs refl parts.0 parts.1 (carried_value true cs parts.2)
