-- Ranges joined, the least values of two sets, and the runs of one.
use Rattle.std.proofs.Common.{◌≡◌, true, false, [], ◌∷◌, Some, None, refl, arith}
use Rattle.std.proofs.lemmas.Bool.Decides.{nat_tests}
use Rattle.class_ranges.specs.Ranges.{covers, ranges_of, first_common}
use Rattle.class_ranges.specs.Runs.{IsRunOf}

-- ranges that meet or touch are one
merged : ranges_of ((5, 9) ∷ (1, 2) ∷ (3, 4) ∷ (8, 12) ∷ []) ≡ (1, 12) ∷ []
merged = refl

-- a gap of one value keeps ranges apart
apart : ranges_of ((7, 9) ∷ (1, 5) ∷ []) ≡ (1, 5) ∷ (7, 9) ∷ []
apart = refl

-- a range within another, and one given twice
within : ranges_of ((1, 9) ∷ (3, 4) ∷ (1, 9) ∷ (20, 20) ∷ []) ≡ (1, 9) ∷ (20, 20) ∷ []
within = refl

-- a range that bridges two
bridge : ranges_of ((4, 6) ∷ (1, 3) ∷ (7, 9) ∷ []) ≡ (1, 9) ∷ []
bridge = refl

nothing : ranges_of [] ≡ []
nothing = refl

ends_covered : covers ((1, 5) ∷ (7, 9) ∷ []) 9 ≡ true
ends_covered = refl

gap_not_covered : covers ((1, 5) ∷ (7, 9) ∷ []) 6 ≡ false
gap_not_covered = refl

-- what is common to sets that lie beside one another, and that share one value
none_common : first_common ((1, 12) ∷ []) ((13, 20) ∷ []) ≡ None
none_common = refl

last_common : first_common ((1, 12) ∷ []) ((12, 20) ∷ []) ≡ Some 12
last_common = refl

-- the least one, in the second ranges of both
later_common : first_common ((1, 2) ∷ (10, 20) ∷ []) ((4, 8) ∷ (15, 30) ∷ []) ≡ Some 15
later_common = refl

-- the run from a value inside a range, and from one in a gap
run_inside : IsRunOf (covers ((1, 5) ∷ (7, 9) ∷ [])) 3 (Some (3, 5))
run_inside = record { within = (omega arith, omega arith); least = λ v above below. absurd (omega arith); unbroken = λ v above below. grind (arith, nat_tests); whole = refl }

run_behind_gap : IsRunOf (covers ((1, 5) ∷ (7, 9) ∷ [])) 6 (Some (7, 9))
run_behind_gap = record { within = (omega arith, omega arith); least = λ v above below. grind (arith, nat_tests); unbroken = λ v above below. grind (arith, nat_tests); whole = refl }

-- ranges that touch have one run
run_joined : IsRunOf (covers ((1, 5) ∷ (6, 9) ∷ [])) 0 (Some (1, 9))
run_joined = record { within = (omega arith, omega arith); least = λ v above below. grind (arith, nat_tests); unbroken = λ v above below. grind (arith, nat_tests); whole = refl }

no_run_left : IsRunOf (covers ((1, 5) ∷ (7, 9) ∷ [])) 10 None
no_run_left = λ v above. grind (arith, nat_tests)

-- no run over a gap
not_over_gap : IsRunOf (covers ((1, 5) ∷ (7, 9) ∷ [])) 3 (Some (3, 9)) → ⊥
not_over_gap run = let none : false ≡ true = run.unbroken 6 (omega arith) (omega arith) in cc
