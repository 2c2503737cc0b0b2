-- Worked examples of lines, bytes and counts, and of what is none.
use Rattle.std.proofs.Common.{◌≡◌, ℕ, ◌+◌, ◌-◌, ◌^◌, ◌<◌, List, [], ◌∷◌, ◌++◌, length, true, false, Some, None, inl, inr, refl, ap, arith, length-append}
use Rattle.std.specs.Prelude.{codes, Ok, Err}
use Rattle.lc_base.specs.declared.place.Place.{Place}
use Rattle.lc_base.specs.declared.reason.Reason.{Reason}
use Rattle.lc_base.specs.declared.reason.Reason.TheVariants.{NoEnd, NoCharmap}
use Rattle.lc_base.specs.declared.fault.TextFault.TheVariants.{At, Memory}
use Rattle.lc_base.specs.declared.category.Category.TheVariants.{Monetary, Time, Messages}
use Rattle.lc_base.specs.Lines.{lines_of, after, EndsLine, CutsLine}
use Rattle.lc_base.specs.Faults.{Rose}
use Rattle.lc_base.specs.Bytes.{CameExactly, CameAtMost, AddsPrefix}
use Rattle.lc_base.specs.Mask.{category_bit, includes}
use Rattle.lc_base.specs.Reading.{Gives}

-- ---- lines

-- a newline ends each line, and the last may lack it
lines_of-some : lines_of (codes "a\n\nbc") ≡ codes "a" ∷ [] ∷ codes "bc" ∷ []
lines_of-some = refl

-- what follows a last newline is no line
lines_of-ended : lines_of (codes "a\n") ≡ codes "a" ∷ []
lines_of-ended = refl

after-front : after (codes "END ") (codes "END LC_TIME") ≡ Some (codes "LC_TIME")
after-front = refl

after-other : after (codes "END ") (codes "end LC_TIME") ≡ None
after-other = refl

-- the first line of a text with a newline, and what follows it
cuts-ended : CutsLine (codes "a\nb\nc") (codes "a") (codes "b\nc")
cuts-ended = record { lines = refl; bare = refl; parts = inl refl }

ends-ended : EndsLine (codes "a\nb\nc") (codes "a") (codes "b\nc")
ends-ended = record { parts = refl; bare = refl }

-- a last line without its newline is cut, and ends no line
cuts-last : CutsLine (codes "ab") (codes "ab") []
cuts-last = record { lines = refl; bare = refl; parts = inr (refl, refl) }

ends_not-last : EndsLine (codes "a") (codes "a") [] → ⊥
ends_not-last h = let e = h.parts in absurd (cc)

-- no line has a newline within
cuts_not-two : CutsLine (codes "a\nb") (codes "a\nb") [] → ⊥
cuts_not-two h = let e : true ≡ false = h.bare in absurd (cc)

-- an empty text has no line
cuts_not-empty : (line rest : List ℕ) → CutsLine [] line rest → ⊥
cuts_not-empty line rest h = let e = h.lines in absurd (cc)

-- ---- counts and bytes

-- a count that rose by two
rose-more : Rose 3 5
rose-more = λ _. omega arith

-- one that stands
rose_not-still : Rose 3 3 → ⊥
rose_not-still h = let less : 3 < 3 = h (λ (e : 3 ≡ 2 ^ 64 - 1). absurd (omega arith)) in omega arith

-- one that stands at its last value
rose-last : Rose (2 ^ 64 - 1) (2 ^ 64 - 1)
rose-last = λ apart. absurd (apart refl)

-- two bytes came of three
came-two : CameExactly (Some (1 ∷ 2 ∷ 3 ∷ [])) (Some (3 ∷ [])) 2
came-two = (1 ∷ 2 ∷ [], refl, refl)

-- and no other number of them
came_not-one : CameExactly (Some (1 ∷ 2 ∷ 3 ∷ [])) (Some (3 ∷ [])) 1 → ⊥
came_not-one h =
    let all : 3 ≡ length (h.0 ++ 3 ∷ []) = ap length h.1 in
    omega (arith, length-append h.0 (3 ∷ []), h.2)

-- and at most two
came-at_most : CameAtMost (Some (1 ∷ 2 ∷ 3 ∷ [])) (Some (3 ∷ [])) 2
came-at_most = (1 ∷ 2 ∷ [], refl, omega arith)

came_not-at_most : CameAtMost (Some (1 ∷ 2 ∷ 3 ∷ [])) (Some (3 ∷ [])) 1 → ⊥
came_not-at_most h =
    let all : 3 ≡ length (h.0 ++ 3 ∷ []) = ap length h.1 in
    omega (arith, length-append h.0 (3 ∷ []), h.2)

-- the first two bytes of three were added behind one that was there
adds-front : AddsPrefix (Some (9 ∷ [])) (Some (9 ∷ 1 ∷ 2 ∷ [])) (1 ∷ 2 ∷ 3 ∷ [])
adds-front = (2, omega arith, refl)

-- ---- categories

category_bit-last : category_bit Messages ≡ 16
category_bit-last = refl

-- a mask of LC_NUMERIC and LC_TIME
includes-time : includes 10 Time ≡ true
includes-time = refl

includes-monetary : includes 10 Monetary ≡ false
includes-monetary = refl

-- ---- answers of readers

abbrev at : Place
at = record { line = 2; column = 7 }

-- a value that is the definition's
gives-value : Gives (λ (n : ℕ). n + 1) (Ok 4) (Ok 5)
gives-value = refl

-- another fault than the definition's is no answer, and neither is a fault where there is a value
gives_not-other : Gives (λ (n : ℕ). n) (Err (At at NoEnd)) (Err (at, NoCharmap)) → ⊥
gives_not-other h =
    let both : (at, NoCharmap) ≡ (at, NoEnd) = cc in
    let reasons : NoCharmap ≡ NoEnd = ap (λ (x : Place × Reason). x.1) both in
    absurd (cc)

gives_not-fault : Gives (λ (n : ℕ). n) (Err (At at NoEnd)) (Ok 5) → ⊥
gives_not-fault h = absurd (cc)

-- out of memory may come instead of each of them
gives-memory : Gives (λ (n : ℕ). n) (Err Memory) (Ok 5)
gives-memory = tt
