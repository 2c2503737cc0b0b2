-- Lines that are emptied: no other line gets another number.
use Rattle.std.proofs.Common.{◌≡◌, ℕ, suc, ◌-◌, Bool, true, false, List, [], ◌∷◌, ◌++◌, length, refl, sym, ap, ◌∙◌, arith, append_assoc, ◌≢◌, ◌⊎◌, inl, inr, eqb, if◌then◌else◌}
use Rattle.std.specs.List.{list_any}
use Rattle.std.proofs.lemmas.Bool.Decides.{eqb_tells}
use Rattle.lc_base.specs.Lines.{is_newline, onto_first, lines_of, ended, EndsLine}
use Rattle.lc_base.proofs.LineLemmas.{lines_of-ended, cuts_last}
use Rattle.tool_files.specs.Parts.{kept_line, kept_last}

onto_length : (c : ℕ) (lines : List (List ℕ)) → length (onto_first c lines) ≡ suc (length lines - 1)
onto_length c [] = refl
onto_length c (line ∷ lines) = omega arith

one_more_byte : (b : Bool) (c : ℕ) (xs ys : List (List ℕ)) → length xs ≡ length ys → length (if b then [] ∷ xs else onto_first c xs) ≡ length (if b then [] ∷ ys else onto_first c ys)
one_more_byte true c xs ys e = ap suc e
one_more_byte false c xs ys e = onto_length c xs ∙ ap (λ (n : ℕ). suc (n - 1)) e ∙ sym (onto_length c ys)

-- as many lines behind the same bytes are as many lines in all
same_behind : (front xs ys : List ℕ) → length (lines_of xs) ≡ length (lines_of ys) → length (lines_of (front ++ xs)) ≡ length (lines_of (front ++ ys))
same_behind [] xs ys e = e
same_behind (c ∷ cs) xs ys e = one_more_byte (is_newline c) c (lines_of (cs ++ xs)) (lines_of (cs ++ ys)) (same_behind cs xs ys e)

kept_bare : (b : Bool) (line : List ℕ) → list_any is_newline line ≡ false → list_any is_newline (kept_line b line) ≡ false
kept_bare true line bare = refl
kept_bare false line bare = bare

-- a line is taken: the text so far and the rest have as many lines as before
pub line_step : (b : Bool) (front line following rest : List ℕ) → EndsLine rest line following → length (lines_of ((front ++ ended (kept_line b line)) ++ following)) ≡ length (lines_of (front ++ rest))
line_step b front line following rest ends =
    let same : length (lines_of (ended (kept_line b line) ++ following)) ≡ length (lines_of (ended line ++ following)) =
    ap length (lines_of-ended (kept_line b line) following (kept_bare b line ends.bare)) ∙ sym (ap length (lines_of-ended line following ends.bare)) in
    ap (λ (xs : List ℕ). length (lines_of xs)) (append_assoc front (ended (kept_line b line)) following)
    ∙ same_behind front (ended (kept_line b line) ++ following) (ended line ++ following) same
    ∙ ap (λ (xs : List ℕ). length (lines_of (front ++ xs))) (sym ends.parts)

not_zero : (n : ℕ) → suc n ≡ 0 → ⊥
not_zero n e = omega arith

some : (n : ℕ) → ((eqb (suc n) 0 ≡ true) × (suc n ≡ 0)) ⊎ ((eqb (suc n) 0 ≡ false) × (suc n ≢ 0)) → eqb (suc n) 0 ≡ false
some n (inl e) = absurd (not_zero n e.1)
some n (inr e) = e.0

last_alike : (b : Bool) (line : List ℕ) → list_any is_newline line ≡ false → length (lines_of (kept_last b line)) ≡ length (lines_of line)
last_alike b [] bare = refl
last_alike false (c ∷ cs) bare = refl
last_alike true (c ∷ cs) bare = sym (ap length (cuts_last (c ∷ cs) (some (length cs) (eqb_tells (suc (length cs)) 0)) bare).lines)

-- the last line is taken
pub last_step : (b : Bool) (front line : List ℕ) → list_any is_newline line ≡ false → length (lines_of (front ++ kept_last b line)) ≡ length (lines_of (front ++ line))
last_step b front line bare = same_behind front (kept_last b line) line (last_alike b line bare)
