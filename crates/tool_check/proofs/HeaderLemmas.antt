-- Headers of sections, one after another.
use Rattle.std.proofs.Common.{◌≡◌, ℕ, zero, suc, ◌+◌, ◌<◌, ◌≤◌, Bool, true, false, List, [], ◌∷◌, ◌++◌, length, drop, refl, sym, ap, ◌∙◌, append-nil, if◌then◌else◌}
use Rattle.std.proofs.lemmas.List.{drop_more, drop-drop}
use Rattle.std.proofs.Math.ListN.{drop_of_length-le}
use Rattle.src_lines.specs.Places.{Logical, line_at}
use Rattle.tool_check.specs.declared.finding.Finding.{Finding}
use Rattle.tool_check.specs.Findings.{behind, header_finding, is_unknown, unknown_findings}

-- lines that belong to the section before are skipped
skipped : (n : ℕ) (ls : List Logical) → unknown_findings n ls ≡ unknown_findings 0 (drop n ls)
skipped zero ls = refl
skipped (suc n) [] = refl
skipped (suc n) (l ∷ ls) = skipped n ls

chosen : (b : Bool) (l : Logical) (ls : List Logical) → b ≡ true → (if b then header_finding l ∷ [] else unknown_findings (behind l ls) ls) ≡ header_finding l ∷ []
chosen true l ls e = refl
chosen false l ls e = absurd cc

left : (b : Bool) (l : Logical) (ls : List Logical) → b ≡ false → (if b then header_finding l ∷ [] else unknown_findings (behind l ls) ls) ≡ unknown_findings (behind l ls) ls
left true l ls e = absurd cc
left false l ls e = refl

-- a header that is none of the standard is the first one
pub unknown_first : (old new : List Finding) (ls : List Logical) (i : ℕ) → i < length ls → is_unknown (line_at ls i) ≡ true → new ≡ old ++ header_finding (line_at ls i) ∷ []
    → unknown_findings 0 (drop i ls) ≡ unknown_findings 0 ls → new ≡ old ++ unknown_findings 0 ls
unknown_first old new ls i within is e so_far =
    let l = line_at ls i in
    let more = drop (i + 1) ls in
    let first : drop i ls ≡ l ∷ more = drop_more ls i _ within in
    e ∙ ap (λ (xs : List Finding). old ++ xs) (sym (chosen (is_unknown l) l more is) ∙ ap (unknown_findings 0) (sym first) ∙ so_far)

-- behind another line, and the section that it opens, the others are left
pub other_step : (ls : List Logical) (i next : ℕ) → i < length ls → is_unknown (line_at ls i) ≡ false → next ≡ i + 1 + behind (line_at ls i) (drop (i + 1) ls)
    → unknown_findings 0 (drop i ls) ≡ unknown_findings 0 ls → unknown_findings 0 (drop next ls) ≡ unknown_findings 0 ls
other_step ls i next within not_unknown is so_far =
    let l = line_at ls i in
    let more = drop (i + 1) ls in
    let first : drop i ls ≡ l ∷ more = drop_more ls i _ within in
    let count : i + 1 + behind l more ≡ next = sym is in
    let later : unknown_findings 0 (drop next ls) ≡ unknown_findings (behind l more) more =
    sym (skipped (behind l more) more ∙ ap (unknown_findings 0) (drop-drop (behind l more) (i + 1) ls ∙ ap (λ (k : ℕ). drop k ls) count)) in
    later ∙ sym (left (is_unknown l) l more not_unknown) ∙ ap (unknown_findings 0) (sym first) ∙ so_far

-- behind the last line nothing is left
pub at_end : (old new : List Finding) (ls : List Logical) (i : ℕ) → length ls ≤ i → new ≡ old → unknown_findings 0 (drop i ls) ≡ unknown_findings 0 ls → new ≡ old ++ unknown_findings 0 ls
at_end old new ls i over e so_far =
    let none : [] ≡ unknown_findings 0 ls = ap (unknown_findings 0) (sym (drop_of_length-le ls over)) ∙ so_far in
    e ∙ sym (append-nil old) ∙ ap (λ (xs : List Finding). old ++ xs) none
