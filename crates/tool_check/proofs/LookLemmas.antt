-- What is looked at, line after line.
use Rattle.std.proofs.Common.{◌≡◌, ℕ, zero, ◌||◌, Bool, true, false, List, [], ◌∷◌, ◌++◌, length, drop, Some, None, unwrap_or, refl, ap, ◌∙◌, suc, append-nil, if◌then◌else◌}
use Rattle.std.specs.List.{flat_map, list_any, starts_with}
use Rattle.std.specs.Prelude.{nat_eq}
use Rattle.lc_base.specs.Lines.{is_newline, onto_first, lines_of, ended}
use Rattle.lc_base.proofs.LineLemmas.{lines_of-ended}
use Rattle.tool_check.specs.declared.looks.Look.{Look}
use Rattle.tool_check.specs.declared.looks.Passed.{Passed}
use Rattle.tool_check.specs.Texts.{from_mark}
use Rattle.tool_check.specs.Looks.{at_first, behind_line, is_kept, kept_line, lines_alone, seen_line, text_alone}

-- no line has a newline
abbrev AreBare : List (List ℕ) → Type 0
AreBare [] = Unit {0}
AreBare (line ∷ lines) = (list_any is_newline line ≡ false) × AreBare lines

onto_bare : (c : ℕ) (lines : List (List ℕ)) → is_newline c ≡ false → AreBare lines → AreBare (onto_first c lines)
onto_bare c [] e bare = (rw e refl, tt)
onto_bare c (line ∷ lines) e bare = (rw e bare.0, bare.1)

one_more_bare : (b : Bool) (c : ℕ) (lines : List (List ℕ)) → is_newline c ≡ b → AreBare lines → AreBare (if b then [] ∷ lines else onto_first c lines)
one_more_bare true c lines e bare = (refl, bare)
one_more_bare false c lines e bare = onto_bare c lines e bare

-- the lines of a text have none
lines_bare : (text : List ℕ) → AreBare (lines_of text)
lines_bare [] = tt
lines_bare (c ∷ cs) = one_more_bare (is_newline c) c (lines_of cs) refl (lines_bare cs)

chosen_bare : (b : Bool) (line : List ℕ) → list_any is_newline line ≡ false → list_any is_newline (kept_line b line) ≡ false
chosen_bare true line bare = bare
chosen_bare false line bare = refl

or_false : (a b : Bool) → (a || b) ≡ false → (a ≡ false) × (b ≡ false)
or_false true b e = absurd cc
or_false false b e = (refl, e)

dropped_bare : (n : ℕ) (line : List ℕ) → list_any is_newline line ≡ false → list_any is_newline (drop n line) ≡ false
dropped_bare zero line bare = bare
dropped_bare (suc n) [] bare = refl
dropped_bare (suc n) (c ∷ line) bare = dropped_bare n line (or_false (is_newline c) (list_any is_newline line) bare).1

-- a line without a mark
abbrev unmarked : Bool → List ℕ → List ℕ
unmarked b line = unwrap_or (if b then Some (drop 3 line) else None) line

unmarked_bare : (b : Bool) (line : List ℕ) → list_any is_newline line ≡ false → list_any is_newline (unmarked b line) ≡ false
unmarked_bare true line bare = dropped_bare 3 line bare
unmarked_bare false line bare = bare

from_mark_bare : (line : List ℕ) → list_any is_newline line ≡ false → list_any is_newline (from_mark line) ≡ false
from_mark_bare line bare = unmarked_bare (starts_with nat_eq line (239 ∷ 187 ∷ 191 ∷ [])) line bare

either_bare : (b : Bool) (line : List ℕ) → list_any is_newline line ≡ false → list_any is_newline (if b then line else from_mark line) ≡ false
either_bare true line bare = bare
either_bare false line bare = from_mark_bare line bare

alone_bare : (look : Look) (p : Passed) (lines : List (List ℕ)) → AreBare lines → AreBare (lines_alone look p lines)
alone_bare look p [] bare = tt
alone_bare look p (line ∷ lines) bare =
    let seen = seen_line p line in
    (chosen_bare (is_kept look p seen) seen (either_bare p.is_inside line bare.0), alone_bare look (behind_line look p seen) lines bare.1)

-- lines that are written each with its newline are read back
lines_back : (lines : List (List ℕ)) → AreBare lines → lines_of (flat_map ended lines) ≡ lines
lines_back [] bare = refl
lines_back (line ∷ lines) bare = lines_of-ended line (flat_map ended lines) bare.0 ∙ ap (λ (more : List (List ℕ)). line ∷ more) (lines_back lines bare.1)

pub lines_of-alone : (look : Look) (text : List ℕ) → lines_of (text_alone look text) ≡ lines_alone look at_first (lines_of text)
lines_of-alone look text = lines_back _ (alone_bare look at_first (lines_of text) (lines_bare text))

as_many : (look : Look) (p : Passed) (lines : List (List ℕ)) → length (lines_alone look p lines) ≡ length lines
as_many look p [] = refl
as_many look p (line ∷ lines) = ap suc (as_many look (behind_line look p (seen_line p line)) lines)

-- no line is lost
pub length-alone : (look : Look) (text : List ℕ) → length (lines_of (text_alone look text)) ≡ length (lines_of text)
length-alone look text = ap length (lines_of-alone look text) ∙ as_many look at_first (lines_of text)

-- a text of which all lines were taken
pub alone_end : (look : Look) (p : Passed) (front rest : List ℕ) → rest ≡ [] → front ++ flat_map ended (lines_alone look p (lines_of rest)) ≡ front
alone_end look p front rest e = ap (λ (xs : List ℕ). front ++ flat_map ended (lines_alone look p (lines_of xs))) e ∙ append-nil front
