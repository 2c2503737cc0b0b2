-- Commands as they are written, one after another.
use Rattle.std.proofs.Common.{◌≡◌, ℕ, ◌+◌, List, [], ◌∷◌, ◌++◌, map, refl, sym, ap, ◌∙◌, add-one}
use Rattle.std.specs.Borrow.{Bor}
use Rattle.std.specs.declared.vec.Vec.{Vec}
use Rattle.std.specs.Prelude.{Bool}
use Rattle.std.proofs.lemmas.List.{map-append, append-nil}
use Rattle.lc_base.specs.Lines.{lines_of}
use Rattle.script_commands.specs.declared.command.Placed.{Placed}
use Rattle.tool_script.specs.Commands.{Written, command_lines, written, lines_of_thread, lines_by_thread, line_seen, lines_seen}

-- beside no lines stand no commands
written-none : (ps : List Placed) → written ps [] ≡ []
written-none [] = refl
written-none (p ∷ ps) = refl

pub written_end : (front : List Written) (ps : List Placed) (inside : Bool) (rest : List ℕ) → rest ≡ [] → front ++ written ps (command_lines inside (lines_of rest)) ≡ front
written_end front ps inside rest e =
    ap (λ (xs : List ℕ). front ++ written ps (command_lines inside (lines_of xs))) e ∙ ap (λ (ws : List Written). front ++ ws) (written-none ps) ∙ append-nil front

-- the lines of one more thread
pub one_more_thread : {A : Type 0} (n : ℕ) (ws : List Written) (threads more : List (Vec (Bor (List ℕ)) A)) (lines : Vec (Bor (List ℕ)) A)
    → map lines_seen threads ≡ lines_by_thread n ws → map line_seen lines.items ≡ lines_of_thread n ws → more ≡ threads ++ lines ∷ [] → map lines_seen more ≡ lines_by_thread (n + 1) ws
one_more_thread n ws threads more lines before those e =
    ap (map lines_seen) e
    ∙ map-append lines_seen threads (lines ∷ [])
    ∙ ap (λ (xs : List (List (List ℕ))). xs ++ lines_seen lines ∷ []) before
    ∙ ap (λ (xs : List (List ℕ)). lines_by_thread n ws ++ xs ∷ []) those
    ∙ ap (λ (k : ℕ). lines_by_thread k ws) (sym (add-one n))
