-- A printed line without its newline.
use Rattle.std.proofs.Common.{◌≡◌, ℕ, ◌-◌, List, [], ◌∷◌, ◌++◌, length, take, slice_index_or, sym, ap, ◌∙◌, append_assoc, length-append, arith}
use Rattle.std.proofs.Math.Seq.{take-append_seam}
use Rattle.script_out.specs.declared.output.OutLine.{OutLine}
use Rattle.script_out.specs.Output.{space, newline, caller_text, places_text, version_text, reply_text, line_text}
use Rattle.std.specs.List.{flat_map}
use Rattle.script_commands.specs.declared.command.Placed.{Placed}
use Rattle.tool_script.specs.Commands.{lines_by_thread, written_in}
use Rattle.tool_script.specs.Explained.{bare_line, explained_line, reason_words, counts_text, explained_text}

line_bare : (names : List (List ℕ)) (l : OutLine) → line_text names l ≡ bare_line names l ++ newline
line_bare names l =
    let outcome : List ℕ = places_text l.places ++ space ++ version_text l.global ++ space ++ reply_text names l.reply in
    sym (append_assoc (caller_text (slice_index_or names l.thread []) l) outcome newline)

-- all bytes but the last
but_last : (front : List ℕ) (c : ℕ) → take (length (front ++ c ∷ []) - 1) (front ++ c ∷ []) ≡ front
but_last front c =
    let n : length (front ++ c ∷ []) - 1 ≡ length front = omega (arith, length-append front (c ∷ [])) in
    ap (λ (k : ℕ). take k (front ++ c ∷ [])) n ∙ take-append_seam front (c ∷ [])

-- a line that was added, and whose newline was taken away
pub bare_added : (names : List (List ℕ)) (l : OutLine) (old added new : List ℕ) (n : ℕ) → added ≡ old ++ line_text names l → n ≡ length added → new ≡ take (n - 1) added → new ≡ old ++ bare_line names l
bare_added names l old added new n by size cut =
    let whole : added ≡ (old ++ bare_line names l) ++ newline = by ∙ ap (λ (xs : List ℕ). old ++ xs) (line_bare names l) ∙ sym (append_assoc old (bare_line names l) newline) in
    cut ∙ ap (λ (k : ℕ). take (k - 1) added) size ∙ ap (λ (xs : List ℕ). take (length xs - 1) xs) whole ∙ but_last (old ++ bare_line names l) 10

-- lines and counts that were added to nothing
pub explained_whole : (names : List (List ℕ)) (commands : List Placed) (text : List ℕ) (lines s1 s2 : List OutLine) (threads : List (List (List ℕ))) (n : ℕ) (words : List (List ℕ)) (out0 out1 out2 result : List ℕ)
    → out0 ≡ [] → s1 ≡ lines → s2 ≡ lines → n ≡ length names → threads ≡ lines_by_thread n (written_in commands text) → words ≡ reason_words
    → out1 ≡ out0 ++ flat_map (explained_line names threads) s1 → out2 ≡ out1 ++ counts_text s2 words → result ≡ out2 → result ≡ explained_text names commands text lines
explained_whole names commands text lines s1 s2 threads n words out0 out1 out2 result e0 e1 e2 en et ew eo1 eo2 er =
    er
    ∙ eo2
    ∙ ap (λ (o : List ℕ). o ++ counts_text s2 words) (eo1 ∙ ap (λ (o : List ℕ). o ++ flat_map (explained_line names threads) s1) e0)
    ∙ ap (λ (s : List OutLine). flat_map (explained_line names threads) s ++ counts_text s2 words) e1
    ∙ ap (λ (s : List OutLine). flat_map (explained_line names threads) lines ++ counts_text s words) e2
    ∙ ap (λ (ws : List (List ℕ)). flat_map (explained_line names threads) lines ++ counts_text lines ws) ew
    ∙ ap (λ (ts : List (List (List ℕ))). flat_map (explained_line names ts) lines ++ counts_text lines reason_words)
    (et ∙ ap (λ (k : ℕ). lines_by_thread k (written_in commands text)) en)
