-- The commands of a thread, one by one.
use Rattle.std.proofs.Common.{◌≡◌, ℕ, ◌+◌, List, [], ◌∷◌, ◌++◌, refl, sym, ap, ◌∙◌, zero-add}
use Rattle.std.specs.Prelude.{◌/◌, ◌%◌, flat_map, slice_index_or}
use Rattle.std.specs.List.{range_with_len}
use Rattle.std.proofs.Math.Numerals.{add-one}
use Rattle.std.proofs.lemmas.List.{map-id, append-nil}
use Rattle.std.proofs.lemmas.List.FromFn.{map-range_with_len_more}
use Rattle.std.proofs.lemmas.Grind.{flat_map-append}
use Rattle.bundle_maker.specs.Generated.{next_number, number_behind, commands_with, drawn_command, own_line, commands_text}

-- the command of a draw, by its row
pub drawn_row : (draw row : ℕ) → draw % 8 ≡ row → drawn_command draw ≡ slice_index_or (commands_with (draw / 8)) row []
unfolding drawn_command
drawn_row draw row is = ap (λ (n : ℕ). slice_index_or (commands_with (draw / 8)) n []) is

-- one number more
range_more : (n : ℕ) → range_with_len 0 (n + 1) ≡ range_with_len 0 n ++ n ∷ []
range_more n =
    sym (map-id (range_with_len 0 (n + 1)))
    ∙ map-range_with_len_more (λ (x : ℕ). x) 0 n n (zero-add n)
    ∙ ap (λ (xs : List ℕ). xs ++ n ∷ []) (map-id (range_with_len 0 n))

-- one piece more
pub pieces_more : (f : ℕ → List ℕ) (n : ℕ) → flat_map f (range_with_len 0 (n + 1)) ≡ flat_map f (range_with_len 0 n) ++ f n
pieces_more f n =
    ap (flat_map f) (range_more n)
    ∙ flat_map-append f (range_with_len 0 n) (n ∷ [])
    ∙ ap (λ (xs : List ℕ). flat_map f (range_with_len 0 n) ++ xs) (append-nil (f n))

-- one step more
pub number_more : (seed n : ℕ) → number_behind seed (n + 1) ≡ next_number (number_behind seed n)
number_more seed n = ap (number_behind seed) (add-one n)

-- one command more
pub commands_more : (seed thread n : ℕ) → commands_text seed (n + 1) thread ≡ commands_text seed n thread ++ own_line thread n (number_behind seed (n + 1))
unfolding commands_text
commands_more seed thread n = pieces_more (λ (i : ℕ). own_line thread i (number_behind seed (i + 1))) n

pub commands_none : (seed thread : ℕ) → commands_text seed 0 thread ≡ []
unfolding commands_text
commands_none seed thread = refl
