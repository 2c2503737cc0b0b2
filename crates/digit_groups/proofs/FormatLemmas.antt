-- Formats with their values, one piece after another.
use Rattle.std.proofs.Common.{◌≡◌, ℕ, suc, zero, ◌+◌, ◌-◌, ◌<◌, ◌≤◌, List, [], ◌∷◌, ◌++◌, length, take, drop, get_or, Option, Some, None, Result, Ok, Err, Bool, true, arith, refl, ap, ◌∙◌, sym}
use Rattle.std.specs.Prelude.{option_map}
use Rattle.std.specs.List.{list_all}
use Rattle.std.proofs.lemmas.Grind.{common_steps}
use Rattle.std.proofs.Math.Seq.{drop-cons}
use Rattle.std.proofs.lemmas.List.{take_rest, drop-drop, drop_all, length-append, append-nil, append_assoc}
use Rattle.digit_groups.specs.declared.piece.Piece.{Piece}
use Rattle.digit_groups.specs.declared.piece.Piece.TheVariants.{Literal, Convert}
use Rattle.lc_base.specs.declared.refusal.FormatRefusal.{FormatRefusal}
use Rattle.lc_base.specs.declared.refusal.FormatRefusal.TheVariants.{BadFormat}
use Rattle.digit_groups.specs.Formats.{piece, pieces, followed, good_pieces, values_behind, piece_text, pieces_text, missing, refusal, refusal_behind}

-- the bytes from a place on
pub from_index : (bs : List ℕ) (at : ℕ) → at < length bs → drop at bs ≡ get_or bs at 0 ∷ take (length bs - (at + 1)) (drop (at + 1) bs)
from_index bs at lt =
    let one : suc at ≡ at + 1 = omega arith in
    drop-cons bs at 0 lt ∙ ap (λ n. get_or bs at 0 ∷ drop n bs) one ∙ ap (λ t. get_or bs at 0 ∷ t) (sym (take_rest bs (at + 1)))

-- ---- pieces

module _ {C : Type 0} (read : List ℕ → Option (C × ℕ)) where
  pieces_skip : (k at : ℕ) (bs : List ℕ) → pieces read k at bs ≡ pieces read 0 (at + k) (drop k bs)
  unfolding pieces
  pieces_skip zero at bs = ap (λ n. pieces read 0 n bs) (omega arith)
  pieces_skip (suc k) at [] = refl
  pieces_skip (suc k) at (c ∷ cs) = pieces_skip k (at + 1) cs ∙ ap (λ n. pieces read 0 n (drop k cs)) (omega arith)

  pub piece_bad : (bs : List ℕ) (at : ℕ) → at < length bs → piece read (get_or bs at 0) (take (length bs - (at + 1)) (drop (at + 1) bs)) ≡ None → pieces read 0 at (drop at bs) ≡ Err at
  unfolding pieces
  piece_bad bs at lt e = ap (λ t. pieces read 0 at t) (from_index bs at lt) ∙ rw (e, pieces) refl

  pub piece_more : (bs : List ℕ) (at used : ℕ) (p : Piece C) → at < length bs → piece read (get_or bs at 0) (take (length bs - (at + 1)) (drop (at + 1) bs)) ≡ Some (p, used) →
      pieces read 0 at (drop at bs) ≡ followed (at, p) (pieces read 0 (at + (1 + used)) (drop (at + (1 + used)) bs))
  unfolding pieces
  piece_more bs at used p lt e =
      let tail : List ℕ = take (length bs - (at + 1)) (drop (at + 1) bs) in
      ap (λ t. pieces read 0 at t) (from_index bs at lt)
      ∙ rw (e, pieces) (ap (λ r. followed (at, p) r)
      (pieces_skip used (at + 1) tail
      ∙ ap (λ n. pieces read 0 n (drop used tail)) (omega arith)
      ∙ ap (λ t. pieces read 0 (at + (1 + used)) t) (ap (λ t. drop used t) (take_rest bs (at + 1)) ∙ drop-drop used (at + 1) bs ∙ ap (λ n. drop n bs) (omega arith))))

  pub pieces_over : (bs : List ℕ) (at : ℕ) → length bs ≤ at → pieces read 0 at (drop at bs) ≡ Ok []
  unfolding pieces
  pieces_over bs at ge = ap (λ t. pieces read 0 at t) (drop_all at bs ge)

-- ---- refusals

bad_behind : (C : Type 0) (lacks : ℕ → FormatRefusal) (lacking : Option ℕ) (at n : ℕ) → refusal_behind {C = C} lacks lacking (Err at) n ≡ Some (BadFormat at)
bad_behind C lacks None at n = refl
bad_behind C lacks (Some place) at n = refl

pub refusal_literal : {C : Type 0} (lacks : ℕ → FormatRefusal) (lacking : Option ℕ) (at b n : ℕ) (r : Result (List (ℕ × Piece C)) ℕ) → refusal_behind lacks lacking (followed (at, Literal b) r) n ≡ refusal_behind lacks lacking r n
unfolding missing
refusal_literal lacks None at b n (Ok ps) = refl
refusal_literal lacks (Some place) at b n (Ok ps) = refl
refusal_literal lacks None at b n (Err e) = refl
refusal_literal lacks (Some place) at b n (Err e) = refl

pub refusal_value : {C : Type 0} (lacks : ℕ → FormatRefusal) (lacking : Option ℕ) (at n : ℕ) (c : C) (r : Result (List (ℕ × Piece C)) ℕ) → 0 < n → refusal_behind lacks lacking (followed (at, Convert c) r) n ≡ refusal_behind lacks lacking r (n - 1)
unfolding missing
refusal_value lacks lacking at zero c r some = absurd (omega arith)
refusal_value lacks None at (suc n) c (Ok ps) some = ap (λ k. option_map lacks (missing ps k)) (omega arith)
refusal_value lacks (Some place) at (suc n) c (Ok ps) some = refl
refusal_value lacks None at (suc n) c (Err e) some = refl
refusal_value lacks (Some place) at (suc n) c (Err e) some = refl

-- once a value lacks the count of what is left does not matter
pub refusal_lacking : {C : Type 0} (lacks : ℕ → FormatRefusal) (place at n m : ℕ) (p : Piece C) (r : Result (List (ℕ × Piece C)) ℕ) → refusal_behind lacks (Some place) (followed (at, p) r) n ≡ refusal_behind lacks (Some place) r m
refusal_lacking lacks place at n m p (Ok ps) = refl
refusal_lacking lacks place at n m p (Err e) = refl

pub refusal_missing : {C : Type 0} (lacks : ℕ → FormatRefusal) (at : ℕ) (c : C) (r : Result (List (ℕ × Piece C)) ℕ) (m : ℕ) → refusal_behind lacks None (followed (at, Convert c) r) 0 ≡ refusal_behind lacks (Some at) r m
unfolding missing
refusal_missing lacks at c (Ok ps) m = refl
refusal_missing lacks at c (Err e) m = refl

over_behind : (C : Type 0) (lacks : ℕ → FormatRefusal) (lacking : Option ℕ) (n : ℕ) → refusal_behind {C = C} lacks lacking (Ok []) n ≡ option_map lacks lacking
unfolding missing
over_behind C lacks None n = refl
over_behind C lacks (Some place) n = refl

module _ {C : Type 0} (read : List ℕ → Option (C × ℕ)) (lacks : ℕ → FormatRefusal) where
  pub refusal_bad : (lacking : Option ℕ) (n : ℕ) (bs : List ℕ) (at : ℕ) → at < length bs → piece read (get_or bs at 0) (take (length bs - (at + 1)) (drop (at + 1) bs)) ≡ None → refusal_behind lacks lacking (pieces read 0 at (drop at bs)) n ≡ Some (BadFormat at)
  refusal_bad lacking n bs at lt e = ap (λ r. refusal_behind lacks lacking r n) (piece_bad read bs at lt e) ∙ bad_behind C lacks lacking at n

  pub refusal_more : (lacking behind : Option ℕ) (n m : ℕ) (bs : List ℕ) (at used : ℕ) (p : Piece C) → at < length bs → piece read (get_or bs at 0) (take (length bs - (at + 1)) (drop (at + 1) bs)) ≡ Some (p, used) →
      ((r : Result (List (ℕ × Piece C)) ℕ) → refusal_behind lacks lacking (followed (at, p) r) n ≡ refusal_behind lacks behind r m) →
      refusal_behind lacks lacking (pieces read 0 at (drop at bs)) n ≡ refusal_behind lacks behind (pieces read 0 (at + (1 + used)) (drop (at + (1 + used)) bs)) m
  refusal_more lacking behind n m bs at used p lt e same = ap (λ r. refusal_behind lacks lacking r n) (piece_more read bs at used p lt e) ∙ same (pieces read 0 (at + (1 + used)) (drop (at + (1 + used)) bs))

  pub refusal_over : (lacking : Option ℕ) (n : ℕ) (bs : List ℕ) (at : ℕ) → length bs ≤ at → refusal_behind lacks lacking (pieces read 0 at (drop at bs)) n ≡ option_map lacks lacking
  refusal_over lacking n bs at ge = ap (λ r. refusal_behind lacks lacking r n) (pieces_over read bs at ge) ∙ over_behind C lacks lacking n

-- a piece whose value is there leaves the refusal of what stands behind it
pub refusal_copied : {C : Type 0} (lacks : ℕ → FormatRefusal) (at b n : ℕ) (r : Result (List (ℕ × Piece C)) ℕ) → refusal lacks (followed (at, Literal b) r) n ≡ refusal lacks r n
unfolding missing
refusal_copied lacks at b n (Ok ps) = refl
refusal_copied lacks at b n (Err e) = refl

pub refusal_there : {C V : Type 0} (lacks : ℕ → FormatRefusal) (at : ℕ) (c : C) (r : Result (List (ℕ × Piece C)) ℕ) (values : List V) → 1 ≤ length values → refusal lacks (followed (at, Convert c) r) (length values) ≡ refusal lacks r (length (values_behind (Convert c) values))
unfolding missing
refusal_there lacks at c r [] some = absurd (omega arith)
refusal_there lacks at c (Ok ps) (v ∷ values) some = refl
refusal_there lacks at c (Err e) (v ∷ values) some = refl

pub refusal_none_left : {C V : Type 0} (lacks : ℕ → FormatRefusal) (at : ℕ) (c : C) (r : Result (List (ℕ × Piece C)) ℕ) (values : List V) → length values < 1 → refusal lacks (followed (at, Convert c) r) (length values) ≡ None → ⊥
unfolding missing
refusal_none_left lacks at c (Ok ps) [] none e = cc
refusal_none_left lacks at c (Err place) [] none e = cc
refusal_none_left lacks at c r (v ∷ values) none e = absurd (omega arith)

-- nothing is refused where no byte is left
refusal_at_end : (C : Type 0) (lacks : ℕ → FormatRefusal) (n : ℕ) → refusal {C = C} lacks (Ok []) n ≡ None
unfolding missing
refusal_at_end C lacks n = refl

-- ---- texts

text_of_piece : {C V : Type 0} (lacks : ℕ → FormatRefusal) (text : C → V → List ℕ) (at n : ℕ) (p : Piece C) (r : Result (List (ℕ × Piece C)) ℕ) (values : List V) → refusal lacks (followed (at, p) r) n ≡ None →
    pieces_text text (good_pieces (followed (at, p) r)) values ≡ piece_text text p values ++ pieces_text text (good_pieces r) (values_behind p values)
unfolding pieces_text
text_of_piece lacks text at n p (Ok ps) values good = refl
text_of_piece lacks text at n p (Err e) values good = cc

-- what a piece leaves of values that can be converted can be converted
pub values_stay : {C V : Type 0} (is_value : V → Bool) (p : Piece C) (values : List V) → list_all is_value values ≡ true → list_all is_value (values_behind p values) ≡ true
values_stay is_value (Literal b) values all = all
values_stay is_value (Convert c) [] all = all
values_stay is_value (Convert c) (v ∷ values) all = grind (arith, common_steps)

-- ---- a text that is written piece by piece

-- what is known of a text at a place of its format, with so many values left: what stands there of both makes the rest of it
pub record IsWritten {C V : Type 0} (read : List ℕ → Option (C × ℕ)) (text : C → V → List ℕ) (lacks : ℕ → FormatRefusal) (format : List ℕ) (values : List V) (at : ℕ) (left : List V) (out : List ℕ) : Type 0 where
  pub same : refusal lacks (pieces read 0 0 format) (length values) ≡ refusal lacks (pieces read 0 at (drop at format)) (length left)
  pub rest : refusal lacks (pieces read 0 0 format) (length values) ≡ None → pieces_text text (good_pieces (pieces read 0 0 format)) values ≡ out ++ pieces_text text (good_pieces (pieces read 0 at (drop at format))) left

module _ {C V : Type 0} (read : List ℕ → Option (C × ℕ)) (text : C → V → List ℕ) (lacks : ℕ → FormatRefusal) (format : List ℕ) (values : List V) where
  pub none_written : IsWritten read text lacks format values 0 values []
  none_written = record { same = refl; rest = λ good. refl }

module _ {C V : Type 0} (read : List ℕ → Option (C × ℕ)) (text : C → V → List ℕ) (lacks : ℕ → FormatRefusal) (format : List ℕ) (values : List V) (at next : ℕ) (left : List V) (out : List ℕ) (p : Piece C)
    (w : IsWritten read text lacks format values at left out) (here : pieces read 0 at (drop at format) ≡ followed (at, p) (pieces read 0 next (drop next format))) where
  -- the text from this piece on
  from_piece : refusal lacks (pieces read 0 0 format) (length values) ≡ None →
      pieces_text text (good_pieces (pieces read 0 0 format)) values ≡ out ++ (piece_text text p left ++ pieces_text text (good_pieces (pieces read 0 next (drop next format))) (values_behind p left))
  from_piece good =
      let good_here : refusal lacks (followed (at, p) (pieces read 0 next (drop next format))) (length left) ≡ None = sym (ap (λ r. refusal lacks r (length left)) here) ∙ (sym w.same ∙ good) in
      w.rest good
      ∙ ap (λ r. out ++ pieces_text text (good_pieces r) left) here
      ∙ ap (λ t. out ++ t) (text_of_piece lacks text at (length left) p (pieces read 0 next (drop next format)) left good_here)

  pub more_written : (behind : List V) (more : List ℕ) → refusal lacks (pieces read 0 at (drop at format)) (length left) ≡ refusal lacks (pieces read 0 next (drop next format)) (length (values_behind p left)) →
      behind ≡ values_behind p left → more ≡ out ++ piece_text text p left → IsWritten read text lacks format values next behind more
  more_written behind more same is added = record {
    same = w.same ∙ same ∙ ap (λ l. refusal lacks (pieces read 0 next (drop next format)) (length l)) (sym is);
    rest = λ good.
        from_piece good
        ∙ sym (append_assoc out (piece_text text p left) (pieces_text text (good_pieces (pieces read 0 next (drop next format))) (values_behind p left)))
        ∙ ap (λ t. t ++ pieces_text text (good_pieces (pieces read 0 next (drop next format))) (values_behind p left)) (sym added)
        ∙ ap (λ l. more ++ pieces_text text (good_pieces (pieces read 0 next (drop next format))) l) (sym is);
  }

  -- there is room for this piece where there is room for the whole text
  pub piece_fits : (most : ℕ) → refusal lacks (pieces read 0 0 format) (length values) ≡ None → length (pieces_text text (good_pieces (pieces read 0 0 format)) values) ≤ most →
      length out + length (piece_text text p left) ≤ most
  piece_fits most good fits =
      let tail : List ℕ = pieces_text text (good_pieces (pieces read 0 next (drop next format))) (values_behind p left) in
      omega (arith, ap length (from_piece good), length-append out (piece_text text p left ++ tail), length-append (piece_text text p left) tail)

module _ {C V : Type 0} (read : List ℕ → Option (C × ℕ)) (text : C → V → List ℕ) (lacks : ℕ → FormatRefusal) (format : List ℕ) (values : List V) (at : ℕ) (left : List V) (out : List ℕ)
    (w : IsWritten read text lacks format values at left out) (over : length format ≤ at) where
  -- a format of which nothing is left is not refused
  pub no_refusal : refusal lacks (pieces read 0 0 format) (length values) ≡ None
  no_refusal = w.same ∙ ap (λ r. refusal lacks r (length left)) (pieces_over read format at over) ∙ refusal_at_end C lacks (length left)

  pub all_written : pieces_text text (good_pieces (pieces read 0 0 format)) values ≡ out
  unfolding pieces_text
  all_written = w.rest no_refusal ∙ ap (λ r. out ++ pieces_text text (good_pieces r) left) (pieces_over read format at over) ∙ append-nil out
