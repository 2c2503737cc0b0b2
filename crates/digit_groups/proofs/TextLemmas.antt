-- Texts of formats, measured and written piece by piece.
use Rattle.std.proofs.Common.{◌≡◌, ℕ, ◌+◌, ◌^◌, ◌<◌, ◌≤◌, List, [], ◌∷◌, ◌++◌, length, take, drop, Option, Some, None, Result, Ok, Err, true, false, subst, arith, refl, ap, ◌∙◌, sym}
use Rattle.std.specs.Prelude.{min, nat_lt, option_map}
use Rattle.std.proofs.lemmas.Bool.Decides.{nat_tests}
use Rattle.std.proofs.lemmas.List.{take-append-drop, length-append, length-take, drop-drop, append-nil}
use Rattle.lc_base.specs.declared.refusal.FormatRefusal.{FormatRefusal}
use Rattle.lc_base.specs.declared.refusal.FormatRefusal.TheVariants.{BadFormat, TooBig}
use Rattle.lc_base.specs.Limits.{within}
use Rattle.text_buffer.specs.declared.unwritten.Unwritten.{Unwritten}
use Rattle.text_buffer.specs.declared.unwritten.Unwritten.TheVariants.{Refused}
use Rattle.text_buffer.specs.Written.{over, Written}
use Rattle.text_buffer.proofs.WrittenLemmas.{over_front, take_over, drop_over, length-over, written_refused, is_refused, is_too_long}
use Rattle.digit_groups.specs.declared.piece.Piece.{Piece}
use Rattle.digit_groups.specs.declared.piece.Piece.TheVariants.{Convert}
use Rattle.digit_groups.specs.declared.fault.FormatFault.{FormatFault}
use Rattle.digit_groups.specs.declared.fault.FormatFault.TheVariants.{Stopped, Memory}
use Rattle.digit_groups.specs.declared.fault.FormatStop.{FormatStop}
use Rattle.digit_groups.specs.declared.fault.FormatStop.TheVariants as reasons
use Rattle.digit_groups.specs.Formats.{pieces, followed, good_pieces, values_behind, piece_text, pieces_text, missing, refusal, formatted, unless_refused, at_most, unwritten_of, IsLonger, Stops, Refuses}
use Rattle.digit_groups.proofs.FormatLemmas.{IsWritten, none_written, more_written, piece_fits, no_refusal, all_written}

-- ---- how long a text is

-- what is known of a count of the bytes of a text up to a place of its format, that goes up to a limit
pub record IsMeasured {C V : Type 0} (read : List ℕ → Option (C × ℕ)) (text : C → V → List ℕ) (lacks : ℕ → FormatRefusal) (format : List ℕ) (values : List V) (at : ℕ) (left : List V) (total most : ℕ) : Type 0 where
  pub out : List ℕ
  pub written : IsWritten read text lacks format values at left out
  pub counted : total ≡ min (length out) most

module _ {C V : Type 0} (read : List ℕ → Option (C × ℕ)) (text : C → V → List ℕ) (lacks : ℕ → FormatRefusal) (format : List ℕ) (values : List V) (most : ℕ) where
  pub none_measured : IsMeasured read text lacks format values 0 values 0 most
  none_measured = record { out = []; written = none_written read text lacks format values; counted = omega arith }

  pub more_measured : (at next : ℕ) (left behind : List V) (total more : ℕ) (p : Piece C) → IsMeasured read text lacks format values at left total most →
      pieces read 0 at (drop at format) ≡ followed (at, p) (pieces read 0 next (drop next format)) →
      refusal lacks (pieces read 0 at (drop at format)) (length left) ≡ refusal lacks (pieces read 0 next (drop next format)) (length (values_behind p left)) →
      behind ≡ values_behind p left → more ≡ min (total + length (piece_text text p left)) most → IsMeasured read text lacks format values next behind more most
  more_measured at next left behind total more p m here same is added =
      let all : length (m.out ++ piece_text text p left) ≡ length m.out + length (piece_text text p left) = length-append m.out (piece_text text p left) in
      let size : total ≡ min (length m.out) most = m.counted in
      record {
        out = m.out ++ piece_text text p left;
        written = more_written read text lacks format values at next left m.out p m.written here behind (m.out ++ piece_text text p left) same is refl;
        counted = omega (arith, all, size, added);
      }

  pub all_accepted : (at : ℕ) (left : List V) (total : ℕ) → IsMeasured read text lacks format values at left total most → length format ≤ at → refusal lacks (pieces read 0 0 format) (length values) ≡ None
  all_accepted at left total m over = no_refusal read text lacks format values at left m.out m.written over

  pub all_measured : (at : ℕ) (left : List V) (total : ℕ) → IsMeasured read text lacks format values at left total most → length format ≤ at → total ≡ min (length (pieces_text text (good_pieces (pieces read 0 0 format)) values)) most
  all_measured at left total m over = m.counted ∙ ap (λ t. min (length t) most) (sym (all_written read text lacks format values at left m.out m.written over))

-- ---- a text over the bytes of a buffer

-- what is known of a buffer with a text up to a place of its format: it ends there
pub record IsPut {C V : Type 0} (read : List ℕ → Option (C × ℕ)) (text : C → V → List ℕ) (lacks : ℕ → FormatRefusal) (format : List ℕ) (values : List V) (at : ℕ) (left : List V) (old target : List ℕ) (end : ℕ) : Type 0 where
  pub written : IsWritten read text lacks format values at left (take end target)
  pub behind : drop end target ≡ drop end old
  pub fits : end ≤ length target

module _ {C V : Type 0} (read : List ℕ → Option (C × ℕ)) (text : C → V → List ℕ) (lacks : ℕ → FormatRefusal) (format : List ℕ) (values : List V) (old : List ℕ) where
  pub none_put : IsPut read text lacks format values 0 values old old 0
  none_put = record { written = none_written read text lacks format values; behind = refl; fits = omega arith }

  module _ (at next : ℕ) (left : List V) (target : List ℕ) (end : ℕ) (p : Piece C) (w : IsPut read text lacks format values at left old target end)
      (here : pieces read 0 at (drop at format) ≡ followed (at, p) (pieces read 0 next (drop next format))) where
    pub piece_room : refusal lacks (pieces read 0 0 format) (length values) ≡ None → length (pieces_text text (good_pieces (pieces read 0 0 format)) values) ≤ length target → end + length (piece_text text p left) ≤ length target
    piece_room good fits =
        let size : length (take end target) ≡ end = omega (arith, length-take end target, w.fits) in
        omega (arith, size, piece_fits read text lacks format values at next left (take end target) p w.written here (length target) good fits)

    pub more_put : (behind : List V) (new : List ℕ) (stop : ℕ) → end + length (piece_text text p left) ≤ length target →
        refusal lacks (pieces read 0 at (drop at format)) (length left) ≡ refusal lacks (pieces read 0 next (drop next format)) (length (values_behind p left)) →
        behind ≡ values_behind p left → stop ≡ end + length (piece_text text p left) → new ≡ over target end (piece_text text p left) → IsPut read text lacks format values next behind old new stop
    more_put behind new stop room same is ends put = record {
      written = more_written read text lacks format values at next left (take end target) p w.written here behind (take stop new) same is
          (ap (λ n. take n new) ends ∙ ap (λ t. take (end + length (piece_text text p left)) t) put ∙ take_over target end (piece_text text p left) w.fits);
      behind = ap (λ n. drop n new) ends ∙ ap (λ t. drop (end + length (piece_text text p left)) t) put ∙ drop_over target end (piece_text text p left) w.fits
          ∙ sym (drop-drop (length (piece_text text p left)) end target) ∙ ap (λ t. drop (length (piece_text text p left)) t) w.behind ∙ drop-drop (length (piece_text text p left)) end old ∙ ap (λ n. drop n old) (sym ends);
      fits = omega (arith, ends, room, ap length put, length-over target end (piece_text text p left) room);
    }

  pub all_put : (at : ℕ) (left : List V) (target : List ℕ) (end : ℕ) → IsPut read text lacks format values at left old target end → length format ≤ at → target ≡ over old 0 (pieces_text text (good_pieces (pieces read 0 0 format)) values)
  all_put at left target end w over_all =
      let whole : List ℕ = pieces_text text (good_pieces (pieces read 0 0 format)) values in
      let is : whole ≡ take end target = all_written read text lacks format values at left (take end target) w.written over_all in
      let size : end ≡ length whole = omega (arith, ap length is, length-take end target, w.fits) in
      sym (take-append-drop end target) ∙ ap (λ t. t ++ drop end target) (sym is) ∙ ap (λ t. whole ++ t) (w.behind ∙ ap (λ n. drop n old) size) ∙ sym (over_front old whole)

-- ---- a format that is one conversion

pub one_formatted : {C V : Type 0} (read : List ℕ → Option (C × ℕ)) (text : C → V → List ℕ) (lacks : ℕ → FormatRefusal) (format : List ℕ) (values : List V) (c : C) (v : V) (rest : List V) →
    pieces read 0 0 format ≡ Ok ((0, Convert c) ∷ []) → values ≡ v ∷ rest → formatted read text lacks format values ≡ Ok (text c v)
unfolding pieces_text missing
one_formatted read text lacks format values c v rest is some = rw (is, some) (ap (λ t. Ok t) (append-nil (text c v)))

-- ---- refusals

pub stopped : (old : List ℕ) (u : Unwritten) (r : Option FormatRefusal) (text : List ℕ) → Some u ≡ option_map (λ why. Refused why) r → Written old old (Err u) (unless_refused r text)
stopped old u None text e = cc
stopped old u (Some why) text e =
    let is : u ≡ Refused why = cc in
    let P : Unwritten → Type 0 = λ z. Written old old (Err z) (Err why) in
    subst P (sym is) (written_refused old old why (Err why) refl refl)

pub accepted : (r : Option FormatRefusal) (text : List ℕ) → r ≡ None → unless_refused r text ≡ Ok text
accepted r text e = ap (λ o. unless_refused o text) e

-- ---- answers

within_fits : (max_len : ℕ) (text : List ℕ) → length text ≤ max_len → within max_len text ≡ Ok text
within_fits max_len text fits = let no : nat_lt max_len (length text) ≡ false = grind (arith, nat_tests) in rw no refl

within_long : (max_len : ℕ) (text : List ℕ) → max_len < length text → within max_len text ≡ Err TooBig
within_long max_len text long = let yes : nat_lt max_len (length text) ≡ true = grind (arith, nat_tests) in rw yes refl

-- a text that is longer than its limit
pub too_big : (max_len room needed : ℕ) (answer : Result (List ℕ) FormatRefusal) → IsLonger room needed answer → max_len < needed → at_most max_len answer ≡ Err TooBig
too_big max_len room needed (Ok text) longer large = within_long max_len text (omega (arith, longer.1, large))
too_big max_len room needed (Err why) longer large = absurd longer

-- what is told at its own length is told of no text that has at most so many bytes
pub too_big_still : (max_len room needed more : ℕ) (answer : Result (List ℕ) FormatRefusal) → IsLonger room needed answer → IsLonger needed more answer → max_len < 2 ^ 64 → at_most max_len answer ≡ Err TooBig
too_big_still max_len room needed more (Ok text) longer still few = within_long max_len text (omega (arith, longer.1, still.0, few))
too_big_still max_len room needed more (Err why) longer still few = absurd longer

pub answer_fits : (max_len : ℕ) (answer : Result (List ℕ) FormatRefusal) (text : List ℕ) → answer ≡ Ok text → length text ≤ max_len → at_most max_len answer ≡ Ok text
answer_fits max_len answer text is fits = ap (λ a. at_most max_len a) is ∙ within_fits max_len text fits

pub stays_refused : (max_len : ℕ) (answer : Result (List ℕ) FormatRefusal) (why : FormatRefusal) → answer ≡ Err why → at_most max_len answer ≡ Err why
stays_refused max_len answer why is = ap (λ a. at_most max_len a) is

-- the stop of a call on a buffer
pub stops : (lacks : ℕ → FormatRefusal) (old new : List ℕ) (stop : FormatStop) (answer : Result (List ℕ) FormatRefusal) → Written old new (Err (unwritten_of lacks stop)) answer → Stops lacks (length old) (Stopped stop) answer
stops lacks old new (reasons.BadFormat at) answer w = (is_refused old new (BadFormat at) answer w).0
stops lacks old new (reasons.MissingValue at) answer w = (is_refused old new (lacks at) answer w).0
stops lacks old new (reasons.TooSmall needed) answer w =
    let t = is_too_long old new needed answer w in
    let P : Result (List ℕ) FormatRefusal → Type 0 = λ a. IsLonger (length old) needed a in
    subst P (sym t.is) (t.long, t.told)

-- a fault after room was made for the text that was too long
pub refuses_still : (lacks : ℕ → FormatRefusal) (max_len room needed : ℕ) (fault : FormatFault) (answer : Result (List ℕ) FormatRefusal) → IsLonger room needed answer → Stops lacks needed fault answer → max_len < 2 ^ 64 → Refuses lacks fault (at_most max_len answer)
refuses_still lacks max_len room needed (Stopped (reasons.BadFormat at)) answer longer s few = stays_refused max_len answer (BadFormat at) s
refuses_still lacks max_len room needed (Stopped (reasons.MissingValue at)) answer longer s few = stays_refused max_len answer (lacks at) s
refuses_still lacks max_len room needed (Stopped (reasons.TooSmall more)) answer longer s few = too_big_still max_len room needed more answer longer s few
refuses_still lacks max_len room needed Memory answer longer s few = tt
