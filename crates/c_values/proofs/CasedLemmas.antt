-- Texts in a case, character by character.
use Rattle.std.proofs.Common.{◌≡◌, ℕ, ◌+◌, ◌-◌, ◌^◌, ◌<◌, ◌≤◌, List, [], ◌∷◌, ◌++◌, length, take, drop, Bool, true, false, refl, IsUtf8, encode_utf8, sym, ap, ◌∙◌, arith}
use Rattle.std.specs.Prelude.{min}
use Rattle.std.proofs.lemmas.List.{append_assoc, append-nil, drop-drop, length-append, length-take-le}
use Rattle.std.proofs.lemmas.Str.{chars_past_char, IsUtf8-from_is_utf8}
use Rattle.std.specs.Str.{is_utf8}
use Rattle.text_buffer.specs.Written.{over}
use Rattle.text_buffer.proofs.WrittenLemmas.{length-over, take_over, drop_over}
use Rattle.c_values.specs.Answers.{filled}
use Rattle.c_values.specs.Cased.{cased_char, cased_chars, cased_text, length_told}

-- a character and what follows it
pub next_text : (pairs : List (ℕ × ℕ)) (bs rest : List ℕ) (c : ℕ) → IsUtf8 bs → bs ≡ encode_utf8 c ++ rest → cased_text pairs bs ≡ encode_utf8 (cased_char pairs c) ++ cased_text pairs rest
next_text pairs bs rest c utf8 parts = ap (λ cs. cased_chars pairs cs) (chars_past_char bs rest c utf8 parts)

-- the length of a text and of what follows it
pub more_told : (n k m : ℕ) (whole piece rest : List ℕ) → whole ≡ piece ++ rest → k ≡ length piece → m ≡ min (n + k) (2 ^ 64 - 1) → length_told (m + length rest) ≡ length_told (n + length whole)
more_told n k m whole piece rest parts size sum =
    let all : length whole ≡ length piece + length rest = ap (λ t. length t) parts ∙ length-append piece rest in
    omega (arith, all, size, sum)

-- a text that is not UTF-8
pub not_utf8 : (bs : List ℕ) → ¬ (IsUtf8 bs) → is_utf8 bs ≡ false
not_utf8 bs denied = told (is_utf8 bs) refl where
  told : (b : Bool) → is_utf8 bs ≡ b → is_utf8 bs ≡ false
  told true e = absurd (denied (IsUtf8-from_is_utf8 bs e))
  told false e = e

-- ---- characters written one behind the other

-- how many bytes were written and are still to be written
split_size : (buffer : List ℕ) (end : ℕ) (whole all : List ℕ) → take end buffer ++ whole ≡ all → end ≤ length buffer → end + length whole ≡ length all
split_size buffer end whole all parts fits =
    ap (λ n. n + length whole) (sym (length-take-le end buffer fits)) ∙ sym (length-append (take end buffer) whole) ∙ ap (λ t. length t) parts

-- the next one has room
pub has_room : (buffer : List ℕ) (end : ℕ) (piece rest whole all text : List ℕ) → take end buffer ++ whole ≡ all → whole ≡ piece ++ rest → text ≡ piece → end ≤ length buffer → length all < length buffer → end + length text ≤ length buffer
has_room buffer end piece rest whole all text parts next is fits room =
    let size : end + length whole ≡ length all = split_size buffer end whole all parts fits in
    let more : length whole ≡ length piece + length rest = ap (λ t. length t) next ∙ length-append piece rest in
    let same : length text ≡ length piece = ap (λ t. length t) is in
    omega (arith, size, more, same, room)

-- once it is written
pub more_written : (buffer new : List ℕ) (end last : ℕ) (piece rest whole all text : List ℕ) → take end buffer ++ whole ≡ all → whole ≡ piece ++ rest → text ≡ piece → end ≤ length buffer → last ≡ end + length text → new ≡ over buffer end text → take last new ++ rest ≡ all
more_written buffer new end last piece rest whole all text parts next is fits ends written =
    ap (λ n. take n new ++ rest) ends
    ∙ ap (λ b. take (end + length text) b ++ rest) written
    ∙ ap (λ t. t ++ rest) (take_over buffer end text fits)
    ∙ append_assoc (take end buffer) text rest
    ∙ ap (λ t. take end buffer ++ (t ++ rest)) is
    ∙ ap (λ t. take end buffer ++ t) (sym next)
    ∙ parts

pub rest_stays : (old buffer new : List ℕ) (end last : ℕ) (text : List ℕ) → drop end buffer ≡ drop end old → end ≤ length buffer → last ≡ end + length text → new ≡ over buffer end text → drop last new ≡ drop last old
rest_stays old buffer new end last text same fits ends written =
    ap (λ n. drop n new) ends
    ∙ ap (λ b. drop (end + length text) b) written
    ∙ drop_over buffer end text fits
    ∙ sym (drop-drop (length text) end buffer)
    ∙ ap (λ t. drop (length text) t) same
    ∙ drop-drop (length text) end old
    ∙ ap (λ n. drop n old) (sym ends)

pub still_fits : (buffer new : List ℕ) (end last : ℕ) (text : List ℕ) → end + length text ≤ length buffer → last ≡ end + length text → new ≡ over buffer end text → last ≤ length new
still_fits buffer new end last text room ends written =
    let as_long : length new ≡ length buffer = ap (λ b. length b) written ∙ length-over buffer end text room in
    omega (arith, as_long, ends, room)

-- all are written, and a NUL behind them
pub all_written : (old buffer new : List ℕ) (end : ℕ) (rest all : List ℕ) → take end buffer ++ rest ≡ all → rest ≡ [] → drop end buffer ≡ drop end old → end ≤ length buffer → new ≡ over buffer end (0 ∷ []) → new ≡ filled old all
all_written old buffer new end rest all parts none same fits written =
    let front : take end buffer ≡ all = sym (append-nil (take end buffer)) ∙ ap (λ t. take end buffer ++ t) (sym none) ∙ parts in
    let size : end ≡ length all = sym (length-take-le end buffer fits) ∙ ap (λ t. length t) front in
    written
    ∙ ap (λ t. take end buffer ++ (0 ∷ t)) (sym (drop-drop 1 end buffer) ∙ ap (λ t. drop 1 t) same ∙ drop-drop 1 end old)
    ∙ ap (λ t. t ++ (0 ∷ drop (end + 1) old)) front
    ∙ ap (λ n. all ++ (0 ∷ drop (n + 1) old)) size
