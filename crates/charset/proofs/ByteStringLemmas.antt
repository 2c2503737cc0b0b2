-- Byte strings in one buffer.
use Rattle.std.proofs.Common.{◌≡◌, ℕ, ◌-◌, List, [], ◌∷◌, ◌++◌, length, take, drop, All, refl, ◌∙◌, ap, arith, length-append}
use Rattle.std.proofs.lemmas.List.{length-drop, drop-append-le, take-append-le, drop_at, take_all, map_push}
use Rattle.lc_base.proofs.Slices.{map_same}
use Rattle.charset.specs.ByteStrings.{string_from, strings_in, IsPartOf}

-- a byte string stays where bytes come behind
string_stays : (bytes more : List ℕ) (part : ℕ × ℕ) → IsPartOf bytes part → string_from (bytes ++ more) part ≡ string_from bytes part
string_stays bytes more part within =
    ap (λ (bs : List ℕ). take (part.1 - part.0) bs) (drop-append-le part.0 bytes more (omega (arith, within.0, within.1)))
    ∙ take-append-le (part.1 - part.0) (drop part.0 bytes) more (omega (arith, within.0, within.1, length-drop part.0 bytes))

-- so do all
pub strings_stay : (bytes more : List ℕ) (parts : List (ℕ × ℕ)) → All (IsPartOf bytes) parts → strings_in (bytes ++ more) parts ≡ strings_in bytes parts
strings_stay bytes more parts within = map_same (string_from (bytes ++ more)) (string_from bytes) (IsPartOf bytes) (string_stays bytes more) parts within

-- the bytes that come behind
string_behind : (bytes string : List ℕ) → string_from (bytes ++ string) (length bytes, length (bytes ++ string)) ≡ string
string_behind bytes string =
    ap (λ (bs : List ℕ). take (length (bytes ++ string) - length bytes) bs) (drop_at bytes string (length bytes) refl)
    ∙ take_all (length (bytes ++ string) - length bytes) string (omega (arith, length-append bytes string))

-- one more byte string
pub strings_push : (bytes string : List ℕ) (parts : List (ℕ × ℕ)) (start end : ℕ) → All (IsPartOf bytes) parts → start ≡ length bytes → end ≡ length (bytes ++ string)
    → strings_in (bytes ++ string) (parts ++ (start, end) ∷ []) ≡ strings_in bytes parts ++ string ∷ []
strings_push bytes string parts start end within first last =
    ap {B = List (List ℕ)} (λ (k : ℕ). strings_in (bytes ++ string) (parts ++ (k, end) ∷ [])) first
    ∙ ap {B = List (List ℕ)} (λ (k : ℕ). strings_in (bytes ++ string) (parts ++ (length bytes, k) ∷ [])) last
    ∙ map_push (string_from (bytes ++ string)) parts (length bytes, length (bytes ++ string))
    ∙ ap (λ (ts : List (List ℕ)). ts ++ string_from (bytes ++ string) (length bytes, length (bytes ++ string)) ∷ []) (strings_stay bytes string parts within)
    ∙ ap (λ (t : List ℕ). strings_in bytes parts ++ t ∷ []) (string_behind bytes string)
