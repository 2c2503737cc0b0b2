-- Encodings and wide values belong together, one to one.
use Rattle.std.specs.Bool.{nat_lt}
use Rattle.std.specs.List.{find, list_any}
use Rattle.std.specs.Option.{is_some, option_map, IfSome}
use Rattle.std.proofs.Common.{◌≡◌, ℕ, Bool, true, false, cond, ◌||◌, List, [], ◌∷◌, ◌++◌, length, Option, Some, None, refl, sym, ◌∙◌, ap, subst, arith, get_or, append-nil, length-append}
use Rattle.std.specs.Char.{IsScalar, encode_utf8}
use Rattle.std.specs.Str.{IsUtf8, chars, encode_utf8_all, all_scalars}
use Rattle.std.proofs.lemmas.Str.{IsUtf8-encode, encode_same, length-encode, len_utf8_bounds, chars-encodes}
use Rattle.std.proofs.lemmas.Slice.Eq.{bytes_eq-Decides}
use Rattle.std.proofs.lemmas.Bool.{eqb-true}
use Rattle.std.proofs.lemmas.Bool.Decides.{nat_tests}
use Rattle.charset.specs.Portable.{Name, is_portable}
use Rattle.charset.specs.declared.code.Code.{Code}
use Rattle.charset.specs.Code.{code_bytes}
use Rattle.charset.specs.CodedSet.{CodedSet, utf8, posix, listed, has, encoded, Decodes, is_scalar, has_value, valued, value_read, is_code, big_endian}

-- the two tests of a scalar value agree
pub is_scalar-IsScalar : (w : ℕ) → is_scalar w ≡ true → IsScalar w
is_scalar-IsScalar w h = grind (arith, nat_tests)

-- what an encoding in UTF-8 says of its wide value
pub utf8_encoded : (w : ℕ) (bytes : List ℕ) → encoded utf8 w ≡ Some bytes → IsScalar w × (encode_utf8 w ≡ bytes)
utf8_encoded w bytes h = grind (arith, is_scalar-IsScalar)

-- bytes that are no UTF-8 encode nothing
pub encoded-not_utf8 : (bytes : List ℕ) → (IsUtf8 bytes → ⊥) → (w : ℕ) → encoded utf8 w ≡ Some bytes → ⊥
encoded-not_utf8 bytes broken w h =
    let parts : IsScalar w × (encode_utf8 w ≡ bytes) = utf8_encoded w bytes h in
    broken (subst IsUtf8 parts.1 (IsUtf8-encode w parts.0))

-- nor do no bytes
pub encoded-empty : (bytes : List ℕ) → length bytes ≡ 0 → (w : ℕ) → encoded utf8 w ≡ Some bytes → ⊥
encoded-empty bytes none w h =
    let parts : IsScalar w × (encode_utf8 w ≡ bytes) = utf8_encoded w bytes h in
    omega (arith, ap length parts.1, length-encode w, len_utf8_bounds w)

-- nor the bytes of two characters, or of more
pub encoded-two : (bytes rest more : List ℕ) (c d : ℕ) → bytes ≡ encode_utf8 c ++ rest → rest ≡ encode_utf8 d ++ more → (w : ℕ) → encoded utf8 w ≡ Some bytes → ⊥
encoded-two bytes rest more c d front next w h =
    let parts : IsScalar w × (encode_utf8 w ≡ bytes) = utf8_encoded w bytes h in
    let whole : encode_utf8 w ++ [] ≡ encode_utf8 c ++ rest = append-nil (encode_utf8 w) ∙ parts.1 ∙ front in
    let same : (w ≡ c) × ([] ≡ rest) = encode_same w c [] rest whole in
    omega (arith, ap length same.1, ap length next, length-append (encode_utf8 d) more, length-encode d, len_utf8_bounds d)

-- an encoding that is made of some bytes
pub code_is : (o : Option (List ℕ)) (bytes : List ℕ) → is_code o bytes ≡ true → o ≡ Some bytes
code_is None bytes h = cc
code_is (Some code) bytes h = ap Some ((bytes_eq-Decides code bytes).0 h)

-- and back
pub is_code-same : (bytes : List ℕ) → is_code (Some bytes) bytes ≡ true
is_code-same bytes = (bytes_eq-Decides bytes bytes).1 refl

-- bytes are read as the value that they encode
value_read-utf8 : (w : ℕ) (bytes : List ℕ) → encoded utf8 w ≡ Some bytes → value_read utf8 bytes ≡ w
value_read-utf8 w bytes h =
    let parts : IsScalar w × (encode_utf8 w ≡ bytes) = utf8_encoded w bytes h in
    let scalar : all_scalars (w ∷ []) ≡ true = grind (arith, parts.0) in
    let whole : encode_utf8_all (w ∷ []) ≡ bytes = append-nil (encode_utf8 w) ∙ parts.1 in
    let read : chars bytes ≡ w ∷ [] = sym (ap chars whole) ∙ chars-encodes (w ∷ []) scalar in
    ap (λ (cs : List ℕ). get_or cs 0 0) read

value_read-posix : (w : ℕ) (bytes : List ℕ) → encoded posix w ≡ Some bytes → value_read posix bytes ≡ w
value_read-posix w bytes h =
    let whole : w ∷ [] ≡ bytes = grind arith in
    sym (ap (λ (bs : List ℕ). big_endian bs) whole) ∙ omega arith

-- an entry that is found has the value
found-value : (entries : List (Name × List ℕ)) (w : ℕ) (bytes : List ℕ) → option_map (λ (entry : Name × List ℕ). entry.1) (find (has_value w) entries) ≡ Some bytes → big_endian bytes ≡ w
found-value [] w bytes h = cc
found-value (entry ∷ entries) w bytes h =
    let P : Bool → Type 0 = λ b. has_value w entry ≡ b → option_map (λ (e : Name × List ℕ). e.1) (cond b (Some entry) (find (has_value w) entries)) ≡ Some bytes → big_endian bytes ≡ w in
    (
    elim (has_value w entry) as P [
      | true ↦ λ own e. let same : entry.1 ≡ bytes = cc in sym (ap (λ (bs : List ℕ). big_endian bs) same) ∙ eqb-true (big_endian entry.1) w own
      | false ↦ λ own e. found-value entries w bytes e
    ]
    )
    refl
    h

-- bytes are read as the value that they encode, in each set
pub value_read-encoded : (set : CodedSet) (w : ℕ) (bytes : List ℕ) → encoded set w ≡ Some bytes → value_read set bytes ≡ w
value_read-encoded utf8 w bytes h = value_read-utf8 w bytes h
value_read-encoded posix w bytes h = value_read-posix w bytes h
value_read-encoded (listed name entries) w bytes h =
    let P : Bool → Type 0 = λ b. cond b (Some (w ∷ [])) (option_map (λ (entry : Name × List ℕ). entry.1) (find (has_value w) entries)) ≡ Some bytes → big_endian bytes ≡ w in
    (
    elim (is_portable w) as P [
      | true ↦ λ e. let same : w ∷ [] ≡ bytes = cc in sym (ap (λ (bs : List ℕ). big_endian bs) same) ∙ omega arith
      | false ↦ λ e. found-value entries w bytes e
    ]
    )
    h

-- an answer that is right in both directions is that of the definition
pub valued_is : (set : CodedSet) (bytes : List ℕ) (r : Option ℕ)
    → Decodes set bytes r → r ≡ valued set bytes
unfolding valued
valued_is set bytes None none =
    let P : Bool → Type 0 = λ b. is_code (encoded set (value_read set bytes)) bytes ≡ b → None ≡ cond b (Some (value_read set bytes)) None in
    (elim (is_code (encoded set (value_read set bytes)) bytes) as P [ true ↦ λ e. absurd (none _ (code_is _ bytes e)) | false ↦ λ e. refl ]) refl
valued_is set bytes (Some w) found =
    let read : value_read set bytes ≡ w = value_read-encoded set w bytes found in
    let same : is_code (encoded set (value_read set bytes)) bytes ≡ true =
    ap (λ (v : ℕ). is_code (encoded set v) bytes) read ∙ ap (λ (o : Option (List ℕ)). is_code o bytes) found ∙ is_code-same bytes in
    rw (same, read) refl

-- an entry is found exactly where one is there
is_some-found : (entries : List (Name × List ℕ)) (w : ℕ) → is_some (option_map (λ (entry : Name × List ℕ). entry.1) (find (has_value w) entries)) ≡ list_any (has_value w) entries
is_some-found [] w = refl
is_some-found (entry ∷ entries) w =
    let P : Bool → Type 0 = λ b. is_some (option_map (λ (e : Name × List ℕ). e.1) (cond b (Some entry) (find (has_value w) entries))) ≡ (b || list_any (has_value w) entries) in
    elim (has_value w entry) as P [ true ↦ refl | false ↦ is_some-found entries w ]

-- an encoding is there exactly where the set has the character, in each set
pub is_some-encoded : (set : CodedSet) (w : ℕ) → is_some (encoded set w) ≡ has set w
is_some-encoded utf8 w =
    let P : Bool → Type 0 = λ b. is_some (cond b (Some (encode_utf8 w)) None) ≡ b in
    elim (is_scalar w) as P [ true ↦ refl | false ↦ refl ]
is_some-encoded posix w =
    let P : Bool → Type 0 = λ b. is_some (cond b (Some (w ∷ [])) None) ≡ b in
    elim (nat_lt w 128) as P [ true ↦ refl | false ↦ refl ]
is_some-encoded (listed name entries) w =
    let P : Bool → Type 0 = λ b. is_some (cond b (Some (w ∷ [])) (option_map (λ (entry : Name × List ℕ). entry.1) (find (has_value w) entries))) ≡ (b || list_any (has_value w) entries) in
    elim (is_portable w) as P [ true ↦ refl | false ↦ is_some-found entries w ]

-- so an answer with those bytes is there exactly where the set has the character
pub is_some-code : (set : CodedSet) (w : ℕ) (code : Option Code) → option_map code_bytes code ≡ encoded set w → is_some code ≡ has set w
is_some-code set w None h = ap is_some h ∙ is_some-encoded set w
is_some-code set w (Some code) h = ap is_some h ∙ is_some-encoded set w

-- and bytes that are one character are one that the set has
pub decoded-has : (set : CodedSet) (bytes : List ℕ) (r : Option ℕ) → Decodes set bytes r → IfSome r (λ w. has set w ≡ true)
decoded-has set bytes None none = tt
decoded-has set bytes (Some w) found = sym (is_some-encoded set w) ∙ ap is_some found
