-- The charset of a charmap: its values, and the bytes of its characters.
use Rattle.std.proofs.Common.{◌≡◌, ◌≢◌, ℕ, ◌<◌, ◌≤◌, Bool, true, false, cond, ◌||◌, List, [], ◌∷◌, ◌++◌, length, All, Option, Some, None, refl, sym, ◌∙◌, ap, arith}
use Rattle.std.specs.Bool.{◌==◌}
use Rattle.std.specs.Int.{is_in_range}
use Rattle.std.specs.List.{list_any, find}
use Rattle.std.specs.Option.{option_map}
use Rattle.std.specs.Str.{bytes_eq}
use Rattle.std.proofs.lemmas.Bool.{eqb-true, true≢false}
use Rattle.std.proofs.lemmas.Bool.Decides.{nat_tests}
use Rattle.std.proofs.lemmas.List.Elements.{All-head, All-tail, All-append, All-cons, All-nil}
use Rattle.std.proofs.lemmas.List.Folds.{list_any-append}
use Rattle.std.proofs.lemmas.Slice.Eq.{bytes_eq-Decides}
use Rattle.charset.specs.Portable.{is_portable}
use Rattle.charset.specs.CodedSet.{CodedSet, listed, has, has_value, encoded, big_endian, value_read}
use Rattle.charset.specs.Entries.{Entry}
use Rattle.charset.specs.ShortBytes.{shortest}
use Rattle.charset.specs.Listing.{IsShort, IsListing}
use Rattle.class_ranges.specs.Ranges.{covers}
use Rattle.charset.proofs.Encodings.{value_read-encoded}
use Rattle.charset.proofs.ShortBytes.{shortest-one, length-shortest}

-- ---- values

-- tests in the order of the definition
or_in_order : (zero controls visible old : Bool) → (old || (zero || (controls || (visible || false)))) ≡ (((zero || controls) || visible) || old)
or_in_order true controls visible true = refl
or_in_order true controls visible false = refl
or_in_order false true visible true = refl
or_in_order false true visible false = refl
or_in_order false false true true = refl
or_in_order false false true false = refl
or_in_order false false false true = refl
or_in_order false false false false = refl

-- a range of 0 alone
zero_range : (w : ℕ) → is_in_range 0 0 w ≡ (w == 0)
zero_range w = grind (arith, nat_tests)

-- ranges of the values of entries and of the portable characters are those of the set
pub ranges_covered : (name : List ℕ) (es : List Entry) (given ranges : List (ℕ × ℕ)) → ((w : ℕ) → covers given w ≡ list_any (has_value w) es)
    → ((w : ℕ) → covers ranges w ≡ covers (given ++ (0, 0) ∷ (7, 13) ∷ (32, 126) ∷ []) w) → (w : ℕ) → covers ranges w ≡ has (listed name es) w
ranges_covered name es given ranges values covered w =
    covered w
    ∙ list_any-append (λ (range : ℕ × ℕ). is_in_range range.0 range.1 w) given ((0, 0) ∷ (7, 13) ∷ (32, 126) ∷ [])
    ∙ ap (λ b. b || (is_in_range 0 0 w || (is_in_range 7 13 w || (is_in_range 32 126 w || false)))) (values w)
    ∙ ap (λ b. list_any (has_value w) es || (b || (is_in_range 7 13 w || (is_in_range 32 126 w || false)))) (zero_range w)
    ∙ or_in_order (w == 0) (is_in_range 7 13 w) (is_in_range 32 126 w) (list_any (has_value w) es)

-- with those of the portable characters, ranges that do not run backward
pub forward_more : (given : List (ℕ × ℕ)) → All (λ (range : ℕ × ℕ). range.0 ≤ range.1) given → All (λ (range : ℕ × ℕ). range.0 ≤ range.1) (given ++ (0, 0) ∷ (7, 13) ∷ (32, 126) ∷ [])
forward_more given forward =
    let P : ℕ × ℕ → Type 0 = λ (range : ℕ × ℕ). range.0 ≤ range.1 in
    All-append P given ((0, 0) ∷ (7, 13) ∷ (32, 126) ∷ []) forward
    (All-cons P (0, 0) ((7, 13) ∷ (32, 126) ∷ []) (omega arith) (All-cons P (7, 13) ((32, 126) ∷ []) (omega arith) (All-cons P (32, 126) [] (omega arith) (All-nil P))))

-- ---- encodings

-- a found entry has the bytes of the value
found-shortest : (es : List Entry) (w : ℕ) → All IsShort es → option_map (λ (e : Entry). e.1) (find (has_value w) es) ≡ cond (list_any (has_value w) es) (Some (shortest w)) None
found-shortest [] w short = refl
found-shortest (e ∷ es) w short =
    let P : Bool → Type 0 = λ b. has_value w e ≡ b → option_map (λ (e : Entry). e.1) (cond b (Some e) (find (has_value w) es)) ≡ cond (b || list_any (has_value w) es) (Some (shortest w)) None in
    (
    elim (has_value w e) as P [
      | true ↦ λ own. ap {B = Option (List ℕ)} (λ (bs : List ℕ). Some bs) (sym (All-head IsShort e es short) ∙ ap shortest (eqb-true (big_endian e.1) w own))
      | false ↦ λ own. found-shortest es w (All-tail IsShort e es short)
    ]
    )
    refl

-- a portable character is its own byte
portable-shortest : (w : ℕ) → is_portable w ≡ true → w ∷ [] ≡ shortest w
portable-shortest w h = let small : w < 256 = grind (arith, nat_tests) in sym (shortest-one w small)

-- each character of a set has the one encoding that its value may have
encoded-shortest : (name : List ℕ) (es : List Entry) (w : ℕ) → All IsShort es → encoded (listed name es) w ≡ cond (has (listed name es) w) (Some (shortest w)) None
encoded-shortest name es w short =
    let P : Bool → Type 0 = λ b. is_portable w ≡ b → cond b (Some (w ∷ [])) (option_map (λ (entry : Entry). entry.1) (find (has_value w) es)) ≡ cond (b || list_any (has_value w) es) (Some (shortest w)) None in
    (elim (is_portable w) as P [ true ↦ λ own. ap Some (portable-shortest w own) | false ↦ λ own. found-shortest es w short ]) refl

-- the same, as the ranges of the set tell
pub encoded-covered : (name : List ℕ) (es : List Entry) (ranges : List (ℕ × ℕ)) (w : ℕ) (covered : Bool) → IsListing name es ranges → covered ≡ covers ranges w → cond covered (Some (shortest w)) None ≡ encoded (listed name es) w
encoded-covered name es ranges w covered kept is = ap (λ (b : Bool). cond b (Some (shortest w)) None) (is ∙ kept.covered w) ∙ sym (encoded-shortest name es w kept.short)

-- so no character has more than four bytes
pub encoded-long : (name : List ℕ) (es : List Entry) (bytes : List ℕ) → All IsShort es → 4 < length bytes → (w : ℕ) → encoded (listed name es) w ≢ Some bytes
encoded-long name es bytes short long w h =
    let P : Bool → Type 0 = λ b. cond b (Some (shortest w)) None ≡ Some bytes → ⊥ in
    (
    elim (has (listed name es) w) as P [
      | true ↦ λ e. let same : shortest w ≡ bytes = cc in omega (arith, length-shortest w, ap length same)
      | false ↦ λ e. cc
    ]
    )
    (sym (encoded-shortest name es w short) ∙ h)

-- where the value that bytes are read as has another encoding, or none, no character has them
pub encoded-other : (set : CodedSet) (bytes : List ℕ) (w : ℕ) (code : Option (List ℕ)) → w ≡ value_read set bytes → code ≡ encoded set w → code ≢ Some bytes → (v : ℕ) → encoded set v ≢ Some bytes
encoded-other set bytes w code read is other v h =
    let same : w ≡ v = read ∙ value_read-encoded set v bytes h in
    other (is ∙ ap (λ (u : ℕ). encoded set u) same ∙ h)

-- bytes that differ are no one encoding
pub code_apart : (code bytes : List ℕ) → false ≡ bytes_eq code bytes → Some code ≢ Some bytes
code_apart code bytes apart h =
    let same : code ≡ bytes = cc in
    true≢false (sym ((bytes_eq-Decides code bytes).1 same) ∙ sym apart)

-- bytes that do not differ are one encoding
pub code_same : (code bytes : List ℕ) → true ≡ bytes_eq code bytes → code ≡ bytes
code_same code bytes same = (bytes_eq-Decides code bytes).0 (sym same)
