-- The encodings that fields are, and those of a range.
use Rattle.std.specs.List.{range_with_len}
use Rattle.std.proofs.Common.{◌≡◌, ℕ, zero, suc, ◌+◌, ◌-◌, ◌*◌, ◌^◌, ◌<◌, ◌≤◌, Bool, true, false, leb, cond, ◌⊎◌, inl, inr, ⊎_elim, List, [], ◌∷◌, length, map, Option, Some, None, refl, sym, ◌∙◌, ap, arith}
use Rattle.std.proofs.Math.Nat.{pow-suc}
use Rattle.std.proofs.lemmas.Bool.Decides.{nat_tests}
use Rattle.std.proofs.lemmas.Nat.{mul-le}
use Rattle.src_lines.specs.declared.atom.Atom.{Atom}
use Rattle.src_lines.specs.Atoms.{up_to}
use Rattle.std.specs.Int.Digits.{number_from_digits_after}
use Rattle.charset.specs.CodedSet.{big_endian}
use Rattle.charmap_reader.specs.Encoding.{atom_number, and_bytes, numbers, is_encoding, encoding}
use Rattle.charset.specs.ShortBytes.{shortest}
use Rattle.charset.proofs.Shortest.{high_first-shortest}
use Rattle.charset.specs.Entries.{Entry}
use Rattle.charmap_reader.specs.Charmap.{entries}
use Rattle.charset.specs.CharacterNames.{valued_names}
use Rattle.charmap_reader.specs.Subject.{Subject, name_at, more_names}
use Rattle.charmap_reader.proofs.Moving.{name_at_after}

-- the encoding that bytes are, if they are there
abbrev encoding_from : Option (List ℕ) → Option (List ℕ)
encoding_from None = None
encoding_from (Some bs) = cond (is_encoding bs) (Some bs) None

-- a byte before others makes them one more
and_bytes-length : (b : Option ℕ) (o : Option (List ℕ)) (n : ℕ) → ((bs : List ℕ) → o ≡ Some bs → length bs ≡ n) → (bs : List ℕ) → and_bytes b o ≡ Some bs → length bs ≡ suc n
and_bytes-length None o n rest bs h = cc
and_bytes-length (Some b) None n rest bs h = cc
and_bytes-length (Some b) (Some own) n rest bs h =
    let same : b ∷ own ≡ bs = cc in sym (ap (λ (x : List ℕ). length x) same) ∙ ap suc (rest own refl)

-- atoms write as many bytes as there are atoms
numbers-length : (atoms : List Atom) (bs : List ℕ) → numbers atoms ≡ Some bs → length bs ≡ length atoms
numbers-length [] bs h = let same : [] ≡ bs = cc in sym (ap (λ (x : List ℕ). length x) same)
numbers-length (atom ∷ atoms) bs h = and_bytes-length (atom_number atom) (numbers atoms) (length atoms) (numbers-length atoms) bs h

-- more than four bytes encode nothing
encoding_from-long : (o : Option (List ℕ)) → ((bs : List ℕ) → o ≡ Some bs → 4 < length bs) → None ≡ encoding_from o
encoding_from-long None long = refl
encoding_from-long (Some bs) long = let more : 4 < length bs = long bs refl in grind (arith, nat_tests)

-- more than four atoms are no encoding
pub encoding-long : (atoms : List Atom) → 4 < length atoms → None ≡ encoding atoms
encoding-long atoms long = encoding_from-long (numbers atoms) (λ bs e. omega (arith, numbers-length atoms bs e))

-- bytes that may encode a character are one to four
pub length-encoding : (bs : List ℕ) → is_encoding bs ≡ true → (1 ≤ length bs) × (length bs ≤ 4)
length-encoding bs h = grind (arith, nat_tests)

-- the first of several is not zero
first_byte-encoding : (b : ℕ) (bs : List ℕ) → is_encoding (b ∷ bs) ≡ true → (length bs ≡ 0) ⊎ (1 ≤ b)
first_byte-encoding b bs h = grind (arith, nat_tests)

-- bytes after a number give at least that number, moved up
number_after-least : (n : ℕ) (bs : List ℕ) → n * 256 ^ length bs ≤ number_from_digits_after 256 n bs
number_after-least n [] = omega arith
number_after-least n (b ∷ bs) =
    let step : (n * 256 + b) * 256 ^ length bs ≤ number_from_digits_after 256 (n * 256 + b) bs = number_after-least (n * 256 + b) bs in
    let power : 256 ^ suc (length bs) ≡ 256 ^ length bs * 256 = pow-suc 256 (length bs) in
    let less : n * 256 * 256 ^ length bs ≤ (n * 256 + b) * 256 ^ length bs = mul-le (n * 256) (256 ^ length bs) (n * 256 + b) (256 ^ length bs) (omega arith) (omega arith) in
    omega (arith, ap (λ (x : ℕ). n * x) power)

-- an encoding has no fewer bytes than its value needs
pub least_value : (bs : List ℕ) → is_encoding bs ≡ true → (length bs ≡ 1) ⊎ (256 ^ (length bs - 1) ≤ big_endian bs)
least_value [] h = absurd (omega (arith, (length-encoding [] h).0))
least_value (b ∷ bs) h =
    ⊎_elim (λ e. inl (ap suc e))
    (λ one. inr (
    let after : b * 256 ^ length bs ≤ number_from_digits_after 256 b bs = number_after-least b bs in
    let less : 1 * 256 ^ length bs ≤ b * 256 ^ length bs = mul-le 1 (256 ^ length bs) b (256 ^ length bs) one (omega arith) in
    let count : suc (length bs) - 1 ≡ length bs = omega arith in
    let byte : 0 + b ≡ b = omega arith in
    rw (count, byte) (omega arith)
    ))
    (first_byte-encoding b bs h)

-- functions that agree on a range map it alike
map_range-same : {X : Type 0} (f g : ℕ → X) (a n : ℕ) → ((k : ℕ) → a ≤ k → k < a + n → f k ≡ g k) → map f (range_with_len a n) ≡ map g (range_with_len a n)
map_range-same f g a zero same = refl
map_range-same f g a (suc n) same =
    let first : f a ≡ g a = same a (omega arith) (omega arith) in
    let rest : map f (range_with_len (a + 1) n) ≡ map g (range_with_len (a + 1) n) = map_range-same f g (a + 1) n (λ k low high. same k (omega arith) (omega arith)) in
    cc

-- the entries of a range are its names with their wide values
pub entries_valued : (s : Subject) (code : List ℕ) (more : ℕ) → more_names s ≡ Some more → is_encoding code ≡ true → big_endian code + more < 256 ^ length code → entries s code more ≡ valued_names s.first (big_endian code) more
entries_valued s code more is h below =
    let lengths : (1 ≤ length code) × (length code ≤ 4) = length-encoding code h in
    map_range-same _ _ 0 (more + 1) (λ k low high.
    ap {B = Entry} (λ (bs : List ℕ). (name_at s k, bs)) (
    high_first-shortest (length code) (big_endian code + k) lengths.0 lengths.1 (omega arith)
    (⊎_elim (λ e. inl e) (λ e. inr (omega arith)) (least_value code h)))
    ∙ ap {B = Entry} (λ (name : List ℕ). (name, shortest (big_endian code + k))) (name_at_after s more k is (omega arith)))

-- atoms that are not few enough are more
pub long_up_to : (most : ℕ) (atoms : List Atom) → None ≡ up_to most atoms → most < length atoms
long_up_to most atoms none =
    let P : Bool → Type 0 = λ b. leb (length atoms) most ≡ b → None ≡ cond b (Some atoms) None → most < length atoms in
    (elim (leb (length atoms) most) as P [ true ↦ λ own e. absurd (cc) | false ↦ λ own e. grind (arith, nat_tests) ]) refl none
