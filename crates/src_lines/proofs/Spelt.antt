-- What is spelled is read back.
use Rattle.std.proofs.Common.{◌≡◌, ℕ, suc, ◌+◌, ◌-◌, ◌*◌, ◌/◌, ◌%◌, ◌<◌, Bool, true, false, cond, ◌||◌, eqb, List, [], ◌∷◌, ◌++◌, length, Option, Some, Ok, refl, ap, arith}
use Rattle.std.proofs.lemmas.Bool.{lt-ltb}
use Rattle.std.proofs.lemmas.Bool.Decides.{nat_tests}
use Rattle.std.proofs.Math.Seq.{drop-append_seam}
use Rattle.src_lines.specs.declared.line.OperandPiece.{OperandPiece}
use Rattle.src_lines.specs.declared.line.OperandPiece.TheVariants.{Byte, Name}
use Rattle.src_lines.specs.declared.atom.Atom.{Atom}
use Rattle.src_lines.specs.declared.atom.Atom.TheVariants.{Number, Made}
use Rattle.lc_base.specs.Blanks.{is_blank}
use Rattle.src_lines.specs.Places.{place_at}
use Rattle.src_lines.specs.Atoms.{digit, hexadecimal, number, escaped, name, name_more, items}
use Rattle.src_lines.specs.Spelling.{hex_digit, has_meaning, spelled_name, spelled_piece, sole_line, IsPiece}
use Rattle.src_lines.proofs.Itemizing.{items_skip}

-- ---- pieces

digit_is : (h : ℕ) → h < 16 → digit (hex_digit h) ≡ h
digit_is h lt = grind (arith, nat_tests)

number_is : (x y : ℕ) (rest : List ℕ) → x < 16 → y < 16 → number hexadecimal (hex_digit x ∷ hex_digit y ∷ rest) ≡ Some (x * 16 + y, 2)
number_is x y rest lt le = rw (digit_is x lt, digit_is y le, lt-ltb x 16 lt, lt-ltb y 16 le) refl

byte_is : (b : ℕ) (rest : List ℕ) → b < 256 → escaped (120 ∷ hex_digit (b / 16) ∷ hex_digit (b % 16) ∷ rest) ≡ (Ok (Number b), 4)
byte_is b rest lt =
    let high : b / 16 < 16 = omega arith in
    let low : b % 16 < 16 = omega arith in
    let same : b / 16 * 16 + b % 16 ≡ b = omega arith in
    rw (number_is (b / 16) (b % 16) rest high low, same, lt-ltb b 256 lt) refl

pub neither : (a b : Bool) → (a || b) ≡ false → (a ≡ false) × (b ≡ false)
neither true b h = absurd cc
neither false b h = (refl, h)

-- the bytes of a name and its closing sign are read as the name
name_more_is : (b : ℕ) (bs : List ℕ) (n : ℕ) (x : Option (List ℕ) × ℕ) → x ≡ (Some bs, n) → name_more b x ≡ (Some (b ∷ bs), suc n)
name_more_is b bs n x e = rw e (ap {B = Option (List ℕ) × ℕ} (λ (k : ℕ). (Some (b ∷ bs), k)) (omega arith))

taken_is : (b : ℕ) (bs : List ℕ) (n : ℕ) (x : Option (List ℕ) × ℕ) → x ≡ (Some bs, n) → ◌≡◌ {A = Option (List ℕ) × ℕ} ((name_more b x).0, (name_more b x).1 + 1) (Some (b ∷ bs), suc (suc n))
taken_is b bs n x e = rw e (ap {B = Option (List ℕ) × ℕ} (λ (k : ℕ). (Some (b ∷ bs), k)) (omega arith))

name_step : (b : ℕ) (bs rest : List ℕ) (m : Bool) → has_meaning b ≡ m → name 92 false (spelled_name bs ++ rest) ≡ (Some bs, length (spelled_name bs))
    → name 92 false (cond m (92 ∷ b ∷ spelled_name bs) (b ∷ spelled_name bs) ++ rest) ≡ (Some (b ∷ bs), length (cond m (92 ∷ b ∷ spelled_name bs) (b ∷ spelled_name bs)))
name_step b bs rest true h later = taken_is b bs (length (spelled_name bs)) (name 92 false (spelled_name bs ++ rest)) later
name_step b bs rest false h later =
    let n = neither (eqb b 92) _ h in
    let k = neither (eqb b 62) (is_blank b) n.1 in
    rw (n.0, k.0, k.1) (name_more_is b bs (length (spelled_name bs)) (name 92 false (spelled_name bs ++ rest)) later)

name_is : (bs rest : List ℕ) → name 92 false (spelled_name bs ++ rest) ≡ (Some bs, length (spelled_name bs))
name_is [] rest = refl
name_is (b ∷ bs) rest = name_step b bs rest (has_meaning b) refl (name_is bs rest)

-- the atom of a piece in its spelling
abbrev pub spelled_atom : OperandPiece → Atom
spelled_atom (Byte b) = Number b
spelled_atom (Name name) = Made (Name name)

-- a piece's spelling is one item
pub piece_is : (bytes : List ℕ) (at : ℕ) (p : OperandPiece) (rest : List ℕ) → IsPiece p → (end : ℕ) × (items (sole_line bytes) 0 at (spelled_piece p ++ rest) ≡ record { place = place_at (sole_line bytes) at; atom = Ok (spelled_atom p) } ∷ items (sole_line bytes) 0 end rest)
piece_is bytes at (Byte b) rest lt = (at + 1 + 1 + 1 + 1, rw (byte_is b rest lt) refl)
piece_is bytes at (Name name) rest lt =
    let n = length (spelled_name name) in
    let less : n + 1 - 1 ≡ n = omega arith in
    (at + 1 + n, rw (name_is name rest, less, items_skip (sole_line bytes) n (at + 1) (spelled_name name ++ rest), drop-append_seam (spelled_name name) rest) refl)
