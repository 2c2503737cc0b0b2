use Rattle.std.proofs.Common.{◌≡◌, ℕ, ◌<◌, ◌≤◌, List, [], ◌∷◌, length, get_or, refl, arith}
use Rattle.std.proofs.lemmas.Bool.{ne_eqb, lt-ltb}
use Rattle.src_lines.specs.Atoms.{digit, octal, number, number_atom, escaped}
use Rattle.src_lines.proofs.atom.escaped.Goals as goal

octal_is : (bytes : List ℕ) → 1 ≤ length bytes → (get_or bytes 0 0 ≡ 100 → ⊥) → (get_or bytes 0 0 ≡ 120 → ⊥) → digit (get_or bytes 0 0) < 8 → number_atom 1 (number octal bytes) ≡ escaped bytes
octal_is [] long d x lt = absurd (omega arith)
octal_is (b ∷ bs) long d x lt = rw (ne_eqb b 100 d, ne_eqb b 120 x, lt-ltb (digit b) 8 lt) refl

pub returns-then-digit-lt8-clause-is : goal.returns-then-digit-lt8-clause-is
returns-then-digit-lt8-clause-is c =
    rw (c.number_atom-then-digit-lt8.ensures, c.number-then-digit-lt8.ensures.is) (octal_is c.args.bytes.now c.in-len1-up.len_at_least c.if-byte-eq100.false c.if-byte-eq120.false (rw (← c.digit.ensures.is) c.if-digit-lt8.true))
