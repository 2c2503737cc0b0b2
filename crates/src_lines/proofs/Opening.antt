-- Which bytes begin which atoms.
use Rattle.std.proofs.Common.{◌≡◌, ℕ, suc, ◌+◌, ◌-◌, ◌<◌, ◌≤◌, Bool, true, false, not, cond, eqb, ltb, List, [], ◌∷◌, length, drop, get_or, Option, Some, None, Ok, Err, refl, sym, ap, ◌∙◌, inl, inr, arith, add-one}
use Rattle.std.proofs.lemmas.Bool.{cases_Bool, cases_eq, eq-eqb, ne_eqb}
use Rattle.std.proofs.lemmas.List.{drop_more, drop-drop}
use Rattle.lc_base.specs.Reading.{◌>>=◌}
use Rattle.src_lines.specs.declared.line.OperandPiece.TheVariants.{Byte}
use Rattle.src_lines.specs.declared.atom.Atom.TheVariants.{Bare, Number, Made}
use Rattle.src_lines.specs.declared.text.RunEnd.TheVariants.{AtSeparator}
use Rattle.src_lines.specs.declared.line.Operand.TheVariants.{Quoted}
use Rattle.lc_base.specs.declared.reason.Reason.TheVariants.{BadEscape}
use Rattle.src_lines.specs.Words.{blanks}
use Rattle.lc_base.specs.Blanks.{is_blank}
use Rattle.src_lines.specs.Places.{Logical, place_at}
use Rattle.src_lines.specs.Atoms.{digit, decimal, hexadecimal, octal, number, Read, number_atom, escaped, name, name_atom, atom, Item, items, items_from}
use Rattle.src_lines.specs.Tokens.{has_bare, has_blank, skip, opens, operand, run, text}
use Rattle.src_lines.specs.Shapes.{shape}
use Rattle.src_lines.proofs.Itemizing.{items_next, items_end}

-- what is no bare byte
abbrev NotBare : Read → Type 0
NotBare r = (b : ℕ) → has_bare b r.0 ≡ false

not_blank : (r : Read) → NotBare r → has_blank r.0 ≡ false
not_blank (Ok u, n) h = rw (h 32, h 9) refl
not_blank (Err reason, n) h = refl

either : (b : Bool) (x y : Read) → NotBare x → NotBare y → NotBare (cond b x y)
either true x y h k = h
either false x y h k = k

number_not_bare : (lead : ℕ) (n : Option (ℕ × ℕ)) → NotBare (number_atom lead n)
number_not_bare lead None = λ b. refl
number_not_bare lead (Some n) = either _ (Ok (Number n.0), lead + n.1) (Err BadEscape, 2) (λ b. refl) (λ b. refl)

escaped_not_bare : (bs : List ℕ) → NotBare (escaped bs)
escaped_not_bare [] = λ b. refl
escaped_not_bare (b ∷ bs) =
    either (eqb b 100) _ _ (number_not_bare 2 (number decimal bs))
    (either (eqb b 120) _ _ (number_not_bare 2 (number hexadecimal bs))
    (either (ltb (digit b) 8) (number_atom 1 (number octal (b ∷ bs))) (Ok (Made (Byte b)), 2) (number_not_bare 1 (number octal (b ∷ bs))) (λ b. refl)))

name_not_bare : (x : Option (List ℕ) × ℕ) → NotBare (name_atom x)
name_not_bare (None, n) = λ b. refl
name_not_bare (Some text, n) = λ b. refl

blank_either : (b : Bool) (x y : Read) → has_blank x.0 ≡ false → has_blank y.0 ≡ false → has_blank (cond b x y).0 ≡ false
blank_either true x y h k = h
blank_either false x y h k = k

other_atom : (escape b : ℕ) (bs : List ℕ) → is_blank b ≡ false → has_blank (atom escape b bs).0 ≡ false
other_atom escape b bs h =
    rw h (blank_either (eqb b escape) (escaped bs) _ (not_blank (escaped bs) (escaped_not_bare bs)) (blank_either (eqb b 60) (name_atom (name escape false bs)) (Ok (Bare b), 1) (not_blank (name_atom (name escape false bs)) (name_not_bare (name escape false bs))) h))

skip_kept : (i : Item) (is : List Item) → has_blank i.atom ≡ false → skip (i ∷ is) ≡ i ∷ is
skip_kept i is h = rw h refl

-- what follows blanks
skip_items : (l : Logical) (at : ℕ) (bs : List ℕ) → skip (items l 0 at bs) ≡ items l 0 (at + blanks bs) (drop (blanks bs) bs)
skip_items l at [] = refl
skip_items l at (b ∷ bs) =
    elim (cases_Bool (is_blank b)) [
      | inl h ↦
          let more : at + 1 + blanks bs ≡ at + suc (blanks bs) = omega arith in
          rw (h, h, add-one (blanks bs)) (skip_items l (at + 1) bs ∙ ap (λ (k : ℕ). items l 0 k (drop (blanks bs) bs)) more)
      | inr h ↦
          let none : blanks (b ∷ bs) ≡ 0 = rw h refl in
          let here : at ≡ at + 0 = omega arith in
          let same : items l 0 at (b ∷ bs) ≡ items l 0 (at + blanks (b ∷ bs)) (drop (blanks (b ∷ bs)) (b ∷ bs)) = rw none (ap (λ (k : ℕ). items l 0 k (b ∷ bs)) here) in
          skip_kept (record { place = place_at l at; atom = (atom l.signs.escape b bs).0 }) (items l ((atom l.signs.escape b bs).1 - 1) (at + 1) bs) (other_atom l.signs.escape b bs h) ∙ same
    ]

pub skip_is : (l : Logical) (at : ℕ) → items_from l (at + blanks (drop at l.bytes)) ≡ skip (items_from l at)
unfolding items_from
skip_is l at = sym (skip_items l at (drop at l.bytes) ∙ rw (drop-drop (blanks (drop at l.bytes)) at l.bytes) refl)

-- ---- quotes

-- a quote that is not the escape character is an atom
pub quote_atom : (escape b : ℕ) (bs : List ℕ) → b ≡ 34 → (escape ≡ 34 → ⊥) → (Ok (Bare 34), 1) ≡ atom escape b bs
quote_atom escape b bs h k = let n : eqb 34 escape ≡ false = ne_eqb 34 escape (λ e. k (sym e)) in rw (h, n) refl

-- any other byte begins no text in quotes
other_either : (b : Bool) (x y : Read) → has_bare 34 x.0 ≡ false → has_bare 34 y.0 ≡ false → has_bare 34 (cond b x y).0 ≡ false
other_either true x y h k = h
other_either false x y h k = k

pub no_quote : (escape b : ℕ) (bs : List ℕ) → (b ≡ 34 → ⊥) → has_bare 34 (atom escape b bs).0 ≡ false
no_quote escape b bs h =
    let n : eqb b 34 ≡ false = ne_eqb b 34 h in
    other_either (is_blank b) (Ok (Bare b), 1) _ n
    (other_either (eqb b escape) (escaped bs) _ (escaped_not_bare bs 34)
    (other_either (eqb b 60) (name_atom (name escape false bs)) (Ok (Bare b), 1) (name_not_bare (name escape false bs) 34) n))

pub escape_quote : (escape b : ℕ) (bs : List ℕ) → b ≡ 34 → escape ≡ 34 → has_bare 34 (atom escape b bs).0 ≡ false
escape_quote escape b bs h k = rw (h, k) (escaped_not_bare bs 34)

pub opens_is : (l : Logical) (at : ℕ) → at < length l.bytes → opens (items_from l at) ≡ has_bare 34 (atom l.signs.escape (get_or l.bytes at 0) (drop (at + 1) l.bytes)).0
unfolding items_from
opens_is l at lt = rw (drop_more l.bytes at 0 lt) refl

quote_or_escape : (escape b : ℕ) (bs : List ℕ) → b ≡ 34 → has_bare 34 (atom escape b bs).0 ≡ not (eqb escape 34)
quote_or_escape escape b bs h =
    elim (cases_eq escape 34) [
      | inl e ↦ escape_quote escape b bs h e ∙ rw (eq-eqb escape 34 e) refl
      | inr n ↦
          let one = quote_atom escape b bs h n in
          let two : has_bare 34 (atom escape b bs).0 ≡ true = ap (λ (x : Read). has_bare 34 x.0) (sym one) in
          two ∙ rw (ne_eqb escape 34 n) refl
    ]

pub opens_at_end : (l : Logical) (at : ℕ) → length l.bytes ≤ at → false ≡ opens (items_from l at)
opens_at_end l at le = rw (items_end l at le) refl

pub opens_at_other : (l : Logical) (at : ℕ) → at < length l.bytes → (get_or l.bytes at 0 ≡ 34 → ⊥) → false ≡ opens (items_from l at)
opens_at_other l at lt h = sym (opens_is l at lt ∙ no_quote l.signs.escape (get_or l.bytes at 0) (drop (at + 1) l.bytes) h)

pub opens_at_quote : (l : Logical) (at : ℕ) → at < length l.bytes → get_or l.bytes at 0 ≡ 34 → not (eqb l.signs.escape 34) ≡ opens (items_from l at)
opens_at_quote l at lt h = sym (opens_is l at lt ∙ quote_or_escape l.signs.escape (get_or l.bytes at 0) (drop (at + 1) l.bytes) h)

pub next_at_quote : (l : Logical) (at : ℕ) → at < length l.bytes → get_or l.bytes at 0 ≡ 34 → not (eqb l.signs.escape 34) ≡ true → items_from l at ≡ record { place = place_at l at; atom = Ok (Bare 34) } ∷ items_from l (at + 1)
next_at_quote l at lt h k =
    let n : l.signs.escape ≡ 34 → ⊥ = λ (e : l.signs.escape ≡ 34). let x = rw (eq-eqb l.signs.escape 34 e) at k in cc in
    items_next l at 1 (Ok (Bare 34)) lt (omega arith) (quote_atom l.signs.escape (get_or l.bytes at 0) (drop (at + 1) l.bytes) h n)

-- ---- operands

pub operand_quoted : (is : List Item) (rest : List Item) (i : Item) → is ≡ i ∷ rest → has_bare 34 i.atom ≡ true → operand is ≡ (text i.place rest >>= λ x. Ok (Quoted x.0, x.1))
unfolding operand
operand_quoted is rest i e h = rw (e, h) refl

pub operand_run : (is : List Item) → opens is ≡ false → operand is ≡ (run AtSeparator is >>= λ x. Ok (shape x.0, x.1))
unfolding operand run
operand_run [] h = refl
operand_run (i ∷ is) h = rw h refl
