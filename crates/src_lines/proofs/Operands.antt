-- Operands that are read one after the other.
use Rattle.std.proofs.Common.{◌≡◌, ℕ, suc, ◌<◌, ◌≤◌, List, [], ◌∷◌, ◌++◌, length, Some, None, Ok, Err, refl, sym, ap, ◌∙◌, append_assoc, inl, inr, arith}
use Rattle.std.proofs.lemmas.Bool.{cases_lt}
use Rattle.std.proofs.lemmas.List.{drop_more, drop_all}
use Rattle.lc_base.specs.declared.place.Place.{Place}
use Rattle.lc_base.specs.declared.fault.TextFault.{TextFault}
use Rattle.lc_base.specs.declared.fault.TextFault.TheVariants.{At, Memory}
use Rattle.lc_base.specs.Reading.{Reads, ◌>>=◌, Fails}
use Rattle.src_lines.specs.Limits.{MAX_OPERANDS}
use Rattle.src_lines.specs.declared.line.Operand.{Operand}
use Rattle.src_lines.specs.Places.{Logical, place_at}
use Rattle.src_lines.specs.Atoms.{Item, items_from}
use Rattle.src_lines.specs.Tokens.{skip, next_place, operand, separated, separated_by, operands, operands_after, too_many}

-- what was read before, and what is still read
abbrev pub listed : List (Place × Operand) → Reads (List (Place × Operand)) → Reads (List (Place × Operand))
listed found later = later >>= λ os. Ok (found ++ os)

regroup : (found : List (Place × Operand)) (o : Place × Operand) (later : Reads (List (Place × Operand))) → listed found (later >>= λ os. Ok (o ∷ os)) ≡ listed (found ++ o ∷ []) later
regroup found o (Ok os) = ap {B = Reads (List (Place × Operand))} (λ (xs : List (Place × Operand)). Ok xs) (sym (append_assoc found (o ∷ []) os))
regroup found o (Err e) = refl

-- where an atom stands
pub next_place_is : (l : Logical) (at : ℕ) → at ≤ length l.bytes → next_place (place_at l (length l.bytes)) (items_from l at) ≡ place_at l at
unfolding items_from
next_place_is l at le =
    elim (cases_lt at (length l.bytes)) [
      | inl lt ↦ rw (drop_more l.bytes at 0 lt) refl
      | inr ge ↦ let e : at ≡ length l.bytes = omega arith in rw (drop_all at l.bytes ge) (ap (place_at l) (sym e))
    ]

pub separated_is : (is : List Item) → separated is ≡ (operand is >>= λ x. separated_by x.0 (skip x.1))
unfolding separated
separated_is is = refl

pub separated_then : (is later js : List Item) (o : Operand) → operand is ≡ Ok (o, later) → js ≡ skip later → separated is ≡ separated_by o js
unfolding separated
separated_then is later js o e s = rw (e, s) refl

pub operands_last : (n left : ℕ) (found : List (Place × Operand)) (end place : Place) (is js : List Item) (o : Operand) → n ≡ suc left → js ≡ skip is → next_place end js ≡ place → separated js ≡ Ok (o, None)
    → listed found (operands n end is) ≡ Ok (found ++ (place, o) ∷ [])
unfolding operands
operands_last n left found end place is js o n_is s at e = rw (n_is, ← s, e, ← s, at) refl

pub operands_more : (n left : ℕ) (found : List (Place × Operand)) (end place : Place) (is js later : List Item) (o : Operand) → n ≡ suc left → js ≡ skip is → next_place end js ≡ place → separated js ≡ Ok (o, Some later)
    → listed found (operands n end is) ≡ listed (found ++ (place, o) ∷ []) (operands left end later)
unfolding operands
operands_more n left found end place is js later o n_is s at e = rw (n_is, ← s, e, ← s, at) (regroup found (place, o) (operands left end later))

pub operands_fail : (e : TextFault) (n left : ℕ) (found : List (Place × Operand)) (end : Place) (is js : List Item) (total : Reads (List (Place × Operand))) → n ≡ suc left → js ≡ skip is → listed found (operands n end is) ≡ total → Fails e (separated js) → Fails e total
unfolding operands
operands_fail Memory n left found end is js total n_is s so_far h = tt
operands_fail (At p r) n left found end is js total n_is s so_far h =
    let one : listed found (operands n end is) ≡ Err (p, r) = rw (n_is, ← s, h) refl in
    sym so_far ∙ one

pub operands_over : (e : TextFault) (n : ℕ) (found : List (Place × Operand)) (end place : Place) (is js : List Item) (total : Reads (List (Place × Operand))) → n ≡ 0 → js ≡ skip is → next_place end js ≡ place → listed found (operands n end is) ≡ total → Fails e (too_many place (operand js)) → Fails e total
unfolding operands
operands_over Memory n found end place is js total n_is s at so_far h = tt
operands_over (At p r) n found end place is js total n_is s at so_far h =
    let one : listed found (operands n end is) ≡ Err (p, r) = rw (n_is, ← s, at, h) refl in
    sym so_far ∙ one

-- ---- what follows the keyword

pub after_none : (end : Place) (is : List Item) → is ≡ [] → operands_after end is ≡ Ok []
after_none end is e = rw e refl

pub after_some : (l : Logical) (at : ℕ) (end : Place) → at < length l.bytes → operands_after end (items_from l at) ≡ operands MAX_OPERANDS end (items_from l at)
unfolding items_from
after_some l at end lt = rw (drop_more l.bytes at 0 lt) refl
