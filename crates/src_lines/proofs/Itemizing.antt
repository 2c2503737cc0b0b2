-- The atoms of a line, one after the other.
use Rattle.std.proofs.Common.{◌≡◌, ℕ, zero, suc, ◌+◌, ◌-◌, ◌<◌, ◌≤◌, List, [], ◌∷◌, length, drop, get_or, refl, ap, ◌∙◌, arith}
use Rattle.std.proofs.lemmas.List.{drop-drop, drop_more, drop_all}
use Rattle.std.specs.Prelude.{Result}
use Rattle.lc_base.specs.declared.reason.Reason.{Reason}
use Rattle.src_lines.specs.declared.atom.Atom.{Atom}
use Rattle.src_lines.specs.Places.{Logical, place_at}
use Rattle.src_lines.specs.Atoms.{atom, items, Item, items_from}

-- the bytes of the atom before go by
pub items_skip : (l : Logical) (n at : ℕ) (bs : List ℕ) → items l n at bs ≡ items l 0 (at + n) (drop n bs)
items_skip l zero at bs = ap (λ (k : ℕ). items l 0 k bs) (omega arith)
items_skip l (suc n) at [] = refl
items_skip l (suc n) at (b ∷ bs) =
    let e : at + 1 + n ≡ at + suc n = omega arith in
    items_skip l n (at + 1) bs ∙ ap (λ (k : ℕ). items l 0 k (drop n bs)) e

-- the atom at a byte, and what follows it
pub items_next : (l : Logical) (at len : ℕ) (u : Result Atom Reason) → at < length l.bytes → 0 < len → (u, len) ≡ atom l.signs.escape (get_or l.bytes at 0) (drop (at + 1) l.bytes)
    → items_from l at ≡ record { place = place_at l at; atom = u } ∷ items_from l (at + len)
unfolding items_from
items_next l at len u lt some e =
    let cut = drop_more l.bytes at 0 lt in
    let rest = items_skip l (len - 1) (at + 1) (drop (at + 1) l.bytes) in
    let place : at + 1 + (len - 1) ≡ at + len = omega arith in
    let tail : items l (len - 1) (at + 1) (drop (at + 1) l.bytes) ≡ items l 0 (at + len) (drop (at + len) l.bytes) =
    rest ∙ rw (place, drop-drop (len - 1) (at + 1) l.bytes, place) refl in
    rw (cut, ← e) (ap (λ (is : List Item). record { place = place_at l at; atom = u } ∷ is) tail)

-- at the end nothing stands
pub items_end : (l : Logical) (at : ℕ) → length l.bytes ≤ at → items_from l at ≡ []
unfolding items_from
items_end l at le = rw (drop_all at l.bytes le) refl
