-- Atoms in cells.
use Rattle.std.proofs.Common.{◌≡◌, ℕ, zero, suc, ◌+◌, ◌<◌, ◌≤◌, ◌⊎◌, Bool, true, false, not, cond, ◌&&◌, List, [], ◌∷◌, ◌++◌, length, take, drop, map, get_or, Option, Some, None, refl, sym, ap, ◌∙◌, arith, append_assoc, length-append, inl, inr}
use Rattle.std.specs.Prelude.{option_map, replicate, count_by}
use Rattle.std.specs.List.{list_any}
use Rattle.std.proofs.lemmas.List.{length-replicate}
use Rattle.std.proofs.lemmas.List.{append-nil}
use Rattle.std.proofs.lemmas.List.Recursion.{is_count_by}
use Rattle.src_lines.specs.declared.line.OperandPiece.TheVariants.{Byte, Name}
use Rattle.src_lines.specs.declared.atom.Atom.{Atom}
use Rattle.src_lines.specs.declared.atom.Atom.TheVariants.{Bare, Number, Made}
use Rattle.src_lines.specs.declared.cells.CellMark.{CellMark}
use Rattle.src_lines.specs.declared.cells.CellMark.TheVariants.{AsItself, AsNumber, AsEscaped, InName, NameEnd}
use Rattle.src_lines.specs.Atoms.{piece}
use Rattle.src_lines.specs.Pieces.{only_bytes}
use Rattle.src_lines.specs.Cells.{atoms_after, atoms_of, are_whole, IsWhole, leading, ends_atom, ends_name, marked}

closed : (b c : Bool) → (not b && c) ≡ true → (b ≡ false) × (c ≡ true)
closed true c h = absurd cc
closed false c h = (refl, h)

-- cells behind whole ones
after-append : (t : List ℕ) (o : Bool) (ms ns : List CellMark) (bs cs : List ℕ) → (o ≡ false → t ≡ []) → length ms ≡ length bs → are_whole o ms ≡ true → atoms_after t (ms ++ ns) (bs ++ cs) ≡ atoms_after t ms bs ++ atoms_of ns cs
after-append t true [] ns [] cs start same whole = absurd cc
after-append t false [] ns [] cs start same whole = rw (start refl) refl
after-append t o [] ns (b ∷ bs) cs start same whole = absurd (omega arith)
after-append t o (m ∷ ms) ns [] cs start same whole = absurd (omega arith)
after-append t o (AsItself ∷ ms) ns (b ∷ bs) cs start same whole = ap (λ (us : List Atom). Bare b ∷ us) (after-append [] false ms ns bs cs (λ e. refl) (omega arith) (closed o (are_whole false ms) whole).1)
after-append t o (AsNumber ∷ ms) ns (b ∷ bs) cs start same whole = ap (λ (us : List Atom). Number b ∷ us) (after-append [] false ms ns bs cs (λ e. refl) (omega arith) (closed o (are_whole false ms) whole).1)
after-append t o (AsEscaped ∷ ms) ns (b ∷ bs) cs start same whole = ap (λ (us : List Atom). Made (Byte b) ∷ us) (after-append [] false ms ns bs cs (λ e. refl) (omega arith) (closed o (are_whole false ms) whole).1)
after-append t o (InName ∷ ms) ns (b ∷ bs) cs start same whole = after-append (t ++ b ∷ []) true ms ns bs cs (λ e. absurd cc) (omega arith) whole
after-append t o (NameEnd ∷ ms) ns (b ∷ bs) cs start same whole = ap (λ (us : List Atom). Made (Name t) ∷ us) (after-append [] false ms ns bs cs (λ e. refl) (omega arith) whole)

whole-append : (o : Bool) (ms ns : List CellMark) → are_whole o ms ≡ true → are_whole o (ms ++ ns) ≡ are_whole false ns
whole-append true [] ns h = absurd cc
whole-append false [] ns h = refl
whole-append true (AsItself ∷ ms) ns h = absurd cc
whole-append false (AsItself ∷ ms) ns h = whole-append false ms ns h
whole-append true (AsNumber ∷ ms) ns h = absurd cc
whole-append false (AsNumber ∷ ms) ns h = whole-append false ms ns h
whole-append true (AsEscaped ∷ ms) ns h = absurd cc
whole-append false (AsEscaped ∷ ms) ns h = whole-append false ms ns h
whole-append o (InName ∷ ms) ns h = whole-append true ms ns h
whole-append o (NameEnd ∷ ms) ns h = whole-append false ms ns h

-- the cells of a name
name_cells : (t name : List ℕ) → atoms_after t (replicate (length name) InName ++ NameEnd ∷ []) (name ++ 0 ∷ []) ≡ Made (Name (t ++ name)) ∷ []
name_cells t [] = rw (append-nil t) refl
name_cells t (b ∷ bs) = name_cells (t ++ b ∷ []) bs ∙ rw (append_assoc t (b ∷ []) bs) refl

name_whole : (o : Bool) (n : ℕ) → are_whole o (replicate n InName ++ NameEnd ∷ []) ≡ true
name_whole o zero = refl
name_whole o (suc n) = name_whole true n

-- whole cells and further ones
pub appended : (ms ns : List CellMark) (bs cs : List ℕ) → IsWhole ms bs → atoms_of (ms ++ ns) (bs ++ cs) ≡ atoms_of ms bs ++ atoms_of ns cs
appended ms ns bs cs w = after-append [] false ms ns bs cs (λ e. refl) w.same w.ended

pub stays_whole : (ms ns : List CellMark) (bs cs : List ℕ) → IsWhole ms bs → IsWhole ns cs → IsWhole (ms ++ ns) (bs ++ cs)
stays_whole ms ns bs cs w v = record {
  same = simp (length-append) (omega (arith, w.same, v.same));
  ended = whole-append false ms ns w.ended ∙ v.ended;
}

pub name_appended : (ms : List CellMark) (bs name : List ℕ) → IsWhole ms bs → atoms_of ((ms ++ replicate (length name) InName) ++ NameEnd ∷ []) ((bs ++ name) ++ 0 ∷ []) ≡ atoms_of ms bs ++ Made (Name name) ∷ []
name_appended ms bs name w =
    rw (append_assoc ms (replicate (length name) InName) (NameEnd ∷ []), append_assoc bs name (0 ∷ []))
    (appended ms (replicate (length name) InName ++ NameEnd ∷ []) bs (name ++ 0 ∷ []) w ∙ ap (λ (us : List Atom). atoms_of ms bs ++ us) (name_cells [] name))

pub name_stays_whole : (ms : List CellMark) (bs name : List ℕ) → IsWhole ms bs → IsWhole ((ms ++ replicate (length name) InName) ++ NameEnd ∷ []) ((bs ++ name) ++ 0 ∷ [])
name_stays_whole ms bs name w =
    rw (append_assoc ms (replicate (length name) InName) (NameEnd ∷ []), append_assoc bs name (0 ∷ []))
    (stays_whole ms (replicate (length name) InName ++ NameEnd ∷ []) bs (name ++ 0 ∷ []) w (record {
      same = simp (length-append, length-replicate) refl;
      ended = name_whole false (length name);
    }))

-- ---- the next atom

-- the atom behind the bytes of a name
pub next_is : (t : List ℕ) (ms : List CellMark) (bs : List ℕ) (d : CellMark) (n : ℕ) → n ≡ leading ms → n < length ms → n < length bs
    → atoms_after t ms bs ≡ marked (get_or ms n d) (t ++ take n bs) (get_or bs n 0) ∷ atoms_of (drop (suc n) ms) (drop (suc n) bs)
next_is t [] bs d n e lt le = absurd (omega arith)
next_is t (m ∷ ms) [] d n e lt le = absurd (omega arith)
next_is t (AsItself ∷ ms) (b ∷ bs) d n e lt le = rw e refl
next_is t (AsNumber ∷ ms) (b ∷ bs) d n e lt le = rw e refl
next_is t (AsEscaped ∷ ms) (b ∷ bs) d n e lt le = rw e refl
next_is t (InName ∷ ms) (b ∷ bs) d zero e lt le = absurd (omega arith)
next_is t (InName ∷ ms) (b ∷ bs) d (suc n) e lt le = next_is (t ++ b ∷ []) ms bs d n (omega arith) (omega arith) (omega arith) ∙ rw (append_assoc t (b ∷ []) (take n bs)) refl
next_is t (NameEnd ∷ ms) (b ∷ bs) d n e lt le = rw (e, append-nil t) refl

pub none_is : (t : List ℕ) (ms : List CellMark) (bs : List ℕ) → (length ms ≤ leading ms) ⊎ (length bs ≤ leading ms) → atoms_after t ms bs ≡ []
none_is t [] bs h = refl
none_is t (m ∷ ms) [] h = refl
none_is t (AsItself ∷ ms) (b ∷ bs) h = absurd (omega arith)
none_is t (AsNumber ∷ ms) (b ∷ bs) h = absurd (omega arith)
none_is t (AsEscaped ∷ ms) (b ∷ bs) h = absurd (omega arith)
none_is t (InName ∷ ms) (b ∷ bs) h = none_is (t ++ b ∷ []) ms bs (elim h [ inl le ↦ inl (omega arith) | inr le ↦ inr (omega arith) ])
none_is t (NameEnd ∷ ms) (b ∷ bs) h = absurd (omega arith)

-- ---- how many

-- the number of cells that end an atom
ends : List CellMark → ℕ
ends [] = 0
ends (AsItself ∷ ms) = suc (ends ms)
ends (AsNumber ∷ ms) = suc (ends ms)
ends (AsEscaped ∷ ms) = suc (ends ms)
ends (InName ∷ ms) = ends ms
ends (NameEnd ∷ ms) = suc (ends ms)

ends_more : (m : CellMark) (ms : List CellMark) → ends (m ∷ ms) ≡ cond (ends_atom m) (1 + ends ms) (ends ms)
unfolding ends
ends_more AsItself ms = omega arith
ends_more AsNumber ms = omega arith
ends_more AsEscaped ms = omega arith
ends_more InName ms = refl
ends_more NameEnd ms = omega arith

ends_count : (ms : List CellMark) → ends ms ≡ count_by ends_atom ms
unfolding ends
ends_count ms = is_count_by ends ends_atom refl ends_more ms

ends_length : (t : List ℕ) (ms : List CellMark) (bs : List ℕ) → length ms ≡ length bs → ends ms ≡ length (atoms_after t ms bs)
unfolding ends
ends_length t [] bs same = refl
ends_length t (m ∷ ms) [] same = absurd (omega arith)
ends_length t (AsItself ∷ ms) (b ∷ bs) same = ap suc (ends_length [] ms bs (omega arith))
ends_length t (AsNumber ∷ ms) (b ∷ bs) same = ap suc (ends_length [] ms bs (omega arith))
ends_length t (AsEscaped ∷ ms) (b ∷ bs) same = ap suc (ends_length [] ms bs (omega arith))
ends_length t (InName ∷ ms) (b ∷ bs) same = ends_length (t ++ b ∷ []) ms bs (omega arith)
ends_length t (NameEnd ∷ ms) (b ∷ bs) same = ap suc (ends_length [] ms bs (omega arith))

pub count_is : (ms : List CellMark) (bs : List ℕ) → length ms ≡ length bs → count_by ends_atom ms ≡ length (atoms_of ms bs)
count_is ms bs same = sym (ends_count ms) ∙ ends_length [] ms bs same

-- ---- bytes alone

abbrev with_byte : ℕ → Option (List ℕ) → Option (List ℕ)
with_byte b o = option_map (λ bs. b ∷ bs) o

pub with_name : (t : List ℕ) (ms : List CellMark) (bs : List ℕ) → length ms ≡ length bs → list_any ends_name ms ≡ true → only_bytes (map piece (atoms_after t ms bs)) ≡ None
with_name t [] bs same h = absurd cc
with_name t (m ∷ ms) [] same h = absurd (omega arith)
with_name t (AsItself ∷ ms) (b ∷ bs) same h = ap (with_byte b) (with_name [] ms bs (omega arith) h)
with_name t (AsNumber ∷ ms) (b ∷ bs) same h = ap (with_byte b) (with_name [] ms bs (omega arith) h)
with_name t (AsEscaped ∷ ms) (b ∷ bs) same h = ap (with_byte b) (with_name [] ms bs (omega arith) h)
with_name t (InName ∷ ms) (b ∷ bs) same h = with_name (t ++ b ∷ []) ms bs (omega arith) h
with_name t (NameEnd ∷ ms) (b ∷ bs) same h = refl

ends_in_name : (ms : List CellMark) → are_whole true ms ≡ true → list_any ends_name ms ≡ true
ends_in_name [] h = absurd cc
ends_in_name (AsItself ∷ ms) h = absurd cc
ends_in_name (AsNumber ∷ ms) h = absurd cc
ends_in_name (AsEscaped ∷ ms) h = absurd cc
ends_in_name (InName ∷ ms) h = ends_in_name ms h
ends_in_name (NameEnd ∷ ms) h = refl

pub no_name : (ms : List CellMark) (bs : List ℕ) → length ms ≡ length bs → are_whole false ms ≡ true → list_any ends_name ms ≡ false → only_bytes (map piece (atoms_of ms bs)) ≡ Some bs
no_name [] [] same whole h = refl
no_name [] (b ∷ bs) same whole h = absurd (omega arith)
no_name (m ∷ ms) [] same whole h = absurd (omega arith)
no_name (AsItself ∷ ms) (b ∷ bs) same whole h = ap (with_byte b) (no_name ms bs (omega arith) whole h)
no_name (AsNumber ∷ ms) (b ∷ bs) same whole h = ap (with_byte b) (no_name ms bs (omega arith) whole h)
no_name (AsEscaped ∷ ms) (b ∷ bs) same whole h = ap (with_byte b) (no_name ms bs (omega arith) whole h)
no_name (InName ∷ ms) (b ∷ bs) same whole h = let e = ends_in_name ms whole in absurd cc
no_name (NameEnd ∷ ms) (b ∷ bs) same whole h = absurd cc
