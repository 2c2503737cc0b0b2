-- Runs and texts that are read atom by atom.
use Rattle.std.proofs.Common.{◌≡◌, Bool, true, false, cond, List, [], ◌∷◌, ◌++◌, map, Ok, Err, refl, sym, ap, ◌∙◌, append_assoc}
use Rattle.std.proofs.lemmas.List.{append-nil, map-append}
use Rattle.lc_base.specs.declared.place.Place.{Place}
use Rattle.lc_base.specs.declared.reason.Reason.{Reason}
use Rattle.lc_base.specs.declared.reason.Reason.TheVariants.{OpenString}
use Rattle.lc_base.specs.declared.fault.TextFault.{TextFault}
use Rattle.lc_base.specs.declared.fault.TextFault.TheVariants.{At}
use Rattle.lc_base.specs.Reading.{Reads, ◌>>=◌, Fails}
use Rattle.src_lines.specs.declared.line.OperandPiece.{OperandPiece}
use Rattle.src_lines.specs.declared.atom.Atom.{Atom}
use Rattle.src_lines.specs.declared.text.RunEnd.{RunEnd}
use Rattle.src_lines.specs.Atoms.{is_bare, piece, Item}
use Rattle.src_lines.specs.Tokens.{ends_run, is_closed, and_then, run, text}

-- what was read before, and what is still read
abbrev pub after : {A B : Type 0} → List A → Reads (List A × B) → Reads (List A × B)
after front later = later >>= λ x. Ok (front ++ x.0, x.1)

after-and_then : {A : Type 0} (front : List A) (a : A) (later : Reads (List A × List Item)) → after front (and_then a later) ≡ after (front ++ a ∷ []) later
after-and_then {A} front a (Ok x) = ap {B = Reads (List A × List Item)} (λ (xs : List A). Ok (xs, x.1)) (sym (append_assoc front (a ∷ []) x.0))
after-and_then front a (Err e) = refl

after-choice : {A B : Type 0} (front : List A) (b : Bool) (p q : Place × Reason) → after {A = A} {B = B} front (cond b (Err p) (Err q)) ≡ cond b (Err p) (Err q)
after-choice front true p q = refl
after-choice front false p q = refl

-- ---- runs

pub run_ends : (end : RunEnd) (front : List Atom) (is : List Item) (place : Place) (u : Atom) (rest : List Item) → is ≡ record { place = place; atom = Ok u } ∷ rest → ends_run end u ≡ true → after front (run end is) ≡ Ok (front, is)
unfolding run
run_ends end front is place u rest e ends = rw (e, ends) (ap {B = Reads (List Atom × List Item)} (λ (us : List Atom). Ok (us, record { place = place; atom = Ok u } ∷ rest)) (append-nil front))

pub run_is_over : (end : RunEnd) (front : List Atom) (is : List Item) → is ≡ [] → after front (run end is) ≡ Ok (front, is)
unfolding run
run_is_over end front is e = rw e (ap {B = Reads (List Atom × List Item)} (λ (us : List Atom). Ok (us, [])) (append-nil front))

pub run_goes_on : (end : RunEnd) (front : List Atom) (is : List Item) (place : Place) (u : Atom) (rest : List Item) → is ≡ record { place = place; atom = Ok u } ∷ rest → ends_run end u ≡ false → after front (run end is) ≡ after (front ++ u ∷ []) (run end rest)
unfolding run
run_goes_on end front is place u rest e goes = rw (e, goes) (after-and_then front u (run end rest))

pub run_fails : (end : RunEnd) (front : List Atom) (is : List Item) (place : Place) (r : Reason) (rest : List Item) → is ≡ record { place = place; atom = Err r } ∷ rest → after front (run end is) ≡ Err (place, r)
unfolding run
run_fails end front is place r rest e = rw e refl

-- ---- texts

pub text_ends : (front : List Atom) (quote : Place) (is : List Item) (place : Place) (u : Atom) (rest : List Item) → is ≡ record { place = place; atom = Ok u } ∷ rest → is_bare 34 u ≡ true → after (map piece front) (text quote is) ≡ Ok (map piece front, rest)
unfolding text
text_ends front quote is place u rest e ends = rw (e, ends) (ap {B = Reads (List OperandPiece × List Item)} (λ (ps : List OperandPiece). Ok (ps, rest)) (append-nil (map piece front)))

pub text_is_open : (front : List OperandPiece) (quote : Place) (is : List Item) → is ≡ [] → after front (text quote is) ≡ Err (quote, OpenString)
unfolding text
text_is_open front quote is e = rw e refl

pub text_goes_on : (front : List Atom) (quote : Place) (is : List Item) (place : Place) (u : Atom) (rest : List Item) → is ≡ record { place = place; atom = Ok u } ∷ rest → is_bare 34 u ≡ false → after (map piece front) (text quote is) ≡ after (map piece (front ++ u ∷ [])) (text quote rest)
unfolding text
text_goes_on front quote is place u rest e goes = rw (e, goes, map-append piece front (u ∷ [])) (after-and_then (map piece front) (piece u) (text quote rest))

-- a choice of faults
chosen : {A : Type 0} (b : Bool) (p q : Place) (r s : Reason) (total : Reads A) → cond b (Err (p, r)) (Err (q, s)) ≡ total → Fails (cond b (At p r) (At q s)) total
chosen true p q r s total e = sym e
chosen false p q r s total e = sym e

-- the fault of a text with a fault in it
pub text_fails : (outer : TextFault) (front : List OperandPiece) (quote : Place) (is : List Item) (place : Place) (r : Reason) (rest : List Item) (total : Reads (List OperandPiece × List Item)) → is ≡ record { place = place; atom = Err r } ∷ rest → after front (text quote is) ≡ total
    → outer ≡ cond (is_closed rest) (At place r) (At quote OpenString) → Fails outer total
unfolding text
text_fails outer front quote is place r rest total e so_far which =
    let one : after front (text quote is) ≡ after front (cond (is_closed rest) (Err (place, r)) (Err (quote, OpenString))) = rw e refl in
    let two = after-choice front (is_closed rest) (place, r) (quote, OpenString) in
    rw which (chosen (is_closed rest) place quote r OpenString total (sym two ∙ sym one ∙ so_far))
