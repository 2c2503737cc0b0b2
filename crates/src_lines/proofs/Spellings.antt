-- Operands and lines that are spelled are read back.
use Rattle.std.proofs.Common.{◌≡◌, ◌≢◌, ℕ, zero, suc, ◌+◌, ◌<◌, ◌≤◌, true, false, cond, List, [], ◌∷◌, ◌++◌, length, map, Some, None, Ok, refl, sym, ap, ◌∙◌, arith, append_assoc, zero-add}
use Rattle.std.specs.Prelude.{count_by}
use Rattle.std.specs.List.{list_any, AllByRecursion}
use Rattle.std.proofs.lemmas.List.{append-nil}
use Rattle.std.proofs.lemmas.List.Sums.{sum_by-cons, sum_by-append}
use Rattle.std.proofs.Math.Seq.{drop-append_seam, take-append_seam}
use Rattle.lc_base.specs.declared.place.Place.{Place}
use Rattle.lc_base.specs.Reading.{◌>>=◌}
use Rattle.src_lines.specs.declared.line.OperandPiece.{OperandPiece}
use Rattle.src_lines.specs.declared.line.OperandPiece.TheVariants.{Byte, Name}
use Rattle.src_lines.specs.declared.line.Operand.{Operand}
use Rattle.src_lines.specs.declared.line.Operand.TheVariants.{Plain, Quoted, Dots, Pair}
use Rattle.src_lines.specs.declared.atom.Atom.{Atom}
use Rattle.src_lines.specs.declared.atom.Atom.TheVariants.{Bare, Number, Made}
use Rattle.src_lines.specs.declared.text.RunEnd.TheVariants.{AtSeparator}
use Rattle.src_lines.specs.Limits.{MAX_OPERANDS}
use Rattle.src_lines.specs.Words.{blanks, solid, next_word}
use Rattle.lc_base.specs.Blanks.{is_blank}
use Rattle.src_lines.specs.Places.{Logical, place_at}
use Rattle.src_lines.specs.Atoms.{is_bare, piece, Item, items, items_from}
use Rattle.src_lines.specs.Shapes.{starts, stops, before_bare, behind_bare, without_last, shape}
use Rattle.src_lines.specs.Tokens.{ends_run, run, text, opens, operand, skip, next_place, separated, operands, operands_after, tokens}
use Rattle.src_lines.specs.Spelling.{spelled_piece, spelled_pieces, spelled_operand, spelled_operands, spelled, sole_line, IsWord, IsPiece, IsOperand, AreOperands, IsReadBack}
use Rattle.src_lines.proofs.Opening.{operand_run, operand_quoted}
use Rattle.src_lines.proofs.Operands.{separated_then}
use Rattle.src_lines.proofs.Shaping.{not_dots}
use Rattle.src_lines.proofs.Spelt.{spelled_atom, piece_is, neither}

-- ---- runs and texts

abbrev at_place : Place → Atom → Item
at_place place u = record { place = place; atom = Ok u }

-- what ends a run: the end, or a `;`
abbrev pub Ends : List ℕ → Type 0
Ends [] = Unit {0}
Ends (b ∷ bs) = b ≡ 59

run_stops : (bytes : List ℕ) (at : ℕ) (rest : List ℕ) → Ends rest → run AtSeparator (items (sole_line bytes) 0 at rest) ≡ Ok ([], items (sole_line bytes) 0 at rest)
unfolding run
run_stops bytes at [] h = refl
run_stops bytes at (b ∷ bs) h = rw h refl

run_piece : (place : Place) (p : OperandPiece) (is last : List Item) (us : List Atom) → run AtSeparator is ≡ Ok (us, last) → run AtSeparator (at_place place (spelled_atom p) ∷ is) ≡ Ok (spelled_atom p ∷ us, last)
unfolding run
run_piece place (Byte b) is last us e = rw e refl
run_piece place (Name name) is last us e = rw e refl

run_bare : (place : Place) (b : ℕ) (is last : List Item) (us : List Atom) → ends_run AtSeparator (Bare b) ≡ false → run AtSeparator is ≡ Ok (us, last) → run AtSeparator (at_place place (Bare b) ∷ is) ≡ Ok (Bare b ∷ us, last)
unfolding run
run_bare place b is last us goes e = rw (goes, e) refl

-- these bytes are a run of these atoms and what follows it
abbrev IsRun : List ℕ → ℕ → List ℕ → List Atom → List ℕ → Type 0
IsRun bytes at front us last = (end : ℕ) × (run AtSeparator (items (sole_line bytes) 0 at front) ≡ Ok (us, items (sole_line bytes) 0 end last))

-- a run of spelled pieces and what is read behind them
run_spelled : (bytes : List ℕ) (at : ℕ) (ps : List OperandPiece) (rest last : List ℕ) (us : List Atom) → AllByRecursion IsPiece ps
    → ((k : ℕ) → IsRun bytes k rest us last) → IsRun bytes at (spelled_pieces ps ++ rest) (map spelled_atom ps ++ us) last
run_spelled bytes at [] rest last us small next = next at
run_spelled bytes at (p ∷ ps) rest last us small next =
    let one = piece_is bytes at p (spelled_pieces ps ++ rest) small.0 in
    let later = run_spelled bytes one.0 ps rest last us small.1 next in
    (later.0, rw (append_assoc (spelled_piece p) (spelled_pieces ps) rest, one.1) (run_piece (place_at (sole_line bytes) at) p _ _ _ later.1))

text_piece : (quote place : Place) (p : OperandPiece) (is last : List Item) (ps : List OperandPiece) → text quote is ≡ Ok (ps, last) → text quote (at_place place (spelled_atom p) ∷ is) ≡ Ok (p ∷ ps, last)
unfolding text
text_piece quote place (Byte b) is last ps e = rw e refl
text_piece quote place (Name name) is last ps e = rw e refl

text_closed : (quote place : Place) (is : List Item) → text quote (at_place place (Bare 34) ∷ is) ≡ Ok ([], is)
unfolding text
text_closed quote place is = refl

text_spelled : (bytes : List ℕ) (at : ℕ) (quote : Place) (ps : List OperandPiece) (rest : List ℕ) → AllByRecursion IsPiece ps
    → (end : ℕ) × (text quote (items (sole_line bytes) 0 at (spelled_pieces ps ++ 34 ∷ rest)) ≡ Ok (ps, items (sole_line bytes) 0 end rest))
text_spelled bytes at quote [] rest small = (at + 1, text_closed quote _ _)
text_spelled bytes at quote (p ∷ ps) rest small =
    let one = piece_is bytes at p (spelled_pieces ps ++ 34 ∷ rest) small.0 in
    let later = text_spelled bytes one.0 quote ps rest small.1 in
    (later.0, rw (append_assoc (spelled_piece p) (spelled_pieces ps) (34 ∷ rest), one.1) (text_piece quote (place_at (sole_line bytes) at) p _ _ _ later.1))

-- ---- shapes

pieces_of_atoms : (ps : List OperandPiece) → map piece (map spelled_atom ps) ≡ ps
pieces_of_atoms [] = refl
pieces_of_atoms (Byte b ∷ ps) = ap (λ (qs : List OperandPiece). Byte b ∷ qs) (pieces_of_atoms ps)
pieces_of_atoms (Name name ∷ ps) = ap (λ (qs : List OperandPiece). Name name ∷ qs) (pieces_of_atoms ps)

no_start : (b : ℕ) (ps : List OperandPiece) → starts b (map spelled_atom ps) ≡ false
no_start b [] = refl
no_start b (Byte c ∷ ps) = refl
no_start b (Name name ∷ ps) = refl

plain_shape : (ps : List OperandPiece) → shape (map spelled_atom ps ++ []) ≡ Plain ps
plain_shape ps = rw (append-nil (map spelled_atom ps), not_dots 0 (map spelled_atom ps) (omega arith) (no_start 46 ps), no_start 40 ps, pieces_of_atoms ps) refl

stops_last : (u : Atom) (us : List Atom) → stops 41 (u ∷ (us ++ Bare 41 ∷ [])) ≡ true
stops_last u [] = refl
stops_last u (v ∷ us) = stops_last v us

before_is : (ps : List OperandPiece) (us : List Atom) → before_bare 44 (map spelled_atom ps ++ Bare 44 ∷ us) ≡ map spelled_atom ps
before_is [] us = refl
before_is (Byte b ∷ ps) us = ap (λ (vs : List Atom). Number b ∷ vs) (before_is ps us)
before_is (Name name ∷ ps) us = ap (λ (vs : List Atom). Made (Name name) ∷ vs) (before_is ps us)

behind_is : (ps : List OperandPiece) (us : List Atom) → behind_bare 44 (map spelled_atom ps ++ Bare 44 ∷ us) ≡ us
behind_is [] us = refl
behind_is (Byte b ∷ ps) us = behind_is ps us
behind_is (Name name ∷ ps) us = behind_is ps us

without_is : (us : List Atom) (u : Atom) → without_last (us ++ u ∷ []) ≡ us
without_is [] u = refl
without_is (v ∷ []) u = refl
without_is (v ∷ w ∷ us) u = ap (λ (vs : List Atom). v ∷ vs) (without_is (w ∷ us) u)

none_bare : (ps : List OperandPiece) → count_by (is_bare 44) (map spelled_atom ps) ≡ 0
none_bare [] = refl
none_bare (Byte b ∷ ps) = sum_by-cons (λ (u : Atom). cond (is_bare 44 u) 1 0) (Number b) (map spelled_atom ps) ∙ zero-add _ ∙ none_bare ps
none_bare (Name name ∷ ps) = sum_by-cons (λ (u : Atom). cond (is_bare 44 u) 1 0) (Made (Name name)) (map spelled_atom ps) ∙ zero-add _ ∙ none_bare ps

-- the atoms of a spelled pair
abbrev pair_atoms : List OperandPiece → List OperandPiece → List Atom
pair_atoms left right = Bare 40 ∷ (map spelled_atom left ++ Bare 44 ∷ (map spelled_atom right ++ Bare 41 ∷ []))

one_comma : (left right : List OperandPiece) → count_by (is_bare 44) (pair_atoms left right) ≡ 1
one_comma left right =
    let weight : Atom → ℕ = λ u. cond (is_bare 44 u) 1 0 in
    let a = sum_by-cons weight (Bare 40) (map spelled_atom left ++ Bare 44 ∷ (map spelled_atom right ++ Bare 41 ∷ [])) in
    let b = sum_by-append weight (map spelled_atom left) (Bare 44 ∷ (map spelled_atom right ++ Bare 41 ∷ [])) in
    let c = sum_by-cons weight (Bare 44) (map spelled_atom right ++ Bare 41 ∷ []) in
    let d = sum_by-append weight (map spelled_atom right) (Bare 41 ∷ []) in
    omega (arith, a, b, c, d, none_bare left, none_bare right)

pair_shape : (left right : List OperandPiece) → shape (pair_atoms left right) ≡ Pair left right
pair_shape left right =
    let ends : stops 41 (pair_atoms left right) ≡ true = rw (sym (append_assoc (map spelled_atom left) (Bare 44 ∷ map spelled_atom right) (Bare 41 ∷ []))) (stops_last (Bare 40) (map spelled_atom left ++ Bare 44 ∷ map spelled_atom right)) in
    rw (not_dots 0 (pair_atoms left right) (omega arith) refl, ends, one_comma left right, before_is left (map spelled_atom right ++ Bare 41 ∷ []), behind_is left (map spelled_atom right ++ Bare 41 ∷ []), without_is (map spelled_atom right) (Bare 41), pieces_of_atoms left, pieces_of_atoms right) refl

-- ---- operands

opens_not : (place : Place) (p : OperandPiece) (is : List Item) → opens (at_place place (spelled_atom p) ∷ is) ≡ false
opens_not place (Byte b) is = refl
opens_not place (Name name) is = refl

plain_opens : (bytes : List ℕ) (at : ℕ) (ps : List OperandPiece) (rest : List ℕ) → AllByRecursion IsPiece ps → Ends rest → opens (items (sole_line bytes) 0 at (spelled_pieces ps ++ rest)) ≡ false
plain_opens bytes at [] [] small h = refl
plain_opens bytes at [] (b ∷ bs) small h = rw h refl
plain_opens bytes at (p ∷ ps) rest small h =
    let one = piece_is bytes at p (spelled_pieces ps ++ rest) small.0 in
    rw (append_assoc (spelled_piece p) (spelled_pieces ps) rest, one.1) (opens_not (place_at (sole_line bytes) at) p (items (sole_line bytes) 0 one.0 (spelled_pieces ps ++ rest)))

-- an operand is read back, before a `;` or the end
abbrev pub IsReadBackAs : List ℕ → ℕ → Operand → List ℕ → Type 0
IsReadBackAs bytes at o rest = (end : ℕ) × (operand (items (sole_line bytes) 0 at (spelled_operand o ++ rest)) ≡ Ok (o, items (sole_line bytes) 0 end rest))

shaped : (is last : List Item) (us : List Atom) (o : Operand) → opens is ≡ false → run AtSeparator is ≡ Ok (us, last) → shape us ≡ o → operand is ≡ Ok (o, last)
shaped is last us o closed reads s = operand_run is closed ∙ rw (reads, s) refl

quoted_is : (is rest last : List Item) (place : Place) (ps : List OperandPiece) → is ≡ at_place place (Bare 34) ∷ rest → text place rest ≡ Ok (ps, last) → operand is ≡ Ok (Quoted ps, last)
quoted_is is rest last place ps e reads = operand_quoted is rest (at_place place (Bare 34)) e refl ∙ rw reads refl

pub operand_spelled : (bytes : List ℕ) (at : ℕ) (o : Operand) (rest : List ℕ) → IsOperand o → Ends rest → IsReadBackAs bytes at o rest
operand_spelled bytes at (Plain ps) rest small h =
    let r = run_spelled bytes at ps rest rest [] small (λ k. (k, run_stops bytes k rest h)) in
    (r.0, shaped _ _ _ (Plain ps) (plain_opens bytes at ps rest small h) r.1 (plain_shape ps))
operand_spelled bytes at (Quoted ps) rest small h =
    let r = text_spelled bytes (at + 1) (place_at (sole_line bytes) at) ps rest small in
    (r.0, rw (append_assoc (spelled_pieces ps) (34 ∷ []) rest) (quoted_is _ _ _ (place_at (sole_line bytes) at) ps refl r.1))
operand_spelled bytes at Dots rest small h =
    let stops = run_stops bytes (at + 1 + 1 + 1) rest h in
    let three = run_bare (place_at (sole_line bytes) at) 46 _ _ _ refl (run_bare (place_at (sole_line bytes) (at + 1)) 46 _ _ _ refl (run_bare (place_at (sole_line bytes) (at + 1 + 1)) 46 _ _ _ refl stops)) in
    (at + 1 + 1 + 1, shaped _ _ _ Dots refl three refl)
operand_spelled bytes at (Pair left right) rest small h =
    let last : (k : ℕ) → IsRun bytes k (41 ∷ rest) (Bare 41 ∷ []) rest = λ k. (k + 1, run_bare (place_at (sole_line bytes) k) 41 _ _ _ refl (run_stops bytes (k + 1) rest h)) in
    let second : (k : ℕ) → IsRun bytes k (44 ∷ (spelled_pieces right ++ 41 ∷ rest)) (Bare 44 ∷ (map spelled_atom right ++ Bare 41 ∷ [])) rest = λ k. (let r = run_spelled bytes (k + 1) right (41 ∷ rest) rest (Bare 41 ∷ []) small.1 last in (r.0, run_bare (place_at (sole_line bytes) k) 44 _ _ _ refl r.1)) in
    let first = run_spelled bytes (at + 1) left (44 ∷ (spelled_pieces right ++ 41 ∷ rest)) rest (Bare 44 ∷ (map spelled_atom right ++ Bare 41 ∷ [])) small.0 second in
    let parts : (spelled_pieces left ++ 44 ∷ (spelled_pieces right ++ 41 ∷ [])) ++ rest ≡ spelled_pieces left ++ 44 ∷ (spelled_pieces right ++ 41 ∷ rest) =
    append_assoc (spelled_pieces left) (44 ∷ (spelled_pieces right ++ 41 ∷ [])) rest ∙ ap (λ (bs : List ℕ). spelled_pieces left ++ 44 ∷ bs) (append_assoc (spelled_pieces right) (41 ∷ []) rest) in
    (first.0, rw parts (shaped _ _ _ (Pair left right) refl (run_bare (place_at (sole_line bytes) at) 40 _ _ _ refl first.1) (pair_shape left right)))

-- ---- lists of operands

skip_not : (place : Place) (p : OperandPiece) (is : List Item) → skip (at_place place (spelled_atom p) ∷ is) ≡ at_place place (spelled_atom p) ∷ is
skip_not place (Byte b) is = refl
skip_not place (Name name) is = refl

skip_ends : (bytes : List ℕ) (at : ℕ) (rest : List ℕ) → Ends rest → skip (items (sole_line bytes) 0 at rest) ≡ items (sole_line bytes) 0 at rest
skip_ends bytes at [] h = refl
skip_ends bytes at (b ∷ bs) h = rw h refl

-- no blank stands before an operand
skip_spelled : (bytes : List ℕ) (at : ℕ) (o : Operand) (rest : List ℕ) → IsOperand o → Ends rest → skip (items (sole_line bytes) 0 at (spelled_operand o ++ rest)) ≡ items (sole_line bytes) 0 at (spelled_operand o ++ rest)
skip_spelled bytes at (Plain []) rest small h = skip_ends bytes at rest h
skip_spelled bytes at (Plain (p ∷ ps)) rest small h =
    let one = piece_is bytes at p (spelled_pieces ps ++ rest) small.0 in
    rw (append_assoc (spelled_piece p) (spelled_pieces ps) rest, one.1) (skip_not (place_at (sole_line bytes) at) p (items (sole_line bytes) 0 one.0 (spelled_pieces ps ++ rest)))
skip_spelled bytes at (Quoted ps) rest small h = refl
skip_spelled bytes at Dots rest small h = refl
skip_spelled bytes at (Pair left right) rest small h = refl

last_operand : (left : ℕ) (end : Place) (is js later : List Item) (o : Operand) → js ≡ skip is → operand js ≡ Ok (o, later) → skip later ≡ [] → operands (suc left) end is ≡ Ok ((next_place end js, o) ∷ [])
unfolding operands
last_operand left end is js later o none reads over =
    let one : separated js ≡ Ok (o, None) = separated_then js later [] o reads (sym over) in
    rw (← none, one, ← none) refl

one_more : (left : ℕ) (end : Place) (is js later rest : List Item) (place : Place) (o : Operand) (os : List (Place × Operand)) → js ≡ skip is → operand js ≡ Ok (o, later) → skip later ≡ at_place place (Bare 59) ∷ rest → operands left end rest ≡ Ok os
    → operands (suc left) end is ≡ Ok ((next_place end js, o) ∷ os)
unfolding operands
one_more left end is js later rest place o os none reads semicolon more =
    let one : separated js ≡ Ok (o, Some rest) = separated_then js later (at_place place (Bare 59) ∷ rest) o reads (sym semicolon) in
    rw (← none, one, more, ← none) refl

-- operands are read back, at most so many
abbrev pub AreReadBack : ℕ → Place → List Item → List Operand → Type 0
AreReadBack n end is os = (found : List (Place × Operand)) × (operands n end is ≡ Ok found) × (map (λ x. x.1) found ≡ os)

operands_spelled : (bytes : List ℕ) (at n : ℕ) (end : Place) (o : Operand) (os : List Operand) → length (o ∷ os) ≤ n → AllByRecursion IsOperand (o ∷ os) → AreReadBack n end (items (sole_line bytes) 0 at (spelled_operands (o ∷ os))) (o ∷ os)
operands_spelled bytes at zero end o os few small = absurd (omega arith)
operands_spelled bytes at (suc left) end o [] few small =
    let r = operand_spelled bytes at o [] small.0 tt in
    let s = skip_spelled bytes at o [] small.0 tt in
    let reads = rw append-nil at r.1 in
    let none = rw append-nil at s in
    ((next_place end (items (sole_line bytes) 0 at (spelled_operand o)), o) ∷ [], last_operand left end _ _ _ o (sym none) reads refl, refl)
operands_spelled bytes at (suc left) end o (p ∷ os) few small =
    let rest = 59 ∷ spelled_operands (p ∷ os) in
    let r = operand_spelled bytes at o rest small.0 refl in
    let s = skip_spelled bytes at o rest small.0 refl in
    let later = operands_spelled bytes (r.0 + 1) left end p os (omega arith) small.1 in
    ((next_place end (items (sole_line bytes) 0 at (spelled_operand o ++ rest)), o) ∷ later.0, one_more left end _ _ _ _ (place_at (sole_line bytes) r.0) o later.0 (sym s) r.1 refl later.1, ap (λ (xs : List Operand). o ∷ xs) later.2)

-- ---- lines

solid_is : (k xs : List ℕ) → list_any is_blank k ≡ false → solid (k ++ 32 ∷ xs) ≡ length k
solid_is [] xs h = refl
solid_is (c ∷ cs) xs h =
    let n = neither (is_blank c) (list_any is_blank cs) h in
    rw (n.0, solid_is cs xs n.1) (omega arith)

-- the first word of a line
keyword_is : (k xs : List ℕ) → IsWord k → ((next_word (k ++ 32 ∷ xs)).skipped ≡ 0) × ((next_word (k ++ 32 ∷ xs)).text ≡ k)
keyword_is [] xs w = absurd (omega (arith, w.some))
keyword_is (c ∷ cs) xs w =
    let n = neither (is_blank c) (list_any is_blank cs) w.solid in
    let none : blanks (c ∷ (cs ++ 32 ∷ xs)) ≡ 0 = rw n.0 refl in
    let len = solid_is (c ∷ cs) xs w.solid in
    (none, rw (none, len) (take-append_seam (c ∷ cs) (32 ∷ xs)))

tokens_are : (l : Logical) (k : List ℕ) → (next_word l.bytes).skipped ≡ 0 → (next_word l.bytes).text ≡ k
    → tokens l ≡ (operands_after (place_at l (length l.bytes)) (skip (items_from l (0 + length k))) >>= λ os. Ok (record { place = place_at l 0; keyword = k; operands = os }))
unfolding tokens
tokens_are l k skipped word = rw (word, skipped) refl

items_are : (k xs : List ℕ) (bytes : List ℕ) → bytes ≡ k ++ 32 ∷ xs → skip (items_from (sole_line bytes) (0 + length k)) ≡ skip (items (sole_line bytes) 0 (length k + 1) xs)
unfolding items_from
items_are k xs bytes e = rw (zero-add (length k), e, drop-append_seam k (32 ∷ xs)) refl

some_after : (l : Logical) (at : ℕ) (end : Place) (bs : List ℕ) → 0 < length bs → operands_after end (items l 0 at bs) ≡ operands MAX_OPERANDS end (items l 0 at bs)
some_after l at end [] some = absurd (omega arith)
some_after l at end (b ∷ bs) some = refl

-- a list of operands has a byte, but for the list of an empty one alone
first_byte : (o : Operand) (os : List Operand) (b : ℕ) (bs : List ℕ) → spelled_operand o ≡ b ∷ bs → 0 < length (spelled_operands (o ∷ os))
first_byte o [] b bs e = rw e (omega arith)
first_byte o (p ∷ os) b bs e = rw e (omega arith)

some_byte : (o : Operand) (os : List Operand) → o ∷ os ≢ Plain [] ∷ [] → 0 < length (spelled_operands (o ∷ os))
some_byte (Plain []) [] some = absurd (some refl)
some_byte (Plain []) (p ∷ os) some = omega arith
some_byte (Plain (Byte b ∷ ps)) os some = first_byte (Plain (Byte b ∷ ps)) os 92 _ refl
some_byte (Plain (Name name ∷ ps)) os some = first_byte (Plain (Name name ∷ ps)) os 60 _ refl
some_byte (Quoted ps) os some = first_byte (Quoted ps) os 34 _ refl
some_byte Dots os some = first_byte Dots os 46 _ refl
some_byte (Pair left right) os some = first_byte (Pair left right) os 40 _ refl

-- no blank stands before the first operand
skip_first : (bytes : List ℕ) (at : ℕ) (o : Operand) (os : List Operand) → IsOperand o → skip (items (sole_line bytes) 0 at (spelled_operands (o ∷ os))) ≡ items (sole_line bytes) 0 at (spelled_operands (o ∷ os))
skip_first bytes at o [] small = rw append-nil at (skip_spelled bytes at o [] small tt)
skip_first bytes at o (p ∷ os) small = skip_spelled bytes at o (59 ∷ spelled_operands (p ∷ os)) small refl

-- the operands behind a keyword are read back
after_spelled : (bytes : List ℕ) (at : ℕ) (end : Place) (os : List Operand) → AreOperands os
    → (found : List (Place × Operand)) × (operands_after end (skip (items (sole_line bytes) 0 at (spelled_operands os))) ≡ Ok found) × (map (λ x. x.1) found ≡ os)
after_spelled bytes at end [] good = ([], refl, refl)
after_spelled bytes at end (o ∷ os) good =
    let r = operands_spelled bytes at MAX_OPERANDS end o os good.few good.each in
    let some = some_after (sole_line bytes) at end (spelled_operands (o ∷ os)) (some_byte o os good.some) in
    (r.0, rw (skip_first bytes at o os good.each.0) (some ∙ r.1), r.2)

pub read_back : (keyword : List ℕ) (os : List Operand) → IsWord keyword → AreOperands os → IsReadBack keyword os
read_back keyword os word good =
    let bytes = spelled keyword os in
    let l = sole_line bytes in
    let k = keyword_is keyword (spelled_operands os) word in
    let after = after_spelled bytes (length keyword + 1) (place_at l (length bytes)) os good in
    (after.0, tokens_are l keyword k.0 k.1 ∙ rw (items_are keyword (spelled_operands os) bytes refl, after.1) refl, after.2)
