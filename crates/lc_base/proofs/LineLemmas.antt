-- Lines of a text and their newlines.
use Rattle.std.proofs.Common.{◌≡◌, ℕ, zero, suc, ◌+◌, ◌<◌, ◌≤◌, ◌||◌, Bool, true, false, not, cond, nat_lt, eqb, List, [], ◌∷◌, ◌++◌, length, take, drop, Option, Some, None, refl, ap, arith, inl, inr}
use Rattle.std.specs.List.{position_or_len, position, list_any}
use Rattle.std.proofs.lemmas.Bool.{eqb-true, ltb-true, ltb-false}
use Rattle.lc_base.specs.Lines.{is_newline, lines_of, ended, EndsLine, CutsLine}

-- the first byte is the newline
head_is : (b : Bool) (n : ℕ) → cond (not b) (1 + n) 0 ≡ 0 → b ≡ true
head_is true n e = refl
head_is false n e = absurd (omega arith)

-- the first byte is no newline
head_not : (b : Bool) (n m : ℕ) → cond (not b) (1 + n) 0 ≡ suc m → (b ≡ false) × (n ≡ m)
head_not true n m e = absurd (omega arith)
head_not false n m e = (refl, omega arith)

-- the first line that a newline ends
ends_at : (text : List ℕ) (at : ℕ) → at < length text → position_or_len is_newline text ≡ at → EndsLine text (take at text) (drop (suc at) text)
ends_at [] at lt e = absurd (omega arith)
ends_at (c ∷ cs) zero lt e =
    let t = head_is (is_newline c) (position_or_len is_newline cs) e in
    record { parts = ap (λ (x : ℕ). x ∷ cs) (eqb-true c 10 t); bare = refl }
ends_at (c ∷ cs) (suc at) lt e =
    let f = head_not (is_newline c) (position_or_len is_newline cs) at e in
    let later = ends_at cs at (omega arith) f.1 in
    record { parts = ap (λ (x : List ℕ). c ∷ x) later.parts; bare = rw f.0 later.bare }

abbrev some : ℕ → Option ℕ
some n = Some n

chosen : (b : Bool) (n i : ℕ) → cond b (some n) None ≡ some i → (b ≡ true) × (n ≡ i)
chosen true n i e = (refl, cc)
chosen false n i e = absurd cc

not_chosen : (b : Bool) (n : ℕ) → cond b (some n) None ≡ None → b ≡ false
not_chosen true n e = absurd cc
not_chosen false n e = refl

pub ends_there : (text : List ℕ) (at : ℕ) → position is_newline text ≡ Some at → EndsLine text (take at text) (drop (suc at) text)
ends_there text at e =
    let f = chosen (nat_lt (position_or_len is_newline text) (length text)) (position_or_len is_newline text) at e in
    ends_at text at (omega (arith, ltb-true _ _ f.0, f.1)) f.1

-- one more byte that is none that is looked for
bare_more : (b : Bool) (n m : ℕ) (later : Bool) → suc m ≤ cond (not b) (1 + n) 0 → (m ≤ n → later ≡ false) → (b || later) ≡ false
bare_more true n m later le h = absurd (omega arith)
bare_more false n m later le h = h (omega arith)

all_bare : (text : List ℕ) → length text ≤ position_or_len is_newline text → list_any is_newline text ≡ false
all_bare [] le = refl
all_bare (c ∷ cs) le = bare_more (is_newline c) (position_or_len is_newline cs) (length cs) (list_any is_newline cs) le (all_bare cs)

pub no_newline : (text : List ℕ) → position is_newline text ≡ None → list_any is_newline text ≡ false
no_newline text e = all_bare text (ltb-false _ _ (not_chosen (nat_lt (position_or_len is_newline text) (length text)) (position_or_len is_newline text) e))

parted : (b later : Bool) → (b || later) ≡ false → (b ≡ false) × (later ≡ false)
parted true later e = absurd cc
parted false later e = (refl, e)

-- the lines of a line with its newline and of what follows
pub lines_of-ended : (line more : List ℕ) → list_any is_newline line ≡ false → lines_of (ended line ++ more) ≡ line ∷ lines_of more
lines_of-ended [] more bare = refl
lines_of-ended (c ∷ cs) more bare =
    let b = parted (is_newline c) (list_any is_newline cs) bare in
    rw (b.0, lines_of-ended cs more b.1) refl

-- the one line of a text without a newline
one_line : (c : ℕ) (cs : List ℕ) → list_any is_newline (c ∷ cs) ≡ false → lines_of (c ∷ cs) ≡ (c ∷ cs) ∷ []
one_line c [] bare =
    let b = parted (is_newline c) false bare in
    rw b.0 refl
one_line c (d ∷ ds) bare =
    let b = parted (is_newline c) (list_any is_newline (d ∷ ds)) bare in
    rw (b.0, one_line d ds b.1) refl

pub cuts_ended : (text line rest : List ℕ) → EndsLine text line rest → CutsLine text line rest
cuts_ended text line rest e = record { lines = rw e.parts (lines_of-ended line rest e.bare); bare = e.bare; parts = inl e.parts }

pub cuts_last : (text : List ℕ) → eqb (length text) 0 ≡ false → list_any is_newline text ≡ false → CutsLine text text []
cuts_last [] some bare = absurd cc
cuts_last (c ∷ cs) some bare = record { lines = one_line c cs bare; bare = bare; parts = inr (refl, refl) }
