-- The characters of a set among ranges, value by value.
use Rattle.std.proofs.Common.{◌≡◌, ℕ, suc, ◌+◌, ◌<◌, ◌≤◌, ◌⊎◌, inl, inr, min, max, Bool, true, false, ◌&&◌, ◌||◌, ⊎_elim, List, [], ◌∷◌, ◌++◌, All, map, refl, sym, ap, ◌∙◌, arith, ltb, leb, eqb}
use Rattle.std.specs.Int.{is_in_range}
use Rattle.std.specs.List.{list_any}
use Rattle.std.proofs.lemmas.Bool.{cases_lt, cond_both, leb-true, lt-ltb, le-ltb}
use Rattle.std.proofs.lemmas.Bool.Decides.{nat_tests}
use Rattle.std.proofs.lemmas.List.Elements.{All-push, All-cons}
use Rattle.std.proofs.lemmas.List.Folds.{list_any-append}
use Rattle.class_ranges.specs.Ranges.{Range, covers, IsApart}
use Rattle.class_ranges.proofs.Orders.{same-ranges_of, covers-ranges_of}
use Rattle.charset.specs.Portable.{Name, is_portable}
use Rattle.charset.specs.CodedSet.{CodedSet, utf8, posix, listed, has, has_value, big_endian}
use Rattle.class_ranges.specs.Runs.{IsRunFrom}
use Rattle.ctype_classes.specs.Characters.{ranges_of_set, overlap, overlap_each, overlaps, characters}

-- ranges that do not run backward
abbrev pub AreForward : List Range → Type 0
AreForward ranges = All (λ (range : Range). range.0 ≤ range.1) ranges

-- ---- the ranges of a set

-- a range of one value
one_value : (v w : ℕ) → is_in_range v v w ≡ eqb v w
one_value v w = grind (arith, nat_tests)

-- the values of names
covers_values : (entries : List (Name × List ℕ)) (w : ℕ) → covers (map (λ (e : Name × List ℕ). (big_endian e.1, big_endian e.1)) entries) w ≡ list_any (has_value w) entries
covers_values [] w = refl
covers_values (e ∷ es) w = rw (one_value (big_endian e.1) w, covers_values es w) refl

-- the portable characters before others
portable_first : (w : ℕ) (b : Bool) → (is_in_range 0 0 w || (is_in_range 7 13 w || (is_in_range 32 126 w || b))) ≡ (is_portable w || b)
portable_first w true = grind (arith, nat_tests)
portable_first w false = grind (arith, nat_tests)

-- the ranges of a set have just its characters
pub covers-ranges_of_set : (set : CodedSet) (w : ℕ) → covers (ranges_of_set set) w ≡ has set w
covers-ranges_of_set utf8 w = grind (arith, nat_tests)
covers-ranges_of_set posix w = grind (arith, nat_tests)
covers-ranges_of_set (listed name entries) w =
    rw (covers_values entries w) (portable_first w (list_any (has_value w) entries))

-- ---- overlaps

-- one more range in front
All-cons-range : (x : Range) (xs : List Range) → x.0 ≤ x.1 → AreForward xs → AreForward (x ∷ xs)
All-cons-range x xs h k = All-cons (λ (range : Range). range.0 ≤ range.1) x xs h k

-- ranges of two lists that do not run backward
All-append-both : (xs ys : List Range) → AreForward xs → AreForward ys → AreForward (xs ++ ys)
All-append-both [] ys h k = k
All-append-both (x ∷ xs) ys h k = All-cons-range x (xs ++ ys) (h 0 x (omega arith)) (All-append-both xs ys (λ i d within. h (suc i) d (omega arith)) k)

overlap_forward : (r s : Range) → AreForward (overlap r s)
overlap_forward r s = cond_both (leb (max r.0 s.0) (min r.1 s.1)) ((max r.0 s.0, min r.1 s.1) ∷ []) [] AreForward
    (λ one. let upto : max r.0 s.0 ≤ min r.1 s.1 = leb-true (max r.0 s.0) (min r.1 s.1) one in All-push (λ (range : Range). range.0 ≤ range.1) [] (max r.0 s.0, min r.1 s.1) (λ k d within. absurd (omega arith)) upto)
    (λ none k d within. absurd (omega arith))

covers-overlap : (r s : Range) (w : ℕ) → covers (overlap r s) w ≡ (is_in_range r.0 r.1 w && is_in_range s.0 s.1 w)
covers-overlap r s w =
    cond_both (leb (max r.0 s.0) (min r.1 s.1)) ((max r.0 s.0, min r.1 s.1) ∷ []) [] (λ out. covers out w ≡ (is_in_range r.0 r.1 w && is_in_range s.0 s.1 w))
    (λ one. grind (arith, nat_tests))
    (λ none. grind (arith, nat_tests))

-- a test beside a choice, and a choice beside a test
spread : (a b c : Bool) → (a && (b || c)) ≡ ((a && b) || (a && c))
spread true b c = refl
spread false b c = refl

gather : (a b c : Bool) → ((a || b) && c) ≡ ((a && c) || (b && c))
gather true true true = refl
gather true true false = refl
gather true false true = refl
gather true false false = refl
gather false b c = refl

and_false : (a : Bool) → (a && false) ≡ false
and_false true = refl
and_false false = refl

pub covers-append : (xs ys : List Range) (w : ℕ) → covers (xs ++ ys) w ≡ (covers xs w || covers ys w)
covers-append xs ys w = list_any-append (λ (range : Range). is_in_range range.0 range.1 w) xs ys

covers-overlap_each : (r : Range) (ss : List Range) (w : ℕ) → covers (overlap_each r ss) w ≡ (is_in_range r.0 r.1 w && covers ss w)
covers-overlap_each r [] w = sym (and_false (is_in_range r.0 r.1 w))
covers-overlap_each r (s ∷ ss) w =
    covers-append (overlap r s) (overlap_each r ss) w
    ∙ rw (covers-overlap r s w, covers-overlap_each r ss w) (sym (spread (is_in_range r.0 r.1 w) (is_in_range s.0 s.1 w) (covers ss w)))

pub covers-overlaps : (rs ss : List Range) (w : ℕ) → covers (overlaps rs ss) w ≡ (covers rs w && covers ss w)
covers-overlaps [] ss w = refl
covers-overlaps (r ∷ rs) ss w =
    covers-append (overlap_each r ss) (overlaps rs ss) w
    ∙ rw (covers-overlap_each r ss w, covers-overlaps rs ss w) (sym (gather (is_in_range r.0 r.1 w) (covers rs w) (covers ss w)))

-- no overlap runs backward
overlap_each_forward : (r : Range) (ss : List Range) → AreForward (overlap_each r ss)
overlap_each_forward r [] = λ k d within. absurd (omega arith)
overlap_each_forward r (s ∷ ss) = All-append-both (overlap r s) (overlap_each r ss) (overlap_forward r s) (overlap_each_forward r ss)

pub overlaps_forward : (rs ss : List Range) → AreForward (overlaps rs ss)
overlaps_forward [] ss = λ k d within. absurd (omega arith)
overlaps_forward (r ∷ rs) ss = All-append-both (overlap_each r ss) (overlaps rs ss) (overlap_each_forward r ss) (overlaps_forward rs ss)

-- the characters of a set among ranges, value by value
pub covers-characters : (set : CodedSet) (ranges : List Range) (w : ℕ) → covers (characters set ranges) w ≡ (has set w && covers ranges w)
unfolding characters
covers-characters set ranges w =
    covers-ranges_of (overlaps (ranges_of_set set) ranges) w (overlaps_forward (ranges_of_set set) ranges)
    ∙ covers-overlaps (ranges_of_set set) ranges w
    ∙ ap (λ (b : Bool). b && covers ranges w) (covers-ranges_of_set set w)

-- ranges with gaps between them that have just these characters
pub characters_are : (set : CodedSet) (ranges parts : List Range) → IsApart parts → ((w : ℕ) → covers parts w ≡ (has set w && covers ranges w)) → parts ≡ characters set ranges
unfolding characters
characters_are set ranges parts order same =
    same-ranges_of parts (overlaps (ranges_of_set set) ranges) order (overlaps_forward (ranges_of_set set) ranges) (λ w.
    same w ∙ ap (λ (b : Bool). b && covers ranges w) (sym (covers-ranges_of_set set w)) ∙ sym (covers-overlaps (ranges_of_set set) ranges w))

-- ---- the runs of a range

-- what the loop that adds the characters of a range keeps
pub record AreAdded (test : ℕ → Bool) (old : List Range) (low high from last : ℕ) (parts : List Range) : Type 0 where
  pub end : last ≡ high
  pub begun : low ≤ from
  pub within : from ≤ last
  pub forward : AreForward parts
  pub values : (w : ℕ) → covers parts w ≡ (covers old w || (test w && (is_in_range low high w && ltb w from)))

or_false : (a : Bool) → (a || false) ≡ a
or_false true = refl
or_false false = refl

in_range : (low high w : ℕ) → low ≤ w → w ≤ high → is_in_range low high w ≡ true
in_range low high w above below = grind (arith, nat_tests)

below_range : (low high w : ℕ) → w < low → is_in_range low high w ≡ false
below_range low high w below = grind (arith, nat_tests)

above_range : (low high w : ℕ) → high < w → is_in_range low high w ≡ false
above_range low high w above = grind (arith, nat_tests)

-- the characters of a range before a value, and those from it on that a test finds in a run
piece : (test : ℕ → Bool) (low high from next : ℕ) (first last : ℕ) (w : ℕ)
    → (w < from → w < next) → (w < from → w < first)
    → (from ≤ w → w < first → test w ≡ false)
    → (from ≤ w → first ≤ w → w ≤ last → (test w ≡ true) × ((low ≤ w) × ((w ≤ high) × (w < next))))
    → (from ≤ w → last < w → (high < w) ⊎ (next ≤ w))
    → (test w && (is_in_range low high w && ltb w next)) ≡ ((test w && (is_in_range low high w && ltb w from)) || is_in_range first last w)
piece test low high from next first last w early before none there past =
    ⊎_elim
    (λ under.
    let one : ltb w from ≡ true = lt-ltb w from under in
    let two : ltb w next ≡ true = lt-ltb w next (early under) in
    let three : is_in_range first last w ≡ false = below_range first last w (before under) in
    rw (one, two, three) (sym (or_false (test w && (is_in_range low high w && true)))))
    (λ from_on.
    let late : ltb w from ≡ false = le-ltb w from from_on in
    ⊎_elim
    (λ gap.
    let no : test w ≡ false = none from_on gap in
    let out : is_in_range first last w ≡ false = below_range first last w gap in
    rw (no, out) refl)
    (λ begun. ⊎_elim
    (λ behind.
    let out : is_in_range first last w ≡ false = above_range first last w behind in
    ⊎_elim
    (λ outside. let no : is_in_range low high w ≡ false = above_range low high w outside in rw (no, out) (and_false (test w) ∙ sym (or_false (test w && false) ∙ and_false (test w))))
    (λ later.
    let no : ltb w next ≡ false = le-ltb w next later in
    rw (no, late, out) (sym (or_false (test w && (is_in_range low high w && false)))))
    (past from_on behind))
    (λ inside.
    let facts = there from_on begun inside in
    let is : test w ≡ true = facts.0 in
    let in_low : is_in_range low high w ≡ true = in_range low high w facts.1.0 facts.1.1.0 in
    let in_first : is_in_range first last w ≡ true = in_range first last w begun inside in
    let early_on : ltb w next ≡ true = lt-ltb w next facts.1.1.1 in
    rw (is, in_low, in_first, late, early_on) refl)
    (cases_lt last w))
    (cases_lt w first))
    (cases_lt w from)

-- a choice of three, grouped
or_group : (a b c : Bool) → ((a || b) || (c || false)) ≡ (a || (b || c))
or_group true b c = refl
or_group false true c = refl
or_group false false true = refl
or_group false false false = refl

-- a run more
pub added_run : (test : ℕ → Bool) (old parts : List Range) (low high from first end next : ℕ) → IsRunFrom test from first end → first ≤ high
    → end < high → next ≡ end + 1 → AreAdded test old low high from high parts → AreAdded test old low high next high (parts ++ (first, min end high) ∷ [])
added_run test old parts low high from first end next run inside more is h = record {
  end = refl;
  begun = omega (arith, h.begun, run.within.0, run.within.1);
  within = omega arith;
  forward = All-push (λ (range : Range). range.0 ≤ range.1) parts (first, min end high) h.forward (omega (arith, run.within.1));
  values = λ w.
      covers-append parts ((first, min end high) ∷ []) w
      ∙ ap (λ (b : Bool). b || (is_in_range first (min end high) w || false)) (h.values w)
      ∙ or_group (covers old w) (test w && (is_in_range low high w && ltb w from)) (is_in_range first (min end high) w)
      ∙ ap (λ (b : Bool). covers old w || b) (sym (piece test low high from next first (min end high) w
      (λ under. omega (arith, run.within.0, run.within.1))
      (λ under. omega (arith, run.within.0))
      (λ from_on gap. run.least w from_on gap)
      (λ from_on begun upto. (run.unbroken w begun (omega arith), (omega (arith, h.begun), (omega arith, omega arith))))
      (λ from_on behind. inr (omega arith))));
}

-- ---- its end

-- a range up to its end
whole_range : (low high w : ℕ) → (is_in_range low high w && ltb w (high + 1)) ≡ is_in_range low high w
whole_range low high w = grind (arith, nat_tests)

-- what all is added is, where a last run ends it
pub added_last : (test : ℕ → Bool) (old parts : List Range) (low high from first end : ℕ) → IsRunFrom test from first end → first ≤ high → high ≤ end
    → AreAdded test old low high from high parts → (w : ℕ) → covers (parts ++ (first, min end high) ∷ []) w ≡ (covers old w || (test w && is_in_range low high w))
added_last test old parts low high from first end run inside last h w =
    covers-append parts ((first, min end high) ∷ []) w
    ∙ ap (λ (b : Bool). b || (is_in_range first (min end high) w || false)) (h.values w)
    ∙ or_group (covers old w) (test w && (is_in_range low high w && ltb w from)) (is_in_range first (min end high) w)
    ∙ ap (λ (b : Bool). covers old w || b) (sym (piece test low high from (high + 1) first (min end high) w
    (λ under. omega (arith, h.within))
    (λ under. omega (arith, run.within.0))
    (λ from_on gap. run.least w from_on gap)
    (λ from_on begun upto. (run.unbroken w begun (omega arith), (omega (arith, h.begun), (omega arith, omega arith))))
    (λ from_on behind. inl (omega arith)))
    ∙ ap (λ (b : Bool). test w && b) (whole_range low high w))
