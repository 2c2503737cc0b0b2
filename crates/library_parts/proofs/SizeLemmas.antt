-- What holds of parts that were seen.
use Rattle.std.specs.Prelude.{if◌then◌else◌}
use Rattle.std.proofs.Common.{◌≡◌, ℕ, ◌+◌, ◌<◌, ◌≤◌, ◌^◌, Bool, true, false, cond, List, [], ◌∷◌, ◌++◌, length, Option, Some, None, Ok, Err, refl, sym, subst, arith, length-append}
use Rattle.std.specs.Prelude.{nat_le, ◌||◌, not, is_some}
use Rattle.std.specs.List.{All, AllByRecursion}
use Rattle.std.proofs.lemmas.List.Elements.{All-from_recursion}
use Rattle.std.proofs.lemmas.Bool.Decides.{nat_tests}
use Rattle.lc_base.specs.Blocks.{IsSized}
use Rattle.lc_base.specs.Reading.{◌>>=◌}
use Rattle.lc_base.specs.Named.{with_named}
use Rattle.lc_base.specs.Tables.{first_named}
use Rattle.lc_base.specs.declared.block.Block.{Block}
use Rattle.library_parts.specs.declared.fault.Wrong.{Wrong}
use Rattle.library_parts.specs.declared.fault.Wrong.TheVariants.{TooLong, BadName, NameTwice, TooMany}
use Rattle.library_parts.specs.declared.part.LibraryPart.{LibraryPart}
use Rattle.library_parts.specs.declared.part.PartKind.{PartKind}
use Rattle.library_parts.specs.declared.part.PartKind.TheVariants.{Charmap, Source, Catalog}
use Rattle.library_parts.specs.declared.seen.Seen.{Seen}
use Rattle.library_parts.specs.Limits.{PART_LIMIT, SIZE_LIMIT}
use Rattle.library_parts.specs.Lines.{line_count}
use Rattle.library_parts.specs.Parts.{is_named, key, names_in, with_name, is_long, wrong_with, with_part, parts_seen}
use Rattle.library_parts.specs.Places.{AreSized, behind_part, block, blocks_of, same_kind}
use Rattle.library_parts.specs.Told.{Tells}

-- the four tests of a part
abbrev tested : Bool → Bool → Bool → Bool → Option Wrong
tested a b c d = if a then Some TooLong else if not b then Some BadName else if c then Some NameTwice else if d then Some TooMany else None

record Passed (a c d : Bool) : Type 0 where
  short : a ≡ false
  new : c ≡ false
  few : d ≡ false

passed : (a b c d : Bool) → tested a b c d ≡ None → Passed a c d
passed true b c d e = absurd cc
passed false false c d e = absurd cc
passed false true true d e = absurd cc
passed false true false true e = absurd cc
passed false true false false e = record { short = refl; new = refl; few = refl }

-- a part in which nothing is wrong
part_passed : (s : Seen) (p : LibraryPart) → wrong_with s p ≡ None → Passed (is_long s p) (is_some (first_named (names_in s p.kind) (key p))) (nat_le PART_LIMIT (length (names_in s p.kind)))
part_passed s p e = passed (is_long s p) (is_named p) (is_some (first_named (names_in s p.kind) (key p))) (nat_le PART_LIMIT (length (names_in s p.kind))) e

-- a part that was seen
abbrev seen_with : Option Wrong → Seen → ℕ → Tells Seen
seen_with o u n = elim o [ None ↦ Ok u | Some wrong ↦ Err (n, wrong) ]

seen : (o : Option Wrong) (u : Seen) (n : ℕ) (r : Seen → Tells Seen) (t : Seen) → (seen_with o u n >>= r) ≡ Ok t → (o ≡ None) × (r u ≡ Ok t)
seen None u n r t e = (refl, e)
seen (Some wrong) u n r t e = absurd cc

before_kept : (s : Seen) (k : PartKind) (name : List ℕ) (n : ℕ) → (with_name s k name n).before ≡ s.before
before_kept s Charmap name n = refl
before_kept s Source name n = refl
before_kept s Catalog name n = refl

both_false : (x y : Bool) → (x || y) ≡ false → (x ≡ false) × (y ≡ false)
both_false true y e = absurd cc
both_false false y e = (refl, e)

short : (n : ℕ) → nat_le SIZE_LIMIT n ≡ false → n < 2 ^ 31
short n e = grind (arith, nat_tests)

sizes : (a b : ℕ) → (nat_le SIZE_LIMIT a || nat_le SIZE_LIMIT b) ≡ false → (a < 2 ^ 31) × (b < 2 ^ 31)
sizes a b e = let each = both_false (nat_le SIZE_LIMIT a) (nat_le SIZE_LIMIT b) e in (short a each.0, short b each.1)

-- parts that were seen have the sizes that readers take
pub seen_sized : (s : Seen) (n : ℕ) (ps : List LibraryPart) (t : Seen) → parts_seen s n ps ≡ Ok t → AreSized s.before ps
seen_sized s n [] t e = tt
seen_sized s n (p ∷ ps) t e =
    let rest : Seen → Tells Seen = λ u. parts_seen u (n + 1) ps in
    let there = seen (wrong_with s p) (with_part s n p) n rest t e in
    let size = sizes (length p.text) (s.before + 1) (part_passed s p there.0).short in
    let more = seen_sized (with_part s n p) (n + 1) ps t there.1 in
    (size.0, size.1, subst (λ (b : ℕ). AreSized (b + (line_count p.text + 1)) ps) (before_kept s p.kind (key p) n) more)

-- the blocks of sized parts are sized
either_sized : (b : Bool) (x : Block) (xs : List Block) → IsSized x → AllByRecursion IsSized xs → AllByRecursion IsSized (if b then x ∷ xs else xs)
either_sized true x xs h k = (h, k)
either_sized false x xs h k = k

sized_from : (kind : PartKind) (before : ℕ) (ps : List LibraryPart) → AreSized before ps → AllByRecursion IsSized (blocks_of kind before ps)
sized_from kind before [] h = tt
sized_from kind before (p ∷ ps) h =
    either_sized (same_kind kind p.kind) (block before p) (blocks_of kind (behind_part before p) ps) (record { text = h.0; line = h.1 }) (sized_from kind (behind_part before p) ps h.2)

pub blocks_sized : (kind : PartKind) (ps : List LibraryPart) → AreSized 0 ps → All IsSized (blocks_of kind 0 ps)
blocks_sized kind ps h = All-from_recursion IsSized (blocks_of kind 0 ps) (sized_from kind 0 ps h)

-- ---- how many

one_more : (named : List (List ℕ × ℕ)) (name : List ℕ) (n : ℕ) → is_some (first_named named name) ≡ false → length (with_named named name n) ≡ length named + 1
one_more named name n e =
    let one = length-append named ((name, n) ∷ []) in
    let P : Bool → Type 0 = λ b. length (cond b named (named ++ (name, n) ∷ [])) ≡ length named + 1 in
    subst P (sym e) (omega arith)

below : (n : ℕ) → nat_le PART_LIMIT n ≡ false → n < PART_LIMIT
below n e = grind (arith, nat_tests)

-- the names of a kind behind a part, and its block, where it is of the kind
counted : (kind k : PartKind) (s : Seen) (name : List ℕ) (n : ℕ) (x : Block) (xs : List Block)
    → is_some (first_named (names_in s k) name) ≡ false → length (names_in s k) < PART_LIMIT → length (names_in s kind) ≤ PART_LIMIT
    → (length (names_in (with_name s k name n) kind) ≤ PART_LIMIT → length (names_in (with_name s k name n) kind) + length xs ≤ PART_LIMIT)
    → length (names_in s kind) + length (if same_kind kind k then x ∷ xs else xs) ≤ PART_LIMIT
counted Charmap Charmap s name n x xs new few room more = let one = one_more s.charmaps name n new in let m = more (omega arith) in omega arith
counted Charmap Source s name n x xs new few room more = more room
counted Charmap Catalog s name n x xs new few room more = more room
counted Source Charmap s name n x xs new few room more = more room
counted Source Source s name n x xs new few room more = let one = one_more s.sources name n new in let m = more (omega arith) in omega arith
counted Source Catalog s name n x xs new few room more = more room
counted Catalog Charmap s name n x xs new few room more = more room
counted Catalog Source s name n x xs new few room more = more room
counted Catalog Catalog s name n x xs new few room more = let one = one_more s.catalogs name n new in let m = more (omega arith) in omega arith

kept_names : (s : Seen) (b : ℕ) (kind : PartKind) → names_in (record s { before = b }) kind ≡ names_in s kind
kept_names s b Charmap = refl
kept_names s b Source = refl
kept_names s b Catalog = refl

few_from : (kind : PartKind) (s : Seen) (n : ℕ) (before : ℕ) (ps : List LibraryPart) (t : Seen) → parts_seen s n ps ≡ Ok t → length (names_in s kind) ≤ PART_LIMIT → length (names_in s kind) + length (blocks_of kind before ps) ≤ PART_LIMIT
few_from kind s n before [] t e room = omega arith
few_from kind s n before (p ∷ ps) t e room =
    let rest : Seen → Tells Seen = λ u. parts_seen u (n + 1) ps in
    let there = seen (wrong_with s p) (with_part s n p) n rest t e in
    let test = part_passed s p there.0 in
    let named = with_name s p.kind (key p) n in
    let same = kept_names named (named.before + (line_count p.text + 1)) kind in
    counted kind p.kind s (key p) n (block before p) (blocks_of kind (behind_part before p) ps) test.new (below _ test.few) room
    (λ room'. subst (λ (ns : List (List ℕ × ℕ)). length ns + length (blocks_of kind (behind_part before p) ps) ≤ PART_LIMIT) same
    (few_from kind (with_part s n p) (n + 1) (behind_part before p) ps t there.1 (subst (λ (ns : List (List ℕ × ℕ)). length ns ≤ PART_LIMIT) (sym same) room')))

-- there are few blocks of each kind
pub blocks_few : (kind : PartKind) (s : Seen) (ps : List LibraryPart) (t : Seen) → parts_seen s 0 ps ≡ Ok t → length (names_in s kind) ≡ 0 → length (blocks_of kind 0 ps) ≤ PART_LIMIT
blocks_few kind s ps t e none = let few = few_from kind s 0 0 ps t e (omega arith) in omega arith
