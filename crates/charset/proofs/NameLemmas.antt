-- Names as they are kept, and as the definitions have them.
use Rattle.std.proofs.Common.{◌≡◌, ℕ, ◌+◌, ◌-◌, ◌^◌, ◌<◌, ◌≤◌, ⊎_elim, Bool, true, false, cond, List, [], ◌∷◌, ◌++◌, length, get_or, All, Option, Some, None, refl, sym, ◌∙◌, ap, subst, arith, length-append}
use Rattle.std.specs.Option.{is_some, IsSome, option_or, option_map}
use Rattle.std.specs.List.{find, range_with_len}
use Rattle.std.proofs.Math.ListN.{get_or-append}
use Rattle.std.proofs.lemmas.Bool.Decides.{nat_tests}
use Rattle.std.proofs.lemmas.List.{append-nil}
use Rattle.std.proofs.lemmas.List.Concat.{flat_map-append}
use Rattle.std.proofs.lemmas.List.Elements.{All-head, All-tail, All-push, All-weaker, All-nil, All-append, All-map}
use Rattle.std.proofs.lemmas.List.FromFn.{length-map-range_with_len}
use Rattle.charset.specs.Limits.{NAME_LIMIT}
use Rattle.charset.specs.declared.spans.Block.{Block}
use Rattle.charset.specs.declared.spans.Span.{Span}
use Rattle.lc_base.specs.Tables.{first_named}
use Rattle.charset.specs.Portable.{Name}
use Rattle.charset.specs.CodedSet.{big_endian}
use Rattle.charset.specs.Entries.{Entry, added}
use Rattle.charset.specs.ShortBytes.{shortest}
use Rattle.charset.specs.Fronts.{IsPlaceOf, Keeps}
use Rattle.charset.specs.Listing.{IsShort}
use Rattle.charset.specs.CharacterNames.{block_entry, block_entries, span_entries, all_entries, IsBlockOf, IsFormed, IsKept}
use Rattle.charset.specs.Numbering.{padded}
use Rattle.charset.specs.Spans.{Spot, last_of, is_in, Meets, IsNew}
use Rattle.charset.specs.Tails.{front, tail_width, tail_number}
use Rattle.charset.proofs.Adding.{first_named-append, named-none, named-one, added-new, added-met}
use Rattle.charset.proofs.ShortBytes.{big_endian-shortest}
use Rattle.charset.proofs.TailLemmas.{name_parts, tail_parts}

-- ---- the names of a block

-- a name of a block as its front and its tail
block_parts : (start : Name) (b : Block) (k : ℕ) (name : Name) → IsBlockOf start b → k < b.more + 1 → (block_entry start b k).0 ≡ name → (front name ≡ start) × (tail_width name ≡ b.width) × (tail_number name ≡ b.first + k)
block_parts start b k name formed within is = tail_parts start b.width (b.first + k) name formed.0 (omega (arith, formed.1)) is

-- a name with the front and the width of a block, and a number of its, is one of its names
block_has : (start : Name) (b : Block) (name : Name) → IsBlockOf start b → front name ≡ start → tail_width name ≡ b.width → b.first ≤ tail_number name → tail_number name ≤ b.first + b.more
    → first_named (block_entries start b) name ≡ Some (shortest (b.value + (tail_number name - b.first)))
block_has start b name formed own wide low high =
    let k : ℕ = tail_number name - b.first in
    let number : b.first + k ≡ tail_number name = omega arith in
    let is : (block_entry start b k).0 ≡ name =
    ap (λ n. start ++ padded b.width n) number ∙ ap (λ w. start ++ padded w (tail_number name)) (sym wide) ∙ ap (λ (bs : Name). bs ++ padded (tail_width name) (tail_number name)) (sym own) ∙ sym (name_parts name) in
    named-one (block_entry start b) 0 (b.more + 1) name k (omega arith) (omega arith) is
    (λ j below within e. let parts = block_parts start b j name formed (omega arith) e in omega (arith, parts.2))

-- a name that is none of its names is not found among them
block_lacks : (start : Name) (b : Block) (name : Name) → IsBlockOf start b → ((front name ≡ start) → (tail_width name ≡ b.width) → b.first ≤ tail_number name → tail_number name ≤ b.first + b.more → ⊥)
    → first_named (block_entries start b) name ≡ None
block_lacks start b name formed other =
    named-none (block_entry start b) 0 (b.more + 1) name (λ k below within e.
    let parts = block_parts start b k name formed (omega arith) e in
    other parts.0 parts.1 (omega (arith, parts.2)) (omega (arith, parts.2)))

-- ---- the names of spans

-- where a name stands, if its front has this number
abbrev pub spot_of : ℕ → Name → Spot
spot_of number name = (number, tail_width name, tail_number name)

-- the encoding that a span gives to a name of its
abbrev pub code_in : Name → Span → List ℕ
code_in name s = shortest (s.block.value + (tail_number name - s.block.first))

-- what a span that has a spot says of it
in_parts : (spot : Spot) (s : Span) → is_in spot s ≡ true → (s.front ≡ spot.0) × (s.block.width ≡ spot.1) × (s.block.first ≤ spot.2) × (spot.2 ≤ last_of s)
in_parts spot s h = (grind (arith, nat_tests), grind (arith, nat_tests), grind (arith, nat_tests), grind (arith, nat_tests))

-- and back
in_from : (spot : Spot) (s : Span) → s.front ≡ spot.0 → s.block.width ≡ spot.1 → s.block.first ≤ spot.2 → spot.2 ≤ last_of s → is_in spot s ≡ true
in_from spot s own wide low high = grind (arith, nat_tests)

-- what a span gives for a name whose front has a number
span_named : (fronts : List Name) (s : Span) (name : Name) (number : ℕ) → IsFormed fronts s → IsPlaceOf (front name) fronts (Some number)
    → first_named (span_entries fronts s) name ≡ cond (is_in (spot_of number name) s) (Some (code_in name s)) None
span_named fronts s name number formed place =
    let P : Bool → Type 0 = λ b. is_in (spot_of number name) s ≡ b → first_named (span_entries fronts s) name ≡ cond b (Some (code_in name s)) None in
    (
    elim (is_in (spot_of number name) s) as P [
      | true ↦ λ own.
          let parts = in_parts (spot_of number name) s own in
          let start : front name ≡ get_or fronts s.front [] = sym place.1 ∙ ap (λ i. get_or fronts i []) (sym parts.0) in
          block_has (get_or fronts s.front []) s.block name formed.1 start (sym parts.1) parts.2 parts.3
      | false ↦ λ own.
          block_lacks (get_or fronts s.front []) s.block name formed.1 (λ start wide low high.
          let at : s.front ≡ number = place.2 s.front formed.0 (sym start) in
          let has : is_in (spot_of number name) s ≡ true = in_from (spot_of number name) s at (sym wide) low high in
          absurd (cc))
    ]
    )
    refl

-- what spans give for such a name
spans_named : (fronts : List Name) (spans : List Span) (name : Name) (number : ℕ) → All (IsFormed fronts) spans → IsPlaceOf (front name) fronts (Some number)
    → first_named (all_entries fronts spans) name ≡ option_map (code_in name) (find (is_in (spot_of number name)) spans)
spans_named fronts [] name number formed place = refl
spans_named fronts (s ∷ spans) name number formed place =
    let rest = spans_named fronts spans name number (All-tail (IsFormed fronts) s spans formed) place in
    let here = span_named fronts s name number (All-head (IsFormed fronts) s spans formed) place in
    let P : Bool → Type 0 = λ b. option_or (cond b (Some (code_in name s)) None) (first_named (all_entries fronts spans) name) ≡ option_map (code_in name) (cond b (Some s) (find (is_in (spot_of number name)) spans)) in
    first_named-append (span_entries fronts s) (all_entries fronts spans) name ∙ ap (λ o. option_or o (first_named (all_entries fronts spans) name)) here
    ∙ (elim (is_in (spot_of number name) s) as P [ true ↦ refl | false ↦ rest ])

-- spans give nothing for a name whose front is not there
spans_lack : (fronts : List Name) (spans : List Span) (name : Name) → All (IsFormed fronts) spans → IsPlaceOf (front name) fronts None → first_named (all_entries fronts spans) name ≡ None
spans_lack fronts [] name formed place = refl
spans_lack fronts (s ∷ spans) name formed place =
    let own = All-head (IsFormed fronts) s spans formed in
    let here : first_named (span_entries fronts s) name ≡ None = block_lacks (get_or fronts s.front []) s.block name own.1 (λ start wide low high. place s.front own.0 (sym start)) in
    first_named-append (span_entries fronts s) (all_entries fronts spans) name ∙ ap (λ o. option_or o (first_named (all_entries fronts spans) name)) here
    ∙ spans_lack fronts spans name (All-tail (IsFormed fronts) s spans formed) place

-- a span that is found passes the test, and is formed as all are
found_formed : (P : Span → Type 0) (p : Span → Bool) (spans : List Span) (s : Span) → All P spans → find p spans ≡ Some s → (p s ≡ true) × P s
found_formed P p [] s all found = cc
found_formed P p (t ∷ spans) s all found =
    let Q : Bool → Type 0 = λ b. p t ≡ b → cond b (Some t) (find p spans) ≡ Some s → (p s ≡ true) × P s in
    (
    elim (p t) as Q [
      | true ↦ λ own e.
          let same : t ≡ s = cc in
          (ap p (sym same) ∙ own, subst P same (All-head P t spans all))
      | false ↦ λ own e. found_formed P p spans s (All-tail P t spans all) e
    ]
    )
    refl
    found

-- the wide value of a name that a span has
pub value_found : (fronts : List Name) (spans : List Span) (name : Name) (number : ℕ) (s : Span) → All (IsFormed fronts) spans → IsPlaceOf (front name) fronts (Some number) → find (is_in (spot_of number name)) spans ≡ Some s
    → Some (s.block.value + (tail_number name - s.block.first)) ≡ option_map big_endian (first_named (all_entries fronts spans) name)
value_found fronts spans name number s formed place found =
    sym (ap (option_map big_endian) (spans_named fronts spans name number formed place ∙ ap (option_map (code_in name)) found) ∙ ap {B = Option ℕ} (λ (n : ℕ). Some n) (big_endian-shortest (s.block.value + (tail_number name - s.block.first))))

-- no span has it
pub value_lacking : (fronts : List Name) (spans : List Span) (name : Name) (number : ℕ) → All (IsFormed fronts) spans → IsPlaceOf (front name) fronts (Some number) → find (is_in (spot_of number name)) spans ≡ None
    → None ≡ option_map big_endian (first_named (all_entries fronts spans) name)
value_lacking fronts spans name number formed place none =
    sym (ap (option_map big_endian) (spans_named fronts spans name number formed place ∙ ap (option_map (code_in name)) none))

-- nor does any where its front is not there
pub value_absent : (fronts : List Name) (spans : List Span) (name : Name) → All (IsFormed fronts) spans → IsPlaceOf (front name) fronts None → None ≡ option_map big_endian (first_named (all_entries fronts spans) name)
value_absent fronts spans name formed place = sym (ap (option_map big_endian) (spans_lack fronts spans name formed place))

-- that value fits, as those of all names do
pub value_fits : (fronts : List Name) (spans : List Span) (spot : Spot) (s : Span) → All (IsFormed fronts) spans → find (is_in spot) spans ≡ Some s → (s.block.first ≤ spot.2) × (s.block.value + (spot.2 - s.block.first) < 2 ^ 32)
value_fits fronts spans spot s formed found =
    let own = found_formed (IsFormed fronts) (is_in spot) spans s formed found in
    let parts = in_parts spot s own.0 in
    (parts.2, omega (arith, parts.2, parts.3, own.1.1.2))

-- where a name stands, from what its tail was read as
pub spot_is : (number width n : ℕ) (name : Name) → width ≡ tail_width name → n ≡ tail_number name → (number, width, n) ≡ spot_of number name
spot_is number width n name wide is = ap {B = Spot} (λ (w : ℕ). (number, w, n)) wide ∙ ap {B = Spot} (λ (m : ℕ). (number, tail_width name, m)) is

-- what is there stays so under a function
some_map : {A B : Type 0} (f : A → B) (o : Option A) → IsSome o → is_some (option_map f o) ≡ true
some_map f None some = cc
some_map f (Some x) some = refl

-- ---- one more block

-- fronts that are there stay with their numbers
kept_front : (old new : List Name) (i : ℕ) → Keeps old new → i < length old → (i < length new) × (get_or new i [] ≡ get_or old i [])
kept_front old new i keeps within = ⊎_elim
    (λ same. (rw same within, ap (λ (fronts : List Name). get_or fronts i []) same))
    (λ grown.
    let is : new ≡ old ++ grown.0 ∷ [] = grown.1 in
    (omega (arith, ap (λ (fronts : List Name). length fronts) is, length-append old (grown.0 ∷ [])), ap (λ (fronts : List Name). get_or fronts i []) is ∙ get_or-append old (grown.0 ∷ []) [] i within))
    keeps

-- so spans are formed as before
kept_formed : (old new : List Name) (s : Span) → Keeps old new → IsFormed old s → IsFormed new s
kept_formed old new s keeps formed =
    let kept = kept_front old new s.front keeps formed.0 in
    (kept.0, rw (kept.1) (formed.1))

-- and have the names that they had
pub kept_entries : (old new : List Name) (spans : List Span) → Keeps old new → All (IsFormed old) spans → all_entries new spans ≡ all_entries old spans
kept_entries old new [] keeps formed = refl
kept_entries old new (s ∷ spans) keeps formed =
    let kept = kept_front old new s.front keeps (All-head (IsFormed old) s spans formed).0 in
    ap (λ (start : Name). block_entries start s.block ++ all_entries new spans) (kept.1) ∙ ap (λ (es : List Entry). span_entries old s ++ es) (kept_entries old new spans keeps (All-tail (IsFormed old) s spans formed))

-- what is kept stays so with more fronts
pub kept_more : (old new : List Name) (spans : List Span) (len : ℕ) → Keeps old new → IsKept old spans len → IsKept new spans len
kept_more old new spans len keeps kept = record {
  few = kept.few;
  counted = kept.counted ∙ ap (λ (es : List Entry). length es) (sym (kept_entries old new spans keeps kept.formed));
  formed = All-weaker (IsFormed old) (IsFormed new) (λ s formed. kept_formed old new s keeps formed) spans kept.formed;
}

-- the names of one more span come last
pub entries_push : (fronts : List Name) (spans : List Span) (s : Span) → all_entries fronts (spans ++ s ∷ []) ≡ all_entries fronts spans ++ span_entries fronts s
entries_push fronts spans s = flat_map-append (span_entries fronts) spans (s ∷ []) ∙ ap (λ (es : List Entry). all_entries fronts spans ++ es) (append-nil (span_entries fronts s))

-- a block has as many names as it says
length-block : (start : Name) (b : Block) → length (block_entries start b) ≡ b.more + 1
length-block start b = length-map-range_with_len (block_entry start b) 0 (b.more + 1)

-- the names of a block behind a front with a number
module _ (fronts : List Name) (spans : List Span) (start : Name) (b : Block) (number : ℕ) (formed : All (IsFormed fronts) spans) (own : IsBlockOf start b) (place : IsPlaceOf start fronts (Some number)) where
  -- what the spans give for them
  block_named : (k : ℕ) → k < b.more + 1 → first_named (all_entries fronts spans) (block_entry start b k).0 ≡ option_map (code_in (block_entry start b k).0) (find (is_in (number, b.width, b.first + k)) spans)
  block_named k within =
      let name : Name = (block_entry start b k).0 in
      let parts = block_parts start b k name own within refl in
      let here : IsPlaceOf (front name) fronts (Some number) = rw (parts.0) place in
      let spot : (number, b.width, b.first + k) ≡ spot_of number name = spot_is number b.width (b.first + k) name (sym parts.1) (sym parts.2) in
      spans_named fronts spans name number formed here ∙ ap (λ (q : Spot). option_map (code_in name) (find (is_in q) spans)) (sym spot)

  -- a name that a span has already refuses them
  pub block_met : Meets spans (record { front = number; block = b }) → added (all_entries fronts spans) (block_entries start b) ≡ None
  block_met met =
      added-met (block_entry start b) 0 (b.more + 1) (all_entries fronts spans) met.0 (omega arith) (omega (arith, met.1))
      (ap is_some (block_named met.0 (omega (arith, met.1))) ∙ some_map (code_in (block_entry start b met.0).0) (find (is_in (number, b.width, b.first + met.0)) spans) met.2)

  -- without one they are added
  pub block_new : IsNew spans (record { front = number; block = b }) → added (all_entries fronts spans) (block_entries start b) ≡ Some (all_entries fronts spans ++ block_entries start b)
  block_new new =
      added-new (block_entry start b) 0 (b.more + 1) (all_entries fronts spans)
      (λ k low high. block_named k (omega arith) ∙ ap (option_map (code_in (block_entry start b k).0)) (new k (omega arith)))
      (λ j k low between high same.
      let first = block_parts start b j (block_entry start b k).0 own (omega arith) same in
      let second = block_parts start b k (block_entry start b k).0 own (omega arith) refl in
      omega (arith, first.2, second.2))

-- one more span is kept
pub kept_push : (fronts : List Name) (spans : List Span) (s : Span) (len : ℕ) → IsKept fronts spans len → IsFormed fronts s → len + s.block.more < NAME_LIMIT → IsKept fronts (spans ++ s ∷ []) (len + (s.block.more + 1))
kept_push fronts spans s len kept formed room = record {
  few = omega arith;
  counted = omega (arith, kept.counted, ap (λ (es : List Entry). length es) (entries_push fronts spans s), length-append (all_entries fronts spans) (span_entries fronts s), length-block (get_or fronts s.front []) s.block);
  formed = All-push (IsFormed fronts) spans s kept.formed formed;
}

-- a block behind a front with a number is formed
pub block_formed : (fronts : List Name) (start : Name) (b : Block) (number : ℕ) → IsPlaceOf start fronts (Some number) → IsBlockOf start b → IsFormed fronts (record { front = number; block = b })
block_formed fronts start b number place own = (place.0, rw (place.1) own)

-- fronts, and then spans that are refused
pub added_none : (old new : List Name) (spans : List Span) (start : Name) (b : Block) (number : ℕ) (given : List Entry) → Keeps old new → All (IsFormed old) spans → IsBlockOf start b → IsPlaceOf start new (Some number)
    → all_entries old spans ≡ given → Meets spans (record { front = number; block = b }) → added given (block_entries start b) ≡ None
added_none old new spans start b number given keeps formed own place is met =
    let same : all_entries new spans ≡ given = kept_entries old new spans keeps formed ∙ is in
    let all = All-weaker (IsFormed old) (IsFormed new) (λ s f. kept_formed old new s keeps f) spans formed in
    ap (λ (es : List Entry). added es (block_entries start b)) (sym same) ∙ block_met new spans start b number all own place met

-- fronts, and then spans that are added
pub added_some : (old new : List Name) (spans after : List Span) (start : Name) (b : Block) (number : ℕ) (given : List Entry) → Keeps old new → All (IsFormed old) spans → IsBlockOf start b → IsPlaceOf start new (Some number)
    → all_entries old spans ≡ given → after ≡ spans ++ record { front = number; block = b } ∷ [] → IsNew spans (record { front = number; block = b }) → added given (block_entries start b) ≡ Some (all_entries new after)
added_some old new spans after start b number given keeps formed own place is grown fresh =
    let same : all_entries new spans ≡ given = kept_entries old new spans keeps formed ∙ is in
    let all = All-weaker (IsFormed old) (IsFormed new) (λ s f. kept_formed old new s keeps f) spans formed in
    let span : Span = record { front = number; block = b } in
    let whole : all_entries new after ≡ all_entries new spans ++ block_entries start b =
    ap (all_entries new) grown ∙ entries_push new spans span ∙ ap (λ (bs : Name). all_entries new spans ++ block_entries bs b) (place.1) in
    ap (λ (es : List Entry). added es (block_entries start b)) (sym same) ∙ block_new new spans start b number all own place fresh ∙ ap {B = Option (List Entry)} (λ (es : List Entry). Some es) (sym whole)

-- ---- encodings

-- the encoding of a value gives the value back, and is its own
shortest_own : (n : ℕ) → shortest (big_endian (shortest n)) ≡ shortest n
shortest_own n = ap shortest (big_endian-shortest n)

-- so do all encodings that are kept
pub entries_short : (fronts : List Name) (spans : List Span) → All IsShort (all_entries fronts spans)
entries_short fronts [] = All-nil IsShort
entries_short fronts (s ∷ spans) =
    All-append IsShort (span_entries fronts s) (all_entries fronts spans)
    (All-map IsShort (block_entry (get_or fronts s.front []) s.block) (range_with_len 0 (s.block.more + 1)) (λ k d within. shortest_own (s.block.value + get_or (range_with_len 0 (s.block.more + 1)) k d)))
    (entries_short fronts spans)
