-- A list that breaks no rule defines values that obey the rules.
use Rattle.std.proofs.Common.{◌≡◌, ℕ, ◌-◌, Bool, true, false, eqb, ltb, not, cond, List, [], ◌∷◌, ◌++◌, length, Option, Some, None, Ok, refl, subst}
use Rattle.std.specs.Prelude.{codes, count_by, find}
use Rattle.std.specs.Option.{option_to_list}
use Rattle.std.specs.Str.{bytes_eq}
use Rattle.std.proofs.lemmas.Bool.{ltb-false, eqb-true}
use Rattle.std.proofs.lemmas.Slice.Eq.{bytes_eq-Decides}
use Rattle.lc_base.specs.declared.category.Category.TheVariants as categories
use Rattle.lc_base.specs.declared.place.Place.{Place}
use Rattle.lc_base.specs.declared.reason.Reason.{Reason}
use Rattle.lc_base.specs.declared.reason.Reason.TheVariants.{WrongCount, FormatRank, OverLimit}
use Rattle.lc_base.specs.declared.reason.Limit.TheVariants.{Conversions}
use Rattle.lc_base.specs.Reading.{Reads}
use Rattle.lc_base.proofs.ReadingLemmas.{value_of}
use Rattle.keywords.specs.declared.source.Value.{Value}
use Rattle.keywords.specs.declared.source.Value.TheVariants.{Text, Number, Chars, Pair}
use Rattle.keywords.specs.declared.source.Entry.{Entry}
use Rattle.keywords.specs.declared.row.Rule.{Rule}
use Rattle.keywords.specs.declared.row.Rule.TheVariants.{Names, Format, Segments}
use Rattle.keywords.specs.LookUp.{posix_text, posix_texts}
use Rattle.keywords.specs.Keywords.{operands, texts, texts_or, text_or}
use Rattle.keywords.specs.Rules.{unless}
use Rattle.time_cat.specs.declared.segment.Segment.{Segment}
use Rattle.time_cat.specs.declared.texts.NameLists.{NameLists}
use Rattle.time_cat.specs.declared.texts.FormatTexts.{FormatTexts}
use Rattle.time_cat.specs.Conversions.{conversion}
use Rattle.time_cat.specs.Formats.{pieces, is_conversion, bad_place}
use Rattle.time_cat.specs.Eras.{segment}
use Rattle.time_cat.specs.Keywords.{takes_of, fixed_count}
use Rattle.time_cat.specs.Faults.{or_reason, reason_if, bad_format, format_reason, spelled_reason, segment_reason, operand_reason, operands_checked, most_digits, most_bytes, is_wrong_count, values_checked, line_checked, checked, IsFormat}
use Rattle.time_cat.specs.TimeValues.{joined, AreCounted, AreFormats, AreSegments, IsWhole}
use Rattle.time_cat.specs.Values.{values_by, names_in, formats_in, spelled, segments_in, eras_of, digits_of, values_of}

abbrev Fine : Reads (Unit {0}) → Type 0
Fine r = r ≡ Ok tt

no_reason : (place : Place) (r : Option Reason) (u : Unit {0}) → unless place r ≡ Ok u → r ≡ None
no_reason place None u e = refl
no_reason place (Some r) u e = absurd cc

first_none : (a b : Option Reason) → or_reason a b ≡ None → a ≡ None
first_none None b e = refl
first_none (Some r) b e = absurd cc

second_none : (a b : Option Reason) → or_reason a b ≡ None → b ≡ None
second_none None b e = e
second_none (Some r) b e = absurd cc

reason_false : (b : Bool) (r : Reason) → reason_if b r ≡ None → b ≡ false
reason_false true r e = absurd cc
reason_false false r e = refl

no_bad : (before : ℕ) (o : Option ℕ) → bad_format before o ≡ None → o ≡ None
no_bad before None e = refl
no_bad before (Some at) e = absurd cc

-- a format without a fault
good_format : (before rank : ℕ) (format : List ℕ) → format_reason before rank format ≡ None → IsFormat rank format
unfolding format_reason
good_format before rank format e =
    let ps = pieces format in
    let later = second_none (bad_format before (bad_place ps)) _ e in
    let many : ltb 16 (count_by is_conversion ps) ≡ false = reason_false _ (OverLimit Conversions) (first_none _ _ later) in
    record {
      whole = no_bad before (bad_place ps) (first_none _ _ e);
      few = ltb-false 16 _ many;
      ranks = reason_false _ FormatRank (second_none (reason_if (ltb 16 (count_by is_conversion ps)) (OverLimit Conversions)) _ later);
    }

-- ---- lines

same_keyword : (a b : List ℕ) → bytes_eq a b ≡ true → a ≡ b
same_keyword a b e = (bytes_eq-Decides a b).0 e

-- operands, whose keyword stands at a place, keep the rules of a keyword
abbrev IsGood : List ℕ → List (Place × Value) → Type 0
IsGood k vs = (place : Place) × Fine (values_checked place vs (takes_of k))

by_test : (x : Entry) (xs : List Entry) (k : List ℕ) (vs : List (Place × Value)) (b : Bool) → bytes_eq x.keyword k ≡ b → Fine (line_checked x) → (operands xs k ≡ Some vs → IsGood k vs) → cond b (Some x.values) (operands xs k) ≡ Some vs → IsGood k vs
unfolding line_checked
by_test x xs k vs true is ok others found =
    let same : x.values ≡ vs = cc in
    let keyword : x.keyword ≡ k = same_keyword x.keyword k is in
    (x.place, subst (λ (os : List (Place × Value)). Fine (values_checked x.place os (takes_of k))) same (subst (λ (w : List ℕ). Fine (values_checked x.place x.values (takes_of w))) keyword ok))
by_test x xs k vs false is ok others found = others found

-- the operands of the first line of a keyword
good_line : (list : List Entry) (k : List ℕ) (vs : List (Place × Value)) → Fine (checked list) → operands list k ≡ Some vs → IsGood k vs
good_line [] k vs ok found = absurd cc
good_line (x ∷ xs) k vs ok found =
    let parts = value_of (line_checked x) (λ _. checked xs) tt ok in
    by_test x xs k vs (bytes_eq x.keyword k) refl parts.1 (good_line xs k vs parts.2) found

-- the operands of a line whose keyword takes these
good_values : (list : List Entry) (k : List ℕ) (vs : List (Place × Value)) (takes : Rule) → Fine (checked list) → operands list k ≡ Some vs → takes_of k ≡ Some takes → (place : Place) × Fine (values_checked place vs (Some takes))
good_values list k vs takes ok found is =
    let good = good_line list k vs ok found in
    (good.0, rw is at good.1)

count_of : (place : Place) (vs : List (Place × Value)) (takes : Rule) → Fine (values_checked place vs (Some takes)) → is_wrong_count (fixed_count takes) (length (texts vs)) ≡ false
count_of place vs takes ok =
    let parts = value_of (unless place (reason_if (is_wrong_count (fixed_count takes) (length (texts vs))) WrongCount)) (λ _. operands_checked takes most_digits most_bytes vs) tt ok in
    reason_false _ WrongCount (no_reason place _ parts.0 parts.1)

operands_of : (place : Place) (vs : List (Place × Value)) (takes : Rule) → Fine (values_checked place vs (Some takes)) → Fine (operands_checked takes most_digits most_bytes vs)
operands_of place vs takes ok =
    let parts = value_of (unless place (reason_if (is_wrong_count (fixed_count takes) (length (texts vs))) WrongCount)) (λ _. operands_checked takes most_digits most_bytes vs) tt ok in
    parts.2

eqb_of : (b : Bool) → not b ≡ false → b ≡ true
eqb_of true e = refl
eqb_of false e = absurd cc

-- ---- names

names_by : (list : List Entry) (k : List ℕ) (posix : List (List ℕ)) (n : ℕ) (o : Option (List (Place × Value))) → operands list k ≡ o → Fine (checked list) → takes_of k ≡ Some (Names n) → length posix ≡ n → length (texts_or posix o) ≡ n
names_by list k posix n None found ok is default = default
names_by list k posix n (Some vs) found ok is default =
    let good = good_values list k vs (Names n) ok found is in
    let wrong : not (eqb (length (texts vs)) n) ≡ false = count_of good.0 vs (Names n) good.1 in
    eqb-true (length (texts vs)) n (eqb_of _ wrong)

names_counted : (list : List Entry) (k : List ℕ) (posix : List (List ℕ)) (n : ℕ) → Fine (checked list) → takes_of k ≡ Some (Names n) → length posix ≡ n → length (texts_or posix (operands list k)) ≡ n
names_counted list k posix n ok is default = names_by list k posix n (operands list k) refl ok is default

-- ---- formats

first_format : (rank left room : ℕ) (vs : List (Place × Value)) (posix : List ℕ) → Fine (operands_checked (Format rank) left room vs) → IsFormat rank posix → IsFormat rank (text_or posix (Some vs))
first_format rank left room [] posix ok default = default
first_format rank left room ((place, Text text) ∷ vs) posix ok default =
    let parts = value_of (unless place (operand_reason (Format rank) left room text)) _ tt ok in
    good_format 0 rank text (no_reason place _ parts.0 parts.1)
first_format rank left room ((place, Number n) ∷ vs) posix ok default = default
first_format rank left room ((place, Chars a b) ∷ vs) posix ok default = default
first_format rank left room ((place, Pair a b) ∷ vs) posix ok default = default

format_by : (list : List Entry) (k : List ℕ) (posix : List ℕ) (rank : ℕ) (o : Option (List (Place × Value))) → operands list k ≡ o → Fine (checked list) → takes_of k ≡ Some (Format rank) → IsFormat rank posix → IsFormat rank (text_or posix o)
format_by list k posix rank None found ok is default = default
format_by list k posix rank (Some vs) found ok is default =
    let good = good_values list k vs (Format rank) ok found is in
    first_format rank most_digits most_bytes vs posix (operands_of good.0 vs (Format rank) good.1) default

format_of : (list : List Entry) (k : List ℕ) (posix : List ℕ) (rank : ℕ) → Fine (checked list) → takes_of k ≡ Some (Format rank) → IsFormat rank posix → IsFormat rank (text_or posix (operands list k))
format_of list k posix rank ok is default = format_by list k posix rank (operands list k) refl ok is default

-- ---- eras

spelled_format : (len : ℕ) (o : Option Segment) → spelled_reason len o ≡ None → AreSegments (option_to_list o)
spelled_format len None e = tt
spelled_format len (Some s) e = (good_format _ 1 s.format e, tt)

both_segments : (a b : List Segment) → AreSegments a → AreSegments b → AreSegments (a ++ b)
both_segments [] b p q = q
both_segments (s ∷ ss) b p q = (p.0, both_segments ss b p.1 q)

segments_good : (left room : ℕ) (vs : List (Place × Value)) → Fine (operands_checked Segments left room vs) → AreSegments (segments_in (texts vs))
segments_good left room [] ok = tt
segments_good left room ((place, Text text) ∷ vs) ok =
    let parts = value_of (unless place (operand_reason Segments left room text)) _ tt ok in
    let good : segment_reason text ≡ None = second_none _ _ (no_reason place _ parts.0 parts.1) in
    both_segments (spelled text) _ (spelled_format (length text) (segment text) good) (segments_good (left - 1) (room - length text - 1) vs parts.2)
segments_good left room ((place, Number n) ∷ vs) ok = segments_good left room vs ok
segments_good left room ((place, Chars a b) ∷ vs) ok = segments_good left room vs ok
segments_good left room ((place, Pair a b) ∷ vs) ok = segments_good left room vs ok

eras_by : (list : List Entry) (o : Option (List (Place × Value))) → operands list (codes "era") ≡ o → Fine (checked list) → AreSegments (segments_in (texts_or [] o))
unfolding takes_of
eras_by list None found ok = tt
eras_by list (Some vs) found ok =
    let good = good_values list (codes "era") vs Segments ok found refl in
    segments_good most_digits most_bytes vs (operands_of good.0 vs Segments good.1)

-- ---- the whole

names_good : (list : List Entry) → Fine (checked list) → AreCounted (names_in list)
unfolding takes_of
names_good list ok = record {
  abday = names_counted list (codes "abday") (posix_texts categories.Time (codes "abday")) 7 ok refl refl;
  day = names_counted list (codes "day") (posix_texts categories.Time (codes "day")) 7 ok refl refl;
  abmon = names_counted list (codes "abmon") (posix_texts categories.Time (codes "abmon")) 12 ok refl refl;
  mon = names_counted list (codes "mon") (posix_texts categories.Time (codes "mon")) 12 ok refl refl;
  am_pm = names_counted list (codes "am_pm") (posix_texts categories.Time (codes "am_pm")) 2 ok refl refl;
}

computed : (rank : ℕ) (format : List ℕ) → format_reason 0 rank format ≡ None → IsFormat rank format
computed rank format e = good_format 0 rank format e

formats_good : (list : List Entry) → Fine (checked list) → AreFormats (formats_in list)
unfolding takes_of format_reason pieces conversion
formats_good list ok = record {
  d_t_fmt = format_of list (codes "d_t_fmt") (posix_text categories.Time (codes "d_t_fmt")) 4 ok refl (computed 4 _ refl);
  d_fmt = format_of list (codes "d_fmt") (posix_text categories.Time (codes "d_fmt")) 3 ok refl (computed 3 _ refl);
  t_fmt = format_of list (codes "t_fmt") (posix_text categories.Time (codes "t_fmt")) 3 ok refl (computed 3 _ refl);
  t_fmt_ampm = format_of list (codes "t_fmt_ampm") (posix_text categories.Time (codes "t_fmt_ampm")) 2 ok refl (computed 2 _ refl);
  era_d_t_fmt = format_of list (codes "era_d_t_fmt") (posix_text categories.Time (codes "era_d_t_fmt")) 4 ok refl (computed 4 _ refl);
  era_d_fmt = format_of list (codes "era_d_fmt") (posix_text categories.Time (codes "era_d_fmt")) 3 ok refl (computed 3 _ refl);
  era_t_fmt = format_of list (codes "era_t_fmt") (posix_text categories.Time (codes "era_t_fmt")) 3 ok refl (computed 3 _ refl);
}

pub whole : (list : List Entry) → Fine (checked list) → IsWhole (values_of list)
unfolding values_of
whole list ok = record { names = names_good list ok; formats = formats_good list ok; era = eras_by list (operands list (codes "era")) refl ok }

-- the values by their parts
pub view_is : (list : List Entry) (n : NameLists) (f : FormatTexts) (segments : List Segment) (era_list : List ℕ) (digits : List (List ℕ)) →
    n ≡ names_in list → f ≡ formats_in list →
    segments ≡ segments_in (eras_of list) → era_list ≡ joined (eras_of list) →
    digits ≡ digits_of list →
    values_by n f segments era_list digits ≡ values_of list
unfolding values_of
view_is list n f segments era_list digits n-is f-is segments-is era_list-is digits-is = rw (n-is, f-is, segments-is, era_list-is, digits-is) refl

found_by : (x : Segment) (xs : List Segment) (test : Segment → Bool) (s : Segment) (b : Bool) → IsFormat 1 x.format → (find test xs ≡ Some s → IsFormat 1 s.format) → cond b (Some x) (find test xs) ≡ Some s → IsFormat 1 s.format
found_by x xs test s true good others is =
    let same : x ≡ s = cc in
    subst (λ (z : Segment). IsFormat 1 z.format) same good
found_by x xs test s false good others is = others is

-- a segment that is found is one of them
pub found_segment : (ss : List Segment) (test : Segment → Bool) (s : Segment) → AreSegments ss → find test ss ≡ Some s → IsFormat 1 s.format
found_segment [] test s goods is = absurd cc
found_segment (x ∷ xs) test s goods is = found_by x xs test s (test x) goods.0 (found_segment xs test s goods.1) is
