-- Refusals of classes with a common member.
use Rattle.std.proofs.Common.{◌≡◌, ℕ, ℤ, Bool, true, false, cond, ◌==◌, ◌&&◌, ◌||◌, List, [], ◌∷◌, length, Option, Some, None, Result, Ok, Err, sym, ap, ◌∙◌, inl, inr}
use Rattle.std.specs.Prelude.{not, int_le, unwrap_or, OnOk}
use Rattle.lc_base.specs.declared.place.Place.{Place}
use Rattle.lc_base.specs.declared.fault.TextFault.{TextFault}
use Rattle.lc_base.specs.declared.fault.TextFault.TheVariants.{At, Memory}
use Rattle.lc_base.specs.declared.reason.Class.{Class}
use Rattle.lc_base.specs.declared.reason.Reason.{Reason}
use Rattle.lc_base.specs.declared.reason.Reason.TheVariants.{EmptyRadix, BadCurrency, BadNumber, BadClassName, DigitsNotTen, NotCased, Excluded}
use Rattle.lc_base.specs.Reading.{Reads, Fails, ◌>>=◌}
use Rattle.class_ranges.specs.Ranges.{IsLeast}
use Rattle.charset.specs.Portable.{Name}
use Rattle.charset.specs.CodedSet.{CodedSet}
use Rattle.keywords.specs.declared.source.Value.{Value}
use Rattle.keywords.specs.declared.source.Value.TheVariants.{Text, Number, Chars, Pair}
use Rattle.keywords.specs.declared.source.Entry.{Entry}
use Rattle.keywords.specs.declared.row.Rule.{Rule}
use Rattle.keywords.specs.declared.row.Rule.TheVariants as rules
use Rattle.keywords.specs.Rules.{text_fault, number_fault, fault_of, unless, operands_checked}
use Rattle.ctype_classes.specs.Lines.{rule_of_line}
use Rattle.ctype_classes.specs.Table.{declared_row}
use Rattle.ctype_classes.specs.Classes.{Classes, with_class, twelve_classes}
use Rattle.ctype_classes.specs.Lists.{is_ten, is_cased_pair, each_passes, is_class_name, is_taken, declaring, declaring_value, declaring_values, after_operands, after_line, after_lines, classes_of}
use Rattle.lc_base.specs.Classes.{class_name}
use Rattle.ctype_classes.specs.Exclusions.{exclusions}
use Rattle.ctype_classes.specs.Excluded.{is_in, is_kept_in, in_both, IsExcluded, AreApart, IsFirstExcluded, AreAllApart, Names}
use Rattle.ctype_classes.specs.CtypeValues.{CtypeValues}
use Rattle.ctype_classes.proofs.MemberLemmas.{answer_or_none, classes_answer}

-- ---- one membership for another

both_same : (m n : Class → ℕ → Bool) → ((c : Class) (v : ℕ) → m c v ≡ n c v) → (pair : Class × Class) (v : ℕ) → in_both m pair v ≡ in_both n pair v
both_same m n same pair v = ap (λ (b : Bool). b && m pair.1 v) (same pair.0 v) ∙ ap (λ (b : Bool). n pair.0 v && b) (same pair.1 v)

least_same : (s t : ℕ → Bool) (o : Option ℕ) → ((v : ℕ) → s v ≡ t v) → IsLeast s o → IsLeast t o
least_same s t None same least = λ v. sym (same v) ∙ least v
least_same s t (Some w) same least = (sym (same w) ∙ least.0, λ v lt. sym (same v) ∙ least.1 v lt)

excluded_same : (m n : Class → ℕ → Bool) → ((c : Class) (v : ℕ) → m c v ≡ n c v) → (pairs : List (Class × Class)) (a b : Class) (w : ℕ) → IsExcluded m pairs a b w → IsExcluded n pairs a b w
excluded_same m n same [] a b w (first, second, least, is) = (first, second, least, sym (same _ _) ∙ is)
excluded_same m n same (pair ∷ pairs) a b w (inl (here, least)) = inl (here, least_same (in_both m pair) (in_both n pair) (Some w) (both_same m n same pair) least)
excluded_same m n same (pair ∷ pairs) a b w (inr (none, later)) = inr (least_same (in_both m pair) (in_both n pair) None (both_same m n same pair) none, excluded_same m n same pairs a b w later)

apart_same : (m n : Class → ℕ → Bool) → ((c : Class) (v : ℕ) → m c v ≡ n c v) → (pairs : List (Class × Class)) → AreApart m pairs → AreApart n pairs
apart_same m n same [] is = sym (same _ _) ∙ is
apart_same m n same (pair ∷ pairs) (none, later) = (least_same (in_both m pair) (in_both n pair) None (both_same m n same pair) none, apart_same m n same pairs later)

-- classes that were read have just the members of the keyword list
kept_is : (set : CodedSet) (entries : List Entry) (classes : Classes) → classes_of set entries ≡ Ok classes → (c : Class) (v : ℕ) → is_kept_in classes c v ≡ is_in set entries c v
kept_is set entries classes read c v =
    answer_or_none v _ ∙ ap (λ (o : Option Bool). unwrap_or o false) (classes_answer set entries classes read (class_name c) v)

first_excluded_in : (set : CodedSet) (entries : List Entry) (classes : Classes) → classes_of set entries ≡ Ok classes → (a b : Class) (w : ℕ) → IsFirstExcluded (is_kept_in classes) a b w → IsFirstExcluded (is_in set entries) a b w
unfolding IsFirstExcluded
first_excluded_in set entries classes read a b w named = excluded_same (is_kept_in classes) (is_in set entries) (kept_is set entries classes read) exclusions a b w named

pub all_apart_in : (set : CodedSet) (entries : List Entry) (classes : Classes) → classes_of set entries ≡ Ok classes → AreAllApart (is_kept_in classes) → AreAllApart (is_in set entries)
unfolding AreAllApart
all_apart_in set entries classes read apart = apart_same (is_kept_in classes) (is_in set entries) (kept_is set entries classes read) exclusions apart

-- ---- a line's own fault is no exclusion

abbrev IsOther : Reason → Type 0
IsOther reason = (a b : Class) (w : ℕ) → reason ≡ Excluded a b w → ⊥

no_name : IsOther BadClassName
no_name a b w is = absurd (cc)

no_digit : IsOther DigitsNotTen
no_digit a b w is = absurd (cc)

no_case : IsOther NotCased
no_case a b w is = absurd (cc)

no_radix : IsOther EmptyRadix
no_radix a b w is = absurd (cc)

no_currency : IsOther BadCurrency
no_currency a b w is = absurd (cc)

no_number : IsOther BadNumber
no_number a b w is = absurd (cc)

-- a fault of a part, or of what follows it
abbrev FaultsOther : {A : Type 0} → Reads A → Type 0
FaultsOther r = (place : Place) (a b : Class) (w : ℕ) → r ≡ Err (place, Excluded a b w) → ⊥

after_other : {A B : Type 0} (r : Reads A) (f : A → Reads B) → FaultsOther r → ((a : A) → FaultsOther (f a)) → FaultsOther (r >>= f)
after_other (Ok x) f here later = later x
after_other (Err e) f here later = λ place a b w is. here place a b w (cc)

ok_other : {A : Type 0} (x : A) → FaultsOther (Ok x)
ok_other x = λ place a b w is. absurd (cc)

same_reason : {A : Type 0} (p q : Place) (r s : Reason) → ◌≡◌ {A = Reads A} (Err (p, r)) (Err (q, s)) → r ≡ s
same_reason p q r s is =
    let pair : (p, r) ≡ (q, s) = cc in
    ap (λ (x : Place × Reason). x.1) pair

passes_other : (test : Value → Bool) (reason : Reason) → IsOther reason → (vs : List (Place × Value)) → FaultsOther (each_passes test reason vs)
passes_other test reason other [] = ok_other tt
passes_other test reason other (v ∷ vs) =
    let P : Bool → Type 0 = λ c. FaultsOther (cond c (each_passes test reason vs) (Err (v.0, reason))) in
    elim (test v.1) as P [ true ↦ passes_other test reason other vs | false ↦ λ place a b w (is : Err (v.0, reason) ≡ Err (place, Excluded a b w)). other a b w (same_reason v.0 place reason (Excluded a b w) is) ]

-- the faults of rules that may stand in any category
abbrev NoneExcluded : Option Reason → Type 0
NoneExcluded None = Unit {0}
NoneExcluded (Some reason) = IsOther reason

text_fault_other : (rule : Rule) (bytes : List ℕ) → NoneExcluded (text_fault rule bytes)
text_fault_other rules.Free bytes = tt
text_fault_other rules.NotEmpty bytes = elim (length bytes == 0) as (λ c. NoneExcluded (cond c (Some EmptyRadix) None)) [ true ↦ no_radix | false ↦ tt ]
text_fault_other rules.EmptyOrFour bytes = elim (length bytes == 0 || length bytes == 4) as (λ c. NoneExcluded (cond c None (Some BadCurrency))) [ true ↦ tt | false ↦ no_currency ]
text_fault_other (rules.Between low high) bytes = tt
text_fault_other rules.TenDigits bytes = tt
text_fault_other rules.Cased bytes = tt
text_fault_other rules.ClassNames bytes = tt
text_fault_other (rules.Names n) bytes = tt
text_fault_other (rules.Format rank) bytes = tt
text_fault_other rules.Segments bytes = tt
text_fault_other rules.Digits bytes = tt

number_fault_other : (rule : Rule) (m : ℤ) → NoneExcluded (number_fault rule m)
number_fault_other rules.Free m = tt
number_fault_other rules.NotEmpty m = tt
number_fault_other rules.EmptyOrFour m = tt
number_fault_other (rules.Between low high) m = elim (int_le low m && int_le m high) as (λ c. NoneExcluded (cond c None (Some BadNumber))) [ true ↦ tt | false ↦ no_number ]
number_fault_other rules.TenDigits m = tt
number_fault_other rules.Cased m = tt
number_fault_other rules.ClassNames m = tt
number_fault_other (rules.Names n) m = tt
number_fault_other (rules.Format rank) m = tt
number_fault_other rules.Segments m = tt
number_fault_other rules.Digits m = tt

fault_other : (rule : Rule) (value : Value) → NoneExcluded (fault_of rule value)
fault_other rule (Text bytes) = text_fault_other rule bytes
fault_other rule (Number m) = number_fault_other rule m
fault_other rule (Chars a b) = tt
fault_other rule (Pair a b) = tt

unless_other : (place : Place) (o : Option Reason) → NoneExcluded o → FaultsOther (unless place o)
unless_other place None other = ok_other tt
unless_other place (Some reason) other = λ place' a b w (is : Err (place, reason) ≡ Err (place', Excluded a b w)). other a b w (same_reason place place' reason (Excluded a b w) is)

operands_other : (rule : Rule) (vs : List (Place × Value)) → FaultsOther (operands_checked rule vs)
operands_other rule [] = ok_other tt
operands_other rule (v ∷ vs) =
    after_other (unless v.0 (fault_of rule v.1)) (λ u. operands_checked rule vs) (unless_other v.0 (fault_of rule v.1) (fault_other rule v.1)) (λ u. operands_other rule vs)

checked_other : (classes : Classes) (rule : Rule) (vs : List (Place × Value)) → FaultsOther (operands_checked rule vs >>= (λ u. Ok classes))
checked_other classes rule vs = after_other (operands_checked rule vs) (λ u. Ok classes) (operands_other rule vs) (λ u. ok_other classes)

declaring_other : (set : CodedSet) (entries : List Entry) (classes : Classes) (place : Place) (name : Name) → FaultsOther (declaring set entries classes place name)
declaring_other set entries classes place name =
    let P : Bool → Type 0 = λ c. FaultsOther (cond c (Ok (with_class set entries classes (declared_row name))) (Err (place, BadClassName))) in
    elim (is_class_name name && not (is_taken classes name)) as P [ true ↦ ok_other (with_class set entries classes (declared_row name)) | false ↦ λ place' a b w (is : Err (place, BadClassName) ≡ Err (place', Excluded a b w)). no_name a b w (same_reason place place' BadClassName (Excluded a b w) is) ]

declaring_value_other : (set : CodedSet) (entries : List Entry) (classes : Classes) (v : Place × Value) → FaultsOther (declaring_value set entries classes v)
declaring_value_other set entries classes (place, Text name) = declaring_other set entries classes place name
declaring_value_other set entries classes (place, Number n) = ok_other classes
declaring_value_other set entries classes (place, Chars a b) = ok_other classes
declaring_value_other set entries classes (place, Pair a b) = ok_other classes

declaring_values_other : (set : CodedSet) (entries : List Entry) (classes : Classes) (vs : List (Place × Value)) → FaultsOther (declaring_values set entries classes vs)
declaring_values_other set entries classes [] = ok_other classes
declaring_values_other set entries classes (v ∷ vs) =
    after_other (declaring_value set entries classes v) (λ more. declaring_values set entries more vs) (declaring_value_other set entries classes v) (λ more. declaring_values_other set entries more vs)

after_operands_other : (set : CodedSet) (entries : List Entry) (classes : Classes) (rule : Option Rule) (vs : List (Place × Value)) → FaultsOther (after_operands set entries classes rule vs)
after_operands_other set entries classes None vs = ok_other classes
after_operands_other set entries classes (Some rules.ClassNames) vs = declaring_values_other set entries classes vs
after_operands_other set entries classes (Some rules.TenDigits) vs = after_other (each_passes is_ten DigitsNotTen vs) (λ u. Ok classes) (passes_other is_ten DigitsNotTen no_digit vs) (λ u. ok_other classes)
after_operands_other set entries classes (Some rules.Cased) vs = after_other (each_passes (is_cased_pair classes) NotCased vs) (λ u. Ok classes) (passes_other (is_cased_pair classes) NotCased no_case vs) (λ u. ok_other classes)
after_operands_other set entries classes (Some rules.Free) vs = checked_other classes rules.Free vs
after_operands_other set entries classes (Some rules.NotEmpty) vs = checked_other classes rules.NotEmpty vs
after_operands_other set entries classes (Some rules.EmptyOrFour) vs = checked_other classes rules.EmptyOrFour vs
after_operands_other set entries classes (Some (rules.Between low high)) vs = checked_other classes (rules.Between low high) vs
after_operands_other set entries classes (Some (rules.Names n)) vs = checked_other classes (rules.Names n) vs
after_operands_other set entries classes (Some (rules.Format rank)) vs = checked_other classes (rules.Format rank) vs
after_operands_other set entries classes (Some rules.Segments) vs = checked_other classes rules.Segments vs
after_operands_other set entries classes (Some rules.Digits) vs = checked_other classes rules.Digits vs

after_lines_other : (set : CodedSet) (entries : List Entry) (classes : Classes) (es : List Entry) → FaultsOther (after_lines set entries classes es)
after_lines_other set entries classes [] = ok_other classes
after_lines_other set entries classes (e ∷ es) =
    after_other (after_line set entries classes e) (λ more. after_lines set entries more es) (after_operands_other set entries classes (rule_of_line e) e.values) (λ more. after_lines_other set entries more es)

pub lines_other : (set : CodedSet) (entries : List Entry) → FaultsOther (classes_of set entries)
unfolding classes_of
lines_other set entries = after_lines_other set entries (twelve_classes set entries) entries

-- ---- what a refusal names

-- a refusal for the pairs that are left is one for all
pub names_first : (member : Class → ℕ → Bool) (section : Place) (r : Result (Unit {0}) TextFault) → Names (IsExcluded member exclusions) section r → Names (IsFirstExcluded member) section r
unfolding IsFirstExcluded
names_first member section r names = names

pub names_behind : (member : Class → ℕ → Bool) (section : Place) (r : Result (Unit {0}) TextFault)
    → ((a b : Class) (w : ℕ) → IsExcluded member [] a b w → IsExcluded member exclusions a b w) → Names (IsExcluded member []) section r → Names (IsFirstExcluded member) section r
unfolding IsFirstExcluded
names_behind member section r behind names = λ place a b w is.
    let n = names place a b w is in
    (n.0, behind a b w n.1)

-- a fault of the lines
pub lines_name : (set : CodedSet) (entries : List Entry) (section : Place) (e : TextFault) → Fails e (classes_of set entries) → Names {A = CtypeValues} (IsFirstExcluded (is_in set entries)) section (Err e)
lines_name set entries section Memory fails = λ place a b w is. absurd (cc)
lines_name set entries section (At p r) fails = λ place a b w is.
    let same : classes_of set entries ≡ Err (place, Excluded a b w) = cc in
    absurd (lines_other set entries place a b w same)

-- a common member by the classes as they are kept is one by the keyword list
pub names_in : (set : CodedSet) (entries : List Entry) (classes : Classes) (section : Place) (e : TextFault) → classes_of set entries ≡ Ok classes → Names {A = Unit {0}} (IsFirstExcluded (is_kept_in classes)) section (Err e)
    → Names {A = CtypeValues} (IsFirstExcluded (is_in set entries)) section (Err e)
names_in set entries classes section e read names = λ place a b w is.
    let fault : e ≡ At place (Excluded a b w) = cc in
    let n = names place a b w (ap (λ (x : TextFault). Err x) fault) in
    (n.0, first_excluded_in set entries classes read a b w n.1)

-- all pairs have no common member, and the space character is not in punct
pub apart_all : (member : Class → ℕ → Bool) (r : Result (Unit {0}) TextFault) → OnOk r (AreApart member []) → (AreApart member [] → AreApart member exclusions) → OnOk r (AreAllApart member)
unfolding AreAllApart
apart_all member (Ok u) last behind = behind last
apart_all member (Err e) last behind = tt
