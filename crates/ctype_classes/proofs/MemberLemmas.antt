-- The classes as they are kept, and membership value by value.
use Rattle.std.proofs.Common.{◌≡◌, ℕ, Bool, true, false, cond, ◌&&◌, ◌||◌, List, [], ◌∷◌, ◌++◌, map, Option, Some, None, Ok, Err, refl, sym, ap, ◌∙◌}
use Rattle.std.specs.Prelude.{not}
use Rattle.std.specs.Option.{option_map, unwrap_or, is_some}
use Rattle.std.specs.Str.{bytes_eq}
use Rattle.std.proofs.lemmas.List.{map-append}
use Rattle.lc_base.specs.declared.place.Place.{Place}
use Rattle.lc_base.specs.declared.reason.Reason.{Reason}
use Rattle.lc_base.specs.declared.reason.Reason.TheVariants.{BadClassName, DigitsNotTen, NotCased}
use Rattle.lc_base.specs.Reading.{Reads, ◌>>=◌}
use Rattle.class_ranges.specs.Ranges.{Range, covers}
use Rattle.lc_base.specs.Tables.{first_named}
use Rattle.charset.specs.Portable.{Name}
use Rattle.charset.specs.CodedSet.{CodedSet, has}
use Rattle.keywords.specs.declared.source.Value.{Value}
use Rattle.keywords.specs.declared.source.Value.TheVariants.{Text, Number, Chars, Pair}
use Rattle.keywords.specs.declared.source.Entry.{Entry}
use Rattle.keywords.specs.declared.row.Rule.{Rule}
use Rattle.keywords.specs.declared.row.Rule.TheVariants.{Free, NotEmpty, EmptyOrFour, Between, TenDigits, Cased, ClassNames, Names, Format, Segments, Digits}
use Rattle.keywords.specs.Keywords.{operands, texts}
use Rattle.keywords.specs.Rules.{operands_checked}
use Rattle.ctype_classes.specs.Lines.{rule_of_line}
use Rattle.lc_base.specs.Named.{with_named}
use Rattle.ctype_classes.specs.Characters.{characters}
use Rattle.ctype_classes.specs.Table.{ClassRow, class_table, declared_row}
use Rattle.ctype_classes.specs.Classes.{Classes, members_of, members_of_all, all_members, listed_members, with_class, with_classes, twelve_classes, class_answer}
use Rattle.ctype_classes.specs.Lists.{is_ten, is_cased_pair, each_passes, is_class_name, is_taken, declaring, declaring_values, after_operands, after_line, after_lines, classes_of}
use Rattle.ctype_classes.specs.Exclusions.{all_kept_apart}
use Rattle.ctype_classes.specs.Case.{upper_pairs, lower_pairs, image, first_image}
use Rattle.ctype_classes.specs.CtypeValues.{CtypeValues}
use Rattle.ctype_classes.specs.Ctype.{ctype_with, ctype_values}
use Rattle.ctype_classes.specs.Members.{declared_in, declared_names, rows_of, is_in_any, is_member, memberships, membership}
use Rattle.ctype_classes.proofs.CaseLemmas.{image-map_of}
use Rattle.ctype_classes.proofs.CharacterLemmas.{covers-append, covers-characters}

-- ---- value by value

-- each class with whether a value is in it
abbrev pub answers : ℕ → Classes → List (Name × Bool)
answers w classes = map (λ (c : Name × List Range). (c.0, covers c.1 w)) classes

first_named-answers : (w : ℕ) (classes : Classes) (name : Name) → first_named (answers w classes) name ≡ class_answer classes name w
first_named-answers w [] name = refl
first_named-answers w (c ∷ cs) name =
    let P : Bool → Type 0 = λ b. cond b (Some (covers c.1 w)) (first_named (answers w cs) name) ≡ option_map (λ (members : List Range). covers members w) (cond b (Some c.1) (first_named cs name)) in
    elim (bytes_eq c.0 name) as P [ true ↦ refl | false ↦ first_named-answers w cs name ]

-- a class that is not there has no members
pub answer_or_none : (w : ℕ) (o : Option (List Range)) → covers (unwrap_or o []) w ≡ unwrap_or (option_map (λ (members : List Range). covers members w) o) false
answer_or_none w None = refl
answer_or_none w (Some members) = refl

covers-members_of : (w : ℕ) (classes : Classes) (name : Name) → covers (members_of classes name) w ≡ unwrap_or (first_named (answers w classes) name) false
covers-members_of w classes name =
    answer_or_none w (first_named classes name) ∙ ap (λ (o : Option Bool). unwrap_or o false) (sym (first_named-answers w classes name))

covers-members_of_all : (w : ℕ) (classes : Classes) (names : List Name) → covers (members_of_all classes names) w ≡ is_in_any (answers w classes) names
covers-members_of_all w classes [] = refl
covers-members_of_all w classes (name ∷ names) =
    covers-append (members_of classes name) (members_of_all classes names) w
    ∙ ap (λ (b : Bool). b || covers (members_of_all classes names) w) (covers-members_of w classes name)
    ∙ ap (λ (b : Bool). unwrap_or (first_named (answers w classes) name) false || b) (covers-members_of_all w classes names)

grouped : (a b c : Bool) → ((a || b) || c) ≡ (a || (b || c))
grouped true b c = refl
grouped false b c = refl

-- a class has just its members
covers-all_members : (entries : List Entry) (w : ℕ) (classes : Classes) (r : ClassRow) → covers (all_members entries classes r) w
    ≡ (covers (listed_members r.absent (operands entries r.name)) w || (covers r.always w || is_in_any (answers w classes) r.parts))
covers-all_members entries w classes r =
    let listed = listed_members r.absent (operands entries r.name) in
    let parts = members_of_all classes r.parts in
    covers-append (listed ++ r.always) parts w
    ∙ ap (λ (b : Bool). b || covers parts w) (covers-append listed r.always w)
    ∙ grouped (covers listed w) (covers r.always w) (covers parts w)
    ∙ ap (λ (b : Bool). covers listed w || (covers r.always w || b)) (covers-members_of_all w classes r.parts)

covers-class : (set : CodedSet) (entries : List Entry) (w : ℕ) (classes : Classes) (r : ClassRow) → covers (characters set (all_members entries classes r)) w ≡ is_member set entries w (answers w classes) r
covers-class set entries w classes r =
    covers-characters set (all_members entries classes r) w ∙ ap (λ (b : Bool). has set w && b) (covers-all_members entries w classes r)

-- a class more is an answer more
answers_found : (w : ℕ) (classes : Classes) (name : Name) (members : List Range) (o : Option (List Range)) → answers w (cond (is_some o) classes (classes ++ (name, members) ∷ []))
    ≡ cond (is_some (option_map (λ (m : List Range). covers m w) o)) (answers w classes) (answers w classes ++ (name, covers members w) ∷ [])
answers_found w classes name members None = map-append (λ (c : Name × List Range). (c.0, covers c.1 w)) classes ((name, members) ∷ [])
answers_found w classes name members (Some m) = refl

answers-with_named : (w : ℕ) (classes : Classes) (name : Name) (members : List Range) → answers w (with_named classes name members) ≡ with_named (answers w classes) name (covers members w)
answers-with_named w classes name members =
    answers_found w classes name members (first_named classes name)
    ∙ ap (λ (o : Option Bool). cond (is_some o) (answers w classes) (answers w classes ++ (name, covers members w) ∷ [])) (sym (first_named-answers w classes name))

answers-with_class : (set : CodedSet) (entries : List Entry) (w : ℕ) (classes : Classes) (r : ClassRow) → answers w (with_class set entries classes r) ≡ with_named (answers w classes) r.name (is_member set entries w (answers w classes) r)
answers-with_class set entries w classes r =
    answers-with_named w classes r.name (characters set (all_members entries classes r))
    ∙ ap (λ (b : Bool). with_named (answers w classes) r.name b) (covers-class set entries w classes r)

answers-with_classes : (set : CodedSet) (entries : List Entry) (w : ℕ) (classes : Classes) (rs : List ClassRow) → answers w (with_classes set entries classes rs) ≡ memberships set entries w (answers w classes) rs
answers-with_classes set entries w classes [] = refl
answers-with_classes set entries w classes (r ∷ rs) =
    answers-with_classes set entries w (with_class set entries classes r) rs
    ∙ ap (λ (given : List (Name × Bool)). memberships set entries w given rs) (answers-with_class set entries w classes r)

-- ---- the classes that lines declare

with_classes-append : (set : CodedSet) (entries : List Entry) (classes : Classes) (rs ss : List ClassRow) → with_classes set entries classes (rs ++ ss) ≡ with_classes set entries (with_classes set entries classes rs) ss
with_classes-append set entries classes [] ss = refl
with_classes-append set entries classes (r ∷ rs) ss = with_classes-append set entries (with_class set entries classes r) rs ss

-- what was read where a part and what follows it were
both_read : {A B : Type 0} (r : Reads A) (f : A → Reads B) (b : B) → (r >>= f) ≡ Ok b → (a : A) × (r ≡ Ok a) × (f a ≡ Ok b)
both_read (Ok a) f b h = (a, refl, h)
both_read (Err e) f b h = absurd (cc)

-- a value that was read, where a test chose it or a fault
chosen_is : (b : Bool) (x out : Classes) (fault : Place × Reason) → cond b (Ok x) (Err fault) ≡ Ok out → out ≡ x
chosen_is true x out fault h = cc
chosen_is false x out fault h = absurd (cc)

-- a declared class is the next one
declaring_is : (set : CodedSet) (entries : List Entry) (classes out : Classes) (place : Place) (name : Name) → declaring set entries classes place name ≡ Ok out → out ≡ with_class set entries classes (declared_row name)
declaring_is set entries classes out place name h = chosen_is (is_class_name name && not (is_taken classes name)) (with_class set entries classes (declared_row name)) out (place, BadClassName) h

-- rows of names, one list after another
rows-append : (set : CodedSet) (entries : List Entry) (classes : Classes) (ms ns : List Name) → with_classes set entries classes (map declared_row (ms ++ ns)) ≡ with_classes set entries (with_classes set entries classes (map declared_row ms)) (map declared_row ns)
rows-append set entries classes ms ns =
    ap (λ (rs : List ClassRow). with_classes set entries classes rs) (map-append declared_row ms ns) ∙ with_classes-append set entries classes (map declared_row ms) (map declared_row ns)

declaring_values_is : (set : CodedSet) (entries : List Entry) (classes out : Classes) (vs : List (Place × Value)) → declaring_values set entries classes vs ≡ Ok out → out ≡ with_classes set entries classes (map declared_row (texts vs))
declaring_values_is set entries classes out [] h = cc
declaring_values_is set entries classes out ((place, Text name) ∷ vs) h =
    let step = both_read (declaring set entries classes place name) (λ more. declaring_values set entries more vs) out h in
    declaring_values_is set entries step.0 out vs step.2
    ∙ ap (λ (cs : Classes). with_classes set entries cs (map declared_row (texts vs))) (declaring_is set entries classes step.0 place name step.1)
declaring_values_is set entries classes out ((place, Number n) ∷ vs) h = declaring_values_is set entries classes out vs h
declaring_values_is set entries classes out ((place, Chars a b) ∷ vs) h = declaring_values_is set entries classes out vs h
declaring_values_is set entries classes out ((place, Pair a b) ∷ vs) h = declaring_values_is set entries classes out vs h

-- a line that declares nothing leaves the classes
checked_is : (classes out : Classes) (r : Reads (Unit {0})) → (r >>= (λ u. Ok classes)) ≡ Ok out → out ≡ classes
checked_is classes out (Ok u) h = cc
checked_is classes out (Err e) h = absurd (cc)

-- the classes after operands are those that they declare
after_operands_is : (set : CodedSet) (entries : List Entry) (classes out : Classes) (rule : Option Rule) (vs : List (Place × Value)) → after_operands set entries classes rule vs ≡ Ok out
    → out ≡ with_classes set entries classes (map declared_row (declared_in rule vs))
after_operands_is set entries classes out None vs h = cc
after_operands_is set entries classes out (Some ClassNames) vs h = declaring_values_is set entries classes out vs h
after_operands_is set entries classes out (Some TenDigits) vs h = checked_is classes out (each_passes is_ten DigitsNotTen vs) h
after_operands_is set entries classes out (Some Cased) vs h = checked_is classes out (each_passes (is_cased_pair classes) NotCased vs) h
after_operands_is set entries classes out (Some Free) vs h = checked_is classes out (operands_checked Free vs) h
after_operands_is set entries classes out (Some NotEmpty) vs h = checked_is classes out (operands_checked NotEmpty vs) h
after_operands_is set entries classes out (Some EmptyOrFour) vs h = checked_is classes out (operands_checked EmptyOrFour vs) h
after_operands_is set entries classes out (Some (Between low high)) vs h = checked_is classes out (operands_checked (Between low high) vs) h
after_operands_is set entries classes out (Some (Names n)) vs h = checked_is classes out (operands_checked (Names n) vs) h
after_operands_is set entries classes out (Some (Format rank)) vs h = checked_is classes out (operands_checked (Format rank) vs) h
after_operands_is set entries classes out (Some Segments) vs h = checked_is classes out (operands_checked Segments vs) h
after_operands_is set entries classes out (Some Digits) vs h = checked_is classes out (operands_checked Digits vs) h

after_lines_is : (set : CodedSet) (entries : List Entry) (classes out : Classes) (es : List Entry) → after_lines set entries classes es ≡ Ok out → out ≡ with_classes set entries classes (map declared_row (declared_names es))
after_lines_is set entries classes out [] h = cc
after_lines_is set entries classes out (e ∷ es) h =
    let step = both_read (after_line set entries classes e) (λ more. after_lines set entries more es) out h in
    let names : List Name = declared_in (rule_of_line e) e.values in
    let first : step.0 ≡ with_classes set entries classes (map declared_row names) = after_operands_is set entries classes step.0 (rule_of_line e) e.values step.1 in
    after_lines_is set entries step.0 out es step.2
    ∙ ap (λ (cs : Classes). with_classes set entries cs (map declared_row (declared_names es))) first
    ∙ sym (rows-append set entries classes names (declared_names es))

-- the classes of a keyword list are those of its rows
classes_are : (set : CodedSet) (entries : List Entry) (out : Classes) → classes_of set entries ≡ Ok out → out ≡ with_classes set entries [] (rows_of entries)
unfolding classes_of
classes_are set entries out h =
    after_lines_is set entries (twelve_classes set entries) out entries h ∙ sym (with_classes-append set entries [] class_table (map declared_row (declared_names entries)))

-- the classes that are kept of rows answer as membership says
rows_answer : (set : CodedSet) (entries : List Entry) (name : Name) (w : ℕ) → class_answer (with_classes set entries [] (rows_of entries)) name w ≡ membership set entries name w
unfolding membership
rows_answer set entries name w =
    sym (first_named-answers w (with_classes set entries [] (rows_of entries)) name)
    ∙ ap (λ (given : List (Name × Bool)). first_named given name) (answers-with_classes set entries w [] (rows_of entries))

pub classes_answer : (set : CodedSet) (entries : List Entry) (out : Classes) → classes_of set entries ≡ Ok out → (name : Name) (w : ℕ) → class_answer out name w ≡ membership set entries name w
classes_answer set entries out h name w = ap (λ (cs : Classes). class_answer cs name w) (classes_are set entries out h) ∙ rows_answer set entries name w

-- ---- the category

-- a category that was read has the classes that were read, and the maps of its pairs
pub values_are : (entries : List Entry) (section : Place) (set : CodedSet) (c : CtypeValues) → ctype_values entries section set ≡ Ok c → (classes : Classes) × (classes_of set entries ≡ Ok classes) × (c ≡ ctype_with set entries classes)
unfolding ctype_values
values_are entries section set c h =
    let step = both_read (classes_of set entries) (λ classes. all_kept_apart section classes >>= (λ u. Ok (ctype_with set entries classes))) c h in
    let last = both_read (all_kept_apart section step.0) (λ u. Ok (ctype_with set entries step.0)) c step.2 in
    let is : c ≡ ctype_with set entries step.0 = (let given : Ok (ctype_with set entries step.0) ≡ Ok c = last.2 in cc) in
    (step.0, step.1, is)

pub values_answer : (entries : List Entry) (section : Place) (set : CodedSet) (c : CtypeValues) → ctype_values entries section set ≡ Ok c → (name : Name) (w : ℕ) → class_answer c.classes name w ≡ membership set entries name w
values_answer entries section set c h name w =
    let read = values_are entries section set c h in
    ap (λ (v : CtypeValues). class_answer v.classes name w) read.2 ∙ classes_answer set entries read.0 read.1 name w

pub values_upper : (entries : List Entry) (section : Place) (set : CodedSet) (c : CtypeValues) → ctype_values entries section set ≡ Ok c → (w : ℕ) → image c.upper w ≡ unwrap_or (first_image (upper_pairs entries) w) w
values_upper entries section set c h w =
    ap (λ (v : CtypeValues). image v.upper w) (values_are entries section set c h).2 ∙ image-map_of (upper_pairs entries) w

pub values_lower : (entries : List Entry) (section : Place) (set : CodedSet) (c : CtypeValues) → ctype_values entries section set ≡ Ok c → (w : ℕ) → image c.lower w ≡ unwrap_or (first_image (lower_pairs entries) w) w
values_lower entries section set c h w =
    ap (λ (v : CtypeValues). image v.lower w) (values_are entries section set c h).2 ∙ image-map_of (lower_pairs entries) w
