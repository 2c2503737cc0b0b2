-- The classes of a locale, each with its members (XBD 7.3.1).
use Rattle.std.specs.Prelude.{◌≡◌, ℕ, ◌<◌, Bool, false, List, [], ◌∷◌, ◌++◌, length, slice_get, slice_index, Option, Some, None, unwrap_or, option_map}
use Rattle.lc_base.specs.declared.place.Place.{Place}
use Rattle.class_ranges.specs.Ranges.{Range, covers}
use Rattle.lc_base.specs.Tables.{first_named}
use Rattle.charset.specs.Portable.{Name}
use Rattle.charset.specs.CodedSet.{CodedSet}
use Rattle.keywords.specs.declared.source.Value.{Value}
use Rattle.keywords.specs.declared.source.Entry.{Entry}
use Rattle.keywords.specs.Keywords.{operands, ranges}
use Rattle.lc_base.specs.Named.{with_named}
use Rattle.class_ranges.specs.Pages.{has_bit}
use Rattle.ctype_classes.specs.Characters.{characters}
use Rattle.ctype_classes.specs.Table.{ClassRow, class_table}

-- classes with the ranges of their members, in order
abbrev pub Classes : Type 0
Classes = List (Name × List Range)

-- the members of a class, if there is one
abbrev pub members_of : Classes → Name → List Range
members_of classes name = unwrap_or (first_named classes name) []

-- the members of several
abbrev pub members_of_all : Classes → List Name → List Range
members_of_all classes [] = []
members_of_all classes (name ∷ names) = members_of classes name ++ members_of_all classes names

-- the listed members, or those that stand for an absent keyword
abbrev pub listed_members : List Range → Option (List (Place × Value)) → List Range
listed_members absent None = absent
listed_members absent (Some vs) = ranges vs

-- the members of a class, listed and automatic, in any order
abbrev pub all_members : List Entry → Classes → ClassRow → List Range
all_members entries classes r = listed_members r.absent (operands entries r.name) ++ r.always ++ members_of_all classes r.parts

-- the classes after one more
abbrev pub with_class : CodedSet → List Entry → Classes → ClassRow → Classes
with_class set entries classes r = with_named classes r.name (characters set (all_members entries classes r))

-- the classes after those of rows
abbrev pub with_classes : CodedSet → List Entry → Classes → List ClassRow → Classes
with_classes set entries classes [] = classes
with_classes set entries classes (r ∷ rs) = with_classes set entries (with_class set entries classes r) rs

-- the twelve classes
abbrev pub twelve_classes : CodedSet → List Entry → Classes
twelve_classes set entries = with_classes set entries [] class_table

-- whether a value is in a class; none where there is no such class
abbrev pub class_answer : Classes → Name → ℕ → Option Bool
class_answer classes name w = option_map (λ members. covers members w) (first_named classes name)

-- whether a value is in the class with a number, its place from 0; none where no class has the number
abbrev pub numbered_answer : Classes → ℕ → ℕ → Option Bool
numbered_answer classes number w = option_map (λ entry. covers entry.1 w) (slice_get classes number)

-- the same, where no class with the number has no value
abbrev pub has_numbered : Classes → ℕ → ℕ → Bool
has_numbered classes number w = unwrap_or (numbered_answer classes number w) false

-- a word whose bits say of the first 64 classes whether they have a value, each at the number of its class
abbrev pub AreClassBits : Classes → ℕ → ℕ → Type 0
AreClassBits classes w bits = (number : ℕ) → number < 64 → has_bit bits number ≡ has_numbered classes number w

-- such words of the first values
abbrev pub AreLowBits : Classes → List ℕ → Type 0
AreLowBits classes words = (w : ℕ) → w < length words → AreClassBits classes w (slice_index words w)
