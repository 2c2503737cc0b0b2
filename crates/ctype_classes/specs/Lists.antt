-- The faults of the lines of LC_CTYPE, and the classes that they declare (XBD 7.3.1).
use Rattle.std.specs.Prelude.{ℕ, Bool, true, false, ◌||◌, ◌&&◌, not, List, [], ◌∷◌, length, slice_index, codes, Option, Some, None, is_some, Ok, Err, if◌then◌else◌}
use Rattle.std.specs.Char.{is_ascii_alphabetic, is_ascii_alphanumeric}
use Rattle.std.specs.Int.{is_in_range}
use Rattle.std.specs.List.{list_all}
use Rattle.lc_base.specs.declared.category.Category.TheVariants as categories
use Rattle.lc_base.specs.declared.place.Place.{Place}
use Rattle.lc_base.specs.declared.reason.Reason.{Reason}
use Rattle.lc_base.specs.declared.reason.Reason.TheVariants.{BadClassName, DigitsNotTen, NotCased}
use Rattle.lc_base.specs.Reading.{Reads, ◌>>=◌}
use Rattle.class_ranges.specs.Ranges.{covers}
use Rattle.lc_base.specs.Tables.{first_named}
use Rattle.charset.specs.Portable.{Name}
use Rattle.charset.specs.CodedSet.{CodedSet}
use Rattle.keywords.specs.declared.source.Value.{Value}
use Rattle.keywords.specs.declared.source.Value.TheVariants.{Text, Number, Chars, Pair}
use Rattle.keywords.specs.declared.source.Entry.{Entry}
use Rattle.keywords.specs.declared.row.Operands.{Operands}
use Rattle.keywords.specs.declared.row.Operands.TheVariants.{Copied}
use Rattle.keywords.specs.declared.row.Rule.{Rule}
use Rattle.keywords.specs.declared.row.Rule.TheVariants.{TenDigits, Cased, ClassNames}
use Rattle.keywords.specs.LookUp.{takes_of}
use Rattle.keywords.specs.Rules.{operands_checked}
use Rattle.ctype_classes.specs.Lines.{rule_of_line}
use Rattle.ctype_classes.specs.Table.{declared_row}
use Rattle.ctype_classes.specs.Classes.{Classes, members_of, with_class, twelve_classes}

-- a value of the line `digit` has none but the ten digits; a range of characters has its two ends
abbrev pub is_ten : Value → Bool
is_ten (Text bs) = true
is_ten (Number n) = true
is_ten (Chars a b) = is_in_range 48 57 a && is_in_range 48 57 b
is_ten (Pair a b) = true

-- whether a character has case
abbrev pub is_cased : Classes → ℕ → Bool
is_cased classes w = covers (members_of classes (codes "upper")) w || covers (members_of classes (codes "lower")) w

-- both characters of a case pair have case
abbrev pub is_cased_pair : Classes → Value → Bool
is_cased_pair classes (Text bs) = true
is_cased_pair classes (Number n) = true
is_cased_pair classes (Chars a b) = true
is_cased_pair classes (Pair a b) = is_cased classes a && is_cased classes b

-- operands that pass a test, up to the first that does not
abbrev pub each_passes : (Value → Bool) → Reason → List (Place × Value) → Reads (Unit {0})
each_passes test reason [] = Ok tt
each_passes test reason (v ∷ vs) = if test v.1 then each_passes test reason vs else Err (v.0, reason)

-- letters and digits, of which the first is a letter
abbrev pub is_word : List ℕ → Bool
is_word name = is_ascii_alphabetic (slice_index name 0) && list_all is_ascii_alphanumeric name

-- a name that a class may have: 1 to 14 letters and digits, of which the first is a letter
abbrev pub is_class_name : Name → Bool
is_class_name name = is_in_range 1 14 (length name) && is_word name

-- a keyword that keeps its name from classes, by what it takes: each does but the one that copies a category (our own rule)
abbrev pub keeps_its_name : Option Operands → Bool
keeps_its_name None = false
keeps_its_name (Some Copied) = false
keeps_its_name (Some _) = true

-- a name that a keyword of LC_CTYPE keeps
unfoldable pub is_reserved : Name → Bool
is_reserved name = keeps_its_name (takes_of categories.Ctype name)

-- a name that is that of a class, or that a keyword keeps
abbrev pub is_taken : Classes → Name → Bool
is_taken classes name = is_some (first_named classes name) || is_reserved name

-- the classes after one that an operand declares
abbrev pub declaring : CodedSet → List Entry → Classes → Place → Name → Reads Classes
declaring set entries classes place name =
    if is_class_name name && not (is_taken classes name) then Ok (with_class set entries classes (declared_row name))
    else Err (place, BadClassName)

abbrev pub declaring_value : CodedSet → List Entry → Classes → Place × Value → Reads Classes
declaring_value set entries classes (place, Text name) = declaring set entries classes place name
declaring_value set entries classes (place, Number n) = Ok classes
declaring_value set entries classes (place, Chars a b) = Ok classes
declaring_value set entries classes (place, Pair a b) = Ok classes

abbrev pub declaring_values : CodedSet → List Entry → Classes → List (Place × Value) → Reads Classes
declaring_values set entries classes [] = Ok classes
declaring_values set entries classes (v ∷ vs) = declaring_value set entries classes v >>= λ more. declaring_values set entries more vs

-- the classes after the operands of a line with this rule; a rule that is not of LC_CTYPE alone is held as in any category
abbrev pub after_operands : CodedSet → List Entry → Classes → Option Rule → List (Place × Value) → Reads Classes
after_operands set entries classes None vs = Ok classes
after_operands set entries classes (Some ClassNames) vs = declaring_values set entries classes vs
after_operands set entries classes (Some TenDigits) vs = each_passes is_ten DigitsNotTen vs >>= λ _. Ok classes
after_operands set entries classes (Some Cased) vs = each_passes (is_cased_pair classes) NotCased vs >>= λ _. Ok classes
after_operands set entries classes (Some rule) vs = operands_checked rule vs >>= λ _. Ok classes

-- the classes after a line
abbrev pub after_line : CodedSet → List Entry → Classes → Entry → Reads Classes
after_line set entries classes e = after_operands set entries classes (rule_of_line e) e.values

-- the classes after lines of a keyword list
abbrev pub after_lines : CodedSet → List Entry → Classes → List Entry → Reads Classes
after_lines set entries classes [] = Ok classes
after_lines set entries classes (e ∷ es) = after_line set entries classes e >>= λ more. after_lines set entries more es

-- the classes of a keyword list, or the first fault of its lines
unfoldable pub classes_of : CodedSet → List Entry → Reads Classes
classes_of set entries = after_lines set entries (twelve_classes set entries) entries
