-- What the operands of keywords must be, beyond their kind, and the first that is not (XBD 7.3.3 and 7.3.4; the order of faults is our own rule).
use Rattle.std.specs.Prelude.{ℕ, ℤ, ◌==◌, ◌&&◌, ◌||◌, int_le, List, [], ◌∷◌, length, Option, Some, None, Ok, Err, if◌then◌else◌}
use Rattle.lc_base.specs.declared.category.Category.{Category}
use Rattle.lc_base.specs.declared.place.Place.{Place}
use Rattle.lc_base.specs.declared.reason.Reason.{Reason}
use Rattle.lc_base.specs.declared.reason.Reason.TheVariants.{EmptyRadix, BadCurrency, BadNumber}
use Rattle.lc_base.specs.Reading.{Reads, ◌>>=◌}
use Rattle.keywords.specs.declared.row.Rule.{Rule}
use Rattle.keywords.specs.declared.row.Rule.TheVariants.{NotEmpty, EmptyOrFour, Between}
use Rattle.keywords.specs.LookUp.{rule_of}
use Rattle.keywords.specs.declared.source.Value.{Value}
use Rattle.keywords.specs.declared.source.Value.TheVariants.{Text, Number, Chars, Pair}
use Rattle.keywords.specs.declared.source.Entry.{Entry}

-- the rule that a text breaks
abbrev pub text_fault : Rule → List ℕ → Option Reason
text_fault NotEmpty bytes = if length bytes == 0 then Some EmptyRadix else None
text_fault EmptyOrFour bytes = if length bytes == 0 || length bytes == 4 then None else Some BadCurrency
text_fault _ bytes = None

-- the rule that a number breaks
abbrev pub number_fault : Rule → ℤ → Option Reason
number_fault (Between low high) n = if int_le low n && int_le n high then None else Some BadNumber
number_fault _ n = None

-- the rule that an operand breaks; those of characters and of times are looked at in their categories
abbrev pub fault_of : Rule → Value → Option Reason
fault_of rule (Text bytes) = text_fault rule bytes
fault_of rule (Number n) = number_fault rule n
fault_of rule (Chars a b) = None
fault_of rule (Pair a b) = None

-- nothing, or what is wrong at a place
abbrev pub unless : Place → Option Reason → Reads (Unit {0})
unless place None = Ok tt
unless place (Some reason) = Err (place, reason)

-- the operands of a line, or the first that breaks a rule
abbrev pub operands_checked : Rule → List (Place × Value) → Reads (Unit {0})
operands_checked rule [] = Ok tt
operands_checked rule (v ∷ vs) = unless v.0 (fault_of rule v.1) >>= λ _. operands_checked rule vs

abbrev pub values_checked : Option Rule → List (Place × Value) → Reads (Unit {0})
values_checked None vs = Ok tt
values_checked (Some rule) vs = operands_checked rule vs

-- a line, or its first operand that breaks the rule of its keyword
abbrev pub line_checked : Category → Entry → Reads (Unit {0})
line_checked category e = values_checked (rule_of category e.keyword) e.values

-- a keyword list of a category, or its first fault, in the order of lines
abbrev pub checked : Category → List Entry → Reads (Unit {0})
checked category [] = Ok tt
checked category (e ∷ es) = line_checked category e >>= λ _. checked category es
