-- Keyword lists of LC_NUMERIC, and what they define.
use Rattle.std.proofs.Common.{◌≡◌, ℕ, List, [], ◌∷◌, Ok, Err, refl}
use Rattle.std.specs.Prelude.{codes, pos, negsuc}
use Rattle.lc_base.specs.declared.place.Place.{Place}
use Rattle.lc_base.specs.declared.reason.Reason.TheVariants.{EmptyRadix, BadNumber}
use Rattle.keywords.specs.declared.source.Value.{Value}
use Rattle.keywords.specs.declared.source.Value.TheVariants.{Text, Number}
use Rattle.keywords.specs.declared.source.Entry.{Entry}
use Rattle.keywords.specs.Keywords.{operands, text_or}
use Rattle.numeric_cat.specs.Numeric.{numeric_values, posix_values}

abbrev at : ℕ → ℕ → Place
at line column = record { line = line; column = column }

-- a keyword at the first column of a line, with its operand at another one
abbrev line : ℕ → List ℕ → ℕ → Value → Entry
line number keyword column value = record { place = at number 1; keyword = keyword; values = (at number column, value) ∷ [] }

abbrev radix : ℕ → List ℕ → Entry
radix number text = line number (codes "decimal_point") 15 (Text text)

abbrev separator : ℕ → List ℕ → Entry
separator number text = line number (codes "thousands_sep") 15 (Text text)

-- both keywords, in either order
both : numeric_values (separator 2 (codes ".") ∷ radix 3 (codes ",") ∷ []) ≡ Ok (record { decimal_point = codes ","; thousands_sep = codes "."; grouping = negsuc 0 ∷ [] })
both = refl

-- a keyword that is absent has its POSIX value
no_separator : numeric_values (radix 2 (codes ",") ∷ []) ≡ Ok (record { decimal_point = codes ","; thousands_sep = []; grouping = negsuc 0 ∷ [] })
no_separator = refl

no_radix : numeric_values (separator 2 (codes " ") ∷ []) ≡ Ok (record { decimal_point = codes "."; thousands_sep = codes " "; grouping = negsuc 0 ∷ [] })
no_radix = refl

posix : posix_values ≡ record { decimal_point = codes "."; thousands_sep = []; grouping = negsuc 0 ∷ [] }
posix = refl

no_keywords : numeric_values [] ≡ Ok posix_values
no_keywords = refl

-- an empty radix is refused at its operand, and an empty separator is good
empty_radix : numeric_values (separator 2 (codes ".") ∷ radix 3 [] ∷ []) ≡ Err (at 3 15, EmptyRadix)
empty_radix = refl

empty_separator : numeric_values (radix 2 (codes ",") ∷ separator 3 [] ∷ []) ≡ Ok (record { decimal_point = codes ","; thousands_sep = []; grouping = negsuc 0 ∷ [] })
empty_separator = refl

-- the first line of a keyword gives its value; each line is held to the rule
first_line_counts : numeric_values (radix 2 (codes ",") ∷ radix 3 (codes "'") ∷ []) ≡ Ok (record { decimal_point = codes ","; thousands_sep = []; grouping = negsuc 0 ∷ [] })
first_line_counts = refl

later_line_is_empty : numeric_values (radix 2 (codes ",") ∷ radix 3 [] ∷ []) ≡ Err (at 3 15, EmptyRadix)
later_line_is_empty = refl

-- sizes of groups, with faults in the order of lines and of operands
abbrev sizes : ℕ → List (Place × Value) → Entry
sizes number values = record { place = at number 1; keyword = codes "grouping"; values = values }

grouped : numeric_values (sizes 2 ((at 2 10, Number (pos 3)) ∷ (at 2 12, Number (negsuc 0)) ∷ []) ∷ []) ≡ Ok (record { decimal_point = codes "."; thousands_sep = []; grouping = pos 3 ∷ negsuc 0 ∷ [] })
grouped = refl

ends_of_the_range : numeric_values (sizes 2 ((at 2 10, Number (pos 126)) ∷ (at 2 14, Number (pos 0)) ∷ []) ∷ []) ≡ Ok (record { decimal_point = codes "."; thousands_sep = []; grouping = pos 126 ∷ pos 0 ∷ [] })
ends_of_the_range = refl

no_sizes : numeric_values (sizes 2 [] ∷ []) ≡ Ok (record { decimal_point = codes "."; thousands_sep = []; grouping = [] })
no_sizes = refl

large_size : numeric_values (sizes 2 ((at 2 10, Number (pos 3)) ∷ (at 2 12, Number (pos 127)) ∷ (at 2 16, Number (negsuc 1)) ∷ []) ∷ []) ≡ Err (at 2 12, BadNumber)
large_size = refl

small_size : numeric_values (sizes 2 ((at 2 10, Number (negsuc 1)) ∷ []) ∷ radix 3 [] ∷ []) ≡ Err (at 2 10, BadNumber)
small_size = refl

earlier_line_first : numeric_values (radix 2 [] ∷ sizes 3 ((at 3 10, Number (negsuc 1)) ∷ []) ∷ []) ≡ Err (at 2 15, EmptyRadix)
earlier_line_first = refl

-- a line without an operand hides those behind it
no_operand : text_or (codes ".") (operands (record { place = at 2 1; keyword = codes "decimal_point"; values = [] } ∷ radix 3 (codes ",") ∷ []) (codes "decimal_point")) ≡ codes "."
no_operand = refl

-- the first operand counts
first_operand_counts : text_or (codes ".") (operands (record { place = at 2 1; keyword = codes "decimal_point"; values = (at 2 15, Text (codes ",")) ∷ (at 2 19, Text []) ∷ [] } ∷ []) (codes "decimal_point")) ≡ codes ","
first_operand_counts = refl

-- an operand that is no text counts as none
number_as_radix : numeric_values (line 2 (codes "decimal_point") 15 (Number (pos 0)) ∷ []) ≡ Ok posix_values
number_as_radix = refl
