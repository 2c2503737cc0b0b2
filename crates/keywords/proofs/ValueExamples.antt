-- Keyword lists, what they say of a keyword, and their first fault.
use Rattle.std.proofs.Common.{◌≡◌, ℕ, List, [], ◌∷◌, Some, None, Ok, Err, refl}
use Rattle.std.specs.Prelude.{codes, ℤ, pos, negsuc}
use Rattle.lc_base.specs.declared.category.Category.TheVariants.{Numeric, Monetary, Messages}
use Rattle.lc_base.specs.declared.place.Place.{Place}
use Rattle.lc_base.specs.declared.reason.Reason.TheVariants.{EmptyRadix, BadCurrency, BadNumber}
use Rattle.keywords.specs.declared.source.Value.{Value}
use Rattle.keywords.specs.declared.source.Value.TheVariants.{Text, Number}
use Rattle.keywords.specs.declared.source.Entry.{Entry}
use Rattle.keywords.specs.Keywords.{operands, text_or, number_or, numbers_or, text_value, number_value, numbers_value}
use Rattle.keywords.specs.Rules.{checked}

abbrev at : ℕ → ℕ → Place
at line column = record { line = line; column = column }

abbrev line : ℕ → List ℕ → List (Place × Value) → Entry
line number keyword values = record { place = at number 1; keyword = keyword; values = values }

abbrev sizes : ℕ → ℤ → ℤ → Entry
sizes number first second = line number (codes "grouping") ((at number 7, Number first) ∷ (at number 9, Number second) ∷ [])

abbrev radix : ℕ → List ℕ → Entry
radix number text = line number (codes "decimal_point") ((at number 7, Text text) ∷ [])

abbrev symbol : ℕ → List ℕ → Entry
symbol number text = line number (codes "int_curr_symbol") ((at number 8, Text text) ∷ [])

-- the first line with a keyword counts, and a keyword is compared whole
abbrev list : List Entry
list = radix 2 (codes ",") ∷ sizes 3 (pos 3) (negsuc 0) ∷ radix 4 (codes "'") ∷ []

first_line : operands list (codes "decimal_point") ≡ Some ((at 2 7, Text (codes ",")) ∷ [])
first_line = refl

no_line : operands list (codes "decimal_poin") ≡ None
no_line = refl

-- values of keywords, and of those that are absent
text : text_value Numeric list (codes "decimal_point") ≡ codes ","
text = refl

absent_text : text_value Numeric [] (codes "decimal_point") ≡ codes "."
absent_text = refl

other_absent_text : text_value Messages list (codes "noexpr") ≡ codes "^[nN]"
other_absent_text = refl

number : number_or (negsuc 0) (operands list (codes "grouping")) ≡ pos 3
number = refl

absent_number : number_value Monetary list (codes "frac_digits") ≡ negsuc 0
absent_number = refl

numbers : numbers_value Numeric list (codes "grouping") ≡ pos 3 ∷ negsuc 0 ∷ []
numbers = refl

absent_numbers : numbers_value Monetary list (codes "mon_grouping") ≡ negsuc 0 ∷ []
absent_numbers = refl

no_operand : numbers_value Numeric (line 2 (codes "grouping") [] ∷ []) (codes "grouping") ≡ []
no_operand = refl

-- a value of another kind counts as none
text_of_a_number : text_or (codes ".") (operands list (codes "grouping")) ≡ codes "."
text_of_a_number = refl

number_of_a_text : numbers_or (negsuc 0 ∷ []) (operands list (codes "decimal_point")) ≡ []
number_of_a_text = refl

-- rules, of which a keyword that has none, and one of another category, break none
good : checked Monetary (symbol 2 (codes "USD ") ∷ symbol 3 [] ∷ radix 4 [] ∷ line 5 (codes "other") ((at 5 7, Text []) ∷ []) ∷ []) ≡ Ok tt
good = refl

good_sizes : checked Numeric (sizes 2 (negsuc 0) (pos 126) ∷ radix 3 (codes ",") ∷ symbol 4 (codes "USD") ∷ []) ≡ Ok tt
good_sizes = refl

short_symbol : checked Monetary (symbol 2 (codes "USD") ∷ []) ≡ Err (at 2 8, BadCurrency)
short_symbol = refl

empty_radix : checked Numeric (radix 2 (codes ",") ∷ radix 3 [] ∷ []) ≡ Err (at 3 7, EmptyRadix)
empty_radix = refl

-- the first fault, in the order of lines and in a line in the order of operands
second_operand : checked Numeric (sizes 2 (pos 0) (pos 127) ∷ radix 3 [] ∷ []) ≡ Err (at 2 9, BadNumber)
second_operand = refl

first_operand : checked Numeric (sizes 2 (negsuc 1) (pos 127) ∷ []) ≡ Err (at 2 7, BadNumber)
first_operand = refl
