-- Keyword lists of LC_CTYPE, and what they define.
use Rattle.std.proofs.Common.{◌≡◌, ℕ, true, false, List, [], ◌∷◌, length, map, Some, None, Ok, Err, refl}
use Rattle.std.specs.Prelude.{codes, pos, slice_get}
use Rattle.std.specs.List.{list_all, list_any}
use Rattle.std.specs.Str.{bytes_eq}
use Rattle.lc_base.specs.declared.place.Place.{Place}
use Rattle.lc_base.specs.declared.reason.Class.TheVariants.{Alpha, Space, Punct}
use Rattle.lc_base.specs.declared.reason.Reason.TheVariants.{EmptyRadix, BadNumber, BadClassName, DigitsNotTen, NotCased, Excluded}
use Rattle.charset.specs.CodedSet.{CodedSet, utf8, posix, listed}
use Rattle.keywords.specs.declared.source.Value.{Value}
use Rattle.keywords.specs.declared.source.Value.TheVariants.{Text, Number, Chars, Pair}
use Rattle.keywords.specs.declared.source.Entry.{Entry}
use Rattle.keywords.specs.declared.row.Rule.TheVariants.{NotEmpty, Between}
use Rattle.ctype_classes.specs.Characters.{characters}
use Rattle.lc_base.specs.Named.{place_of}
use Rattle.class_ranges.specs.Pages.{has_bit}
use Rattle.ctype_classes.specs.Table.{ClassRow, class_table, class_names}
use Rattle.ctype_classes.specs.Classes.{Classes, members_of, numbered_answer, has_numbered}
use Rattle.ctype_classes.specs.Lines.{rule_of_line}
use Rattle.ctype_classes.specs.Lists.{is_reserved, is_taken, after_operands, classes_of}
use Rattle.ctype_classes.specs.Exclusions.{all_kept_apart}
use Rattle.ctype_classes.specs.Case.{upper_pairs, lower_pairs, map_of, image}
use Rattle.ctype_classes.specs.Ctype.{ctype_values, posix_values}
use Rattle.ctype_classes.specs.Members.{membership}
use Rattle.ctype_classes.specs.Excluded.{is_in, in_both, IsExcluded, AreApart}

abbrev at : ℕ → ℕ → Place
at line column = record { line = line; column = column }

-- a keyword line with its operands
abbrev line : ℕ → List ℕ → List (Place × Value) → Entry
line number keyword values = record { place = at number 1; keyword = keyword; values = values }

-- one character
abbrev one : ℕ → Value
one w = Chars w w

-- ---- the POSIX locale

posix_upper : members_of posix_values.classes (codes "upper") ≡ (65, 90) ∷ []
unfolding posix_values characters
posix_upper = refl

posix_alpha : members_of posix_values.classes (codes "alpha") ≡ (65, 90) ∷ (97, 122) ∷ []
unfolding posix_values characters
posix_alpha = refl

posix_space : members_of posix_values.classes (codes "space") ≡ (9, 13) ∷ (32, 32) ∷ []
unfolding posix_values characters
posix_space = refl

posix_cntrl : members_of posix_values.classes (codes "cntrl") ≡ (0, 31) ∷ (127, 127) ∷ []
unfolding posix_values characters
posix_cntrl = refl

posix_graph : members_of posix_values.classes (codes "graph") ≡ (33, 126) ∷ []
unfolding posix_values characters
posix_graph = refl

posix_print : members_of posix_values.classes (codes "print") ≡ (32, 126) ∷ []
unfolding posix_values characters
posix_print = refl

-- the row of classes of an empty list over POSIX, by the table of memberships
graph_letter : membership posix [] (codes "graph") 70 ≡ Some true
unfolding membership rule_of_line
graph_letter = refl

graph_space : membership posix [] (codes "graph") 32 ≡ Some false
unfolding membership rule_of_line
graph_space = refl

print_space : membership posix [] (codes "print") 32 ≡ Some true
unfolding membership rule_of_line
print_space = refl

cntrl_delete : membership posix [] (codes "cntrl") 127 ≡ Some true
unfolding membership rule_of_line
cntrl_delete = refl

outside_charset : membership posix [] (codes "alpha") 200 ≡ Some false
unfolding membership rule_of_line
outside_charset = refl

no_class : membership posix [] (codes "vowel") 65 ≡ None
unfolding membership rule_of_line
no_class = refl

posix_image : image posix_values.upper 122 ≡ 90
unfolding posix_values
posix_image = refl

-- ---- a charmap

abbrev demo : CodedSet
demo = listed (codes "DEMO") ((codes "j0101", 129 ∷ 254 ∷ []) ∷ (codes "j0102", 129 ∷ 255 ∷ []) ∷ (codes "j0103", 130 ∷ 0 ∷ []) ∷ (codes "j0104", 130 ∷ 1 ∷ []) ∷ (codes "e-acute", 233 ∷ []) ∷ (codes "E-acute", 201 ∷ []) ∷ [])

abbrev demo_list : List Entry
demo_list =
    line 8 (codes "upper") ((at 8 7, one 201) ∷ []) ∷
    line 9 (codes "lower") ((at 9 7, one 233) ∷ []) ∷
    line 10 (codes "alpha") ((at 10 7, Chars 33278 33281) ∷ []) ∷
    line 11 (codes "toupper") ((at 11 9, Pair 233 201) ∷ (at 11 31, Pair 97 65) ∷ (at 11 41, Pair 98 65) ∷ []) ∷ []

demo_alpha : membership demo demo_list (codes "alpha") 33280 ≡ Some true
unfolding membership rule_of_line
demo_alpha = refl

demo_between : membership demo demo_list (codes "alpha") 33282 ≡ Some false
unfolding membership rule_of_line
demo_between = refl

-- an absent tolower is the reverse of toupper, and of two pairs with one image the first counts
demo_lower : map_of (lower_pairs demo_list) ≡ (65, 97) ∷ (201, 233) ∷ []
demo_lower = refl

demo_upper : map_of (upper_pairs demo_list) ≡ (97, 65) ∷ (98, 65) ∷ (233, 201) ∷ []
demo_upper = refl

demo_not_mapped : image (map_of (upper_pairs demo_list)) 99 ≡ 99
demo_not_mapped = refl

-- an empty toupper maps nothing, and then tolower neither
empty_pairs : lower_pairs (line 2 (codes "toupper") [] ∷ []) ≡ []
empty_pairs = refl

-- ---- classes by their numbers

abbrev two_classes : Classes
two_classes = (codes "upper", (65, 90) ∷ []) ∷ (codes "vowel", (97, 97) ∷ (101, 101) ∷ []) ∷ []

second_class : place_of two_classes (codes "vowel") ≡ Some 1
second_class = refl

no_place : place_of two_classes (codes "vowe") ≡ None
no_place = refl

by_number : numbered_answer two_classes 1 101 ∷ numbered_answer two_classes 1 100 ∷ numbered_answer two_classes 0 101 ∷ numbered_answer two_classes 2 101 ∷ []
    ≡ Some true ∷ Some false ∷ Some false ∷ None ∷ []
by_number = refl

no_such_number : has_numbered two_classes 2 101 ≡ false
no_such_number = refl

-- the bit of the class 1 is the second
bits : map (λ n. has_bit 2 n) (0 ∷ 1 ∷ 2 ∷ []) ≡ map (λ n. has_numbered two_classes n 101) (0 ∷ 1 ∷ 2 ∷ [])
bits = refl

-- ---- refusals

-- an underscore that is a letter is still in punct
letter_and_punct : ctype_values (line 3 (codes "alpha") ((at 3 7, one 95) ∷ []) ∷ []) (at 2 1) posix ≡ Err (at 2 1, Excluded Alpha Punct 95)
unfolding ctype_values classes_of rule_of_line all_kept_apart characters
letter_and_punct = refl

-- the least common value of a range and of two characters
least_common : ctype_values (line 3 (codes "alpha") ((at 3 7, Chars 254 258) ∷ []) ∷ line 4 (codes "punct") ((at 4 7, one 256) ∷ (at 4 15, one 258) ∷ []) ∷ []) (at 2 1) utf8 ≡ Err (at 2 1, Excluded Alpha Punct 256)
unfolding ctype_values classes_of rule_of_line all_kept_apart characters
least_common = refl

-- the space character is not in punct
space_in_punct : all_kept_apart (at 2 1) ((codes "punct", (32, 40) ∷ []) ∷ []) ≡ Err (at 2 1, Excluded Punct Space 32)
unfolding all_kept_apart
space_in_punct = refl

-- a digit that is none of the ten, at its operand, before an exclusion
other_digit : classes_of posix (line 3 (codes "upper") ((at 3 7, one 49) ∷ []) ∷ line 4 (codes "digit") ((at 4 7, one 50) ∷ (at 4 9, Chars 57 58) ∷ []) ∷ []) ≡ Err (at 4 9, DigitsNotTen)
unfolding classes_of rule_of_line characters
other_digit = refl

-- a pair without case, on either side
caseless_second : classes_of posix (line 3 (codes "toupper") ((at 3 9, Pair 97 65) ∷ (at 3 15, Pair 98 49) ∷ []) ∷ []) ≡ Err (at 3 15, NotCased)
unfolding classes_of rule_of_line characters
caseless_second = refl

caseless_first : classes_of posix (line 3 (codes "tolower") ((at 3 9, Pair 49 97) ∷ []) ∷ []) ≡ Err (at 3 9, NotCased)
unfolding classes_of rule_of_line characters
caseless_first = refl

-- names of classes: a keyword, one declared before, one too long, and one that begins with a digit
keyword_declared : classes_of posix (line 3 (codes "charclass") ((at 3 11, Text (codes "vowel")) ∷ (at 3 17, Text (codes "toupper")) ∷ []) ∷ []) ≡ Err (at 3 17, BadClassName)
unfolding classes_of rule_of_line is_reserved characters
keyword_declared = refl

declared_twice : classes_of posix (line 3 (codes "charclass") ((at 3 11, Text (codes "vowel")) ∷ []) ∷ line 4 (codes "charclass") ((at 4 11, Text (codes "vowel")) ∷ []) ∷ []) ≡ Err (at 4 11, BadClassName)
unfolding classes_of rule_of_line is_reserved characters
declared_twice = refl

long_name : classes_of posix (line 3 (codes "charclass") ((at 3 11, Text (codes "abcdefghijklmno")) ∷ []) ∷ []) ≡ Err (at 3 11, BadClassName)
unfolding classes_of rule_of_line characters
long_name = refl

digit_first : classes_of posix (line 3 (codes "charclass") ((at 3 11, Text (codes "2nd")) ∷ []) ∷ []) ≡ Err (at 3 11, BadClassName)
unfolding classes_of rule_of_line characters
digit_first = refl

-- each keyword of LC_CTYPE keeps its name from classes, but `copy`; so does each class
keywords_kept : map (is_taken two_classes) (codes "charclass" ∷ codes "toupper" ∷ codes "tolower" ∷ codes "alpha" ∷ []) ≡ true ∷ true ∷ true ∷ true ∷ []
unfolding is_reserved
keywords_kept = refl

classes_kept : map (is_taken two_classes) (codes "upper" ∷ codes "vowel" ∷ []) ≡ true ∷ true ∷ []
unfolding is_reserved
classes_kept = refl

names_left : map (is_taken two_classes) (codes "copy" ∷ codes "consonant" ∷ codes "toupp" ∷ codes "decimal_point" ∷ []) ≡ false ∷ false ∷ false ∷ false ∷ []
unfolding is_reserved
names_left = refl

-- rules that may stand in any category; without a rule nothing is looked at
empty_text : after_operands posix [] two_classes (Some NotEmpty) ((at 3 7, Text (codes ".")) ∷ (at 3 11, Text []) ∷ []) ≡ Err (at 3 11, EmptyRadix)
empty_text = refl

outside_range : after_operands posix [] two_classes (Some (Between (pos 0) (pos 4))) ((at 3 7, Number (pos 4)) ∷ (at 3 9, Number (pos 5)) ∷ []) ≡ Err (at 3 9, BadNumber)
outside_range = refl

inside_range : after_operands posix [] two_classes (Some (Between (pos 0) (pos 4))) ((at 3 7, Number (pos 4)) ∷ []) ≡ Ok two_classes
inside_range = refl

no_rule : after_operands posix [] two_classes None ((at 3 7, Text []) ∷ []) ≡ Ok two_classes
no_rule = refl

-- a declared class has its listed members, or none
declared_list : membership posix (line 3 (codes "charclass") ((at 3 11, Text (codes "vowel")) ∷ (at 3 17, Text (codes "copy")) ∷ []) ∷ line 4 (codes "vowel") ((at 4 7, one 97) ∷ []) ∷ []) (codes "vowel") 97 ≡ Some true
unfolding membership rule_of_line
declared_list = refl

declared_alone : membership posix (line 3 (codes "charclass") ((at 3 11, Text (codes "vowel")) ∷ (at 3 17, Text (codes "copy")) ∷ []) ∷ []) (codes "copy") 97 ≡ Some false
unfolding membership rule_of_line
declared_alone = refl

-- a listed cntrl has just its listed members, also where it lists none
listed_cntrl : membership posix (line 3 (codes "cntrl") [] ∷ []) (codes "cntrl") 7 ≡ Some false
unfolding membership rule_of_line
listed_cntrl = refl

-- listed members of xdigit are in graph
graph_of_xdigit : membership utf8 (line 3 (codes "xdigit") ((at 3 8, one 0xFF21) ∷ []) ∷ []) (codes "graph") 0xFF21 ≡ Some true
unfolding membership rule_of_line
graph_of_xdigit = refl

-- an underscore that is a letter: the first pair with a common member, and no less one
letter_in_both : in_both (is_in posix (line 3 (codes "alpha") ((at 3 7, one 95) ∷ []) ∷ [])) (Alpha, Punct) 95 ≡ true
unfolding membership rule_of_line
letter_in_both = refl

none_less : in_both (is_in posix (line 3 (codes "alpha") ((at 3 7, one 95) ∷ []) ∷ [])) (Alpha, Punct) 94 ≡ false
unfolding membership rule_of_line
none_less = refl

-- behind the last pair it is the space character in punct
space_last : IsExcluded (λ class w. true) [] Punct Space 32
space_last = (refl, refl, refl, refl)

nothing_in_punct : AreApart (λ class w. false) []
nothing_in_punct = refl

-- each class of the table has a name in the standard's order, whose first is upper and whose last is blank
all_named : list_all (λ (row : ClassRow). list_any (bytes_eq row.name) class_names) class_table ≡ true
unfolding class_names
all_named = refl

twelve_named : length class_names ≡ 12
unfolding class_names
twelve_named = refl

upper_first : slice_get class_names 0 ≡ Some (codes "upper")
unfolding class_names
upper_first = refl

blank_last : slice_get class_names 11 ≡ Some (codes "blank")
unfolding class_names
blank_last = refl
