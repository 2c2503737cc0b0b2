-- What the table of keywords says.
use Rattle.std.proofs.Common.{◌≡◌, [], ◌∷◌, Some, None, refl}
use Rattle.std.specs.Prelude.{codes, take, pos, negsuc}
use Rattle.lc_base.specs.declared.category.Category.TheVariants.{Ctype, Numeric, Monetary, Time, Messages}
use Rattle.keywords.specs.declared.row.Element.TheVariants.{Quote}
use Rattle.keywords.specs.declared.row.Operands.TheVariants.{Copied, Characters, One, PassedOver}
use Rattle.keywords.specs.declared.row.Rule.TheVariants.{Between, Names}
use Rattle.keywords.specs.LookUp.{takes_of, rule_of, posix_text, posix_number, posix_texts, posix_ranges, posix_pairs}

-- a keyword is one of its category alone, and its name is compared whole
radix : takes_of Numeric (codes "decimal_point") ≡ Some (One Quote)
radix = refl

other_category : takes_of Monetary (codes "decimal_point") ≡ None
other_category = refl

part_of_a_name : takes_of Numeric (codes "decimal") ≡ None
part_of_a_name = refl

copies : takes_of Time (codes "copy") ≡ Some Copied
copies = refl

classes : takes_of Ctype (codes "blank") ≡ Some Characters
classes = refl

not_read : takes_of Messages (codes "yesstr") ≡ Some PassedOver
not_read = refl

-- rules
sizes : rule_of Numeric (codes "grouping") ≡ Some (Between (negsuc 0) (pos 126))
sizes = refl

months : rule_of Time (codes "abmon") ≡ Some (Names 12)
months = refl

no_keyword : rule_of Time (codes "abmo") ≡ None
no_keyword = refl

-- POSIX values; a keyword of another kind has none
yes : posix_text Messages (codes "yesexpr") ≡ codes "^[yY]"
yes = refl

digits : posix_number Monetary (codes "int_frac_digits") ≡ negsuc 0
digits = refl

half_days : posix_texts Time (codes "am_pm") ≡ codes "AM" ∷ codes "PM" ∷ []
half_days = refl

controls : posix_ranges Ctype (codes "cntrl") ≡ (0, 31) ∷ (127, 127) ∷ []
controls = refl

first_pair : take 1 (posix_pairs Ctype (codes "toupper")) ≡ (97, 65) ∷ []
first_pair = refl

names_no_text : posix_text Time (codes "am_pm") ≡ []
names_no_text = refl
