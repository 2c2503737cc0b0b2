-- What the command of whole numbers replies of an object, at worked examples.
use Rattle.std.proofs.Common.{◌≡◌, ℕ, List, [], ◌∷◌, Some, refl}
use Rattle.std.specs.Prelude.{ℤ, pos, negsuc, codes}
use Rattle.digit_groups.specs.Digits.{last_digits}
use Rattle.digit_groups.specs.Groups.{separated}
use Rattle.digit_groups.specs.Numbers.{number_behind}
use Rattle.int_format.specs.Formats.{flags_behind, piece, pieces}
use Rattle.int_format.specs.Ints.{pieces_text, missing}
use Rattle.category_store.specs.LibraryData.{LibraryData}
use Rattle.category_store.specs.Locale.{posix_locale}
use Rattle.script_commands.specs.declared.command.Read.TheVariants.{Number}
use Rattle.script_out.specs.declared.output.Said.{Said}
use Rattle.script_out.specs.declared.output.Said.TheVariants as said
use Rattle.script_out.specs.declared.output.Why.TheVariants as whys
use Rattle.script_reads.specs.Reads.{local}

-- a locale with commas between thousands, and an object that has its LC_NUMERIC and nothing else of it
abbrev library : LibraryData
library = record {
  locales = record posix_locale { name = codes "a"; numeric = record { decimal_point = codes "."; thousands_sep = codes ","; grouping = pos 3 ∷ pos 3 ∷ [] } } ∷ [];
  names = (codes "a", 1) ∷ [];
  first = (codes "a", 1) ∷ [];
  keys = [];
  native = Some 1;
}

abbrev of_a : ℕ → List ℕ → List ℤ → Said
of_a max format numbers = local library (record { ctype = 0; numeric = 1; monetary = 0; time = 0; messages = 0 }) (Number max format numbers)

text_of_numbers : of_a 1024 (codes "%'d|%+d") (pos 1234 ∷ pos 42 ∷ []) ≡ said.Text (codes "1,234|+42")
unfolding separated last_digits flags_behind number_behind piece pieces pieces_text missing
text_of_numbers = refl

-- numbers that are left over are passed over
left_over : of_a 2 (codes "%d") (negsuc 6 ∷ pos 42 ∷ []) ≡ said.Text (codes "-7")
unfolding separated last_digits flags_behind number_behind piece pieces pieces_text missing
left_over = refl

missing_number : of_a 1024 (codes "%d %d") (pos 1 ∷ []) ≡ said.Refused (whys.MissingNumber 3)
unfolding separated last_digits flags_behind number_behind piece pieces pieces_text missing
missing_number = refl

wrong_conversion : of_a 1024 (codes "%s") (pos 1 ∷ []) ≡ said.Refused (whys.BadFormat 0)
unfolding separated last_digits flags_behind number_behind piece pieces pieces_text missing
wrong_conversion = refl

too_big : of_a 1 (codes "%d") (pos 10 ∷ []) ≡ said.Refused whys.TooBig
unfolding separated last_digits flags_behind number_behind piece pieces pieces_text missing
too_big = refl

-- a missing number goes before a text that is too long, and a wrong conversion before both
missing_first : of_a 0 (codes "%d %d") (pos 1 ∷ []) ≡ said.Refused (whys.MissingNumber 3)
unfolding separated last_digits flags_behind number_behind piece pieces pieces_text missing
missing_first = refl

wrong_first : of_a 0 (codes "%d %s") [] ≡ said.Refused (whys.BadFormat 3)
unfolding separated last_digits flags_behind number_behind piece pieces pieces_text missing
wrong_first = refl
