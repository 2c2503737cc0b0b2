-- The definitions on examples.
use Rattle.std.proofs.Common.{◌≡◌, ℕ, ◌+◌, [], ◌∷◌, true, false, Some, None, refl}
use Rattle.std.specs.Prelude.{codes, Ok, Err}
use Rattle.lc_base.specs.declared.category.Category.TheVariants.{Monetary, Time, Messages}
use Rattle.lc_base.specs.declared.by_category.ByCategory.{ByCategory}
use Rattle.lc_base.specs.declared.refusal.FormatRefusal.TheVariants.{TooBig}
use Rattle.lc_base.specs.Blanks.{is_blank}
use Rattle.lc_base.specs.BuiltIn.{is_posix_locale, is_built_in_charset}
use Rattle.lc_base.specs.ByCategory.{in_category, by_category, mapped}
use Rattle.lc_base.specs.Categories.{category_index, category_named, number_for}
use Rattle.lc_base.specs.Limits.{within}
use Rattle.lc_base.specs.Cuts.{cut_at}
use Rattle.lc_base.specs.Numbers.{decimal_number, few_digits}
use Rattle.lc_base.specs.Tables.{first_named}

first_separator : cut_at 46 (codes "A.2.3") ≡ Some (codes "A", codes "2.3")
unfolding cut_at
first_separator = refl

no_separator : cut_at 46 (codes "A23") ≡ None
unfolding cut_at
no_separator = refl

leading_zeros : decimal_number (codes "0012") ≡ Some 12
unfolding decimal_number
leading_zeros = refl

largest : decimal_number (codes "4294967295") ≡ Some 4294967295
unfolding decimal_number
largest = refl

too_large : decimal_number (codes "4294967296") ≡ None
unfolding decimal_number
too_large = refl

no_digit : decimal_number [] ≡ None
unfolding decimal_number
no_digit = refl

a_sign : decimal_number (codes "+1") ≡ None
unfolding decimal_number
a_sign = refl

two_digits : few_digits 2 (codes "07") ≡ Some 7
unfolding few_digits
two_digits = refl

three_digits : few_digits 2 (codes "007") ≡ None
unfolding few_digits
three_digits = refl

first_row : first_named {A = ℕ} ((codes "b", 0) ∷ (codes "a", 1) ∷ (codes "a", 2) ∷ []) (codes "a") ≡ Some 1
first_row = refl

a_tab : is_blank 9 ≡ true
a_tab = refl

a_return : is_blank 13 ≡ false
a_return = refl

third_number : number_for (7 ∷ 8 ∷ 9 ∷ 10 ∷ 11 ∷ []) Monetary ≡ 9
third_number = refl

abbrev of_five : ByCategory ℕ
of_five = record { ctype = 7; numeric = 8; monetary = 9; time = 10; messages = 11 }

each_value : in_category of_five Monetary ∷ in_category of_five Messages ∷ [] ≡ 9 ∷ 11 ∷ []
each_value = refl

number_each : mapped (λ n. n + 7) (by_category category_index) ≡ of_five
number_each = refl

times : category_named (codes "LC_TIME") ≡ Some Time
times = refl

no_category : category_named (codes "LC_COLLATE") ≡ None
no_category = refl

posix_locales : is_posix_locale (codes "C") ∷ is_posix_locale (codes "POSIX") ∷ is_posix_locale (codes "UTF-8") ∷ [] ≡ true ∷ true ∷ false ∷ []
posix_locales = refl

built_in_charsets : is_built_in_charset (codes "UTF-8") ∷ is_built_in_charset (codes "POSIX") ∷ is_built_in_charset (codes "C") ∷ [] ≡ true ∷ true ∷ false ∷ []
built_in_charsets = refl

just_so_long : within 2 (codes "ab") ≡ Ok (codes "ab")
just_so_long = refl

too_long : within 1 (codes "ab") ≡ Err TooBig
too_long = refl
