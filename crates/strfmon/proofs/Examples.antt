-- Formats, amounts and their texts.
use Rattle.std.proofs.Common.{◌≡◌, ℕ, List, [], ◌∷◌, Some, None, Ok, Err, refl}
use Rattle.std.specs.Prelude.{codes, ℤ, pos, negsuc, Result}
use Rattle.digit_groups.specs.Groups.{separated, separators}
use Rattle.monetary_cat.specs.Monetary.{MonetaryValues, posix_values}
use Rattle.lc_base.specs.declared.refusal.FormatRefusal.{FormatRefusal}
use Rattle.lc_base.specs.declared.refusal.FormatRefusal.TheVariants.{BadFormat, MissingAmount, TooBig}
use Rattle.strfmon.specs.declared.fault.MoneyFault.TheVariants as faults
use Rattle.digit_groups.specs.Digits.{last_digits}
use Rattle.digit_groups.specs.Numbers.{number_behind}
use Rattle.strfmon.specs.Formats.{flags_behind, conversion, piece, pieces}
use Rattle.strfmon.specs.Cells.{cell}
use Rattle.strfmon.specs.Looks.{look_of}
use Rattle.strfmon.specs.Money.{money, text_with, pieces_text, missing, refusal_of, Answers}

-- a locale that writes dollars
abbrev us : MonetaryValues
us = record posix_values {
  texts = record posix_values.texts {
    int_curr_symbol = codes "USD ";
    currency_symbol = codes "$";
    mon_decimal_point = codes ".";
    mon_thousands_sep = codes ",";
    positive_sign = [];
    negative_sign = codes "-";
  };
  mon_grouping = pos 3 ∷ pos 3 ∷ [];
  local = record posix_values.local { frac_digits = pos 2; plus = record { cs_precedes = pos 1; sep_by_space = pos 0; sign_posn = pos 1 }; minus = record { cs_precedes = pos 1; sep_by_space = pos 0; sign_posn = pos 1 } };
  international = record posix_values.international { frac_digits = pos 2; plus = record { cs_precedes = negsuc 0; sep_by_space = negsuc 0; sign_posn = negsuc 0 }; minus = record { cs_precedes = negsuc 0; sep_by_space = negsuc 0; sign_posn = negsuc 0 } };
}

-- the text of one amount, without a limit that matters
abbrev dollars : List ℕ → ℤ → ℕ → Result (List ℕ) FormatRefusal
dollars format units scale = money us format (record { units = units; scale = scale } ∷ []) 100

plain : dollars (codes "%n") (pos 12345) 2 ≡ Ok (codes "$123.45")
unfolding separated separators last_digits flags_behind number_behind conversion piece pieces cell look_of text_with pieces_text missing
plain = refl

aligned : dollars (codes "%#5n") (negsuc 12344) 2 ≡ Ok (codes "-$   123.45")
unfolding separated separators last_digits flags_behind number_behind conversion piece pieces cell look_of text_with pieces_text missing
aligned = refl

in_parentheses : dollars (codes "%!(#5n") (pos 3456781) 3 ≡ Ok (codes "  3,456.78 ")
unfolding separated separators last_digits flags_behind number_behind conversion piece pieces cell look_of text_with pieces_text missing
in_parentheses = refl

filled : dollars (codes "%=*#5n") (pos 12345) 2 ≡ Ok (codes " $***123.45")
unfolding separated separators last_digits flags_behind number_behind conversion piece pieces cell look_of text_with pieces_text missing
filled = refl

ungrouped : dollars (codes "%^n") (pos 3456781) 3 ≡ Ok (codes "$3456.78")
unfolding separated separators last_digits flags_behind number_behind conversion piece pieces cell look_of text_with pieces_text missing
ungrouped = refl

-- half to even
half_down : dollars (codes "%n") (pos 125) 3 ≡ Ok (codes "$0.12")
unfolding separated separators last_digits flags_behind number_behind conversion piece pieces cell look_of text_with pieces_text missing
half_down = refl

half_up : dollars (codes "%n") (pos 135) 3 ≡ Ok (codes "$0.14")
unfolding separated separators last_digits flags_behind number_behind conversion piece pieces cell look_of text_with pieces_text missing
half_up = refl

international : dollars (codes "%i") (negsuc 12344) 2 ≡ Ok (codes "-USD 123.45")
unfolding separated separators last_digits flags_behind number_behind conversion piece pieces cell look_of text_with pieces_text missing
international = refl

right_in_field : dollars (codes "%12n") (pos 12345) 2 ≡ Ok (codes "     $123.45")
unfolding separated separators last_digits flags_behind number_behind conversion piece pieces cell look_of text_with pieces_text missing
right_in_field = refl

left_in_field : dollars (codes "%-12n") (pos 12345) 2 ≡ Ok (codes "$123.45     ")
unfolding separated separators last_digits flags_behind number_behind conversion piece pieces cell look_of text_with pieces_text missing
left_in_field = refl

copied : dollars (codes "5%% of %.0n") (pos 12345) 2 ≡ Ok (codes "5% of $123")
unfolding separated separators last_digits flags_behind number_behind conversion piece pieces cell look_of text_with pieces_text missing
copied = refl

-- a bad conversion goes before a missing amount
bad_format : dollars (codes "%n %n %q") (pos 1) 0 ≡ Err (BadFormat 6)
unfolding flags_behind number_behind conversion piece pieces
bad_format = refl

missing_amount : dollars (codes "%n %n") (pos 1) 0 ≡ Err (MissingAmount 3)
unfolding flags_behind number_behind conversion piece pieces missing
missing_amount = refl

-- a text of seven bytes within seven, and within six
just_fits : money us (codes "%n") (record { units = pos 12345; scale = 2 } ∷ []) 7 ≡ Ok (codes "$123.45")
unfolding separated separators last_digits flags_behind number_behind conversion piece pieces cell look_of text_with pieces_text missing
just_fits = refl

too_big : money us (codes "%n") (record { units = pos 12345; scale = 2 } ∷ []) 6 ≡ Err TooBig
unfolding separated separators last_digits flags_behind number_behind conversion piece pieces cell look_of text_with pieces_text missing
too_big = refl

-- a fault is the refusal of its name, and out of memory is none
refusals : refusal_of (faults.BadFormat 6) ∷ refusal_of (faults.MissingAmount 3) ∷ refusal_of faults.TooBig ∷ refusal_of faults.Memory ∷ [] ≡ Some (BadFormat 6) ∷ Some (MissingAmount 3) ∷ Some TooBig ∷ None ∷ []
refusals = refl

-- a text answers for itself alone, and out of memory for whatever there is
own_text : Answers (λ (t : List ℕ). t) (Ok (codes "$1")) (Ok (codes "$1"))
own_text = refl

no_memory : Answers (λ (t : List ℕ). t) (Err faults.Memory) (Ok (codes "$1"))
no_memory = tt
