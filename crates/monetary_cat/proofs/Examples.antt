-- Keyword lists of LC_MONETARY, and what they define.
use Rattle.std.proofs.Common.{◌≡◌, ℕ, List, [], ◌∷◌, Ok, Err, refl}
use Rattle.std.specs.Prelude.{codes, pos, negsuc}
use Rattle.lc_base.specs.declared.place.Place.{Place}
use Rattle.lc_base.specs.declared.reason.Reason.TheVariants.{BadCurrency, BadNumber}
use Rattle.keywords.specs.declared.source.Value.{Value}
use Rattle.keywords.specs.declared.source.Value.TheVariants.{Text, Number}
use Rattle.keywords.specs.declared.source.Entry.{Entry}
use Rattle.monetary_cat.specs.declared.keys.MonText.TheVariants.{IntCurrSymbol, NegativeSign}
use Rattle.monetary_cat.specs.declared.keys.MonNumber.TheVariants.{FracDigits, IntNSignPosn}
use Rattle.monetary_cat.specs.Currency.{currency}
use Rattle.monetary_cat.specs.Monetary.{text_of, number_of, monetary_values, posix_values, values_of, text, number, sign_numbers}

abbrev at : ℕ → ℕ → Place
at line column = record { line = line; column = column }

-- a keyword at the first column of a line, with one operand at the thirtieth
abbrev line : ℕ → List ℕ → Value → Entry
line n keyword value = record { place = at n 1; keyword = keyword; values = (at n 30, value) ∷ [] }

-- each keyword that is absent has its POSIX value
posix_text : text_of posix_values NegativeSign ≡ []
unfolding text number sign_numbers
posix_text = refl

posix_number : number_of posix_values FracDigits ≡ negsuc 0
unfolding text number sign_numbers
posix_number = refl

posix_grouping : posix_values.mon_grouping ≡ negsuc 0 ∷ []
unfolding text number sign_numbers
posix_grouping = refl

no_keywords : monetary_values [] ≡ Ok posix_values
unfolding text number sign_numbers
no_keywords = refl

-- values of a list
abbrev few : List Entry
few =
    line 2 (codes "int_curr_symbol") (Text (codes "USD ")) ∷
    line 3 (codes "negative_sign") (Text (codes "-")) ∷
    line 4 (codes "int_n_sign_posn") (Number (pos 4)) ∷ []

good : monetary_values few ≡ Ok (values_of few)
unfolding text number sign_numbers
good = refl

symbol : text_of (values_of few) IntCurrSymbol ≡ codes "USD "
unfolding text number sign_numbers
symbol = refl

sign : text_of (values_of few) NegativeSign ≡ codes "-"
unfolding text number sign_numbers
sign = refl

position : number_of (values_of few) IntNSignPosn ≡ pos 4
unfolding text number sign_numbers
position = refl

-- an international symbol has no byte or four
short_symbol : monetary_values (line 2 (codes "int_curr_symbol") (Text (codes "USD")) ∷ []) ≡ Err (at 2 30, BadCurrency)
unfolding text number sign_numbers
short_symbol = refl

no_symbol : monetary_values (line 2 (codes "int_curr_symbol") (Text []) ∷ []) ≡ Ok posix_values
unfolding text number sign_numbers
no_symbol = refl

-- each number has its own range
many_digits : monetary_values (line 2 (codes "frac_digits") (Number (pos 19)) ∷ []) ≡ Err (at 2 30, BadNumber)
unfolding text number sign_numbers
many_digits = refl

wrong_side : monetary_values (line 2 (codes "n_cs_precedes") (Number (pos 2)) ∷ []) ≡ Err (at 2 30, BadNumber)
unfolding text number sign_numbers
wrong_side = refl

wrong_space : monetary_values (line 2 (codes "int_p_sep_by_space") (Number (pos 3)) ∷ []) ≡ Err (at 2 30, BadNumber)
unfolding text number sign_numbers
wrong_space = refl

wrong_position : monetary_values (line 2 (codes "p_sign_posn") (Number (pos 5)) ∷ []) ≡ Err (at 2 30, BadNumber)
unfolding text number sign_numbers
wrong_position = refl

below_all : monetary_values (line 2 (codes "p_sign_posn") (Number (negsuc 1)) ∷ []) ≡ Err (at 2 30, BadNumber)
unfolding text number sign_numbers
below_all = refl

wrong_size : monetary_values (line 2 (codes "mon_grouping") (Number (pos 127)) ∷ []) ≡ Err (at 2 30, BadNumber)
unfolding text number sign_numbers
wrong_size = refl

-- the first line at fault
first_line : monetary_values (line 2 (codes "p_sign_posn") (Number (pos 5)) ∷ line 3 (codes "int_curr_symbol") (Text (codes "USD")) ∷ []) ≡ Err (at 2 30, BadNumber)
unfolding text number sign_numbers
first_line = refl

-- the currency symbol behind its sign: before the number, behind it, at an unknown place, and none
before_number : currency (pos 1) (codes "$") ≡ codes "-$"
before_number = refl

behind_number : currency (pos 0) (codes "$") ≡ codes "+$"
behind_number = refl

anywhere : currency (negsuc 0) (codes "kr") ≡ codes "-kr"
anywhere = refl

nowhere : currency (pos 0) [] ≡ []
nowhere = refl
