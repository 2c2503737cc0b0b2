-- How an amount of one sign looks: its sign, its symbol and where they stand (XSH strfmon, XBD 7.3.3).
use Rattle.std.specs.Prelude.{ℕ, ℤ, pos, negsuc, ◌==◌, ◌&&◌, ◌||◌, not, Bool, true, false, List, [], ◌∷◌, ◌++◌, length, take, drop, codes, Option, Some, None, if◌then◌else◌}
use Rattle.monetary_cat.specs.Monetary.{MonetaryValues, text_of, number_of}
use Rattle.monetary_cat.specs.declared.keys.MonText.TheVariants.{IntCurrSymbol, CurrencySymbol, PositiveSign, NegativeSign}
use Rattle.monetary_cat.specs.declared.keys.MonNumber.TheVariants.{PCsPrecedes, PSepBySpace, NCsPrecedes, NSepBySpace, PSignPosn, NSignPosn, IntPCsPrecedes, IntNCsPrecedes, IntPSepBySpace, IntNSepBySpace, IntPSignPosn, IntNSignPosn}
use Rattle.strfmon.specs.declared.format.Signs.{Signs}
use Rattle.strfmon.specs.declared.format.Signs.TheVariants.{Plus, Parentheses}
use Rattle.strfmon.specs.declared.format.MoneyConversion.{MoneyConversion}
use Rattle.strfmon.specs.declared.cells.MoneyPart.{MoneyPart}
use Rattle.strfmon.specs.declared.cells.MoneyPart.TheVariants.{Open, Sign, Symbol, Space, Close}
use Rattle.strfmon.specs.declared.look.Placing.{Placing}
use Rattle.strfmon.specs.Cells.{cell}

-- ---- the three numbers

-- a number, or what stands for it where the locale does not say
abbrev pub given : ℤ → ℕ → ℕ
given (pos n) other = n
given (negsuc m) other = other

-- cs_precedes, sep_by_space and sign_posn of `n`; that -1 means 1, 0 and 1 is our own rule
abbrev pub local_numbers : MonetaryValues → Bool → Placing
local_numbers v false = record {
  precedes = given (number_of v PCsPrecedes) 1;
  separation = given (number_of v PSepBySpace) 0;
  position = given (number_of v PSignPosn) 1;
}
local_numbers v true = record {
  precedes = given (number_of v NCsPrecedes) 1;
  separation = given (number_of v NSepBySpace) 0;
  position = given (number_of v NSignPosn) 1;
}

-- those of `i`: where the locale does not say they are those of `n`, but for a space (our own rule)
abbrev pub international_numbers : MonetaryValues → Bool → Placing
international_numbers v false = record {
  precedes = given (number_of v IntPCsPrecedes) (local_numbers v false).precedes;
  separation = given (number_of v IntPSepBySpace) 1;
  position = given (number_of v IntPSignPosn) (local_numbers v false).position;
}
international_numbers v true = record {
  precedes = given (number_of v IntNCsPrecedes) (local_numbers v true).precedes;
  separation = given (number_of v IntNSepBySpace) 1;
  position = given (number_of v IntNSignPosn) (local_numbers v true).position;
}

abbrev pub numbers_of : MonetaryValues → Bool → Bool → Placing
numbers_of v false negative = local_numbers v negative
numbers_of v true negative = international_numbers v negative

-- ---- texts

-- whether the conversion asks for parentheses
abbrev pub wants_parentheses : Option Signs → Bool
wants_parentheses None = false
wants_parentheses (Some Plus) = false
wants_parentheses (Some Parentheses) = true

-- the sign of negative amounts; where the locale has no sign at all it is `-`
abbrev pub minus_sign : MonetaryValues → List ℕ
minus_sign v = if length (text_of v NegativeSign) == 0 && length (text_of v PositiveSign) == 0 then codes "-" else text_of v NegativeSign

-- the sign of other amounts, which is empty beside parentheses
abbrev pub plus_sign : MonetaryValues → Bool → List ℕ
plus_sign v parentheses = if parentheses then [] else text_of v PositiveSign

abbrev pub sign_of : MonetaryValues → Bool → Bool → List ℕ
sign_of v parentheses negative = if negative then minus_sign v else plus_sign v parentheses

-- the symbol, and what stands between it and the number: a space, or the fourth byte of the international symbol
abbrev pub symbol_of : MonetaryValues → MoneyConversion → List ℕ
symbol_of v c = if c.flags.no_symbol then [] else if c.international then take 3 (text_of v IntCurrSymbol) else text_of v CurrencySymbol

abbrev pub space_of : MonetaryValues → MoneyConversion → List ℕ
space_of v c = if c.international then drop 3 (text_of v IntCurrSymbol) else codes " "

-- sign_posn; parentheses are its 0 for negative amounts, and others have their empty sign in front
abbrev pub position_of : Bool → Bool → ℕ → ℕ
position_of parentheses negative position = if parentheses then (if negative then 0 else 1) else position

-- sep_by_space; there is no space beside an empty symbol, nor beside an empty sign (our own rule)
abbrev pub separation_of : List ℕ → List ℕ → ℕ → ℕ → ℕ
separation_of symbol sign position separation = if length symbol == 0 || (separation == 2 && (length sign == 0 && not (position == 0))) then 0 else separation

-- ---- the look

pub record Look : Type 0 where
  pub sign : List ℕ
  pub symbol : List ℕ
  pub space : List ℕ
  pub before : List MoneyPart
  pub after : List MoneyPart

-- how an amount of this sign looks in a conversion
unfoldable pub look_of : MonetaryValues → MoneyConversion → Bool → Look
look_of v c negative =
    let parentheses = wants_parentheses c.flags.signs in
    let numbers = numbers_of v c.international negative in
    let sign = sign_of v parentheses negative in
    let symbol = symbol_of v c in
    let position = position_of parentheses negative numbers.position in
    let parts = cell numbers.precedes position (separation_of symbol sign position numbers.separation) in
    record { sign = sign; symbol = symbol; space = space_of v c; before = parts.0; after = parts.1 }

-- the text of a part
abbrev pub part_text : Look → MoneyPart → List ℕ
part_text l Open = codes "("
part_text l Sign = l.sign
part_text l Symbol = l.symbol
part_text l Space = l.space
part_text l Close = codes ")"

-- the text of parts
abbrev pub parts_text : Look → List MoneyPart → List ℕ
parts_text l [] = []
parts_text l (p ∷ ps) = part_text l p ++ parts_text l ps
