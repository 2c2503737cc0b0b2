-- The text of a decimal (XSH fprintf: `f`, with the flag `'`).
use Rattle.std.specs.Prelude.{ℕ, ℤ, zero, suc, ◌+◌, ◌-◌, List, [], ◌++◌, length, take, drop, replicate, codes, unwrap_or, if◌then◌else◌}
use Rattle.digit_groups.specs.Groups.{grouped}
use Rattle.numeric_cat.specs.NumericValues.{NumericValues}
use Rattle.int_format.specs.declared.format.NumberField.{NumberField}
use Rattle.tool_decimals.specs.Decimals.{Number, is_below_zero, rounded, without_zeros}

-- the number of fraction digits, which is the precision or else 6
abbrev pub places : NumberField → ℕ
places c = unwrap_or c.precision 6

-- the sign; a number that is not below 0 has the one that the flags ask for
abbrev pub sign_text : NumberField → Number → List ℕ
sign_text c d = if is_below_zero d then codes "-" else if c.flags.plus then codes "+" else if c.flags.space then codes " " else []

-- the sizes of groups, where `'` asks for them
abbrev pub sizes_of : NumericValues → NumberField → List ℤ
sizes_of n c = if c.flags.groups then n.grouping else []

-- the decimal point with the digits behind it; there is none without such digits
abbrev pub behind_point : NumericValues → ℕ → List ℕ → List ℕ
behind_point n zero fraction = []
behind_point n (suc p) fraction = n.decimal_point ++ fraction

-- digits of which so many stand behind the decimal point: those before it in groups
abbrev pub split_text : NumericValues → List ℤ → ℕ → List ℕ → List ℕ
split_text n sizes p digits = grouped (without_zeros (take (length digits - p) digits)) sizes n.thousands_sep ++ behind_point n p (drop (length digits - p) digits)

-- the text of a number without its sign
abbrev pub body_text : NumericValues → NumberField → Number → List ℕ
body_text n c d = split_text n (sizes_of n c) (places c) (rounded (places c) d)

-- a sign and digits with so many bytes that fill the field
abbrev pub padded : NumberField → ℕ → List ℕ → List ℕ → List ℕ
padded c n sign body = if c.flags.left then sign ++ (body ++ replicate n 32) else if c.flags.zeros then sign ++ (replicate n 48 ++ body) else replicate n 32 ++ (sign ++ body)

-- the text of a decimal
unfoldable pub decimal_text : NumericValues → NumberField → Number → List ℕ
decimal_text n c d = padded c (c.width - (length (sign_text c d) + length (body_text n c d))) (sign_text c d) (body_text n c d)
