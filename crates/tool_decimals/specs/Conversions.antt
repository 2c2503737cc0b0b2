-- Conversions of whole numbers and of decimals (XSH fprintf; the bounds are our own).
use Rattle.std.specs.Prelude.{ℕ, ◌==◌, List, [], ◌∷◌, drop, Option, Some, None, option_map, if◌then◌else◌}
use Rattle.lc_base.specs.Lines.{◌>>=◌}
use Rattle.digit_groups.specs.Numbers.{further}
use Rattle.int_format.specs.Formats.{conversion as whole_conversion, field}
use Rattle.tool_decimals.specs.declared.conversion.DecimalPart.{DecimalPart}
use Rattle.tool_decimals.specs.declared.conversion.DecimalPart.TheVariants.{Literal, Whole, Decimal}

-- how many bytes `lf` takes, whose `l` stands in front of these bytes
abbrev pub behind_l : List ℕ → Option ℕ
behind_l [] = None
behind_l (c ∷ cs) = if c == 102 then Some 2 else None

-- how many bytes `f` or `lf` takes where bytes begin with one of them; the `l` changes nothing
abbrev pub decimal_letter : List ℕ → Option ℕ
decimal_letter [] = None
decimal_letter (c ∷ cs) = if c == 102 then Some 1 else if c == 108 then behind_l cs else None

-- the conversion `f` that bytes behind a `%` begin with, and how many bytes it takes
abbrev pub decimal : List ℕ → Option (DecimalPart × ℕ)
decimal bs = field bs >>= λ f. further f.1 (option_map (λ n. (Decimal f.0, n)) (decimal_letter (drop f.1 bs)))

-- the conversion that bytes behind a `%` begin with, of a whole number or else of a decimal, and how many bytes it takes
abbrev pub conversion : List ℕ → Option (DecimalPart × ℕ)
conversion bs = elim (whole_conversion bs) [
  | None ↦ decimal bs
  | Some c ↦ Some (Whole, c.1)
]

-- what stands behind a `%`
abbrev pub behind_percent : List ℕ → Option (DecimalPart × ℕ)
behind_percent [] = conversion []
behind_percent (c ∷ cs) = if c == 37 then Some (Literal 37, 1) else conversion (c ∷ cs)

-- the part that a byte begins, and how many of the bytes behind it belong to it
unfoldable pub part : ℕ → List ℕ → Option (DecimalPart × ℕ)
part c cs = if c == 37 then behind_percent cs else Some (Literal c, 0)
