-- Tables in which numbers lead to numbers, or nowhere.
use Rattle.std.specs.Prelude.{ℕ, zero, suc, ◌<◌, List, length, slice_get, Option, Some, None, IfSome}
use Rattle.lc_base.specs.Lines.{◌>>=◌}

-- where a number leads
abbrev pub led : List (Option ℕ) → ℕ → Option ℕ
led table n = slice_get table n >>= λ to. to

-- where a place leads, if it is there
abbrev pub led_on : List (Option ℕ) → Option ℕ → Option ℕ
led_on table None = None
led_on table (Some n) = led table n

-- where it leads in so many steps
abbrev pub repeated : List (Option ℕ) → ℕ → ℕ → Option ℕ
repeated table zero n = Some n
repeated table (suc more) n = led table n >>= repeated table more

-- no number of a table leads out of it
abbrev pub IsClosed : List (Option ℕ) → Type 0
IsClosed table = (n : ℕ) → n < length table → IfSome (led table n) (λ to. to < length table)
