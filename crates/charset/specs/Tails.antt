-- Names as fronts with tails of digits, by which they are kept and found.
use Rattle.std.specs.Prelude.{◌≡◌, ℕ, ◌+◌, ◌-◌, min, List, length, take, drop}
use Rattle.std.specs.Str.Parse.{digits_value}
use Rattle.charset.specs.Portable.{Name}
use Rattle.charset.specs.Numbering.{digit_count}

-- how many of the digits that a name ends in are its tail: all of them, but nine at most
abbrev pub tail_width : Name → ℕ
tail_width name = min (digit_count name) 9

-- the part of a name before its tail
abbrev pub front : Name → Name
front name = take (length name - tail_width name) name

-- the digits of the tail
abbrev pub tail : Name → List ℕ
tail name = drop (length name - tail_width name) name

-- the number of the tail
abbrev pub tail_number : Name → ℕ
tail_number name = digits_value 10 (tail name)

-- digits behind a front are the tail of the name that they make
abbrev pub IsFront : Name → ℕ → Type 0
IsFront front width = min (digit_count front + width) 9 ≡ width
