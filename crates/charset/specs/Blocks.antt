-- How far tails of one width go.
use Rattle.std.specs.Prelude.{ℕ, ◌-◌, ◌^◌, min, List, length}
use Rattle.std.specs.Str.Parse.{digits_value}
use Rattle.charset.specs.declared.spans.Block.{Block}

-- the tails from this one on, with so many more, or as many as its width has
abbrev pub block_from : List ℕ → ℕ → ℕ → Block
block_from tail more value = record {
  width = length tail;
  first = digits_value 10 tail;
  more = min more (10 ^ length tail - 1 - digits_value 10 tail);
  value = value;
}
