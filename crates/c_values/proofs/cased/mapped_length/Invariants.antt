use Rattle.std.proofs.Common.{◌≡◌, ◌+◌, ◌^◌, ◌<◌, length, IsUtf8}
use Rattle.core.specs.Str.Iter.{chars_rest}
use Rattle.c_values.specs.Cased.{pairs_of, cased_text, length_told}
use Rattle.c_values.proofs.cased.mapped_length.Given as goal

-- what was counted, and what is left
abbrev pub invariant-loop-c : goal.invariant-loop-c
invariant-loop-c l = IsUtf8 (chars_rest l.rest)
    × (length_told (l.length + length (cased_text (pairs_of l.view l.case) (chars_rest l.rest))) ≡ length_told (length (cased_text (pairs_of l.view l.case) l.text)))
    × (l.length < 2 ^ 64)
