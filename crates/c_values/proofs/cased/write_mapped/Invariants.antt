use Rattle.std.proofs.Common.{◌≡◌, ◌≤◌, ◌++◌, length, take, drop, IsUtf8}
use Rattle.core.specs.Str.Iter.{chars_rest}
use Rattle.c_values.specs.Cased.{pairs_of, cased_text}
use Rattle.c_values.proofs.cased.write_mapped.Given as goal

-- what was written, and what is left
abbrev pub invariant-loop-c : goal.invariant-loop-c
invariant-loop-c l = IsUtf8 (chars_rest l.rest)
    × (take l.end l.buffer ++ cased_text (pairs_of l.view l.case) (chars_rest l.rest) ≡ cased_text (pairs_of l.view l.case) l.text)
    × (drop l.end l.buffer ≡ drop l.end l.initial.buffer)
    × (l.end ≤ length l.buffer)
