use Rattle.std.proofs.Common.{◌≡◌, ◌-◌, take, drop}
use Rattle.std.specs.List.{list_any}
use Rattle.locale_reader.specs.Section.{copies_category}
use Rattle.locale_reader.proofs.keyword_line.copies.Given as goal

abbrev pub invariant-loop-i : goal.invariant-loop-i
invariant-loop-i l = list_any copies_category (drop (l.i - l.start) (take (l.«end» - l.start) (drop l.start l.lines))) ≡ list_any copies_category (take (l.«end» - l.start) (drop l.start l.lines))
