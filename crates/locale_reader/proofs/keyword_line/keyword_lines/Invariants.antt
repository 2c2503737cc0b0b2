use Rattle.std.proofs.Common.{◌≡◌, ◌-◌, take, drop}
use Rattle.locale_reader.specs.Opened.{nothing}
use Rattle.locale_reader.specs.Section.{keyword_lines}
use Rattle.locale_reader.proofs.keyword_line.keyword_lines.Given as goal

abbrev pub invariant-loop-i : goal.invariant-loop-i
invariant-loop-i l =
    keyword_lines l.category l.charset l.copies l.opened (drop (l.i - l.start) (take (l.«end» - l.start) (drop l.start l.lines))) ≡ keyword_lines l.category l.charset l.copies nothing (take (l.«end» - l.start) (drop l.start l.lines))
