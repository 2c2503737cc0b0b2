use Rattle.std.proofs.Common.{◌≡◌, ℕ, List, ◌++◌, drop, map, Bor}
use Rattle.ctype_classes.specs.Classes.{members_of_all}
use Rattle.ctype_classes.proofs.classes.add_parts.Given as goal

abbrev pub invariant-loop-part : goal.invariant-loop-part
invariant-loop-part l =
    l.members.items ++ members_of_all l.classes (map (λ (p : Bor (List ℕ)). p.now) (drop l.part-index l.parts))
    ≡ l.fn.members.items ++ members_of_all l.classes (map (λ (p : Bor (List ℕ)). p.now) l.parts)
