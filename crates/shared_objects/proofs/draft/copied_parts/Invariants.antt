use Rattle.std.proofs.Common.{◌≡◌, take}
use Rattle.shared_objects.proofs.draft.copied_parts.Given as goal

-- the first parts are copied
abbrev pub invariant-loop-part : goal.invariant-loop-part
invariant-loop-part l = l.copies.items ≡ take l.part-index l.parts
