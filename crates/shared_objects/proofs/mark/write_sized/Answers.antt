use Rattle.std.proofs.Common.{length, ap, ◌∙◌}
use Rattle.shared_objects.specs.Marks.{fed, word}
use Rattle.shared_objects.proofs.MarkLaws.{fed_behind}
use Rattle.shared_objects.proofs.mark.write_sized.Goals as goal

pub returns : goal.returns
returns c =
    fed_behind c.args.hasher.now c.write.new.self c.write-2.new.self (word (length c.args.text.now)) c.args.text.now
    (c.write.ensures ∙ ap (fed c.args.hasher.now) c.to_le_bytes.ensures)
    c.write-2.ensures
