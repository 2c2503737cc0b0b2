use Rattle.std.proofs.Common.{[], ◌∷◌, ap, ◌∙◌}
use Rattle.std.specs.Hash.DefaultHasher as sip
use Rattle.std.specs.declared.hash.DefaultHasher.{DefaultHasher}
use Rattle.shared_objects.specs.Marks.{fed, mark_of}
use Rattle.shared_objects.proofs.MarkLaws.{fed_behind}
use Rattle.shared_objects.proofs.mark.text_mark.Goals as goal

pub returns : goal.returns
unfolding mark_of
returns c =
    c.finish.ensures
    ∙ ap sip.finish (fed_behind sip.initial c.write.new.self c.write-2.new.self (0 ∷ []) c.args.text.now
    (c.write.ensures ∙ ap (λ (s : DefaultHasher). fed s (0 ∷ [])) c.new-hasher.ensures)
    c.write-2.ensures)
