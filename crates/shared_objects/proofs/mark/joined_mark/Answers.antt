use Rattle.std.proofs.Common.{[], ◌∷◌, ◌++◌, ap, ◌∙◌}
use Rattle.std.specs.Hash.DefaultHasher as sip
use Rattle.std.specs.declared.hash.DefaultHasher.{DefaultHasher}
use Rattle.shared_objects.specs.Marks.{fed, mark_of, word}
use Rattle.shared_objects.proofs.MarkLaws.{fed_behind}
use Rattle.shared_objects.proofs.mark.joined_mark.Goals as goal

pub returns : goal.returns
unfolding mark_of
returns c =
    let both = fed_behind c.write.new.self c.write-2.new.self c.write-3.new.self (word c.args.first) (word c.args.second)
    (c.write-2.ensures ∙ ap (fed c.write.new.self) c.to_le_bytes.ensures)
    (c.write-3.ensures ∙ ap (fed c.write-2.new.self) c.to_le_bytes-2.ensures) in
    c.finish.ensures
    ∙ ap sip.finish (fed_behind sip.initial c.write.new.self c.write-3.new.self (2 ∷ []) (word c.args.first ++ word c.args.second)
    (c.write.ensures ∙ ap (λ (s : DefaultHasher). fed s (2 ∷ [])) c.new-hasher.ensures)
    both)
