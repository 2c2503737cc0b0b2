use Rattle.std.proofs.Common.{◌&&◌, Bool, ap, ◌∙◌}
use Rattle.charset.specs.CodedSet.{has}
use Rattle.ctype_classes.proofs.CharacterLemmas.{characters_are}
use Rattle.ctype_classes.proofs.characters.characters.Goals as goal

pub returns : goal.returns
returns c =
    characters_are c.args.charset.now c.args.ranges.now c.in_ok-members.members c.in_ok-members.ensures.apart (λ w.
    let set = c.args.charset.now in
    let given = rw (c.deref-2.ensures.value) at (c.in_ok-members.ensures.values w) in
    let parts = rw (c.as_slice.ensures.ranges) at (c.in_ok-parts.ensures.values w) in
    let joined = rw (c.deref.ensures.value) at (c.in_ok-joined.ensures.values w) in
    given ∙ parts ∙ ap (λ (b : Bool). has set w && b) (joined ∙ c.in_ok-forward.ensures.values w))
