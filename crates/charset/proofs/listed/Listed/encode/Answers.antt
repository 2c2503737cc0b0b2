use Rattle.std.proofs.Common.{Some, true, false, ◌∙◌, ap}
use Rattle.charset.proofs.ListedLemmas.{encoded-covered}
use Rattle.charset.proofs.listed.Listed.encode.Goals as goal

pub returns-then-contains-clause-bytes : goal.returns-then-contains-clause-bytes
returns-then-contains-clause-bytes c =
    rw (← c.self.view_is)
    (ap Some c.shortest.ensures.same ∙ encoded-covered c.self.inside.name c.self.inside.names c.self.inside.ranges c.args.w true c.self.invariant c.if-contains.ensures)

pub returns-else-contains-clause-bytes : goal.returns-else-contains-clause-bytes
returns-else-contains-clause-bytes c =
    rw (← c.self.view_is)
    (encoded-covered c.self.inside.name c.self.inside.names c.self.inside.ranges c.args.w false c.self.invariant c.if-contains.ensures)
