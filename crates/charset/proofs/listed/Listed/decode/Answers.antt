use Rattle.std.proofs.Common.{◌≡◌, None, Some, true, false, ◌∙◌, ap, sym}
use Rattle.charset.specs.CodedSet.{CodedSet, big_endian, encoded, value_read}
use Rattle.charset.specs.Code.{code_bytes}
use Rattle.charset.proofs.ListedLemmas.{encoded-long, encoded-other, encoded-covered, code_apart, code_same}
use Rattle.charset.proofs.listed.Listed.decode.Goals as goal

pub returns-then-bytes-gt4 : goal.returns-then-bytes-gt4
returns-then-bytes-gt4 c = rw (← c.self.view_is) (encoded-long c.self.inside.name c.self.inside.names c.args.bytes.now c.self.invariant.short c.if-bytes-gt4.true)

pub returns-then-not-contains : goal.returns-then-not-contains
returns-then-not-contains c =
    let read : c.value-w.result ≡ value_read c.args.self.now c.args.bytes.now =
    c.value-w.ensures.is ∙ ap big_endian c.of.ensures.same ∙ ap (λ (set : CodedSet). value_read set c.args.bytes.now) c.self.view_is in
    let nothing : None ≡ encoded c.args.self.now c.value-w.result =
    rw (← c.self.view_is) (encoded-covered c.self.inside.name c.self.inside.names c.self.inside.ranges c.value-w.result false c.self.invariant (sym c.if-not-contains.true ∙ c.contains.ensures)) in
    encoded-other c.args.self.now c.args.bytes.now c.value-w.result None read nothing (λ e. cc)

pub returns-then-eq : goal.returns-then-eq
returns-then-eq c =
    let shortest : Some (code_bytes c.shortest-code.result) ≡ encoded c.args.self.now c.value-w.result =
    rw (← c.self.view_is) (ap Some c.shortest-code.ensures.same ∙ encoded-covered c.self.inside.name c.self.inside.names c.self.inside.ranges c.value-w.result true c.self.invariant (sym c.if-not-contains.false ∙ c.contains.ensures)) in
    sym shortest ∙ ap Some (code_same _ _ (rw c.as_bytes.ensures at c.if-eq.ensures))

pub returns-else-eq : goal.returns-else-eq
returns-else-eq c =
    let read : c.value-w.result ≡ value_read c.args.self.now c.args.bytes.now =
    c.value-w.ensures.is ∙ ap big_endian c.of.ensures.same ∙ ap (λ (set : CodedSet). value_read set c.args.bytes.now) c.self.view_is in
    let shortest : Some (code_bytes c.shortest-code.result) ≡ encoded c.args.self.now c.value-w.result =
    rw (← c.self.view_is) (ap Some c.shortest-code.ensures.same ∙ encoded-covered c.self.inside.name c.self.inside.names c.self.inside.ranges c.value-w.result true c.self.invariant (sym c.if-not-contains.false ∙ c.contains.ensures)) in
    encoded-other c.args.self.now c.args.bytes.now c.value-w.result (Some (code_bytes c.shortest-code.result)) read shortest
    (code_apart _ _ (rw c.as_bytes.ensures at c.if-eq.ensures))
