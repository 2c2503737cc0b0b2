use Rattle.std.proofs.Common.{List, ℕ, OnErr, subst}
use Rattle.std.proofs.lemmas.Result.{on_err_weaker}
use Rattle.lc_base.specs.Bytes.{AddsPrefix}
use Rattle.locale_cli.proofs.Writing.{front_behind}
use Rattle.locale_cli.proofs.pieces.Pieces.write_all.Goals as goal

pub returns-clause-front : goal.returns-clause-front
returns-clause-front g c =
    let r = c.write_halves-2.result in
    let text = on_err_weaker r (front_behind _ _ _ _ _ c.in_ok-write_halves.ensures.ok) c.write_halves-2.ensures.front in
    subst (λ (whole : List ℕ). OnErr r (AddsPrefix (g.K.Sink.written c.args.sink.now) (g.K.Sink.written c.write_halves-2.new.sink) whole)) c.self.view_is text
