use Rattle.std.proofs.Common.{◌<◌, ℕ, ap, ◌∙◌, subst}
use Rattle.std.proofs.lemmas.List.Elements.{All-weaker}
use Rattle.turn_gate.specs.Ends.{IsPartOf}
use Rattle.thread_current.specs.Seen.{entries_of}
use Rattle.thread_current.specs.Thread.{IsPart}
use Rattle.thread_current.proofs.Calls.{part_entries}
use Rattle.thread_current.proofs.shared.Shared.close.Goals as goal

pub close-table-requires-clause-numbers : goal.close-table-requires-clause-numbers
close-table-requires-clause-numbers g c = λ n low. c.requires.numbers n (subst (λ (k : ℕ). n < k) (ap (λ x. x.terms.seats) c.self.view_is) low)

pub returns : goal.returns
returns g c =
    let e = c.close-table.ensures in (
      entries_of e.0,
      e.1.stood,
      e.1.set ∙ ap (λ x. x.terms.setting) c.self.view_is,
      All-weaker (IsPartOf e.0) (IsPart (entries_of e.0)) (λ s p. part_entries e.0 s p) c.args.seats e.2,
    )
