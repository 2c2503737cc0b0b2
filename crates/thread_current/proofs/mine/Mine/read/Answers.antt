use Rattle.std.proofs.Common.{◌≡◌, Some, sym, subst}
use Rattle.turn_gate.specs.declared.entry.Terms.{Terms}
use Rattle.handle_table.specs.Entry.{Setting}
use Rattle.handle_table.specs.History.{sets, global_at}
use Rattle.thread_current.specs.Thread.{Thread}
use Rattle.thread_current.proofs.Calls.{mine_reads}
use Rattle.thread_current.proofs.mine.Mine.read.Goals as goal

pub invariant_of-self : goal.invariant_of-self
invariant_of-self g c =
    mine_reads _ c.args.version c.self.inside.named c.self.inside.own c.self.inside.object c.args.object c.self.invariant
    (subst (λ (t : Thread). c.args.version ≡ sets t.seen) (sym c.self.view_is) c.requires.version)
    (subst (λ (t : Thread). (terms : Terms Setting) → t.terms ≡ Some terms → c.args.object ≡ global_at terms.setting t.seen c.args.version) (sym c.self.view_is) c.requires.object)
