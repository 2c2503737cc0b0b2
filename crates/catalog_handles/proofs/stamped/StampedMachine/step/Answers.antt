use Rattle.std.proofs.Common.{◌∷◌, max, refl, ap, sym, ◌∙◌, subst}
use Rattle.catalog_handles.specs.Entry.{Reply, History}
use Rattle.catalog_handles.specs.Kept.{Keeps}
use Rattle.catalog_handles.specs.Seen.{op_of, entries_of}
use Rattle.catalog_handles.proofs.stamped.StampedMachine.step.Goals as goal

pub returns-clause-stands : goal.returns-clause-stands
returns-clause-stands g c = λ H s.
    let before : History = entries_of g.B.Part.number H in (
      subst (λ (r : Reply). Keeps c.step.new.self.setting (record { who = c.args.who; op = op_of g.B.Part.number c.args.op.op; reply = r; stamp = c.max-self.result } ∷ before) c.step.new.self.rows)
          (sym (c.step.ensures.answers before s.0)) (c.step.ensures.stands before c.max-self.result s.0),
      refl,
      (c.max-self.ensures ∙ ap (λ n. max n c.args.op.least) s.1, s.2),
    )

pub returns-clause-legal : goal.returns-clause-legal
returns-clause-legal g c = λ H s.
    ((c.step.ensures.answers (entries_of g.B.Part.number H) s.0, s.0.legal), (c.max-self.ensures ∙ ap (λ n. max n c.args.op.least) s.1, s.2))
