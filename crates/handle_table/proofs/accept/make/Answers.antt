use Rattle.handle_table.proofs.accept.make.Goals as goal

pub make-requires-clause-makes : goal.make-requires-clause-makes
make-requires-clause-makes g c = c.in-Some.ensures.makes
