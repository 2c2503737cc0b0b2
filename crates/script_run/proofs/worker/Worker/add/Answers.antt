use Rattle.script_run.proofs.worker.Worker.add.Goals as goal

pub returns : goal.returns
returns g c = record { line = c.in_ok-line.line; added = c.in_ok-push.ensures.items; adds = c.in_ok-line.ensures }
