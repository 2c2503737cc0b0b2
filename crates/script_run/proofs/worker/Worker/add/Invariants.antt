use Rattle.script_run.proofs.worker.Worker.add.Given as goal

-- the table and the catalogs that all workers share
abbrev pub ghosts-seat_line : goal.ghosts-seat_line
ghosts-seat_line g a = record { gate = a.common.now.shared.now; desk = a.common.now.catalogs.now }
