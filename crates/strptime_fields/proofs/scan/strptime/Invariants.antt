use Rattle.strptime_fields.proofs.scan.strptime.Given as goal

abbrev pub ghosts-strptime_from : goal.ghosts-strptime_from
ghosts-strptime_from a = record { name = a.blank.name; parts = a.blank.parts }
