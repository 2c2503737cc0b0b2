use Rattle.strftime_fields.proofs.text.strftime_into.Given as goal

abbrev pub ghosts-put_from : goal.ghosts-put_from
ghosts-put_from a = record { name = a.blank.name; parts = a.blank.parts }
