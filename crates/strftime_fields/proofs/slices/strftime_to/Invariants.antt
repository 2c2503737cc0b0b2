use Rattle.strftime_fields.proofs.slices.strftime_to.Given as goal

abbrev pub ghosts-put_text : goal.ghosts-put_text
ghosts-put_text a = record { name = a.blank.name; parts = a.blank.parts }
