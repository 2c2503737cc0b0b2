use Rattle.strptime_fields.proofs.plain_formats.is_plain.Given as goal

abbrev pub ghosts-is_plain_from : goal.ghosts-is_plain_from
ghosts-is_plain_from a = record { name = a.blank.name; parts = a.blank.parts }
