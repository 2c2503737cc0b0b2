-- The subject of a line as a value of the definitions.
use Rattle.std.specs.Prelude.{option_map}
use Rattle.charmap_reader.specs.declared.subject.Subject.{Subject as Lent}
use Rattle.charmap_reader.specs.Subject.{Subject}

abbrev pub seen : Lent → Subject
seen s = record { first = s.first.now; last = option_map (λ name. name.now) s.last }
