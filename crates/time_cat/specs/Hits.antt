-- Eras that were found.
use Rattle.time_cat.specs.declared.time.EraHit.{EraHit}
use Rattle.time_cat.specs.Eras.{Hit}

abbrev pub hit : EraHit → Hit
hit h = record { year = h.year; name = h.name.now; format = h.format.now }
