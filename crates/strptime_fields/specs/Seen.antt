-- What the values of the code stand for.
use Rattle.std.specs.Prelude.{Ok, Err}
use Rattle.strptime_fields.specs.declared.progress.Progress.{Progress as InCode}
use Rattle.strptime_fields.specs.declared.progress.Progress.TheVariants.{On, Missed}
use Rattle.strptime_fields.specs.Scans.{Progress}

abbrev pub seen : InCode → Progress
seen (On left last) = Ok (left.now, last)
seen (Missed left) = Err left.now
