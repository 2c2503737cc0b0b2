use Rattle.std.proofs.Common.{rules}
use Rattle.time_cat.specs.Times.{time_of}
use Rattle.time_cat.proofs.tm.Tm.new.Goals as goal

pub returns-in_err-yday : goal.returns-in_err-yday
unfolding time_of
returns-in_err-yday c = search rules

pub returns-in_err-offset : goal.returns-in_err-offset
unfolding time_of
returns-in_err-offset c = search rules
