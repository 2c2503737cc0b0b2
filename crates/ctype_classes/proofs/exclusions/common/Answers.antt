use Rattle.std.proofs.Common.{[], sym}
use Rattle.std.specs.Option.{option_copied, unwrap_or}
use Rattle.class_ranges.proofs.CommonValues.{nothing_common}
use Rattle.ctype_classes.proofs.exclusions.common.Goals as goal

pub returns-in-None-second-clause-is : goal.returns-in-None-second-clause-is
returns-in-None-second-clause-is c = rw (c.in-None-second.is) (sym (nothing_common (unwrap_or (option_copied c.args.first) [])))
