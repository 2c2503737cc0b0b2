use Rattle.strptime_fields.proofs.LongestLaw.{are_longest}
use Rattle.strptime_fields.proofs.names.longest_names_hold.Goals as goal

pub returns : goal.returns
returns c = are_longest
