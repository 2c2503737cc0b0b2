use Rattle.strptime_fields.proofs.Law.{are_read_back}
use Rattle.strptime_fields.proofs.plain_formats.plain_formats_hold.Goals as goal

pub returns : goal.returns
returns c = are_read_back
