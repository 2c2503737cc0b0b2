use Rattle.std.proofs.Common.{false, ap, arith}
use Rattle.strptime_fields.specs.Plain.{are_plain}
use Rattle.strptime_fields.proofs.Through.{pieces_at_start}
use Rattle.strptime_fields.proofs.plain_formats.is_plain_from.Goals as goal

pub reading-init : goal.reading-init
reading-init g c = record { within = omega arith; plain = ap (are_plain false) (pieces_at_start c.args.format.now) }
