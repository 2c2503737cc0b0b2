use Rattle.strftime_fields.proofs.CalendarLemmas.{are_weeks}
use Rattle.strftime_fields.proofs.weeks.weeks_hold.Goals as goal

pub returns : goal.returns
returns c = are_weeks
