use Rattle.handle_table.proofs.Isolated.{worlds_alike}
use Rattle.handle_table.proofs.laws.two_worlds.Goals as goal

pub returns : goal.returns
returns c = worlds_alike
