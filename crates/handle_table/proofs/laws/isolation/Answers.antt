use Rattle.handle_table.proofs.Isolated.{part_legal, says_part, answer_apart}
use Rattle.handle_table.proofs.laws.isolation.Goals as goal

pub returns-clause-legal : goal.returns-clause-legal
returns-clause-legal c = part_legal

pub returns-clause-says : goal.returns-clause-says
returns-clause-says c = says_part

pub returns-clause-answers : goal.returns-clause-answers
returns-clause-answers c = answer_apart
