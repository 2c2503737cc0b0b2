use Rattle.catalog_handles.proofs.Apart.{part_legal, answer_apart}
use Rattle.catalog_handles.proofs.laws.isolation.Goals as goal

pub returns-clause-legal : goal.returns-clause-legal
returns-clause-legal c = part_legal

pub returns-clause-answers : goal.returns-clause-answers
returns-clause-answers c = answer_apart
