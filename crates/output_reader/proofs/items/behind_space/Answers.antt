use Rattle.output_reader.proofs.items.behind_space.Goals as goal

pub returns-in-Some : goal.returns-in-Some
returns-in-Some c = λ operand is. c.in-Some.ensures.back operand is

pub returns-in-None : goal.returns-in-None
returns-in-None c = λ operand is. absurd (c.in-None.ensures.back operand is)
