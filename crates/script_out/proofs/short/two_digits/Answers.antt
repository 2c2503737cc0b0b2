use Rattle.script_out.proofs.NumberTexts.{two}
use Rattle.script_out.proofs.short.two_digits.Goals as goal

pub returns : goal.returns
returns c = two c.one_digit.result c.one_digit-2.result c.args.n c.requires.from c.requires.to c.one_digit.ensures c.one_digit-2.ensures
