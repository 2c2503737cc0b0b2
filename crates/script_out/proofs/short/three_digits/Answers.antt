use Rattle.script_out.proofs.NumberTexts.{three}
use Rattle.script_out.proofs.short.three_digits.Goals as goal

pub returns : goal.returns
returns c = three c.two_digits.result c.one_digit.result c.args.n c.requires.from c.requires.to c.two_digits.ensures c.one_digit.ensures
