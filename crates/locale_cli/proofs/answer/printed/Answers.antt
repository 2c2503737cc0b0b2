use Rattle.locale_cli.specs.declared.words.Mode.TheVariants.{Check, Serial, Run}
use Rattle.locale_cli.proofs.Outputs.{counts_printed, may_be}
use Rattle.locale_cli.proofs.answer.printed.Goals as goal

pub returns-in-Check : goal.returns-in-Check
returns-in-Check g c = may_be c.args.mode Check c.args.input.now c.checked.result c.in-Check.is (counts_printed c.args.input.now c.checked.result c.checked.ensures)

pub returns-in-Serial : goal.returns-in-Serial
returns-in-Serial g c = may_be c.args.mode (Serial c.in-Serial.rows c.in-Serial.generations) c.args.input.now c.alone.result c.in-Serial.is c.alone.ensures

pub returns-in-Run : goal.returns-in-Run
returns-in-Run g c = may_be c.args.mode (Run c.in-Run.rows c.in-Run.generations) c.args.input.now c.beside.result c.in-Run.is c.beside.ensures
