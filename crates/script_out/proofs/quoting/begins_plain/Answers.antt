use Rattle.script_out.proofs.PlainTexts.{eight_stay}
use Rattle.script_out.proofs.quoting.begins_plain.Goals as goal

pub returns-in-len8-up : goal.returns-in-len8-up
returns-in-len8-up c = λ set. (c.in-len8-up.len_at_least, eight_stay c.args.text.now _ _ _ _ _ _ _ _ c.in-len8-up.len_at_least c.is_plain.ensures c.is_plain-in-len8-up.ensures c.is_plain-in-len8-up-2.ensures c.is_plain-in-len8-up-3.ensures c.is_plain-in-len8-up-4.ensures c.is_plain-in-len8-up-5.ensures c.is_plain-in-len8-up-6.ensures c.is_plain-in-len8-up-7.ensures set)
