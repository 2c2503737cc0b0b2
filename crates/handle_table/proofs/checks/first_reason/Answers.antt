use Rattle.handle_table.proofs.checks.first_reason.Goals as goal

pub returns-in-Pins : goal.returns-in-Pins
returns-in-Pins g c = λ H k. rw c.in-Pins.is (c.may_count.ensures c.args.setting.now H c.args.who k)
