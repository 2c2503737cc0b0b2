use Rattle.std.proofs.Common.{◌<◌, ◌^◌, length, suc, add-one, arith}
use Rattle.script_out.specs.Texts.{HasTexts}
use Rattle.script_out.proofs.TextBlocks.{texts_pushed, has_pushed, has_room}
use Rattle.script_out.proofs.texts.Texts.push.Goals as goal

pub overflow_add-self : goal.overflow_add-self
overflow_add-self c =
    let small : length c.args.text.now < 2 ^ 64 = omega arith in
    let whole : HasTexts (suc c.self.inside.count) c.push_framed.new.block.items = rw c.in-Ok.ensures.added (has_pushed c.self.inside.count c.self.inside.block.items c.args.text.now c.self.invariant small) in
    let room = has_room (suc c.self.inside.count) c.push_framed.new.block.items whole in
    let taken = c.in-Ok.ensures.taken in
    omega arith

pub invariant_of-self : goal.invariant_of-self
invariant_of-self c =
    let small : length c.args.text.now < 2 ^ 64 = omega arith in
    rw (add-one, c.in-Ok.ensures.added) (has_pushed c.self.inside.count c.self.inside.block.items c.args.text.now c.self.invariant small)

pub returns-in-Ok-clause-added : goal.returns-in-Ok-clause-added
returns-in-Ok-clause-added c =
    let small : length c.args.text.now < 2 ^ 64 = omega arith in
    rw (add-one, c.in-Ok.ensures.added, ← c.self.view_is) (texts_pushed c.self.inside.count c.self.inside.block.items c.args.text.now c.self.invariant small)
