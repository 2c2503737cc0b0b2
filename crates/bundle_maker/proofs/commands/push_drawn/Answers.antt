use Rattle.std.proofs.Common.{◌%◌, ◌<◌, lit<, arith}
use Rattle.std.proofs.Math.Nat.{mod-lt}
use Rattle.std.specs.Prelude.{codes}
use Rattle.bundle_maker.proofs.Appended.{if_added}
use Rattle.bundle_maker.proofs.Numbers.{drawn_row}
use Rattle.bundle_maker.proofs.commands.push_drawn.Goals as goal

pub returns-in-0 : goal.returns-in-0
returns-in-0 c = let row = drawn_row c.args.draw 0 c.in-0.is in rw row (if_added c.extend_from_slice.result c.extend_from_slice.new.self.items c.args.text.now.items (codes "new a LC_ALL us") c.extend_from_slice.ensures.items)

pub returns-in-1 : goal.returns-in-1
returns-in-1 c = let row = drawn_row c.args.draw 1 c.in-1.is in rw row (if_added c.extend_from_slice-in-1.result c.extend_from_slice-in-1.new.self.items c.args.text.now.items (codes "new a LC_ALL fr a") c.extend_from_slice-in-1.ensures.items)

pub returns-in-2 : goal.returns-in-2
returns-in-2 c = let row = drawn_row c.args.draw 2 c.in-2.is in rw row (if_added c.extend_from_slice-in-2.result c.extend_from_slice-in-2.new.self.items c.args.text.now.items (codes "use a") c.extend_from_slice-in-2.ensures.items)

pub returns-in-3 : goal.returns-in-3
returns-in-3 c = let row = drawn_row c.args.draw 3 c.in-3.is in rw row (if_added c.extend_from_slice-in-3.result c.extend_from_slice-in-3.new.self.items c.args.text.now.items (codes "free a") c.extend_from_slice-in-3.ensures.items)

pub returns-in-4 : goal.returns-in-4
returns-in-4 c = let row = drawn_row c.args.draw 4 c.in-4.is in rw row c.push_amount.ensures

pub returns-in-5 : goal.returns-in-5
returns-in-5 c = let row = drawn_row c.args.draw 5 c.in-5.is in rw row c.push_day.ensures

pub returns-in-6 : goal.returns-in-6
returns-in-6 c = let row = drawn_row c.args.draw 6 c.in-6.is in rw row (if_added c.extend_from_slice-in-6.result c.extend_from_slice-in-6.new.self.items c.args.text.now.items (codes "info CRNCYSTR") c.extend_from_slice-in-6.ensures.items)

pub returns-in_default : goal.returns-in_default
returns-in_default c =
    let small : c.args.draw % 8 < 8 = mod-lt c.args.draw (lit< tt) in
    let others = c.in_default in
    let row = drawn_row c.args.draw 7 (omega arith) in
    rw row c.push_class.ensures
