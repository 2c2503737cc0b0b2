use Rattle.std.proofs.Common.{◌+◌, ◌%◌, ◌++◌, List, ℕ}
use Rattle.std.specs.Prelude.{codes}
use Rattle.bundle_maker.specs.Generated.{two_digits, two_numbers}
use Rattle.bundle_maker.proofs.Appended.{added, three}
use Rattle.bundle_maker.proofs.commands.push_day.Goals as goal

pub returns : goal.returns
returns c =
    let first : List ℕ = codes "time \"%c\" 2021-01-" in
    let third : List ℕ = codes " 12:00:00 " in
    added c.push_two_numbers.result c.push_two_numbers.new.text.items c.extend_from_slice-2.new.self.items c.args.text.now.items
    (first ++ two_digits (c.args.day + 1) ++ third) (two_numbers ((c.args.day + 5) % 7) c.args.day)
    (three c.args.text.now.items first (two_digits (c.args.day + 1)) third c.extend_from_slice.new.self.items c.push_two_digits.new.text.items c.extend_from_slice-2.new.self.items
    c.in_ok-extend_from_slice.ensures.items c.in_ok-push_two_digits.ensures c.in_ok-extend_from_slice-2.ensures.items)
    c.push_two_numbers.ensures
