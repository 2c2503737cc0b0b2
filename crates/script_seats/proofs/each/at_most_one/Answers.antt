use Rattle.std.proofs.Common.{rules}
use Rattle.std.specs.Fork.{ChangesAt}
use Rattle.script_seats.proofs.EachPlace.{changes_one}
use Rattle.script_seats.proofs.each.at_most_one.Goals as goal

pub returns-then-not-is_empty : goal.returns-then-not-is_empty
returns-then-not-is_empty g c =
    changes_one (ChangesAt g.F.Fn c.args.f.now) c.args.base c.args.s.now c.index-s-0.result c.at_one.new.item c.requires.short (search rules) c.at_one.ensures
