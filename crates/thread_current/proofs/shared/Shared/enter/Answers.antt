use Rattle.std.proofs.Common.{refl}
use Rattle.handle_table.specs.Seen.{op_of, reply_of}
use Rattle.thread_current.specs.Thread.{thread_of}
use Rattle.thread_current.proofs.Calls.{Turned, turned, turned_seen, before_says, plain_keeps, mine_later}
use Rattle.thread_current.proofs.shared.Shared.enter.Given as given
use Rattle.thread_current.proofs.shared.Shared.enter.Goals as goal

inner : (g : given.Over) (c : goal.After-turn g) → Turned c.self.inside.turns (thread_of c.mine.inside.version c.mine.inside.seat)
    (thread_of c.mine.inside.version c.turn.new.seat) (op_of c.args.op) c.turn.result.0 (reply_of c.turn.result.1)
inner g c =
    let e = c.turn.ensures in
    turned c.self.inside.turns c.args.self.now c.mine.inside.version c.mine.inside.version c.mine.inside.seat c.turn.new.seat c.args.mine.now
    c.mine.inside.named c.mine.inside.own c.mine.inside.object c.args.op c.turn.result.0 c.turn.result.1 c.self.view_is c.mine.view_is c.requires.thread
    c.mine.invariant e.same e.entry e.own e.in_order

outer : (g : given.Over) (c : goal.After-turn g) → Turned c.args.self.now c.args.mine.now
    (thread_of c.mine.inside.version c.turn.new.seat) (op_of c.args.op) c.turn.result.0 (reply_of c.turn.result.1)
outer g c = turned_seen c.self.inside.turns c.args.self.now _ c.args.mine.now _ _ _ _ c.self.view_is c.mine.view_is (inner g c)

pub invariant_of-mine : goal.invariant_of-mine
invariant_of-mine g c =
    let t = inner g c in
    mine_later c.self.inside.turns _ _ _ _ _ c.mine.invariant t.known t.answered.same.terms t.later
    (plain_keeps c.self.inside.turns _ _ _ _ _ t.answered t.was t.is c.requires.plain) refl t.is

pub returns-clause-answered : goal.returns-clause-answered
returns-clause-answered g c = (outer g c).answered

pub returns-clause-in_order : goal.returns-clause-in_order
returns-clause-in_order g c = (outer g c).is

pub returns-clause-after : goal.returns-clause-after
returns-clause-after g c = (outer g c).after

pub returns-clause-selection : goal.returns-clause-selection
returns-clause-selection g c = let t = outer g c in plain_keeps c.args.self.now _ _ _ _ _ t.answered t.was t.is c.requires.plain

pub returns-clause-before : goal.returns-clause-before
returns-clause-before g c = let t = outer g c in (before_says c.args.self.now _ _ _ _ _ c.args.self.now.terms t.answered t.was t.is).holding
