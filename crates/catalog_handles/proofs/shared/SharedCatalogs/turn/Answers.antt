use Rattle.catalog_handles.specs.Seen.{op_of, reply_of}
use Rattle.catalog_handles.specs.Reader.{reader_of}
use Rattle.catalog_handles.proofs.Calls.{Turned, turned}
use Rattle.catalog_handles.proofs.shared.SharedCatalogs.turn.Given as given
use Rattle.catalog_handles.proofs.shared.SharedCatalogs.turn.Goals as goal

whole : (g : given.Over) (c : goal.After-turn-place g) → Turned c.args.self.now c.args.reader.now (reader_of g.B.Part.number c.turn-place.new.seat) (op_of g.B.Part.number c.args.op) c.args.least c.turn-place.result.0 c.turn-place.result.1.stamp (reply_of g.B.Part.number c.turn-place.result.1.reply)
whole g c =
    let e = c.turn-place.ensures in
    turned g.B.Part.number c.self.inside.turns c.args.self.now c.reader.inside.seat c.turn-place.new.seat c.args.reader.now (record { op = c.args.op; least = c.args.least }) c.turn-place.result.0 c.turn-place.result.1
    c.self.view_is c.reader.view_is c.requires.thread e.same e.entry e.own e.in_order

pub invariant_of-reader : goal.invariant_of-reader
invariant_of-reader g c = (whole g c).orderly

pub returns-clause-answered : goal.returns-clause-answered
returns-clause-answered g c = (whole g c).answered

pub returns-clause-in_order : goal.returns-clause-in_order
returns-clause-in_order g c = (whole g c).is
