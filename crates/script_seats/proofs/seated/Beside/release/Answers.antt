use Rattle.std.proofs.Common.{refl}
use Rattle.handle_table.specs.Entry as table
use Rattle.script_seats.proofs.SeatLemmas.{taken_held, unheld_free, answers_release, answers_refused}
use Rattle.script_seats.proofs.seated.Beside.release.Goals as goal

pub release-place-requires-clause-held : goal.release-place-requires-clause-held
release-place-requires-clause-held g c = taken_held c.args.self.now.shared.now c.args.side.now c.args.h _ c.in-Some.held c.requires.calls c.in-Some.ensures

pub release_unheld-place-requires-clause-unheld : goal.release_unheld-place-requires-clause-unheld
release_unheld-place-requires-clause-unheld g c = unheld_free c.args.self.now.shared.now c.args.side.now c.args.h c.requires.calls c.in-None.ensures.0

pub returns-in-Some : goal.returns-in-Some
returns-in-Some g c = record {
  answers = answers_release c.args.self.now.shared.now c.args.side.now _ c.args.h c.release-place.result c.in-Some.held
      c.requires.calls c.release-place.ensures.made c.release-place.ensures.in_order refl c.in-Some.ensures;
  reader = refl;
}

pub returns-in-None : goal.returns-in-None
returns-in-None g c = record {
  answers = answers_refused c.args.self.now.shared.now c.args.side.now _ (table.Release c.args.h) c.release_unheld-place.result.0 c.release_unheld-place.result.1
      c.requires.calls c.release_unheld-place.ensures.fault c.release_unheld-place.ensures.in_order refl c.in-None.ensures.1;
  reader = refl;
}
