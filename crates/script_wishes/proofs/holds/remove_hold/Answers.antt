use Rattle.std.proofs.Common.{not, rules}
use Rattle.std.proofs.lemmas.Fn.{filter_same}
use Rattle.handle_table.specs.Entry.{names}
use Rattle.script_wishes.specs.declared.holds.OpenHold.{OpenHold}
use Rattle.script_wishes.proofs.holds.remove_hold.Goals as goal

pub returns : goal.returns
returns c = filter_same _ (λ (o : OpenHold). not (names c.args.named o.handle)) _ (λ x b f k. search rules) _ _ c.retain.ensures.filtered
