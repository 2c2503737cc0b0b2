use Rattle.std.proofs.Common.{◌++◌, List, map, ap, ◌∙◌, ◌+◌, arith}
use Rattle.std.specs.Prelude.{flat_map}
use Rattle.script_wishes.specs.Seen.{turn_seen, placed_seen}
use Rattle.script_wishes.specs.Turns.{Turn, thread_turns}
use Rattle.script_wishes.proofs.TurnLists.{left, flat_more}
use Rattle.script_wishes.proofs.turns.push_round.Goals as goal

pub loop-i-preserved : goal.loop-i-preserved
loop-i-preserved c =
    let made = thread_turns (map placed_seen c.args.commands.now) in
    let rest = flat_map made (left 0 c.args.threads (c.loop-i.i + 1)) in
    ap (λ (turns : List Turn). turns ++ rest) c.in_ok-push_thread.ensures
    ∙ flat_more made (map turn_seen c.loop-i.turns.items) 0 c.args.threads c.loop-i.i c.loop-i.i (omega arith) c.loop-i-test.true
    ∙ c.loop-i.invariant
