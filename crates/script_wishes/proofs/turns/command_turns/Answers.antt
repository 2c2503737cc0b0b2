use Rattle.std.proofs.Common.{◌++◌, ℕ, List, length, map, ap, ◌∙◌, ◌+◌, arith}
use Rattle.std.specs.Prelude.{flat_map}
use Rattle.script_commands.specs.declared.command.Placed.{Placed}
use Rattle.script_wishes.specs.Seen.{turn_seen, placed_seen}
use Rattle.script_wishes.specs.Turns.{Turn, in_round, round_turns, turns_of_threads}
use Rattle.script_wishes.proofs.TurnLists.{left, flat_more}
use Rattle.script_wishes.proofs.turns.command_turns.Goals as goal

pub loop-i-preserved : goal.loop-i-preserved
loop-i-preserved c =
    let bundle = c.args.bundle.now in
    let made = round_turns (length bundle.threads) bundle.commands in
    let rest = flat_map made (left 1 bundle.rounds (c.loop-i.i + 1)) in
    let before = map turn_seen c.loop-i.turns.items in
    ap (λ (turns : List Turn). turns ++ rest) c.in_ok-push_round.ensures
    ∙ ap (λ (ps : List Placed). (before ++ turns_of_threads c.len-threads.result ps) ++ rest) (ap (map placed_seen) c.as_slice-in-loop-i.ensures.value ∙ c.in_ok-commands.ensures)
    ∙ ap (λ (ps : List Placed). (before ++ turns_of_threads c.len-threads.result (in_round (c.loop-i.i + 1) ps)) ++ rest) c.as_slice.ensures
    ∙ ap (λ (n : ℕ). (before ++ round_turns n bundle.commands (c.loop-i.i + 1)) ++ rest) c.len-threads.ensures
    ∙ flat_more made before 1 bundle.rounds c.loop-i.i (c.loop-i.i + 1) (omega arith) c.loop-i-test.true
    ∙ c.loop-i.invariant
