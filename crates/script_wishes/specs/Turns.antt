-- Whose turn it is: round by round, and in a round thread by thread (our own).
use Rattle.std.specs.Prelude.{ℕ, ◌+◌, ◌==◌, List, [], ◌∷◌, ◌++◌, length, map, filter, flat_map}
use Rattle.std.specs.List.{range_with_len}
use Rattle.lc_base.specs.declared.handle.Handle.{Handle}
use Rattle.handle_table.specs.Entry.{History}
use Rattle.script_lang.specs.declared.bundle.Bundle.{Bundle}
use Rattle.script_commands.specs.declared.command.Command.{Command}
use Rattle.script_commands.specs.declared.command.Placed.{Placed}
use Rattle.script_wishes.specs.declared.holds.OpenHold.{OpenHold}
use Rattle.script_wishes.specs.Holds.{open_holds}

-- what a line is printed for: a command of the script, or a call that closes its thread
pub data Task : Type 0 where
  Runs : Command → Task
  Releases : Handle → Task
  Ends : Task

-- a task of a thread in a round; rounds count from 1, threads from 0
pub record Turn : Type 0 where
  pub round : ℕ
  pub thread : ℕ
  pub task : Task

-- the first n numbers
abbrev pub first_numbers : ℕ → List ℕ
first_numbers n = range_with_len 0 n

-- the commands of a round, and those of a thread, in order of the text
abbrev pub in_round : ℕ → List Placed → List Placed
in_round round ps = filter (λ (p : Placed). p.round == round) ps

abbrev pub in_thread : List Placed → ℕ → List Placed
in_thread ps thread = filter (λ (p : Placed). p.thread == thread) ps

abbrev pub turn_of : Placed → Turn
turn_of p = record { round = p.round; thread = p.thread; task = Runs p.command }

-- the turns of a thread among these commands
abbrev pub thread_turns : List Placed → ℕ → List Turn
thread_turns ps thread = map turn_of (in_thread ps thread)

-- the turns of the commands of a round, thread by thread
abbrev pub turns_of_threads : ℕ → List Placed → List Turn
turns_of_threads threads ps = flat_map (thread_turns ps) (first_numbers threads)

abbrev pub round_turns : ℕ → List Placed → ℕ → List Turn
round_turns threads ps round = turns_of_threads threads (in_round round ps)

-- the turns of a bundle's commands: round by round, in a round thread by thread, and in a thread in order of the text
abbrev pub command_turns : Bundle → List Turn
command_turns bundle = flat_map (round_turns (length bundle.threads) bundle.commands) (range_with_len 1 bundle.rounds)

-- the turns that close a thread in a round: a Release of each open Hold in the order made, and then its End
abbrev pub closing_turn : ℕ → ℕ → Task → Turn
closing_turn round thread task = record { round = round; thread = thread; task = task }

abbrev pub releases : ℕ → ℕ → List OpenHold → List Turn
releases round thread holds = map (λ (o : OpenHold). closing_turn round thread (Releases o.handle)) holds

abbrev pub closing : ℕ → ℕ → List OpenHold → List Turn
closing round thread holds = releases round thread holds ++ closing_turn round thread Ends ∷ []

-- the turns that close all threads after a history, in the round after the last, in order of their numbers
abbrev pub closing_turns : Bundle → History → List Turn
closing_turns bundle H = flat_map (λ (t : ℕ). closing (bundle.rounds + 1) t (open_holds H t)) (first_numbers (length bundle.threads))
