use Rattle.std.proofs.Common.{◌≡◌, ◌++◌}
use Rattle.std.specs.Prelude.{flat_map}
use Rattle.std.specs.List.{range_with_len}
use Rattle.bundle_maker.specs.Generated.{locales_text, thread_text}
use Rattle.bundle_maker.proofs.text.generate.Given as goal

-- the locales, and the threads so far
abbrev pub invariant-loop-thread : goal.invariant-loop-thread
invariant-loop-thread l = l.text.items ≡ locales_text ++ flat_map (thread_text l.seed l.commands) (range_with_len 0 l.thread)
