-- Counts of faults: a source or a sink counts its failed calls, up to 2 ^ 64 - 1.
use Rattle.std.specs.Prelude.{◌≢◌, ℕ, ◌-◌, ◌^◌, ◌<◌}

-- the count rose in a call, or stands at its last value
abbrev pub Rose : ℕ → ℕ → Type 0
Rose before after = after ≢ 2 ^ 64 - 1 → before < after
