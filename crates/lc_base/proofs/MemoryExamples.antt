-- Worked calls of sources and sinks in memory.
use Rattle.std.specs.Prelude.{◌≡◌, ◌-◌, ◌^◌, [], ◌∷◌, true, false, refl}
use Rattle.lc_base.specs.Counted.{one_more}
use Rattle.lc_base.specs.Memory.{SourceState, SinkState, read_fails, read_count, after_read, after_failed_read, filled, write_fails, write_count, after_write, after_failed_write}

-- five bytes, two a call, where the calls 1 and 3 fail, after two calls
abbrev source : SourceState
source = record { rest = 12 ∷ 13 ∷ 14 ∷ []; step = 2; call = 2; failing = 1 ∷ 3 ∷ []; faults = 1 }

-- call 2 does not fail
read_fails-unnumbered : read_fails source ≡ false
read_fails-unnumbered = refl

-- it gives a step, where the buffer has room for more
read_count-step : read_count source 8 ≡ 2
read_count-step = refl

-- it gives what the buffer has room for, where that is less
read_count-buffer : read_count source 1 ≡ 1
read_count-buffer = refl

-- it gives what is left, where that is less
read_count-end : read_count (after_read source 2) 8 ≡ 1
read_count-end = refl

-- the bytes stand at the front of the buffer
filled-front : filled (0 ∷ 0 ∷ 0 ∷ []) source 2 ≡ 12 ∷ 13 ∷ 0 ∷ []
filled-front = refl

-- call 3 fails after it, which moves nothing and is counted
read_fails-numbered : read_fails (after_read source 2) ≡ true
read_fails-numbered = refl

after_failed_read-counted : after_failed_read (after_read source 2) ≡ record { rest = 14 ∷ []; step = 2; call = 4; failing = 1 ∷ 3 ∷ []; faults = 2 }
after_failed_read-counted = refl

-- counts stand at their last value
one_more-last : one_more (2 ^ 64 - 1) ≡ 2 ^ 64 - 1
one_more-last = refl

-- room for three bytes, of which one is taken, two a call, where call 5 fails
abbrev sink : SinkState
sink = record { taken = 11 ∷ []; room = 3; step = 2; call = 1; failing = 5 ∷ []; faults = 0 }

-- call 1 does not fail, and takes a step
write_fails-room : write_fails sink 4 ≡ false
write_fails-room = refl

write_count-step : write_count sink 4 ≡ 2
write_count-step = refl

-- call 2 fails at a piece, since the sink is full, and not at an empty one
write_fails-full : write_fails (after_write sink (12 ∷ 13 ∷ [])) 4 ≡ true
write_fails-full = refl

write_fails-empty : write_fails (after_write sink (12 ∷ 13 ∷ [])) 0 ≡ false
write_fails-empty = refl

-- it takes what it has room for
write_count-room : write_count (after_write sink (12 ∷ [])) 4 ≡ 1
write_count-room = refl

-- call 5 fails also at an empty piece, and takes nothing
write_fails-numbered : write_fails (record sink { call = 5 }) 0 ≡ true
write_fails-numbered = refl

after_failed_write-counted : after_failed_write (record sink { call = 5 }) ≡ record { taken = 11 ∷ []; room = 3; step = 2; call = 6; failing = 5 ∷ []; faults = 1 }
after_failed_write-counted = refl
