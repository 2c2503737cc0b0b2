-- Sources and sinks in memory: what each call answers and what it leaves (our own rules).
use Rattle.std.specs.Prelude.{ℕ, ◌-◌, List, ◌++◌, length, take, drop, min, Bool, ◌==◌, ◌||◌, ◌&&◌, not}
use Rattle.std.specs.List.{list_any}
use Rattle.lc_base.specs.Counted.{one_more}

-- a source: the bytes to come, how many a call gives at most, the number of the next call, the numbers of the failing calls, the faults
pub record SourceState : Type 0 where
  pub rest : List ℕ
  pub step : ℕ
  pub call : ℕ
  pub failing : List ℕ
  pub faults : ℕ

-- a sink: the bytes that it took, how many it has room for in all, and the rest as for a source
pub record SinkState : Type 0 where
  pub taken : List ℕ
  pub room : ℕ
  pub step : ℕ
  pub call : ℕ
  pub failing : List ℕ
  pub faults : ℕ

-- whether a call is one of the failing ones
abbrev pub is_among : List ℕ → ℕ → Bool
is_among failing call = list_any (λ n. n == call) failing

-- whether the next read fails
abbrev pub read_fails : SourceState → Bool
read_fails s = is_among s.failing s.call

-- how many bytes the next read gives into a buffer of that length, where it does not fail
abbrev pub read_count : SourceState → ℕ → ℕ
read_count s len = min (min s.step len) (length s.rest)

-- the source after a read that gave so many bytes
abbrev pub after_read : SourceState → ℕ → SourceState
after_read s n = record s { rest = drop n s.rest; call = one_more s.call }

-- the source after a read that failed
abbrev pub after_failed_read : SourceState → SourceState
after_failed_read s = record s { call = one_more s.call; faults = one_more s.faults }

-- a buffer after a read that gave so many bytes of the source
abbrev pub filled : List ℕ → SourceState → ℕ → List ℕ
filled buf s n = take n s.rest ++ drop n buf

-- how many more bytes the sink has room for
abbrev pub room_left : SinkState → ℕ
room_left s = s.room - length s.taken

-- whether the next write of a piece of that length fails: by its number, or for want of room
abbrev pub write_fails : SinkState → ℕ → Bool
write_fails s len = is_among s.failing s.call || (room_left s == 0 && not (len == 0))

-- how many bytes the next write takes of a piece of that length, where it does not fail
abbrev pub write_count : SinkState → ℕ → ℕ
write_count s len = min (min s.step len) (room_left s)

-- the sink after a write that took these bytes
abbrev pub after_write : SinkState → List ℕ → SinkState
after_write s bytes = record s { taken = s.taken ++ bytes; call = one_more s.call }

-- the sink after a write that failed
abbrev pub after_failed_write : SinkState → SinkState
after_failed_write s = record s { call = one_more s.call; faults = one_more s.faults }
