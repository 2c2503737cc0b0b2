use Rattle.std.proofs.Common.{◌≡◌, ℕ, ◌+◌, ◌-◌, ◌<◌, List, [], ◌++◌, length, take, drop, min, sym, ap, ◌∙◌, arith}
use Rattle.std.proofs.lemmas.List.{take_at, take_all, length-take, take-append-drop, drop-drop, length-drop, length-append, nil_from_length}
use Rattle.lc_base.specs.Memory.{SourceState}
use Rattle.lc_base.proofs.memory.MemSourceSource.read.Goals as goal

-- what was copied to the front of the buffer and what is left are what was left before
moved_and_left : (bytes front buf : List ℕ) (given n : ℕ) → front ≡ take n (drop given bytes) → length front ≡ n
    → drop given bytes ≡ take n (front ++ drop n buf) ++ drop (given + n) bytes
moved_and_left bytes front buf given n copied len =
    rw (take_at front (drop n buf) n len, ← drop-drop n given bytes, copied) (sym (take-append-drop n (drop given bytes)))

-- where a buffer with room got nothing, nothing was left
none_left : (bytes front buf : List ℕ) (given step n : ℕ) → n ≡ min (min step (length buf)) (length (drop given bytes)) → length front ≡ n → 0 < step
    → n ≡ 0 → 0 < length (front ++ drop n buf) → drop (given + n) bytes ≡ []
none_left bytes front buf given step n count len positive none room =
    nil_from_length (drop (given + n) bytes)
    (omega (arith, length-append front (drop n buf), length-drop n buf, length-drop given bytes, length-drop (given + n) bytes))

-- the slice of the bytes from an index on
whole_rest : (all bytes : List ℕ) (given : ℕ) → all ≡ bytes → take (length all - given) (drop given all) ≡ drop given bytes
whole_rest all bytes given same =
    take_all (length all - given) (drop given all) (omega (arith, length-drop given all)) ∙ ap (drop given) same

pub returns-clause-moved : goal.returns-clause-moved
returns-clause-moved c =
    let inside = c.self.inside in
    let buf = c.args.buf.now in
    let front = c.copy_from_slice.new.self in
    let n = c.min-count.result in
    let rest = whole_rest c.as_bytes.result.now inside.bytes inside.given c.as_bytes.ensures in
    let copied : front ≡ take n (drop inside.given inside.bytes) = c.copy_from_slice.ensures.after ∙ ap (take n) rest in
    let count : n ≡ min (min inside.step (length buf)) (length (drop inside.given inside.bytes)) =
    omega (arith, ap length rest) in
    let len : length front ≡ n = omega (arith, c.copy_from_slice.ensures.len, length-take n buf) in (
      ap (λ (s : SourceState). s.rest) (sym c.self.view_is) ∙ moved_and_left inside.bytes front buf inside.given n copied len,
      none_left inside.bytes front buf inside.given inside.step n count len c.self.invariant.1,
    )
