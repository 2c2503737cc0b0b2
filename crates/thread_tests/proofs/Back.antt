-- The seats that come back from threads of their own.
use Rattle.std.proofs.Common.{◌≡◌, ℕ, ◌<◌, List, [], ◌∷◌, length, map, get_or, ap, ◌∙◌, inl, inr, suc, zero, arith}
use Rattle.std.specs.List.{All, range_with_len}
use Rattle.std.proofs.lemmas.List.Elements.{All-nil, All-from_get_or}
use Rattle.std.proofs.lemmas.List.FromFn.{get_or-map-range_with_len}
use Rattle.turn_gate.specs.Callers.{Gate, Caller, IsSeatOf}
use Rattle.turn_gate.specs.Ends.{SomeCaller}
use Rattle.thread_tests.specs.Back.{AreBack}

-- the item at a place of a list that is made from its places
pub item_at : {X : Type 0} (f : ℕ → X) (n i : ℕ) (xs : List X) (x : X) → xs ≡ map f (range_with_len 0 n) → i < n → x ≡ get_or xs i x → x ≡ f i
item_at f n i xs x are lt is = is ∙ (ap (λ (ys : List _). get_or ys i x) are ∙ get_or-map-range_with_len f 0 n i i x lt (omega arith))

module _ {S O R : Type 0} where
  some_at : (n : ℕ) (seats : List (Caller S O R)) (i : ℕ) (d : Caller S O R) → i < length seats → (get_or seats i d).number ≡ n → SomeCaller n seats
  some_at n [] i d lt is = absurd (omega (arith, lt))
  some_at n (s ∷ ss) zero d lt is = inl is
  some_at n (s ∷ ss) (suc i) d lt is = inr (some_at n ss i d (omega (arith, lt)) is)

  every_at : (gate : Gate S) (seats : List (Caller S O R)) → ((i : ℕ) (d : Caller S O R) → i < length seats → IsSeatOf gate (get_or seats i d)) → All (IsSeatOf gate) seats
  every_at gate [] each = All-nil (IsSeatOf gate)
  every_at gate (s ∷ ss) each = All-from_get_or (IsSeatOf gate) (s ∷ ss) s (λ i lt. each i s lt)

  some_there : (n : ℕ) (seats : List (Caller S O R)) → n < length seats → ((d : Caller S O R) → (get_or seats n d).number ≡ n) → SomeCaller n seats
  some_there n [] lt is = absurd (omega (arith, lt))
  some_there n (s ∷ ss) lt is = some_at n (s ∷ ss) n s lt (is s)

  -- all are back where each has come back at its place
  pub back : (gate : Gate S) (seats : List (Caller S O R)) → length seats ≡ gate.terms.seats
      → ((i : ℕ) (d : Caller S O R) → i < length seats → IsSeatOf gate (get_or seats i d) × ((get_or seats i d).number ≡ i)) → AreBack gate seats
  back gate seats count each = record {
    all = every_at gate seats (λ i d lt. (each i d lt).0);
    numbers = λ n lt. some_there n seats (omega (arith, lt, count)) (λ d. (each n d (omega (arith, lt, count))).1);
  }
