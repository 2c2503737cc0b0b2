-- The definitions on small histories: two callers, of which the second called twice.
use Rattle.std.proofs.Common.{◌≡◌, ℕ, ◌+◌, ◌≤◌, [], ◌∷◌, length, length-append, true, false, Option, None, Some, refl, ap, sym, ◌∙◌, inl, inr, lit<, arith}
use Rattle.std.proofs.lemmas.Bool.{eqb-false}
use mathlib.Core.Logic.{dite}
use native.Mathlib.Decide.{ℕ_discrete}
use Rattle.atomic_table.specs.Seated.{TableId}
use Rattle.turn_gate.specs.declared.entry.Entry.{Entry}
use Rattle.turn_gate.specs.declared.entry.Terms.{Terms}
use Rattle.turn_gate.specs.declared.entry.Ticket.{Ticket}
use Rattle.turn_gate.specs.History.{History, Extends, entry, calls_of, AllBelow, WithinQuota}
use Rattle.turn_gate.specs.Rule.{head_word, written, fresh, HasNumber, MayMake}
use Rattle.turn_gate.specs.Register.{value, changes, IsLegalRegister, RegisterStands}
use Rattle.turn_gate.specs.Callers.{Gate, Caller, IsSeatOf, first_caller, IsSameCaller, InOrder, own_of}
use Rattle.turn_gate.specs.Ends.{SomeCaller, OneHistory, IsPartOf}
use Rattle.turn_gate.proofs.Histories.{calls_own, calls_other}

-- a call of the register
abbrev wrote : ℕ → ℕ → ℕ → Entry ℕ ℕ
wrote who op reply = entry who op reply

abbrev ticket : ℕ → History ℕ ℕ → Ticket ℕ ℕ
ticket n calls = record { number = n; calls = calls }

-- caller 1 writes 7, caller 0 writes 7 again, caller 1 writes 9
three : History ℕ ℕ
three = wrote 1 9 7 ∷ wrote 0 7 7 ∷ wrote 1 7 0 ∷ []

own_calls : calls_of 1 three ≡ wrote 1 9 7 ∷ wrote 1 7 0 ∷ []
unfolding three
own_calls = refl

other_calls : calls_of 0 three ≡ wrote 0 7 7 ∷ []
unfolding three
other_calls = refl

goes_on : Extends three (wrote 0 7 7 ∷ wrote 1 7 0 ∷ [])
unfolding three
goes_on = (wrote 1 9 7 ∷ [], refl)

two_callers : AllBelow 2 three
unfolding three
two_callers = (omega arith, (omega arith, (omega arith, tt)))

not_one_caller : AllBelow 1 three → ⊥
unfolding three
not_one_caller b = let low = b.0 in omega arith

not_within_one : WithinQuota 1 three → ⊥
unfolding three
not_within_one w = let two = w 1 in omega arith

-- five entries and the version 3, with and without the taken bit
taken_word : head_word true 5 3 ≡ 12884901899
taken_word = refl

clear_word : head_word false 5 3 ≡ 12884901898
clear_word = refl

one_more_call : written (wrote 1 9 7 ∷ []) (ticket 1 (wrote 1 7 0 ∷ []) ∷ []) ≡ ticket 1 (wrote 1 9 7 ∷ wrote 1 7 0 ∷ []) ∷ []
one_more_call = refl

no_call : written [] (ticket 1 [] ∷ []) ≡ fresh 1 ∷ []
no_call = refl

second_number : HasNumber 4 (ticket 1 [] ∷ fresh 4 ∷ [])
second_number = (1, ticket 4 [], refl, refl)

within_two : MayMake 2 (ticket 1 (wrote 1 7 0 ∷ [])) (wrote 1 9 7 ∷ [])
within_two = (refl, omega arith)

past_the_quota : MayMake 1 (ticket 1 (wrote 1 7 0 ∷ [])) (wrote 1 9 7 ∷ []) → ⊥
past_the_quota may = let less = may.1 in omega arith

anothers_call : MayMake 2 (ticket 0 []) (wrote 1 9 7 ∷ []) → ⊥
anothers_call may = let who = may.0 in omega arith

-- the register holds 9, and was changed twice
last_value : value three ≡ 9
unfolding three
last_value = refl

two_changes : changes three ≡ 2
unfolding three
two_changes = refl

register_replies : IsLegalRegister three
unfolding three
register_replies = (refl, (refl, (refl, tt)))

register_stands : RegisterStands 9 2 3 three
unfolding three
register_stands = record { legal = (refl, (refl, (refl, tt))); number_is = refl; changed_is = refl; calls_are = refl; fewer = omega arith }

another_number : RegisterStands 7 2 3 three → ⊥
unfolding three
another_number stands = eqb-false 7 9 refl stands.number_is

-- ---- what is known of a seat

few_calls : (n : ℕ) (H : History ℕ ℕ) → length (calls_of n H) ≤ length H
few_calls n [] = omega arith
few_calls n (e ∷ H) =
    let rest = few_calls n H in
    dite (ℕ_discrete e.who n)
    (λ (is : e.who ≡ n). let more = ap length (calls_own n e H is) in omega arith)
    (λ (no : e.who ≡ n → ⊥). let same = ap length (calls_other n e H no) in omega arith)

-- no caller made more than two calls
within_two_calls : WithinQuota 2 three
unfolding three
within_two_calls n =
    dite (ℕ_discrete 1 n)
    (λ (is : 1 ≡ n).
    let newest = ap length (calls_own n (wrote 1 9 7) (wrote 0 7 7 ∷ wrote 1 7 0 ∷ []) is) in
    let middle = ap length (calls_other n (wrote 0 7 7) (wrote 1 7 0 ∷ []) (λ (no : 0 ≡ n). omega arith)) in
    let oldest = few_calls n (wrote 1 7 0 ∷ []) in
    omega arith)
    (λ (no : 1 ≡ n → ⊥).
    let newest = ap length (calls_other n (wrote 1 9 7) (wrote 0 7 7 ∷ wrote 1 7 0 ∷ []) no) in
    let others = few_calls n (wrote 0 7 7 ∷ wrote 1 7 0 ∷ []) in
    omega arith)

abbrev terms : ℕ → ℕ → Terms ℕ
terms seats quota = record { setting = 2; seats = seats; quota = quota }

abbrev legal : ℕ → History ℕ ℕ → Type 0
legal setting H = IsLegalRegister H

-- two seats with two calls each: caller 1 has seen all three calls, and made the first and the last
in_order : InOrder legal (terms 2 2) 1 three (wrote 1 9 7 ∷ wrote 1 7 0 ∷ [])
in_order = record { legal_seen = register_replies; below = two_callers; quotas = within_two_calls; own_calls = own_calls; in_reach = lit< tt }

past_its_quota : InOrder legal (terms 2 1) 1 three (wrote 1 9 7 ∷ wrote 1 7 0 ∷ []) → ⊥
past_its_quota order = not_within_one order.quotas

own_call_left_out : InOrder legal (terms 2 2) 1 three (wrote 1 7 0 ∷ []) → ⊥
unfolding three
own_call_left_out order = eqb-false 2 1 refl (ap length order.own_calls)

call_of_no_seat : InOrder legal (terms 1 2) 0 three (wrote 0 7 7 ∷ []) → ⊥
call_of_no_seat order = not_one_caller order.below

number_out_of_reach : InOrder legal (terms 2 2) 2 three [] → ⊥
number_out_of_reach order = let low = order.in_reach in omega arith

-- the second call should have had the reply 7
wrong_reply : InOrder legal (terms 2 2) 1 (wrote 1 9 8 ∷ wrote 1 7 0 ∷ []) (wrote 1 9 8 ∷ wrote 1 7 0 ∷ []) → ⊥
wrong_reply order = eqb-false 8 7 refl order.legal_seen.0

own_of_first : own_of (ticket 1 (wrote 1 7 0 ∷ []) ∷ ticket 0 (wrote 0 7 7 ∷ []) ∷ []) ≡ wrote 1 7 0 ∷ []
own_of_first = refl

-- ---- what a machine that was taken out stands for

-- a machine that is its number, and belongs to two callers
one_history : OneHistory (λ (m : ℕ) H. m ≡ value H) legal (λ m. 2) (terms 2 2) 9 three
one_history = record { stood = sym last_value; set = refl; legal_history = register_replies; below = two_callers; quotas = within_two_calls }

another_machine : OneHistory (λ (m : ℕ) H. m ≡ value H) legal (λ m. 2) (terms 2 2) 7 three → ⊥
unfolding three
another_machine one = eqb-false 7 9 refl one.stood

another_setting : OneHistory (λ (m : ℕ) H. m ≡ value H) legal (λ m. 3) (terms 2 2) 9 three → ⊥
another_setting one = eqb-false 3 2 refl one.set

another_quota : OneHistory (λ (m : ℕ) H. m ≡ value H) legal (λ m. 2) (terms 2 1) 9 three → ⊥
another_quota one = not_within_one one.quotas

-- ---- seats and callers

module _ (table : TableId) where
  abbrev gate : Gate ℕ
  gate = record { table = table; terms = terms 2 2 }

  abbrev caller : ℕ → History ℕ ℕ → History ℕ ℕ → Caller ℕ ℕ ℕ
  caller number seen own = record { table = table; terms = Some (terms 2 2); number = number; seen = seen; own = own }

  first : first_caller gate 1 ≡ caller 1 [] []
  first = refl

  abbrev quota_of : Option (Terms ℕ) → ℕ
  quota_of None = 0
  quota_of (Some t) = t.quota

  seat_of : IsSeatOf gate (caller 1 three [])
  seat_of = (refl, refl)

  seat_of_other_terms : IsSeatOf (record gate { terms = terms 2 1 }) (caller 1 three []) → ⊥
  seat_of_other_terms seat = eqb-false 2 1 refl (ap quota_of seat.1)

  same : IsSameCaller (caller 1 [] []) (caller 1 three (wrote 1 9 7 ∷ []))
  same = (refl, refl, refl)

  not_same : IsSameCaller (caller 1 [] []) (caller 0 [] []) → ⊥
  not_same is = eqb-false 0 1 refl is.2

  -- it has seen all but the last call, and its calls are both that the history has of it
  part_of : IsPartOf three (caller 1 (wrote 0 7 7 ∷ wrote 1 7 0 ∷ []) (wrote 1 9 7 ∷ wrote 1 7 0 ∷ []))
  part_of = (goes_on, own_calls)

  part_without_a_call : IsPartOf three (caller 1 (wrote 0 7 7 ∷ wrote 1 7 0 ∷ []) (wrote 1 7 0 ∷ [])) → ⊥
  unfolding three
  part_without_a_call part = eqb-false 2 1 refl (ap length part.1)

  -- the newest call alone is no beginning
  no_beginning : IsPartOf (wrote 1 7 0 ∷ []) (caller 0 three []) → ⊥
  unfolding three
  no_beginning part = let longer : 1 ≡ length part.0.0 + 3 = ap length part.0.1 ∙ length-append part.0.0 three in omega arith

  second_caller : SomeCaller 1 (caller 0 [] [] ∷ caller 1 [] [] ∷ [])
  second_caller = inr (inl refl)

  no_third_caller : SomeCaller 2 (caller 0 [] [] ∷ caller 1 [] [] ∷ []) → ⊥
  no_third_caller (inl is) = eqb-false 0 2 refl is
  no_third_caller (inr (inl is)) = eqb-false 1 2 refl is
  no_third_caller (inr (inr none)) = none
