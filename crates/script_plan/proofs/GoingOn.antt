-- Histories that go on, and the calls that are found at places.
use Rattle.std.proofs.Common.{◌≡◌, ℕ, ◌≤◌, Bool, List, [], ◌∷◌, ◌++◌, map, find, zip, Option, Some, None, Result, refl, sym, ap, subst, ◌∙◌, arith, append_assoc, zero, suc, inl, inr}
use Rattle.std.specs.Prelude.{◌==◌}
use Rattle.std.proofs.lemmas.Bool.{cases_lt}
use Rattle.handle_table.specs.Entry.{Entry, History, Setting}
use Rattle.handle_table.specs.Answer.{entry}
use Rattle.script_out.specs.declared.output.Why.{Why}
use Rattle.script_wishes.specs.Wishes.{Wish, ops_of}
use Rattle.script_plan.specs.Prints.{PlacedCall, call_of, with_placed, history_below}

-- ---- histories that go on

pub record GoesOnFrom (H F : History) : Type 0 where
  pub more : History
  pub is : F ≡ more ++ H

pub goes_nowhere : (H : History) → GoesOnFrom H H
goes_nowhere H = record { more = []; is = refl }

pub one_entry : (H : History) (e : Entry) → GoesOnFrom H (e ∷ H)
one_entry H e = record { more = e ∷ []; is = refl }

pub goes_on : (H G F : History) → GoesOnFrom H G → GoesOnFrom G F → GoesOnFrom H F
goes_on H G F first second = record {
  more = second.more ++ first.more;
  is = second.is ∙ ap (λ (K : History). second.more ++ K) first.is ∙ sym (append_assoc second.more first.more H);
}

-- ---- calls at their places

abbrev pub is_at : ℕ → PlacedCall → Bool
is_at n call = call.place == n

-- the calls of a thread at these places, by what it wishes
abbrev pub wished_calls : ℕ → List ℕ → Result Wish Why → List PlacedCall
wished_calls thread at w = map (call_of thread) (zip at (ops_of w))

placed_on : (c : Setting) (H : History) (call : Option PlacedCall) → GoesOnFrom H (with_placed c H call)
placed_on c H None = goes_nowhere H
placed_on c H (Some call) = one_entry H (entry c H call.thread call.op)

pub below_on : (c : Setting) (calls : List PlacedCall) (a b : ℕ) → a ≤ b → GoesOnFrom (history_below c calls a) (history_below c calls b)
below_on c calls a zero le = let none : a ≡ 0 = omega (arith, le) in subst (λ (n : ℕ). GoesOnFrom (history_below c calls n) []) (sym none) (goes_nowhere [])
below_on c calls a (suc b) le =
    elim (cases_lt a (suc b)) [
      | inl lt ↦
          goes_on (history_below c calls a) (history_below c calls b) (history_below c calls (suc b)) (below_on c calls a b (omega (arith, lt)))
          (placed_on c (history_below c calls b) (find (λ (call : PlacedCall). call.place == b) calls))
      | inr ge ↦ let same : a ≡ suc b = omega (arith, le, ge) in subst (λ (n : ℕ). GoesOnFrom (history_below c calls a) (history_below c calls n)) same (goes_nowhere (history_below c calls a))
    ]
