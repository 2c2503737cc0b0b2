-- The rounds of the turns of commands, and of those that close the threads.
use Rattle.std.proofs.Common.{◌≡◌, ℕ, suc, ◌+◌, ◌<◌, ◌≤◌, true, List, [], ◌∷◌, ◌++◌, length, refl, ap, ◌∙◌, arith, zero}
use Rattle.std.specs.Prelude.{◌==◌, flat_map, All}
use Rattle.std.specs.List.{range_with_len}
use Rattle.std.proofs.lemmas.List.Elements.{All-nil, All-append, All-filter, All-map, All-weaker, All-cons}
use Rattle.handle_table.specs.Entry.{History}
use Rattle.script_lang.specs.declared.bundle.Bundle.{Bundle}
use Rattle.script_commands.specs.declared.command.Placed.{Placed}
use Rattle.script_wishes.specs.declared.holds.OpenHold.{OpenHold}
use Rattle.script_wishes.specs.Holds.{open_holds}
use Rattle.script_wishes.specs.Turns.{Turn, first_numbers, in_round, in_thread, turn_of, thread_turns, round_turns, command_turns, closing_turn, releases, closing, closing_turns, Releases, Ends}
use Rattle.std.proofs.lemmas.Bool.{eqb-true}
use Rattle.script_plan.proofs.LineLists.{filter_true}

-- ---- lists of lists

flat_none : {X A : Type 0} (f : X → List A) (xs : List X) → ((x : X) → f x ≡ []) → flat_map f xs ≡ []
flat_none f [] h = refl
flat_none f (x ∷ xs) h = ap (λ (ys : List _). ys ++ flat_map f xs) (h x) ∙ flat_none f xs h

pub flat_all : {X A : Type 0} (P : A → Type 0) (f : X → List A) (xs : List X) → ((x : X) → All P (f x)) → All P (flat_map f xs)
flat_all P f [] h = All-nil P
flat_all P f (x ∷ xs) h = All-append P (f x) (flat_map f xs) (h x) (flat_all P f xs h)

-- ---- rounds

-- the turns of one round
abbrev pub AreOf : ℕ → List Turn → Type 0
AreOf round turns = All (λ (t : Turn). t.round ≡ round) turns

pub round_is : (threads : ℕ) (ps : List Placed) (round : ℕ) → AreOf round (round_turns threads ps round)
round_is threads ps round =
    let those : List Placed = in_round round ps in
    flat_all (λ (t : Turn). t.round ≡ round) (thread_turns those) (first_numbers threads) (λ thread.
    All-map (λ (t : Turn). t.round ≡ round) turn_of (in_thread those thread)
    (All-filter (λ (p : Placed). p.thread == thread) (λ (p : Placed). p.round ≡ round) those
    (All-weaker (λ (p : Placed). (p.round == round) ≡ true) (λ (p : Placed). p.round ≡ round) (λ p is. eqb-true p.round round is) those
    (filter_true (λ (p : Placed). p.round == round) ps))))

-- turns of the rounds from one on, so many
abbrev pub AreWithin : ℕ → ℕ → List Turn → Type 0
AreWithin from n turns = All (λ (t : Turn). (from ≤ t.round) × (t.round < from + n)) turns

pub rounds_within : (threads : ℕ) (ps : List Placed) (from n : ℕ) → AreWithin from n (flat_map (round_turns threads ps) (range_with_len from n))
rounds_within threads ps from zero = All-nil (λ (t : Turn). (from ≤ t.round) × (t.round < from + 0))
rounds_within threads ps from (suc n) =
    let Within : Turn → Type 0 = λ (t : Turn). (from ≤ t.round) × (t.round < from + suc n) in
    All-append Within (round_turns threads ps from) (flat_map (round_turns threads ps) (range_with_len (from + 1) n))
    (All-weaker (λ (t : Turn). t.round ≡ from) Within (λ t is. (omega (arith, is), omega (arith, is))) (round_turns threads ps from) (round_is threads ps from))
    (All-weaker (λ (t : Turn). (from + 1 ≤ t.round) × (t.round < from + 1 + n)) Within (λ t is. let low = is.0 in let high = is.1 in (omega (arith, low), omega (arith, high)))
    (flat_map (round_turns threads ps) (range_with_len (from + 1) n)) (rounds_within threads ps (from + 1) n))

closing_is_of : (round thread : ℕ) (holds : List OpenHold) → AreOf round (closing round thread holds)
closing_is_of round thread holds =
    All-append (λ (t : Turn). t.round ≡ round) (releases round thread holds) (closing_turn round thread Ends ∷ [])
    (All-map (λ (t : Turn). t.round ≡ round) (λ (o : OpenHold). closing_turn round thread (Releases o.handle)) holds (λ k d l. refl))
    (All-cons (λ (t : Turn). t.round ≡ round) (closing_turn round thread Ends) [] refl (All-nil (λ (t : Turn). t.round ≡ round)))

pub closing_round : (b : Bundle) (H : History) → AreOf (b.rounds + 1) (closing_turns b H)
closing_round b H = flat_all (λ (t : Turn). t.round ≡ b.rounds + 1) (λ (t : ℕ). closing (b.rounds + 1) t (open_holds H t)) (first_numbers (length b.threads)) (λ t. closing_is_of (b.rounds + 1) t (open_holds H t))

-- ---- where there is no thread

-- without a thread there is no turn
pub no_turns : (b : Bundle) → b.threads ≡ [] → command_turns b ≡ []
no_turns b none =
    flat_none (round_turns (length b.threads) b.commands) (range_with_len 1 b.rounds) (λ round. ap (λ (n : ℕ). round_turns n b.commands round) (ap length none))

-- without a thread there is nothing to close
pub no_closing_turns : (b : Bundle) (H : History) → b.threads ≡ [] → closing_turns b H ≡ []
no_closing_turns b H none = ap (λ (n : ℕ). flat_map (λ (t : ℕ). closing (b.rounds + 1) t (open_holds H t)) (first_numbers n)) (ap (λ (names : List (List ℕ)). length names) none)
