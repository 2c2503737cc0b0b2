-- Turns: how many there are, whose they are, and what they need of the table.
use Rattle.std.proofs.Common.{◌≡◌, ℕ, suc, ◌+◌, ◌*◌, ◌<◌, ◌≤◌, Bool, true, false, cond, not, List, [], ◌∷◌, ◌++◌, length, Option, Some, None, refl, ap, subst, ◌∙◌, arith, length-append}
use Rattle.std.specs.Prelude.{◌==◌, filter, flat_map, All, slice_index_or}
use Rattle.std.specs.List.{range_with_len}
use Rattle.std.proofs.Math.Nat.{mul-suc}
use Rattle.std.proofs.lemmas.List.{length-map}
use Rattle.std.proofs.lemmas.List.Elements.{All-nil, All-append, All-filter, All-map, All-weaker, All-from_recursion}
use Rattle.std.proofs.lemmas.List.FromFn.{length-range_with_len}
use Rattle.std.proofs.lemmas.List.Sums.{length-filter, count_by-le-length}
use Rattle.mask_compose.specs.Parts.{Parts}
use Rattle.lc_base.specs.declared.handle.Named.{Named}
use Rattle.lc_base.specs.declared.handle.Named.TheVariants.{Global, Of}
use Rattle.handle_table.specs.Entry.{History, names, is_accepted}
use Rattle.script_lang.specs.declared.bundle.Bundle.{Bundle}
use Rattle.script_commands.specs.declared.command.Placed.{Placed}
use Rattle.script_lang.specs.Accepted.{IsPlaced, IsAccepted}
use Rattle.script_wishes.specs.declared.holds.OpenHold.{OpenHold}
use Rattle.script_wishes.specs.declared.holds.HoldChange.{HoldChange}
use Rattle.script_wishes.specs.declared.holds.HoldChange.TheVariants as changes
use Rattle.script_wishes.specs.Holds.{object_held, with_hold, hold_change, changed, holds_after, open_holds}
use Rattle.script_wishes.specs.Seen.{TurnFits}
use Rattle.script_wishes.specs.Turns.{Turn, first_numbers, in_round, in_thread, turn_of, thread_turns, round_turns, command_turns, closing_turn, releases, closing, closing_turns, Releases, Ends}
use Rattle.script_serial.specs.Session.{ThreadData}
use Rattle.script_plan.proofs.RoundTurns.{flat_all}

-- ---- lists of lists

flat_bound : {X A : Type 0} (k : ℕ) (f : X → List A) (xs : List X) → ((x : X) → length (f x) ≤ k) → length (flat_map f xs) ≤ k * length xs
flat_bound k f [] h = omega arith
flat_bound k f (x ∷ xs) h =
    let here = h x in
    let rest = flat_bound k f xs h in
    let long = length-append (f x) (flat_map f xs) in
    let more = mul-suc k (length xs) in
    omega arith

filter_short : {X : Type 0} (p : X → Bool) (xs : List X) → length (filter p xs) ≤ length xs
filter_short p xs = let same = length-filter p xs in let few = count_by-le-length p xs in omega arith

-- ---- the turns of commands

thread_short : (ps : List Placed) (thread : ℕ) → length (thread_turns ps thread) ≤ length ps
thread_short ps thread =
    let same = length-map (in_thread ps thread) turn_of in
    let few = filter_short (λ (p : Placed). p.thread == thread) ps in
    omega arith

round_short : (threads k : ℕ) (ps : List Placed) (round : ℕ) → length ps ≤ k → length (round_turns threads ps round) ≤ k * threads
round_short threads k ps round le =
    let few = filter_short (λ (p : Placed). p.round == round) ps in
    let all = flat_bound k (thread_turns (in_round round ps)) (first_numbers threads) (λ thread. let one = thread_short (in_round round ps) thread in omega arith) in
    let n : length (first_numbers threads) ≡ threads = length-range_with_len 0 threads in
    subst (λ (m : ℕ). length (round_turns threads ps round) ≤ k * m) n all

-- how many turns the commands of an accepted bundle have at most: a bound that is far from what comes
pub few_turns : (b : Bundle) → IsAccepted b → length (command_turns b) ≤ 20480000
few_turns b accepted =
    let few : length b.commands ≤ 20000 = accepted.few_commands in
    let threads : length b.threads ≤ 16 = accepted.few_threads in
    let rounds : b.rounds ≤ 64 = accepted.few_rounds in
    let each : (round : ℕ) → length (round_turns (length b.threads) b.commands round) ≤ 320000 = λ round.
    let one = round_short (length b.threads) 20000 b.commands round few in omega arith
    in
    let all = flat_bound 320000 (round_turns (length b.threads) b.commands) (range_with_len 1 b.rounds) each in
    let n = length-range_with_len 1 b.rounds in
    omega arith

turn_fits : (threads rounds : ℕ) (p : Placed) → IsPlaced threads rounds p → TurnFits threads (turn_of p)
turn_fits threads rounds p placed = record { thread = placed.thread; task = placed.in_range }

round_fits : (threads rounds : ℕ) (ps : List Placed) (round : ℕ) → All (IsPlaced threads rounds) ps → All (TurnFits threads) (round_turns threads ps round)
round_fits threads rounds ps round placed =
    flat_all (TurnFits threads) (thread_turns (in_round round ps)) (first_numbers threads) (λ thread.
    All-map (TurnFits threads) turn_of (in_thread (in_round round ps) thread)
    (All-weaker (IsPlaced threads rounds) (λ p. TurnFits threads (turn_of p)) (turn_fits threads rounds) (in_thread (in_round round ps) thread)
    (All-filter (λ (p : Placed). p.thread == thread) (IsPlaced threads rounds) (in_round round ps)
    (All-filter (λ (p : Placed). p.round == round) (IsPlaced threads rounds) ps placed))))

pub turns_fit : (b : Bundle) → IsAccepted b → All (TurnFits (length b.threads)) (command_turns b)
turns_fit b accepted =
    flat_all (TurnFits (length b.threads)) (round_turns (length b.threads) b.commands) (range_with_len 1 b.rounds) (λ round.
    round_fits (length b.threads) b.rounds b.commands round accepted.commands)

-- ---- the turns that close the threads

with_short : (before : List OpenHold) (n : Named) (object : Option Parts) → length (with_hold before n object) ≤ length before + 1
with_short before Global object = omega arith
with_short before (Of h) None = omega arith
with_short before (Of h) (Some object) = let long = length-append before (record { handle = h; object = object } ∷ []) in omega arith

changed_short : (before : List OpenHold) (object : Option Parts) (change : HoldChange) → length (changed before object change) ≤ length before + 1
changed_short before object changes.Keep = omega arith
changed_short before object (changes.Open n) = with_short before n object
changed_short before object (changes.Close n) = let few = filter_short (λ (o : OpenHold). not (names n o.handle)) before in omega arith
changed_short before object changes.CloseAll = omega arith

one_of : (b : Bool) (xs ys : List OpenHold) (n : ℕ) → length xs ≤ n → length ys ≤ n → length (cond b xs ys) ≤ n
one_of true xs ys n h k = h
one_of false xs ys n h k = k

-- a history has no more open Holds than entries
pub few_holds : (H : History) (t : ℕ) → length (open_holds H t) ≤ length H
few_holds [] t = omega arith
few_holds (e ∷ H) t =
    let before = few_holds H t in
    let after = changed_short (open_holds H t) (object_held e.reply) (hold_change e.op) in
    one_of (e.who == t) (holds_after (open_holds H t) e.op e.reply) (open_holds H t) (suc (length H))
    (one_of (is_accepted e.reply) (changed (open_holds H t) (object_held e.reply) (hold_change e.op)) (open_holds H t) (suc (length H)) (omega arith) (omega arith))
    (omega arith)

closing_length : (round thread : ℕ) (holds : List OpenHold) → length (closing round thread holds) ≡ length holds + 1
closing_length round thread holds =
    let long = length-append (releases round thread holds) (closing_turn round thread Ends ∷ []) in
    let same = length-map holds (λ (o : OpenHold). closing_turn round thread (Releases o.handle)) in
    omega arith

-- how many turns close the threads at most, where a history has at most so many entries
pub few_closing : (b : Bundle) (H : History) → IsAccepted b → length H ≤ 40960000 → length (closing_turns b H) ≤ 655360016
few_closing b H accepted short =
    let threads : length b.threads ≤ 16 = accepted.few_threads in
    let each : (t : ℕ) → length (closing (b.rounds + 1) t (open_holds H t)) ≤ 40960001 = λ t.
    let few = few_holds H t in let long = closing_length (b.rounds + 1) t (open_holds H t) in omega arith
    in
    let all = flat_bound 40960001 (λ (t : ℕ). closing (b.rounds + 1) t (open_holds H t)) (first_numbers (length b.threads)) each in
    let n = length-range_with_len 0 (length b.threads) in
    omega arith

releases_fit : (threads round thread : ℕ) (holds : List OpenHold) → thread < threads → All (TurnFits threads) (closing round thread holds)
releases_fit threads round thread holds lt =
    All-append (TurnFits threads) (releases round thread holds) (closing_turn round thread Ends ∷ [])
    (All-map (TurnFits threads) (λ (o : OpenHold). closing_turn round thread (Releases o.handle)) holds (λ k d l. record { thread = lt; task = tt }))
    (All-from_recursion (TurnFits threads) (closing_turn round thread Ends ∷ []) (record { thread = lt; task = tt }, tt))

-- threads by their numbers, from one on
abbrev pub AreFrom : ℕ → List ThreadData → Type 0
AreFrom n threads = (i : ℕ) (d : ThreadData) → i < length threads → (slice_index_or threads i d).side.number ≡ n + i

-- the turns that close these threads are those that the history says
closing_from : (round : ℕ) (H : History) (n : ℕ) (threads : List ThreadData) → AreFrom n threads → All (λ (t : ThreadData). t.side.holds ≡ open_holds H t.side.number) threads
    → flat_map (λ (t : ThreadData). closing round t.side.number t.side.holds) threads ≡ flat_map (λ (t : ℕ). closing round t (open_holds H t)) (range_with_len n (length threads))
closing_from round H n [] numbered holds = refl
closing_from round H n (t ∷ ts) numbered holds =
    let here : t.side.number ≡ n = let own = numbered 0 t (omega arith) in omega (arith, own) in
    let held : t.side.holds ≡ open_holds H t.side.number = holds 0 t (omega arith) in
    let later : AreFrom (n + 1) ts = λ i d lt. let own = numbered (suc i) d (omega (arith, lt)) in omega (arith, own) in
    let rest = closing_from round H (n + 1) ts later (λ i d lt. holds (suc i) d (omega (arith, lt))) in
    ap (λ (hs : List OpenHold). closing round t.side.number hs ++ flat_map (λ (u : ThreadData). closing round u.side.number u.side.holds) ts) held
    ∙ ap (λ (m : ℕ). closing round m (open_holds H m) ++ flat_map (λ (u : ThreadData). closing round u.side.number u.side.holds) ts) here
    ∙ ap (λ (more : List Turn). closing round n (open_holds H n) ++ more) rest

pub closing_is : (b : Bundle) (H : History) (round : ℕ) (threads : List ThreadData) → round ≡ b.rounds + 1 → length threads ≡ length b.threads
    → AreFrom 0 threads → All (λ (t : ThreadData). t.side.holds ≡ open_holds H t.side.number) threads
    → flat_map (λ (t : ThreadData). closing round t.side.number t.side.holds) threads ≡ closing_turns b H
closing_is b H round threads last same numbered holds =
    closing_from round H 0 threads numbered holds
    ∙ ap (λ (n : ℕ). flat_map (λ (t : ℕ). closing round t (open_holds H t)) (range_with_len 0 n)) same
    ∙ ap (λ (r : ℕ). flat_map (λ (t : ℕ). closing r t (open_holds H t)) (first_numbers (length b.threads))) last

pub closings_fit : (n round m : ℕ) (threads : List ThreadData) → AreFrom m threads → m + length threads ≤ n → All (TurnFits n) (flat_map (λ (t : ThreadData). closing round t.side.number t.side.holds) threads)
closings_fit n round m [] numbered le = All-nil (TurnFits n)
closings_fit n round m (t ∷ ts) numbered le =
    let here : t.side.number ≡ m = let own = numbered 0 t (omega arith) in omega (arith, own) in
    let later : AreFrom (m + 1) ts = λ i d lt. let own = numbered (suc i) d (omega (arith, lt)) in omega (arith, own) in
    All-append (TurnFits n) (closing round t.side.number t.side.holds) (flat_map (λ (u : ThreadData). closing round u.side.number u.side.holds) ts)
    (releases_fit n round t.side.number t.side.holds (omega (arith, here, le)))
    (closings_fit n round (m + 1) ts later (omega (arith, le)))
