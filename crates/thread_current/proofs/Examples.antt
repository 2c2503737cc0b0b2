-- The definitions on small histories.
use Rattle.std.proofs.Common.{◌≡◌, ℕ, ◌+◌, true, false, List, [], ◌∷◌, ◌++◌, length, Some, None, Result, Ok, Err, refl, ap, arith, length-append}
use Rattle.std.proofs.lemmas.Bool.{eqb-false}
use Rattle.atomic_table.specs.Seated.{TableId}
use Rattle.mask_compose.specs.Parts.{Parts}
use Rattle.turn_gate.specs.History as turns
use Rattle.turn_gate.specs.Callers.{Gate}
use Rattle.lc_base.specs.declared.handle.Handle.{Handle}
use Rattle.lc_base.specs.declared.handle.Named.TheVariants.{Global, Of}
use Rattle.handle_table.specs.declared.op.Op.{Op}
use Rattle.handle_table.specs.declared.op.Op.TheVariants as ops
use Rattle.handle_table.specs.declared.op.Reply.{Reply}
use Rattle.handle_table.specs.declared.op.Reply.TheVariants as replies
use Rattle.handle_table.specs.declared.op.Refusal.TheVariants as refusals
use Rattle.handle_table.specs.Entry as data_of
use Rattle.handle_table.specs.Answer.{IsLegal}
use Rattle.thread_current.specs.declared.shared.Fault.{Fault}
use Rattle.thread_current.specs.Seen.{entries_of, version_after, newest_object, May}
use Rattle.thread_current.specs.Thread.{Thread, GoesOnFrom, Answered, Leaves, SawMore, Keeps, KeepsSelection, KeepsHolds}
use Rattle.thread_current.specs.Causes.{refusal_in, IsNeverMade, IsStale, IsThere, IsHeldAlready}

-- the object whose parts are all this number
abbrev all_of : ℕ → Parts
all_of n = record { ctype = n; numeric = n; monetary = n; time = n; messages = n }

abbrev numbers : List ℕ
numbers = 1 ∷ 1 ∷ 1 ∷ 1 ∷ 1 ∷ []

-- two threads of one row, and a shelf of two names
abbrev setting : data_of.Setting
setting = record {
  threads = 2;
  rows = 1;
  generations = 9;
  opening = record { object = all_of 0; available = 31 } ∷ record { object = all_of 7; available = 31 } ∷ [];
}

-- thread 0 sets the global locale, and then thread 1 frees it, which is refused
abbrev calls : turns.History (Op ℕ) (Reply ℕ)
calls = turns.entry 1 (ops.Free Global) (replies.Refused refusals.GlobalHandle) ∷ turns.entry 0 (ops.SetGlobal 31 numbers) (replies.Set 1 (all_of 7)) ∷ []

-- the same calls in the same order
entries : entries_of calls ≡ record { who = 1; op = data_of.Free Global; reply = data_of.Refused refusals.GlobalHandle }
    ∷ record { who = 0; op = data_of.SetGlobal 31 numbers; reply = data_of.Set 1 (all_of 7) } ∷ []
entries = refl

legal : IsLegal setting (entries_of calls)
legal = (refl, (refl, tt))

one_change : version_after calls ≡ 1
one_change = refl

newest : newest_object setting calls ≡ all_of 7
newest = refl

may_free : May {P = ℕ} setting 1 (ops.Free Global)
may_free = (omega arith, tt)

no_third_thread : May {P = ℕ} setting 2 (ops.Free Global) → ⊥
no_third_thread may = let low = may.0 in omega arith

no_ninth_cell : May {P = ℕ} setting 0 (ops.Post 8 Global) → ⊥
no_ninth_cell may = let low = may.1 in omega arith

-- ---- thread 0 makes an object, holds it and frees it

abbrev object : Handle
object = record { owner = 0; row = 0; generation = 1 }

abbrev by : ℕ → data_of.Op → data_of.Reply → data_of.Entry
by who op reply = record { who = who; op = op; reply = reply }

abbrev making : data_of.History
making = by 0 (data_of.New 31 numbers None) (data_of.Made object) ∷ []

abbrev held : data_of.History
held = by 0 (data_of.Hold (Of object)) (data_of.Held (all_of 7)) ∷ making

abbrev freed : data_of.History
freed = by 0 (data_of.Free (Of object)) data_of.Freed ∷ held

never_made : IsNeverMade [] (Of object)
never_made = refl

not_never_made : IsNeverMade making (Of object) → ⊥
not_never_made is = let no : true ≡ false = is in cc no

not_never_made_global : IsNeverMade [] Global → ⊥
not_never_made_global is = is

stale : IsStale freed (Of object)
stale = (refl, refl)

not_stale_yet : IsStale held (Of object) → ⊥
not_stale_yet is = let no : true ≡ false = is.1 in cc no

there : IsThere held (Of object)
there = (refl, refl)

global_there : IsThere [] Global
global_there = tt

not_there : IsThere freed (Of object) → ⊥
not_there is = let no : false ≡ true = is.1 in cc no

held_already : IsHeldAlready held 0 (Of object)
held_already = ((refl, refl), refl)

not_by_another : IsHeldAlready held 1 (Of object) → ⊥
not_by_another is = let no : false ≡ true = is.1 in cc no

abbrev refused : Result ℕ Fault
refused = Err (record { place = 3; refusal = refusals.Stale })

why_refused : refusal_in refused ≡ Some refusals.Stale
why_refused = refl

not_refused : refusal_in {X = ℕ} (Ok 3) ≡ None
not_refused = refl

goes_on : GoesOnFrom freed making
goes_on = (by 0 (data_of.Free (Of object)) data_of.Freed ∷ by 0 (data_of.Hold (Of object)) (data_of.Held (all_of 7)) ∷ [], refl)

not_back : GoesOnFrom making held → ⊥
not_back is =
    let lengths : 1 ≡ length (is.0 ++ held) = ap length is.1 in
    let more : length (is.0 ++ held) ≡ length is.0 + 2 = length-append is.0 held in
    omega arith

-- ---- threads of a table

module _ (table : TableId) where
  abbrev gate : Gate data_of.Setting
  gate = record { table = table; terms = record { setting = setting; seats = 2; quota = 9 } }

  -- the thread of this number that has seen this, with these calls
  abbrev thread : ℕ → data_of.History → data_of.History → Thread
  thread number seen own = record { table = table; terms = Some gate.terms; number = number; seen = seen; calls = own; cached = 0 }

  abbrev used : data_of.Entry
  used = by 1 (data_of.Use (Of object)) (data_of.Was Global (Some (all_of 7)))

  -- thread 1 selects the object, of which it had not heard
  answered : Answered gate (thread 1 [] []) (thread 1 (used ∷ making) (used ∷ [])) (data_of.Use (Of object)) 1 (data_of.Was Global (Some (all_of 7)))
  answered = record {
    same = record { table = refl; terms = refl; number = refl };
    later = (making, refl);
    place_is = refl;
    reply_is = refl;
    seen = refl;
    calls = refl;
  }

  not_this_place : Answered gate (thread 1 [] []) (thread 1 (used ∷ making) (used ∷ [])) (data_of.Use (Of object)) 0 (data_of.Was Global (Some (all_of 7))) → ⊥
  not_this_place made = eqb-false 0 1 refl made.place_is

  not_this_reply : Answered gate (thread 1 [] []) (thread 1 (used ∷ making) (used ∷ [])) (data_of.Use (Of object)) 1 (data_of.Refused refusals.Stale) → ⊥
  not_this_reply made = let no : data_of.Refused refusals.Stale ≡ data_of.Was Global (Some (all_of 7)) = made.reply_is in cc no

  saw_more : SawMore (thread 1 [] []) (thread 1 making [])
  saw_more = record { same = record { table = refl; terms = refl; number = refl }; later = (making, refl); calls = refl }

  not_by_a_call : SawMore (thread 1 making []) (thread 1 (used ∷ making) (used ∷ [])) → ⊥
  not_by_a_call saw = let no : used ∷ [] ≡ [] = saw.calls in cc no

  keeps : Keeps (thread 1 making []) (thread 1 held [])
  keeps = record { selection = record { selection = refl; own = refl }; holds = λ h. refl; cached = refl }

  not_the_version : Keeps (thread 1 making []) (record (thread 1 held []) { cached = 1 }) → ⊥
  not_the_version is = eqb-false 1 0 refl is.cached

  not_the_selection : KeepsSelection (thread 1 making []) (thread 1 (used ∷ making) (used ∷ [])) → ⊥
  not_the_selection is = let no : Of object ≡ Global = is.selection in cc no

  not_the_holds : KeepsHolds (thread 0 making making) (thread 0 held held) → ⊥
  not_the_holds is = let no : true ≡ false = is object in cc no

  -- ---- what calls leave

  -- the thread of this number that read this version last, where all that it has seen are its own calls
  abbrev with_version : ℕ → ℕ → data_of.History → Thread
  with_version number version seen = record (thread number seen seen) { cached = version }

  leaves_selected : Leaves (thread 1 [] []) (thread 1 (used ∷ making) (used ∷ [])) (data_of.Use (Of object)) (data_of.Was Global (Some (all_of 7)))
  leaves_selected = record { after = record { selection = refl; own = refl; holds = λ h. refl }; cached = refl }

  -- a Use that is refused selects nothing
  abbrev refused_use : data_of.Entry
  refused_use = by 1 (data_of.Use (Of object)) (data_of.Refused refusals.NeverMade)

  leaves_unselected : Leaves (with_version 1 0 []) (with_version 1 0 (refused_use ∷ [])) (data_of.Use (Of object)) (data_of.Refused refusals.NeverMade)
  leaves_unselected = record { after = record { selection = refl; own = refl; holds = λ h. refl }; cached = refl }

  not_selected : Leaves (with_version 1 0 []) (thread 1 (used ∷ making) (used ∷ [])) (data_of.Use (Of object)) (data_of.Refused refusals.NeverMade) → ⊥
  not_selected is = let no : Of object ≡ Global = is.after.selection in cc no

  leaves_held : Leaves (with_version 0 0 making) (with_version 0 0 held) (data_of.Hold (Of object)) (data_of.Held (all_of 7))
  leaves_held = record { after = record { selection = refl; own = refl; holds = λ h. refl }; cached = refl }

  not_unheld : Leaves (with_version 0 0 making) (with_version 0 0 making) (data_of.Hold (Of object)) (data_of.Held (all_of 7)) → ⊥
  not_unheld is = let no : false ≡ true = is.after.holds object in cc no

  abbrev released : data_of.History
  released = by 0 (data_of.Release (Of object)) data_of.Released ∷ held

  leaves_released : Leaves (with_version 0 0 held) (with_version 0 0 released) (data_of.Release (Of object)) data_of.Released
  leaves_released = record { after = record { selection = refl; own = refl; holds = λ h. refl }; cached = refl }

  -- a thread that changes the global locale has read what it made
  abbrev changed : data_of.History
  changed = by 0 (data_of.SetGlobal 31 numbers) (data_of.Set 1 (all_of 7)) ∷ []

  leaves_read : Leaves (with_version 0 0 []) (with_version 0 1 changed) (data_of.SetGlobal 31 numbers) (data_of.Set 1 (all_of 7))
  leaves_read = record { after = record { selection = refl; own = refl; holds = λ h. refl }; cached = refl }

  not_unread : Leaves (with_version 0 0 []) (with_version 0 0 changed) (data_of.SetGlobal 31 numbers) (data_of.Set 1 (all_of 7)) → ⊥
  not_unread is = eqb-false 0 1 refl is.cached
