-- What a change of the global locale promises.
use Rattle.std.proofs.Common.{◌≡◌, ℕ, List, [], Option, Some, None, Result, Ok, Err, sym, subst}
use Rattle.std.proofs.Math.Logic.{◌↔◌}
use Rattle.std.specs.Prelude.{IfOk, IfErr, MatchResult}
use Rattle.mask_compose.specs.Parts.{Parts}
use Rattle.turn_gate.specs.Callers.{Gate}
use Rattle.lc_base.specs.declared.category.Category.{Category}
use Rattle.handle_table.specs.declared.op.Refusal.{Refusal}
use Rattle.handle_table.specs.declared.op.Refusal.TheVariants.{NoData}
use Rattle.handle_table.specs.Entry.{Reply, SetGlobal, Set, Refused, Setting}
use Rattle.handle_table.specs.Shelf.{lacking}
use Rattle.handle_table.specs.History.{sets, global_at}
use Rattle.handle_table.specs.Answer.{unless}
use Rattle.thread_current.specs.declared.shared.Fault.{Fault}
use Rattle.thread_current.specs.Thread.{Thread, Answered, Leaves, KeepsSelection, KeepsHolds, before}
use Rattle.thread_current.specs.Causes.{refusal_in, IsOfChange}
use Rattle.thread_current.proofs.Calls.{set_done}
use Rattle.thread_current.proofs.Refusals.{reason_in, reason_is, none_there, data_where}

-- a refusal, or the reply with the new version
pub of_change : (o : Option Refusal) (v : ℕ) (x : Parts) (reply : Reply) → reply ≡ unless o (Set v x) → IsOfChange reply
of_change None v x reply is = subst IsOfChange (sym is) tt
of_change (Some refusal) v x reply is = subst IsOfChange (sym is) tt

-- the result of a change, by its place and its reply
abbrev pub IsResult : ℕ → Reply → Result (ℕ × ℕ) Fault → Type 0
IsResult place reply result = MatchResult result (λ r. (r.0 ≡ place) × ((object : Parts) × (reply ≡ Set r.1 object)))
    (λ f. (f.place ≡ place) × (reply ≡ Refused f.refusal))

pub record Changed (gate : Gate Setting) (old new : Thread) (mask : ℕ) (numbers : List ℕ) (result : Result (ℕ × ℕ) Fault) : Type 0 where
  pub made : IfOk result (λ r. Answered gate old new (SetGlobal mask numbers) r.0 (Set r.1 (global_at gate.terms.setting new.seen r.1)))
  pub fault : IfErr result (λ f. Answered gate old new (SetGlobal mask numbers) f.place (Refused f.refusal))
  pub version : IfOk result (λ r. r.1 ≡ sets new.seen)
  pub selection : KeepsSelection old new
  pub holds : KeepsHolds old new
  pub cached : MatchResult result (λ r. new.cached ≡ r.1) (λ f. new.cached ≡ old.cached)
  pub no_data : (k : Category) → (refusal_in result ≡ Some (NoData k)) ↔ (lacking gate.terms.setting (before new) mask numbers ≡ Some k)

lacks : (gate : Gate Setting) (old new : Thread) (mask : ℕ) (numbers : List ℕ) (place : ℕ) (reply : Reply) → Answered gate old new (SetGlobal mask numbers) place reply
    → (k : Category) → (reason_in reply ≡ Some (NoData k)) ↔ (lacking gate.terms.setting (before new) mask numbers ≡ Some k)
lacks gate old new mask numbers place reply a k =
    let o : Option Category = lacking gate.terms.setting (before new) mask numbers in
    subst (λ (f : Option Refusal). (f ≡ Some (NoData k)) ↔ (o ≡ Some k))
    (reason_is gate.terms.setting (before new) old.number (SetGlobal mask numbers) reply a.reply_is)
    (data_where o k [] (none_there (NoData k)))

pub changed : (gate : Gate Setting) (old new : Thread) (mask : ℕ) (numbers : List ℕ) (place : ℕ) (reply : Reply) (result : Result (ℕ × ℕ) Fault)
    → Answered gate old new (SetGlobal mask numbers) place reply → Leaves old new (SetGlobal mask numbers) reply → IsResult place reply result
    → Changed gate old new mask numbers result
changed gate old new mask numbers place reply (Ok r) answered leaves is =
    let x : Parts = is.1.0 in
    let here = subst (λ p. Answered gate old new (SetGlobal mask numbers) p reply) (sym is.0) answered in
    let a = subst (λ (s : Reply). Answered gate old new (SetGlobal mask numbers) r.0 s) is.1.1 here in
    let l = subst (λ (s : Reply). Leaves old new (SetGlobal mask numbers) s) is.1.1 leaves in
    let done = set_done gate old new mask numbers r.0 r.1 x a in record {
      made = done.made;
      fault = tt;
      version = done.version;
      selection = record { selection = l.after.selection; own = l.after.own };
      holds = l.after.holds;
      cached = l.cached;
      no_data = lacks gate old new mask numbers r.0 (Set r.1 x) a;
    }
changed gate old new mask numbers place reply (Err f) answered leaves is =
    let here = subst (λ p. Answered gate old new (SetGlobal mask numbers) p reply) (sym is.0) answered in
    let a = subst (λ (s : Reply). Answered gate old new (SetGlobal mask numbers) f.place s) is.1 here in
    let l = subst (λ (s : Reply). Leaves old new (SetGlobal mask numbers) s) is.1 leaves in record {
      made = tt;
      fault = a;
      version = tt;
      selection = record { selection = l.after.selection; own = l.after.own };
      holds = l.after.holds;
      cached = l.cached;
      no_data = lacks gate old new mask numbers f.place (Refused f.refusal) a;
    }
