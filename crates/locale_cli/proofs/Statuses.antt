-- What a run says of each status.
use Rattle.std.proofs.Common.{◌≡◌, ℕ, ◌+◌, ◌≤◌, true, false, List, ◌++◌, length, Option, Some, None, Ok, Err, refl, sym, ap, subst, ◌∙◌, arith, inl, inr, length-append}
use Rattle.std.specs.Prelude.{◌≢◌, ◌⊎◌, nat_lt, IfSome}
use Rattle.std.proofs.lemmas.Option.{IfSome_then}
use Rattle.std.specs.Io.KnownBytes.{Appends}
use Rattle.std.proofs.lemmas.Bool.{lt-ltb, le-ltb}
use Rattle.std.proofs.lemmas.List.{append-nil}
use Rattle.lc_base.specs.declared.place.Place.{Place}
use Rattle.lc_base.specs.declared.reason.Reason.{Reason}
use Rattle.lc_base.specs.Faults.{Rose}
use Rattle.lc_base.specs.Bytes.{CameExactly}
use Rattle.lc_base.specs.Reading.{Reads, ◌>>=◌}
use Rattle.locale_cli.specs.Limits.{INPUT_LIMIT}
use Rattle.locale_cli.specs.declared.answer.Status.{Status}
use Rattle.locale_cli.specs.declared.answer.Status.TheVariants.{Done, Usage, Refused, ReadFault, WriteFault, Memory, TooLarge}
use Rattle.locale_cli.specs.declared.words.Mode.{Mode}
use Rattle.locale_cli.specs.declared.words.Mode.TheVariants.{Check}
use Rattle.locale_cli.specs.declared.answer.Answer.{Answer}
use Rattle.locale_cli.specs.Answer.{Outputs, OutputsOf, status_for, text_for, IsAnswer}
use Rattle.script_plan.specs.Plan.{PlanData, counts, plan_of}
use Rattle.script_out.specs.Refusal.{refusal_line}
use Rattle.locale_cli.specs.Run.{SourceStep, SinkStep, Wrote, Ran}
use Rattle.locale_cli.specs.Status.{too_large_line, WholeInput, IsDone, IsChecked, IsRefused, IsCutShort, status_of, due_status, IsDue, StayedSound}

-- ---- what may be printed of a plan, or its fault

refused_out : (mode : Mode) (r : Reads PlanData) (out : Reads (List ℕ)) → OutputsOf mode r out → Refused ≡ status_for out → (fault : Place × Reason) × (r ≡ Err fault) × (text_for out ≡ refusal_line fault.0 fault.1)
refused_out mode (Ok plan) (Ok text) o e = absurd cc
refused_out mode (Ok plan) (Err fault) o e = absurd o
refused_out mode (Err fault) (Ok text) o e = absurd o
refused_out mode (Err fault) (Err printed) o e = (fault, refl, ap (λ (f : Place × Reason). refusal_line f.0 f.1) o)

done_out : (mode : Mode) (r : Reads PlanData) (out : Reads (List ℕ)) → OutputsOf mode r out → Done ≡ status_for out → (plan : PlanData) × (r ≡ Ok plan) × Outputs mode plan (text_for out)
done_out mode (Ok plan) (Ok text) o e = (plan, refl, o)
done_out mode (Ok plan) (Err fault) o e = absurd o
done_out mode (Err fault) (Ok text) o e = absurd o
done_out mode (Err fault) (Err printed) o e = absurd cc

-- each mode has the same status
status_is : (mode : Mode) (r : Reads PlanData) (out : Reads (List ℕ)) → OutputsOf mode r out → status_of r ≡ status_for out
status_is mode (Ok plan) (Ok text) o = refl
status_is mode (Ok plan) (Err fault) o = absurd o
status_is mode (Err fault) (Ok text) o = absurd o
status_is mode (Err fault) (Err printed) o = refl

-- no answer has the status of a failed write
cut_out : (out : Reads (List ℕ)) → WriteFault ≡ status_for out → ⊥
cut_out (Ok text) e = cc
cut_out (Err fault) e = cc

-- ---- answers

same_status : (mode : Mode) (input : List ℕ) (a : Answer) (is : IsAnswer mode input a) → a.status ≡ status_for is.0
same_status mode input a is = ap (λ (b : Answer). b.status) is.2

same_text : (mode : Mode) (input : List ℕ) (a : Answer) (is : IsAnswer mode input a) → a.text ≡ text_for is.0
same_text mode input a is = ap (λ (b : Answer). b.text) is.2

-- a refused answer is that of a refused bundle
refused_is : (mode : Mode) (input : List ℕ) (a : Answer) → IsAnswer mode input a → Refused ≡ a.status → (fault : Place × Reason) × (plan_of input ≡ Err fault) × (a.text ≡ refusal_line fault.0 fault.1)
refused_is mode input a is e =
    let d = refused_out mode (plan_of input) is.0 is.1 (e ∙ same_status mode input a is) in
    (d.0, d.1, same_text mode input a is ∙ d.2)

-- an answer with the status 0 is that of an accepted bundle
done_is : (mode : Mode) (input : List ℕ) (a : Answer) → IsAnswer mode input a → Done ≡ a.status → (plan : PlanData) × (plan_of input ≡ Ok plan) × Outputs mode plan a.text
done_is mode input a is e =
    let d = done_out mode (plan_of input) is.0 is.1 (e ∙ same_status mode input a is) in
    (d.0, d.1, subst (Outputs mode d.0) (sym (same_text mode input a is)) d.2)

not_cut : (mode : Mode) (input : List ℕ) (a : Answer) → IsAnswer mode input a → WriteFault ≡ a.status → ⊥
not_cut mode input a is e = cut_out is.0 (e ∙ same_status mode input a is)

-- the status is another one
other : {P : Type 0} (a b r : Status) → (a ≡ b → ⊥) → r ≡ a → r ≡ b → P
other a b r differ e f = absurd (differ (sym e ∙ f))

-- a count that stayed sound did not rise
pub sound_fell : {P : Type 0} (before after : ℕ) → Rose before after → StayedSound before after → P
sound_fell before after rose sound = absurd (let lt = rose sound.not_last in omega (arith, sound.same))

pub ran_refused : (mode : Mode) (s : SourceStep) (k : SinkStep) (U : Type 0) (r : Status) → Ran mode s k U r → r ≡ Refused → IsRefused s.left s.left' k.written k.written'
ran_refused mode s k U r (inl (inl a)) e =
    elim a.5 [
      | inl t ↦
          let d = refused_is mode a.0 a.1 a.4 (sym e ∙ t.0) in
          (a.0, d.0, a.2, d.1, subst (λ (x : List ℕ). Appends k.written k.written' x) d.2 t.1)
      | inr f ↦ other Refused WriteFault r (λ q. cc) e f.0
    ]
ran_refused mode s k U r (inl (inr a)) e =
    elim a.2 [
      | inl t ↦ other Refused TooLarge r (λ q. cc) e t.0
      | inr f ↦ other Refused WriteFault r (λ q. cc) e f.0
    ]
ran_refused mode s k U r (inr (u, inl f)) e = other Refused ReadFault r (λ q. cc) e f.0
ran_refused mode s k U r (inr (u, inr m)) e = other Refused Memory r (λ q. cc) e m.0

pub ran_done : (mode : Mode) (s : SourceStep) (k : SinkStep) (U : Type 0) (r : Status) → Ran mode s k U r → r ≡ Done → IsDone mode s.left s.left' k.written k.written'
ran_done mode s k U r (inl (inl a)) e =
    elim a.5 [
      | inl t ↦
          let d = done_is mode a.0 a.1 a.4 (sym e ∙ t.0) in
          (a.0, d.0, a.1.text, a.2, d.1, d.2, t.1)
      | inr f ↦ other Done WriteFault r (λ q. cc) e f.0
    ]
ran_done mode s k U r (inl (inr a)) e =
    elim a.2 [
      | inl t ↦ other Done TooLarge r (λ q. cc) e t.0
      | inr f ↦ other Done WriteFault r (λ q. cc) e f.0
    ]
ran_done mode s k U r (inr (u, inl f)) e = other Done ReadFault r (λ q. cc) e f.0
ran_done mode s k U r (inr (u, inr m)) e = other Done Memory r (λ q. cc) e m.0

-- the front of what was due was written
pub ran_cut : (mode : Mode) (s : SourceStep) (k : SinkStep) (U : Type 0) (r : Status) → Ran mode s k U r → r ≡ WriteFault → IsCutShort mode s.left s.left' k.written k.written'
ran_cut mode s k U r (inl (inl a)) e =
    elim a.5 [
      | inl t ↦ absurd (not_cut mode a.0 a.1 a.4 (sym e ∙ t.0))
      | inr f ↦ inl (a.0, a.1, a.2, a.4, f.1)
    ]
ran_cut mode s k U r (inl (inr a)) e =
    elim a.2 [
      | inl t ↦ other WriteFault TooLarge r (λ q. cc) e t.0
      | inr f ↦ inr (a.0, f.1)
    ]
ran_cut mode s k U r (inr (u, inl f)) e = other WriteFault ReadFault r (λ q. cc) e f.0
ran_cut mode s k U r (inr (u, inr m)) e = other WriteFault Memory r (λ q. cc) e m.0

-- the counts of an accepted bundle
pub is_checked : (left left' written written' : Option (List ℕ)) → IsDone Check left left' written written' → IsChecked left left' written written'
is_checked left left' written written' d =
    (d.0, counts d.1.bundle, d.3, ap (λ (r : Reads PlanData). r >>= λ plan. Ok (counts plan.bundle)) d.4, subst (λ (x : List ℕ). Appends written written' x) d.5 d.6)

-- ---- which counts stay

pub wrote_sound : (status : Status) (text : List ℕ) (r : Status) (k : SinkStep) → Wrote status text r k → r ≢ WriteFault → k.faults' ≡ k.faults
wrote_sound status text r k (inl t) sound = t.2
wrote_sound status text r k (inr f) sound = absurd (sound f.0)

pub ran_read_sound : (mode : Mode) (s : SourceStep) (k : SinkStep) (U : Type 0) (r : Status) → Ran mode s k U r → r ≢ ReadFault → s.faults' ≡ s.faults
ran_read_sound mode s k U r (inl (inl a)) sound = a.3
ran_read_sound mode s k U r (inl (inr a)) sound = a.1
ran_read_sound mode s k U r (inr (u, inl f)) sound = absurd (sound f.0)
ran_read_sound mode s k U r (inr (u, inr m)) sound = m.1

pub ran_write_sound : (mode : Mode) (s : SourceStep) (k : SinkStep) (U : Type 0) (r : Status) → (U → k.faults' ≡ k.faults) → Ran mode s k U r → r ≢ WriteFault → k.faults' ≡ k.faults
ran_write_sound mode s k U r still (inl (inl a)) sound = wrote_sound a.1.status a.1.text r k a.5 sound
ran_write_sound mode s k U r still (inl (inr a)) sound = wrote_sound TooLarge too_large_line r k a.2 sound
ran_write_sound mode s k U r still (inr u) sound = still u.0

-- ---- the status that is due

if_all : (o : Option (List ℕ)) (Q : List ℕ → Type 0) → ((x : List ℕ) → Q x) → IfSome o Q
if_all None Q f = tt
if_all (Some x) Q f = f x

-- the whole input is all that was left
whole_is : (left left' : Option (List ℕ)) (input : List ℕ) → WholeInput left left' input → IfSome left (λ x. x ≡ input)
whole_is None left' input w = tt
whole_is (Some xs) None input w = absurd w.came
whole_is (Some xs) (Some ys) input w = w.came ∙ ap (λ (z : List ℕ). input ++ z) w.ended ∙ append-nil input

-- so many bytes were left at least
large_is : (left left' : Option (List ℕ)) (n : ℕ) → CameExactly left left' n → IfSome left (λ x. n ≤ length x)
large_is None left' n c = tt
large_is (Some xs) None n c = absurd c.1
large_is (Some xs) (Some ys) n c = omega (arith, ap length c.1, length-append c.0 ys, c.2)

due_whole : (mode : Mode) (x input : List ℕ) (a : Answer) → IsAnswer mode input a → x ≡ input → length input ≤ INPUT_LIMIT → due_status x ≡ a.status
due_whole mode x input a is e le =
    let small : nat_lt INPUT_LIMIT (length x) ≡ false = rw e (le-ltb _ _ le) in
    rw small (ap (λ (z : List ℕ). status_of (plan_of z)) e ∙ status_is mode (plan_of input) is.0 is.1 ∙ sym (same_status mode input a is))

due_large : (x : List ℕ) → INPUT_LIMIT + 1 ≤ length x → due_status x ≡ TooLarge
due_large x le =
    let large : nat_lt INPUT_LIMIT (length x) ≡ true = lt-ltb _ _ (omega arith) in
    rw large refl

is_due : (r due : Status) → due ≡ r → IsDue r due
is_due ReadFault due e = tt
is_due WriteFault due e = tt
is_due Memory due e = tt
is_due Done due e = e
is_due Usage due e = e
is_due Refused due e = e
is_due TooLarge due e = e

fault_due : (r due : Status) (f : Status) → IsDue f due → r ≡ f → IsDue r due
fault_due r due f h e = subst (λ (x : Status). IsDue x due) (sym e) h

pub ran_due : (mode : Mode) (s : SourceStep) (k : SinkStep) (U : Type 0) (r : Status) → Ran mode s k U r → IfSome s.left (λ input. IsDue r (due_status input))
ran_due mode s k U r (inl (inl a)) =
    elim a.5 [
      | inl t ↦ IfSome_then s.left (whole_is s.left s.left' a.0 a.2) (λ x e. is_due r (due_status x) (due_whole mode x a.0 a.1 a.4 e a.2.within ∙ sym t.0))
      | inr f ↦ if_all s.left (λ x. IsDue r (due_status x)) (λ x. fault_due r (due_status x) WriteFault tt f.0)
    ]
ran_due mode s k U r (inl (inr a)) =
    elim a.2 [
      | inl t ↦ IfSome_then s.left (large_is s.left s.left' (INPUT_LIMIT + 1) a.0) (λ x le. is_due r (due_status x) (due_large x le ∙ sym t.0))
      | inr f ↦ if_all s.left (λ x. IsDue r (due_status x)) (λ x. fault_due r (due_status x) WriteFault tt f.0)
    ]
ran_due mode s k U r (inr (u, inl f)) = if_all s.left (λ x. IsDue r (due_status x)) (λ x. fault_due r (due_status x) ReadFault tt f.0)
ran_due mode s k U r (inr (u, inr m)) = if_all s.left (λ x. IsDue r (due_status x)) (λ x. fault_due r (due_status x) Memory tt m.0)

pub ran_complete : (mode : Mode) (s : SourceStep) (k : SinkStep) (U : Type 0) (r : Status) → Ran mode s k U r → StayedSound s.faults s.faults' → StayedSound k.faults k.faults' → IfSome s.left (λ input. (r ≡ due_status input) ⊎ (r ≡ Memory))
ran_complete mode s k U r (inl (inl a)) source sink =
    elim a.5 [
      | inl t ↦ IfSome_then s.left (whole_is s.left s.left' a.0 a.2) (λ x e. inl (t.0 ∙ sym (due_whole mode x a.0 a.1 a.4 e a.2.within)))
      | inr f ↦ sound_fell k.faults k.faults' f.2 sink
    ]
ran_complete mode s k U r (inl (inr a)) source sink =
    elim a.2 [
      | inl t ↦ IfSome_then s.left (large_is s.left s.left' (INPUT_LIMIT + 1) a.0) (λ x le. inl (t.0 ∙ sym (due_large x le)))
      | inr f ↦ sound_fell k.faults k.faults' f.2 sink
    ]
ran_complete mode s k U r (inr (u, inl f)) source sink = sound_fell s.faults s.faults' f.1 source
ran_complete mode s k U r (inr (u, inr m)) source sink = if_all s.left (λ x. (r ≡ due_status x) ⊎ (r ≡ Memory)) (λ x. inr m.0)
