-- What a run for a made bundle says of each status.
use Rattle.std.proofs.Common.{◌≡◌, ℕ, List, Option, Some, Ok, Err, refl, sym, ap, subst, ◌∙◌, inl, inr}
use Rattle.std.specs.Prelude.{◌≢◌, ◌⊎◌}
use Rattle.std.specs.Io.KnownBytes.{Appends}
use Rattle.lc_base.specs.declared.place.Place.{Place}
use Rattle.lc_base.specs.declared.reason.Reason.{Reason}
use Rattle.lc_base.specs.Faults.{Rose}
use Rattle.lc_base.specs.Reading.{Reads, ◌>>=◌}
use Rattle.script_plan.specs.Plan.{PlanData, plan_of}
use Rattle.script_out.specs.Refusal.{refusal_line}
use Rattle.bundle_maker.specs.Generated.{generated}
use Rattle.locale_cli.specs.declared.answer.Status.{Status}
use Rattle.locale_cli.specs.declared.answer.Status.TheVariants.{Done, Refused, ReadFault, WriteFault, Memory}
use Rattle.locale_cli.specs.declared.request.Request.{Request}
use Rattle.locale_cli.specs.declared.request.Request.TheVariants.{Read, Make}
use Rattle.locale_cli.specs.declared.words.Mode.{Mode}
use Rattle.locale_cli.specs.declared.answer.Answer.{Answer}
use Rattle.locale_cli.specs.Answer.{status_for, text_for, answer_for}
use Rattle.locale_cli.specs.Made.{made_line, made_status, IsMade, IsMadeRefused, IsMadeCut, RanMade}
use Rattle.locale_cli.specs.Run.{SinkStep}
use Rattle.locale_cli.specs.Status.{status_of, StayedSound}
use Rattle.locale_cli.proofs.Statuses.{sound_fell}

-- ---- requests

-- words ask for one thing
pub same_mode : (o : Option Request) (m n : Mode) → o ≡ Some (Read m) → o ≡ Some (Read n) → m ≡ n
same_mode o m n p q = cc

same_seed : (o : Option Request) (a b c d : ℕ) → o ≡ Some (Make a b) → o ≡ Some (Make c d) → a ≡ c
same_seed o a b c d p q = cc

same_commands : (o : Option Request) (a b c d : ℕ) → o ≡ Some (Make a b) → o ≡ Some (Make c d) → b ≡ d
same_commands o a b c d p q = cc

-- what ran for one seed and number of commands ran for those that the words name
pub ran_as : (o : Option Request) (a b seed commands : ℕ) → o ≡ Some (Make a b) → o ≡ Some (Make seed commands) → (k : SinkStep) (U : Type 0) (r : Status) → RanMade a b k U r → RanMade seed commands k U r
ran_as o a b seed commands p q k U r ran =
    subst (λ (y : ℕ). RanMade seed y k U r) (same_commands o a b seed commands p q)
    (subst (λ (x : ℕ). RanMade x b k U r) (same_seed o a b seed commands p q) ran)

pub not_both : {P : Type 0} (o : Option Request) (m : Mode) (a b : ℕ) → o ≡ Some (Read m) → o ≡ Some (Make a b) → P
not_both o m a b p q = absurd (let e : Some (Read m) ≡ Some (Make a b) = sym p ∙ q in cc e)

-- ---- the line of a plan, or its fault

abbrev lines_text : ℕ → Reads PlanData → Reads (List ℕ)
lines_text commands r = r >>= λ plan. Ok (made_line commands plan)

done_line : (commands : ℕ) (r : Reads PlanData) → Done ≡ status_for (lines_text commands r) → (plan : PlanData) × (r ≡ Ok plan) × (text_for (lines_text commands r) ≡ made_line commands plan)
done_line commands (Ok plan) e = (plan, refl, refl)
done_line commands (Err fault) e = absurd cc

refused_line : (commands : ℕ) (r : Reads PlanData) → Refused ≡ status_for (lines_text commands r) → (fault : Place × Reason) × (r ≡ Err fault) × (text_for (lines_text commands r) ≡ refusal_line fault.0 fault.1)
refused_line commands (Ok plan) e = absurd cc
refused_line commands (Err fault) e = (fault, refl, refl)

status_is : (commands : ℕ) (r : Reads PlanData) → status_for (lines_text commands r) ≡ status_of r
status_is commands (Ok plan) = refl
status_is commands (Err fault) = refl

not_cut : (commands : ℕ) (r : Reads PlanData) → WriteFault ≡ status_for (lines_text commands r) → ⊥
not_cut commands (Ok plan) e = cc
not_cut commands (Err fault) e = cc

-- ---- statuses

other : {P : Type 0} (a b r : Status) → (a ≡ b → ⊥) → r ≡ a → r ≡ b → P
other a b r differ e f = absurd (differ (sym e ∙ f))

pub made_done : (seed commands : ℕ) (k : SinkStep) (U : Type 0) (r : Status) → RanMade seed commands k U r → r ≡ Done → IsMade seed commands k.written k.written'
made_done seed commands k U r (inl (inl t)) e =
    let d = done_line commands (plan_of (generated seed commands)) (sym e ∙ t.0) in
    (d.0, d.1, subst (λ (x : List ℕ). Appends k.written k.written' x) d.2 t.1)
made_done seed commands k U r (inl (inr f)) e = other Done WriteFault r (λ q. cc) e f.0
made_done seed commands k U r (inr u) e = other Done Memory r (λ q. cc) e u.1

pub made_refused : (seed commands : ℕ) (k : SinkStep) (U : Type 0) (r : Status) → RanMade seed commands k U r → r ≡ Refused → IsMadeRefused seed commands k.written k.written'
made_refused seed commands k U r (inl (inl t)) e =
    let d = refused_line commands (plan_of (generated seed commands)) (sym e ∙ t.0) in
    (d.0, d.1, subst (λ (x : List ℕ). Appends k.written k.written' x) d.2 t.1)
made_refused seed commands k U r (inl (inr f)) e = other Refused WriteFault r (λ q. cc) e f.0
made_refused seed commands k U r (inr u) e = other Refused Memory r (λ q. cc) e u.1

pub made_cut : (seed commands : ℕ) (k : SinkStep) (U : Type 0) (r : Status) → RanMade seed commands k U r → r ≡ WriteFault → IsMadeCut seed commands k.written k.written'
made_cut seed commands k U r (inl (inl t)) e = absurd (not_cut commands (plan_of (generated seed commands)) (sym e ∙ t.0))
made_cut seed commands k U r (inl (inr f)) e = f.1
made_cut seed commands k U r (inr u) e = other WriteFault Memory r (λ q. cc) e u.1

pub made_due : (seed commands : ℕ) (k : SinkStep) (U : Type 0) (r : Status) → RanMade seed commands k U r → (r ≡ made_status seed commands) ⊎ (r ≡ WriteFault) ⊎ (r ≡ Memory)
made_due seed commands k U r (inl (inl t)) = inl (t.0 ∙ status_is commands (plan_of (generated seed commands)))
made_due seed commands k U r (inl (inr f)) = inr (inl f.0)
made_due seed commands k U r (inr u) = inr (inr u.1)

pub made_complete : (seed commands : ℕ) (k : SinkStep) (U : Type 0) (r : Status) → RanMade seed commands k U r → StayedSound k.faults k.faults' → (r ≡ made_status seed commands) ⊎ (r ≡ Memory)
made_complete seed commands k U r (inl (inl t)) sound = inl (t.0 ∙ status_is commands (plan_of (generated seed commands)))
made_complete seed commands k U r (inl (inr f)) sound = sound_fell k.faults k.faults' f.2 sound
made_complete seed commands k U r (inr u) sound = inr u.1

pub made_write_sound : (seed commands : ℕ) (k : SinkStep) (U : Type 0) (r : Status) → (U → k.faults' ≡ k.faults) → RanMade seed commands k U r → r ≢ WriteFault → k.faults' ≡ k.faults
made_write_sound seed commands k U r still (inl (inl t)) sound = t.2
made_write_sound seed commands k U r still (inl (inr f)) sound = absurd (sound f.0)
made_write_sound seed commands k U r still (inr u) sound = still u.0

-- a failed write is the one fault
pub made_write_fault : (seed commands : ℕ) (k : SinkStep) (U : Type 0) (r : Status) → RanMade seed commands k U r → r ≡ WriteFault → Rose k.faults k.faults'
made_write_fault seed commands k U r (inl (inl t)) e = absurd (not_cut commands (plan_of (generated seed commands)) (sym e ∙ t.0))
made_write_fault seed commands k U r (inl (inr f)) e = f.2
made_write_fault seed commands k U r (inr u) e = other WriteFault Memory r (λ q. cc) e u.1

-- no other status comes
wrong_line : (commands : ℕ) (r : Reads PlanData) (wrong : Status) → (Done ≡ wrong → ⊥) → (Refused ≡ wrong → ⊥) → status_for (lines_text commands r) ≡ wrong → ⊥
wrong_line commands (Ok plan) wrong d f e = d e
wrong_line commands (Err fault) wrong d f e = f e

pub made_is_not : {P : Type 0} (seed commands : ℕ) (k : SinkStep) (U : Type 0) (r wrong : Status) → (Done ≡ wrong → ⊥) → (Refused ≡ wrong → ⊥) → (WriteFault ≡ wrong → ⊥) → (Memory ≡ wrong → ⊥) → RanMade seed commands k U r → r ≡ wrong → P
made_is_not seed commands k U r wrong d f w m (inl (inl t)) e = absurd (wrong_line commands (plan_of (generated seed commands)) wrong d f (sym t.0 ∙ e))
made_is_not seed commands k U r wrong d f w m (inl (inr t)) e = absurd (w (sym t.0 ∙ e))
made_is_not seed commands k U r wrong d f w m (inr u) e = absurd (m (sym u.1 ∙ e))

-- where nothing is due, nothing is written
no_memory : (commands : ℕ) (r : Reads PlanData) → status_for (lines_text commands r) ≡ Memory → ⊥
no_memory commands (Ok plan) e = cc
no_memory commands (Err fault) e = cc

pub made_unwritten : (seed commands : ℕ) (k : SinkStep) (U : Type 0) (r : Status) → RanMade seed commands k U r → (r ≡ ReadFault) ⊎ (r ≡ Memory) → U
made_unwritten seed commands k U r ran (inl e) = made_is_not seed commands k U r ReadFault (λ q. cc) (λ q. cc) (λ q. cc) (λ q. cc) ran e
made_unwritten seed commands k U r (inl (inl t)) (inr e) = absurd (no_memory commands (plan_of (generated seed commands)) (sym t.0 ∙ e))
made_unwritten seed commands k U r (inl (inr f)) (inr e) = other Memory WriteFault r (λ q. cc) e f.0
made_unwritten seed commands k U r (inr u) (inr e) = u.0

-- ---- answers

pub made_ok : (out : Reads (List ℕ)) (text : List ℕ) → out ≡ Ok text → let a : Answer = record { status = Done; text = text } in a ≡ answer_for out
made_ok out text is = sym (ap answer_for is)

pub made_fault : (out : Reads (List ℕ)) (text : List ℕ) (place : Place) (reason : Reason) → out ≡ Err (place, reason) → text ≡ refusal_line place reason
    → let a : Answer = record { status = Refused; text = text } in a ≡ answer_for out
made_fault out text place reason is line =
    let of : List ℕ → Answer = λ t. record { status = Refused; text = t } in
    ap of line ∙ sym (ap answer_for is)
