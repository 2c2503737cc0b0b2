-- What may be printed of an input, by what it is read as.
use Rattle.std.proofs.Common.{◌≡◌, ℕ, List, Result, Ok, Err, refl, sym, ap, subst}
use Rattle.lc_base.specs.declared.place.Place.{Place}
use Rattle.lc_base.specs.declared.reason.Reason.{Reason}
use Rattle.lc_base.specs.declared.fault.TextFault.{TextFault}
use Rattle.lc_base.specs.declared.fault.TextFault.TheVariants.{At, Memory}
use Rattle.lc_base.specs.Reading.{Reads, ◌>>=◌, Gives, Fails}
use Rattle.script_plan.specs.Plan.{PlanData, counts, plan_of}
use Rattle.locale_cli.specs.declared.words.Mode.{Mode}
use Rattle.locale_cli.specs.declared.words.Mode.TheVariants.{Check}
use Rattle.script_out.specs.Refusal.{refusal_line}
use Rattle.locale_cli.specs.declared.answer.Status.TheVariants.{Refused}
use Rattle.locale_cli.specs.Answer.{counts_line, counts_text, OutputsOf, answer_for, IsAnswer, MayPrint}

-- the fault of a refused one
fault_is : (mode : Mode) (input : List ℕ) (fault : Place × Reason) → plan_of input ≡ Err fault → OutputsOf mode (plan_of input) (Err fault)
fault_is mode input fault is = subst (λ (r : Reads PlanData). OutputsOf mode r (Err fault)) (sym is) refl

-- their answers
pub answered : (mode : Mode) (input text : List ℕ) → OutputsOf mode (plan_of input) (Ok text) → IsAnswer mode input (answer_for (Ok text))
answered mode input text outputs = (Ok text, outputs, refl)

pub answered_fault : (mode : Mode) (input text : List ℕ) (place : Place) (reason : Reason) → plan_of input ≡ Err (place, reason) → text ≡ refusal_line place reason → IsAnswer mode input (record { status = Refused; text = text })
answered_fault mode input text place reason is line =
    (Err (place, reason), fault_is mode input (place, reason) is, ap (λ (t : List ℕ). record { status = Refused; text = t }) line)

-- ---- counts

abbrev counted : Reads PlanData → Reads (List ℕ)
counted r = r >>= (λ plan. Ok (counts plan.bundle)) >>= λ n. Ok (counts_line n)

counts_are : (r : Reads PlanData) (text : List ℕ) → counted r ≡ Ok text → OutputsOf Check r (Ok text)
counts_are (Ok plan) text is = let same : counts_line (counts plan.bundle) ≡ text = cc is in sym same
counts_are (Err fault) text is = absurd (cc is)

counts_fail : (fault : TextFault) (r : Reads PlanData) → Fails fault (counted r) → Fails fault r
counts_fail Memory r h = tt
counts_fail (At place reason) (Ok plan) h = absurd (cc h)
counts_fail (At place reason) (Err fault) h = let same : fault ≡ (place, reason) = cc h in ap Err same

pub counts_printed : (input : List ℕ) (result : Result (List ℕ) TextFault) → Gives (λ text. text) result (counts_text input) → MayPrint Check input result
counts_printed input (Ok text) is = counts_are (plan_of input) text is
counts_printed input (Err fault) h = counts_fail fault (plan_of input) h

-- ---- modes

pub may_be : (mode named : Mode) (input : List ℕ) (result : Result (List ℕ) TextFault) → mode ≡ named → MayPrint named input result → MayPrint mode input result
may_be mode named input result is may = subst (λ (m : Mode). MayPrint m input result) (sym is) may
