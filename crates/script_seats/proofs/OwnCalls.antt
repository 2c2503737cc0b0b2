-- What a thread selects, has taken up and holds is said by its own calls.
use Rattle.std.proofs.Common.{◌≡◌, ℕ, Bool, ◌&&◌, List, [], ◌∷◌, Option, refl, sym, ap, ◌∙◌, inl, inr}
use Rattle.std.specs.Prelude.{◌==◌, if◌then◌else◌}
use Rattle.std.proofs.lemmas.Bool.Decides.{eqb_tells}
use Rattle.mask_compose.specs.Parts.{Parts}
use Rattle.lc_base.specs.declared.handle.Named.{Named}
use Rattle.handle_table.specs.Entry.{History, is_accepted}
use Rattle.handle_table.specs.History.{selection_after, selection}
use Rattle.handle_table.specs.Answer.{own_after, own}
use Rattle.thread_current.specs.Thread.{entries_by}
use Rattle.script_wishes.specs.declared.holds.OpenHold.{OpenHold}
use Rattle.script_wishes.specs.Holds.{holds_after, open_holds}

own_by : (t : ℕ) (H : History) → own H t ≡ own (entries_by t H) t
own_by t [] = refl
own_by t (e ∷ H) =
    let ours : History = entries_by t H in
    elim (eqb_tells e.who t) [
      | inl here ↦
          ap (λ (b : Bool). if b then own_after e.reply (own H t) else own H t) here.0
          ∙ ap (λ (o : Option Parts). own_after e.reply o) (own_by t H)
          ∙ sym (ap (λ (b : Bool). if b then own_after e.reply (own ours t) else own ours t) here.0)
          ∙ sym (ap (λ (b : Bool). own (if b then e ∷ ours else ours) t) here.0)
      | inr apart ↦
          ap (λ (b : Bool). if b then own_after e.reply (own H t) else own H t) apart.0
          ∙ own_by t H
          ∙ sym (ap (λ (b : Bool). own (if b then e ∷ ours else ours) t) apart.0)
    ]

selection_by : (t : ℕ) (H : History) → selection H t ≡ selection (entries_by t H) t
selection_by t [] = refl
selection_by t (e ∷ H) =
    let ours : History = entries_by t H in
    let accepted : Bool = is_accepted e.reply in
    elim (eqb_tells e.who t) [
      | inl here ↦
          ap (λ (n : Named). if (e.who == t && accepted) then selection_after e.op n else n) (selection_by t H)
          ∙ sym (ap (λ (b : Bool). selection (if b then e ∷ ours else ours) t) here.0)
      | inr apart ↦
          ap (λ (b : Bool). if (b && accepted) then selection_after e.op (selection H t) else selection H t) apart.0
          ∙ selection_by t H
          ∙ sym (ap (λ (b : Bool). selection (if b then e ∷ ours else ours) t) apart.0)
    ]

holds_by : (t : ℕ) (H : History) → open_holds H t ≡ open_holds (entries_by t H) t
holds_by t [] = refl
holds_by t (e ∷ H) =
    let ours : History = entries_by t H in
    elim (eqb_tells e.who t) [
      | inl here ↦
          ap (λ (b : Bool). if b then holds_after (open_holds H t) e.op e.reply else open_holds H t) here.0
          ∙ ap (λ (os : List OpenHold). holds_after os e.op e.reply) (holds_by t H)
          ∙ sym (ap (λ (b : Bool). if b then holds_after (open_holds ours t) e.op e.reply else open_holds ours t) here.0)
          ∙ sym (ap (λ (b : Bool). open_holds (if b then e ∷ ours else ours) t) here.0)
      | inr apart ↦
          ap (λ (b : Bool). if b then holds_after (open_holds H t) e.op e.reply else open_holds H t) apart.0
          ∙ holds_by t H
          ∙ sym (ap (λ (b : Bool). open_holds (if b then e ∷ ours else ours) t) apart.0)
    ]

pub own_says : (t : ℕ) (G H : History) → entries_by t G ≡ entries_by t H → own G t ≡ own H t
own_says t G H same = own_by t G ∙ ap (λ (K : History). own K t) same ∙ sym (own_by t H)

pub selection_says : (t : ℕ) (G H : History) → entries_by t G ≡ entries_by t H → selection G t ≡ selection H t
selection_says t G H same = selection_by t G ∙ ap (λ (K : History). selection K t) same ∙ sym (selection_by t H)

pub holds_says : (t : ℕ) (G H : History) → entries_by t G ≡ entries_by t H → open_holds G t ≡ open_holds H t
holds_says t G H same = holds_by t G ∙ ap (λ (K : History). open_holds K t) same ∙ sym (holds_by t H)
