-- A plan and what it is made of.
use Rattle.std.proofs.Common.{◌≡◌, List, sym, ap, subst, ◌∙◌}
use Rattle.msg_catalog.specs.declared.book.Message.{Message}
use Rattle.category_store.specs.LibraryData.{LibraryData}
use Rattle.script_lang.specs.declared.bundle.Bundle.{Bundle}
use Rattle.script_plan.specs.Plan.{PlanData, IsSound}

-- what a plan is made of
abbrev pub made_plan : Bundle → LibraryData → List (List Message) → PlanData
made_plan bundle library books = record { bundle = bundle; library = library; books = books }

pub plan_is : (plan : PlanData) (bundle : Bundle) (library : LibraryData) (books : List (List Message)) → bundle ≡ plan.bundle → library ≡ plan.library → books ≡ plan.books → made_plan bundle library books ≡ plan
plan_is plan bundle library books same of read =
    ap (λ (b : Bundle). made_plan b library books) same ∙ ap (λ (l : LibraryData). made_plan plan.bundle l books) of ∙ ap (λ (bs : List (List Message)). made_plan plan.bundle plan.library bs) read

pub sound_parts : (plan : PlanData) (bundle : Bundle) (library : LibraryData) (books : List (List Message)) → bundle ≡ plan.bundle → library ≡ plan.library → books ≡ plan.books → IsSound plan
    → IsSound (record { bundle = bundle; library = library; books = books })
sound_parts plan bundle library books same of read sound = subst IsSound (sym (plan_is plan bundle library books same of read)) sound
