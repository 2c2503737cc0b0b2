-- `peek` moves a pointer, and what it owns goes with it.
use mathlib.Core.Path.{refl, sym, subst}
use mathlib.Core.List.{List, [], ◌∷◌, ◌++◌}
use seplogic.Ra.Ura.{Ura}
use mir.Val.{Val}
use base.Logic.{SProp, ent, emp, id⊢}
use base.Fml.{ftrue, fsep}
use prog.Memory.{Memory}
use prog.Routine.{Routine}
use prog.Wp.{WpFn, Tables}
use types.Logic.{Logic}
use contract.Monad.{Fun}
use contract.Running.{tables, tables_of}
use sound.WpLaws.{WpFn-mono}
use types.Kit.{Item, ⋆, ‵, raw, ◌⊛◌, ◌$◌, ◌∵◌, !, qed, by, move, drop, use1, join, split, fsplit, fjoin, suffices, done}
use types.Part.{whole, sub, agg}
use types.Run.{stop, fld, no_more, and_then, of_opd, returns, enter}
use types.ByLocal.{alloc_all, pass_all, free_all, look_at, get, get_in, sets}
use denote.Exit.{yes}
use denote.Signature.{Slot, plain, type_at}
use denote.Steps.{nothing}
use denote.Triple.Spec.{triple_of}
use denote.Triple.Table.{entered}
use denote.Triple.Walked.{says, Stays, stay_dropped, walk_of, ends_at, Goes-dropped, walk_Meets}
use Rattle.std_alloc.proofs.RcSteps.{Ptr-Good, word, word-Good}
use Rattle.lru.proofs.Memory.{word_had, word_made}
use Rattle.locale_objects.specs.Lending.{lending_owns}
use Rattle.locale_objects.specs.contracts.lent.LentLibrary as Lent
use Rattle.shared_objects.specs.contracts.marked_library.MarkedLibrary as MarkedLibrary
use Rattle.locale_objects.specs.contracts.lent.LentLibrary.peek as F
use Rattle.locale_objects.specs.contracts.lent.LentLibrary.peek.Key.{name as #self}
use Rattle.locale_objects.proofs.lent.LentLibrary.peek.Statement as stated
use Rattle.locale_objects.proofs.lent.LentLibrary.peek.Code as code

abbrev From : Slot 0
From = plain (λ _. Lent.the_row)

abbrev stayed : Stays (F.ended).signature.params (F.ended).kept
stayed = (stay_dropped From yes, tt)

module _ {M : Type 1} {𝓤 : Ura M} (𝓛 : Logic 𝓤) (at_mem : Memory → SProp 𝓤) (run : Routine → Fun 𝓤) (𝓣 : Tables 𝓤 𝓛.H) where
  open 𝓛 use {H}

  walk : (z : (walk_of 𝓛 F.ended stayed (F.clauses 𝓛 at_mem run)).Ghost)
      → ent 𝓤 ((walk_of 𝓛 F.ended stayed (F.clauses 𝓛 at_mem run)).pre z) (WpFn 𝓤 H 𝓣.C 𝓣.Λ code.function (z.0.4.0 ++ []) ((walk_of 𝓛 F.ended stayed (F.clauses 𝓛 at_mem run)).post z))
  walk z =
      let Post = (walk_of 𝓛 F.ended stayed (F.clauses 𝓛 at_mem run)).post z in
      let d : Lent.the_row.Denot = z.0.3.0 in
      let To = type_at (F.signature).result tt in
      let made : To.Denot = record { at = d.at; value = d.value; life = d.life; part = d.part } in
      let Γ : List (Item 𝓤) = ‵ (lending_owns MarkedLibrary.the_row d.at d.life d.part d.value) ∷ [] in
      qed 𝓛 ((‵ ftrue ⊛ ‵ (fsep (Lent.the_row.own_val d z.0.4.0) ftrue)) ∷ raw (emp 𝓤) ∷ []) ∵ split ! $ drop ! $ fsplit ! $
      fsplit ! $ word_had ! d.at z.0.4.0 (λ e. move ! (1 ∷ 2 ∷ []) $ drop ! $ drop ! $
      by ! (subst (λ (us : List Val). ent 𝓤 (⋆ 𝓛 Γ) (WpFn 𝓤 H 𝓣.C 𝓣.Λ code.function (us ++ []) Post)) (sym e)
      (qed 𝓛 Γ ∵ enter ! 𝓣.C 𝓣.Λ code.function (word d.at ∷ []) _ $ alloc_all ! (λ ls. pass_all ! refl (word-Good [] d.at, tt) $
      sets ! (of_opd ! (get_in ! (fld ! refl (stop !)) (sub ! 0 refl (whole !)))) refl (Ptr-Good d.at) $
      sets ! (of_opd ! (get ! refl)) refl (Ptr-Good d.at) $
      sets ! (agg ! (and_then ! (get ! refl) (no_more !))) refl (word-Good [] d.at) $ returns ! (look_at ! 0 refl) $ free_all ! refl $
      word_made ! d.at $ fjoin ! $ use1 𝓛 (‵ (To.own_val made (word d.at ∷ []))) (id⊢ 𝓤 _) $
      suffices ! _ (ends_at 𝓛 F.ended stayed (F.clauses 𝓛 at_mem run) z (word d.at) made (tt, tt) (tt, tt)) $ says ! refl $
      nothing ! $ nothing ! $ fjoin ! $ join ! $ nothing ! $ join ! $ done !))))

pub peek_spec : {M : Type 1} → stated.statement M
unfolding tables_of
peek_spec 𝓤 𝓛 𝓜 𝓡 wired =
    let 𝓣 : Tables 𝓤 𝓛.H = tables_of 𝓤 𝓛.H 𝓜 (tables 𝓤 𝓛.H 𝓜 𝓡 𝓡.env) in
    entered 𝓤 𝓛.H (triple_of 𝓛 F.signature (F.spec 𝓛 𝓜.mem 𝓡.returns)) 𝓣.C 𝓣.Λ #self code.function (code.unfolded 𝓤 𝓛.H 𝓜 𝓡 wired)
    (walk_Meets 𝓛 F.ended stayed (Goes-dropped 𝓛 0 From yes (λ κs x f. refl), tt) (F.clauses 𝓛 𝓜.mem 𝓡.returns) (WpFn 𝓤 𝓛.H 𝓣.C 𝓣.Λ code.function) (WpFn-mono 𝓤 𝓛.H 𝓛.laws 𝓣 code.function)
    (walk 𝓛 𝓜.mem 𝓡.returns 𝓣))
