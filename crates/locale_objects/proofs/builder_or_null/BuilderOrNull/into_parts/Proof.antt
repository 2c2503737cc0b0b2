-- `into_parts` compares the pointer with null, and moves two fields where it is none, with what they own.
use mathlib.Core.Path.{◌≡◌, refl, sym, subst}
use lib.Dec.{lit<}
use Rattle.std.specs.Prelude.{Option, None, Some}
use mathlib.Core.List.{List, [], ◌∷◌, ◌++◌}
use seplogic.Ra.Ura.{Ura}
use mir.Raw.{raw as bare}
use mir.Val.{Val, vcons, vnil, vstruct, of_list}
use base.Logic.{SProp, ent, emp, id⊢, guard_i}
use base.Fml.{ftrue, fsep}
use prog.Memory.{Memory}
use prog.Routine.{Routine}
use prog.Wp.{WpFn, Tables}
use types.Logic.{Logic, sem}
use contract.Monad.{Fun, fact_use}
use contract.Running.{tables, tables_of}
use sound.WpLaws.{WpFn-mono}
use types.Kit.{Item, at_ret, ‵, raw, given, ◌⊛◌, ◌$◌, ◌∵◌, !, qed, by, move, keep, drop, use0, use1, join, split, fsplit, fjoin, fpick, feq_l, learn, suffices, done}
use types.Part.{whole, sub, agg}
use types.Match.{live}
use types.Run.{stop, fld, lit, bin, no_more, and_then, of_opd, returns, enter, first, branches, exec}
use types.ByLocal.{alloc_all, pass_all, free_all, look_at, get, get_in, sets, sets_last, env}
use denote.Exit.{yes}
use denote.RattleType.{RattleType}
use denote.RawPtr.{Ptr, Testable, block_ptr, null_ptr, ptr_val, tests_null}
use denote.Signature.{type_at}
use denote.Steps.{nothing}
use denote.Triple.Spec.{triple_of}
use denote.Triple.Table.{entered}
use denote.Triple.Walked.{says, Stays, stay_dropped, walk_of, ends_at, Goes-dropped, walk_Meets}
use Rattle.core.proofs.alloc.Calls.{token, handle_tells}
use Rattle.core.proofs.alloc.Shapes.{after}
use Rattle.core.proofs.option.Made.{Some-of, none_of}
use Rattle.std.proofs.GlobalToken.{dealloc_token-Testable}
use Rattle.std_alloc.proofs.BoxSteps.Form.{D, τ, word, box_typed}
use Rattle.std_alloc.proofs.BoxSteps.Steps.{box_out, box_in}
use Rattle.std_alloc.proofs.ResultValues.{and_tt}
use Rattle.std_heap.specs.contracts.Global as Heap
use Rattle.std_heap.specs.contracts.GlobalAllocator.TheImpl.{ghosts}
use Rattle.locale_objects.proofs.AsDraft.{E, FromBuilderOrNull as From}
use Rattle.locale_objects.specs.contracts.parts.Parts as Parts
use Rattle.locale_objects.specs.contracts.builder_or_null.BuilderOrNull as Handed
use Rattle.locale_objects.specs.contracts.builder_or_null.BuilderOrNull.into_parts as F
use Rattle.locale_objects.specs.contracts.builder_or_null.BuilderOrNull.into_parts.Key.{name as #self}
use Rattle.locale_objects.proofs.builder_or_null.BuilderOrNull.into_parts.Statement as stated
use Rattle.locale_objects.proofs.builder_or_null.BuilderOrNull.into_parts.Code as code

abbrev stayed : Stays (F.ended).signature.params (F.ended).kept
stayed = (stay_dropped From yes, tt)

abbrev Pr : RattleType
Pr = Parts.the_row E.row Heap.the_row ghosts

module _ {M : Type 1} {𝓤 : Ura M} (𝓛 : Logic 𝓤) (at_mem : Memory → SProp 𝓤) (run : Routine → Fun 𝓤) (𝓣 : Tables 𝓤 𝓛.H) where
  open 𝓛 use {H}

  abbrev Ghost : Type 0
  Ghost = (walk_of 𝓛 F.ended stayed (F.clauses 𝓛 at_mem run)).Ghost

  abbrev Owned : (d : Handed.the_row.Denot) → Option E.row.Denot → List Val → Item 𝓤
  Owned d o us = ‵ (Handed.the_row.own_val (record { at = d.at; alloc = d.alloc; parts = o }) us)

  -- with a null
  none : (z : Ghost) → z.0.3.0.parts ≡ None
      → ent 𝓤 (types.Kit.⋆ 𝓛 (Owned z.0.3.0 None z.0.4.0 ∷ [])) (WpFn 𝓤 H 𝓣.C 𝓣.Λ code.function (z.0.4.0 ++ []) ((walk_of 𝓛 F.ended stayed (F.clauses 𝓛 at_mem run)).post z))
  none z is_none =
      let Post = (walk_of 𝓛 F.ended stayed (F.clauses 𝓛 at_mem run)).post z in
      let d : Handed.the_row.Denot = z.0.3.0 in
      let Out : RattleType = type_at (F.signature).result tt in
      qed 𝓛 (Owned d None z.0.4.0 ∷ []) ∵
      fsplit ! $ fpick ! (λ vss. fsplit ! $ feq_l ! (λ ev. fsplit ! $ feq_l ! (λ ep. fsplit ! $ handle_tells E.al ! d.alloc vss.1.0 (λ hv ea fa. move ! (1 ∷ []) $ drop ! $ drop ! $ feq_l ! (λ null.
      let w : Val = vstruct (vcons (ptr_val null_ptr) (vcons hv vnil)) in
      let ws : z.0.4.0 ≡ w ∷ [] =
      subst (λ (p : Ptr). z.0.4.0 ≡ vstruct (of_list (ptr_val p ∷ hv ∷ [])) ∷ []) null
      (subst (λ (us : List Val). z.0.4.0 ≡ vstruct (of_list (ptr_val d.at ∷ (us ++ []))) ∷ []) ea (subst (λ (ps : List Val). z.0.4.0 ≡ vstruct (of_list (ps ++ (vss.1.0 ++ []))) ∷ []) ep ev)) in
      by ! (subst (λ (us : List Val). ent 𝓤 (types.Kit.⋆ 𝓛 []) (WpFn 𝓤 H 𝓣.C 𝓣.Λ code.function (us ++ []) Post)) (sym ws)
      (qed 𝓛 [] ∵ enter ! 𝓣.C 𝓣.Λ code.function (w ∷ []) _ $ alloc_all ! (λ ls. pass_all ! refl ((and_tt _ fa.0, (record { fits = lit< tt }, (fa.1, tt))), tt) $ let Ev = env code.function.locals ls in
      sets ! (of_opd ! (get_in ! (fld ! refl (stop !)) (sub ! 0 refl (whole !)))) refl (tt, record { fits = lit< tt }) $ sets ! (of_opd ! (get_in ! (fld ! refl (stop !)) (sub ! 1 refl (whole !)))) refl fa $
      sets ! (bin ! (get ! refl) (lit ! tt) tt) refl (tt, tt) $ first ! $ branches ! (get ! refl)
      (λ _. sets_last ! (agg ! (and_then ! (lit ! tt) (no_more !))) refl (tt, (record { fits = lit< tt }, tt)) $ exec ! 𝓣.C 𝓣.Λ Ev (after 4 code.function.body) (at_ret Ev Post) $
      sets ! (of_opd ! (get ! refl)) refl (tt, (record { fits = lit< tt }, tt)) $ use0 𝓛 (‵ (Out.own_val None (live 0 vnil ∷ []))) (none_of 𝓛 Pr) $
      returns ! (look_at ! 0 refl) $ free_all ! refl $
      suffices ! _ (ends_at 𝓛 F.ended stayed (F.clauses 𝓛 at_mem run) z (live 0 vnil) None (tt, tt) (tt, tt)) $ says ! (sym is_none) $
      nothing ! $ nothing ! $ fjoin ! $ join ! $ nothing ! $ join ! $ done !) (λ wrong. absurd wrong)))))))))

  -- with parts
  some : (z : Ghost) (x : E.row.Denot) → z.0.3.0.parts ≡ Some x
      → ent 𝓤 (types.Kit.⋆ 𝓛 (Owned z.0.3.0 (Some x) z.0.4.0 ∷ [])) (WpFn 𝓤 H 𝓣.C 𝓣.Λ code.function (z.0.4.0 ++ []) ((walk_of 𝓛 F.ended stayed (F.clauses 𝓛 at_mem run)).post z))
  some z x is_x =
      let Post = (walk_of 𝓛 F.ended stayed (F.clauses 𝓛 at_mem run)).post z in
      let d : Handed.the_row.Denot = z.0.3.0 in
      let Out : RattleType = type_at (F.signature).result tt in
      let v : D E = record { ptr = d.at; alloc = d.alloc; value = x } in
      let made : Pr.Denot = record { ptr = v.ptr; alloc = v.alloc; value = v.value } in
      qed 𝓛 (Owned d (Some x) z.0.4.0 ∷ []) ∵
      box_out E ! v z.0.4.0 (λ b o hv e ws fa. move ! (1 ∷ []) $
      use1 𝓛 (given (Testable (block_ptr b o)) (‵ (token E.al d.alloc (bare (τ E)) (block_ptr b o)))) (fact_use 𝓤 (Testable (block_ptr b o)) (dealloc_token-Testable 𝓛 d.alloc (bare (τ E)) (block_ptr b o))
      (guard_i 𝓤 (Testable (block_ptr b o)) (sem 𝓛 (token E.al d.alloc (bare (τ E)) (block_ptr b o))))) $ learn ! (λ t. move ! (1 ∷ 0 ∷ 2 ∷ []) $
      box_in E ! v b o v.value e refl $ use1 𝓛 (‵ (Pr.own_val made (word E hv b o ∷ []))) (id⊢ 𝓤 _) $
      let w = word E hv b o in
      let v₁ : Val = live 1 (vcons w vnil) in
      let typed = box_typed E hv b o fa in
      let Γ : List (Item 𝓤) = ‵ (Pr.own_val made (w ∷ [])) ∷ [] in
      by ! (subst (λ (us : List Val). ent 𝓤 (types.Kit.⋆ 𝓛 Γ) (WpFn 𝓤 H 𝓣.C 𝓣.Λ code.function (us ++ []) Post)) (sym ws)
      (qed 𝓛 Γ ∵ enter ! 𝓣.C 𝓣.Λ code.function (w ∷ []) _ $ alloc_all ! (λ ls. pass_all ! refl (typed, tt) $ let Ev = env code.function.locals ls in
      sets ! (of_opd ! (get_in ! (fld ! refl (stop !)) (sub ! 0 refl (whole !)))) refl (tt, tt) $ sets ! (of_opd ! (get_in ! (fld ! refl (stop !)) (sub ! 1 refl (whole !)))) refl fa $
      sets ! (bin ! (get ! refl) (lit ! tt) (tests_null (block_ptr b o) t)) refl (tt, tt) $ first ! $ branches ! (get ! refl) (λ wrong. absurd wrong) (λ _.
      sets ! (of_opd ! (get ! refl)) refl (tt, tt) $
      sets ! (agg ! (and_then ! (get ! refl) (and_then ! (get ! refl) (no_more !)))) refl typed $
      sets_last ! (agg ! (and_then ! (lit ! tt) (and_then ! (get ! refl) (no_more !)))) refl (and_tt _ typed.0, (record { fits = lit< tt }, (typed.1, tt))) $
      exec ! 𝓣.C 𝓣.Λ Ev (after 4 code.function.body) (at_ret Ev Post) $ sets ! (of_opd ! (get ! refl)) refl (and_tt _ typed.0, (record { fits = lit< tt }, (typed.1, tt))) $
      use1 𝓛 (‵ (Out.own_val (Some made) (v₁ ∷ []))) (Some-of 𝓛 Pr made w) $ returns ! (look_at ! 0 refl) $ free_all ! refl $
      suffices ! _ (ends_at 𝓛 F.ended stayed (F.clauses 𝓛 at_mem run) z v₁ (Some made) (tt, tt) (tt, tt)) $ says ! (sym is_x) $
      nothing ! $ nothing ! $ fjoin ! $ join ! $ nothing ! $ join ! $ done !))))))

  by_case : (z : Ghost) (o : Option E.row.Denot) → z.0.3.0.parts ≡ o
      → ent 𝓤 (types.Kit.⋆ 𝓛 (Owned z.0.3.0 o z.0.4.0 ∷ [])) (WpFn 𝓤 H 𝓣.C 𝓣.Λ code.function (z.0.4.0 ++ []) ((walk_of 𝓛 F.ended stayed (F.clauses 𝓛 at_mem run)).post z))
  by_case z None e = none z e
  by_case z (Some x) e = some z x e

  walk : (z : Ghost)
      → ent 𝓤 ((walk_of 𝓛 F.ended stayed (F.clauses 𝓛 at_mem run)).pre z) (WpFn 𝓤 H 𝓣.C 𝓣.Λ code.function (z.0.4.0 ++ []) ((walk_of 𝓛 F.ended stayed (F.clauses 𝓛 at_mem run)).post z))
  walk z =
      qed 𝓛 ((‵ ftrue ⊛ ‵ (fsep (Handed.the_row.own_val z.0.3.0 z.0.4.0) ftrue)) ∷ raw (emp 𝓤) ∷ []) ∵ split ! $ drop ! $ fsplit ! $ keep ! (0 ∷ []) $ by ! (by_case z z.0.3.0.parts refl)

pub into_parts_spec : {M : Type 1} → stated.statement M
unfolding tables_of
into_parts_spec 𝓤 𝓛 𝓜 𝓡 wired =
    let 𝓣 : Tables 𝓤 𝓛.H = tables_of 𝓤 𝓛.H 𝓜 (tables 𝓤 𝓛.H 𝓜 𝓡 𝓡.env) in
    entered 𝓤 𝓛.H (triple_of 𝓛 F.signature (F.spec 𝓛 𝓜.mem 𝓡.returns)) 𝓣.C 𝓣.Λ #self code.function (code.unfolded 𝓤 𝓛.H 𝓜 𝓡 wired)
    (walk_Meets 𝓛 F.ended stayed (Goes-dropped 𝓛 0 From yes (λ κs x f. refl), tt) (F.clauses 𝓛 𝓜.mem 𝓡.returns) (WpFn 𝓤 𝓛.H 𝓣.C 𝓣.Λ code.function) (WpFn-mono 𝓤 𝓛.H 𝓛.laws 𝓣 code.function)
    (walk 𝓛 𝓜.mem 𝓡.returns 𝓣))
