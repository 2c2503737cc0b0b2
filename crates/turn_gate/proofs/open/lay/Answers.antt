use Rattle.std.proofs.Common.{◌≡◌, ℕ, List, [], ◌∷◌, ◌++◌, Option, Some, refl, sym, ap, ◌∙◌, subst, arith}
use Rattle.atomic_table.specs.Table.{opening}
use Rattle.turn_gate.specs.declared.entry.Terms.{Terms}
use Rattle.turn_gate.specs.Rule.{Ruled, newcomer}
use Rattle.turn_gate.proofs.Keeps.{starts_it}
use Rattle.turn_gate.proofs.open.lay.Goals as goal

pub new-requires : goal.new-requires
new-requires g c =
    let T : Terms g.row.M-Setting.Denot = record { setting = g.M.Machine.setting c.of.result.value; seats = c.args.seats; quota = c.args.quota } in
    let same : g.M.Machine.setting c.args.machine ≡ T.setting = ap g.M.Machine.setting (sym c.of.ensures) in
    let none = c.version.ensures.least [] c.requires refl in
    let zeroth = sym (c.version.ensures.version [] c.requires) ∙ none in
    let first : c.clear_word-first.result ≡ 0 = (let e = c.clear_word-first.ensures in omega arith) in
    let slots : c.push_reserved.new.self.items ≡ Some c.args.machine ∷ [] = c.push_reserved.ensures.items ∙ ap (λ (xs : List (Option g.row.M.Denot)). xs ++ Some c.args.machine ∷ []) c.in_ok-slots.ensures.items in
    subst (λ (n : ℕ). Ruled g.M.Machine.stands g.M.Machine.legal g.M.Machine.setting g.M.Machine.version_of T (opening (n ∷ 0 ∷ []) c.push_reserved.new.self.items (newcomer T))) (sym first)
    (subst (λ (xs : List (Option g.row.M.Denot)). Ruled g.M.Machine.stands g.M.Machine.legal g.M.Machine.setting g.M.Machine.version_of T (opening (0 ∷ 0 ∷ []) xs (newcomer T))) (sym slots)
    (starts_it g.M.Machine.stands g.M.Machine.legal g.M.Machine.setting g.M.Machine.version_of T c.args.machine same c.requires (subst (λ s. g.M.Machine.legal s []) same (c.version.ensures.legal [] c.requires)) zeroth))
