use Rattle.std.proofs.Common.{rules, ℕ, List, ◌≡◌, ◌∷◌, ◌∙◌, sym, ap, true, false}
use Rattle.lc_base.specs.Lines.{is_newline}
use Rattle.msg_catalog.specs.Spots.{spots, joins_here}
use Rattle.msg_catalog.proofs.Lining.{spots_newline, spots_other}
use Rattle.msg_catalog.proofs.cursor.Cursor.split_first.Goals as goal

pub returns-then-byte-eq10-clause-is : goal.returns-then-byte-eq10-clause-is
returns-then-byte-eq10-clause-is c =
    let here = c.past_joins-here.result in
    let some : here.rest.now ≡ c.in_ok-byte.byte.now ∷ c.in_ok-byte.rest.now = search rules in
    let bare : joins_here (c.in_ok-byte.byte.now ∷ c.in_ok-byte.rest.now) ≡ false = ap joins_here (sym some) ∙ c.past_joins-here.ensures.bare in
    let newline : is_newline c.in_ok-byte.byte.now ≡ true = search rules in
    sym c.past_joins-here.ensures.same ∙ ap (λ (bs : List ℕ). spots here.line here.column bs) some ∙ (spots_newline here.line here.column c.in_ok-byte.byte.now c.in_ok-byte.rest.now bare newline)

pub returns-clause-is : goal.returns-clause-is
returns-clause-is c =
    let here = c.past_joins-here.result in
    let some : here.rest.now ≡ c.in_ok-byte.byte.now ∷ c.in_ok-byte.rest.now = search rules in
    let bare : joins_here (c.in_ok-byte.byte.now ∷ c.in_ok-byte.rest.now) ≡ false = ap joins_here (sym some) ∙ c.past_joins-here.ensures.bare in
    let other : is_newline c.in_ok-byte.byte.now ≡ false = search rules in
    sym c.past_joins-here.ensures.same ∙ ap (λ (bs : List ℕ). spots here.line here.column bs) some ∙ (spots_other here.line here.column c.in_ok-byte.byte.now c.in_ok-byte.rest.now bare other)
