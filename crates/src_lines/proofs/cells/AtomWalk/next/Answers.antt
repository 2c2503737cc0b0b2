use Rattle.std.proofs.Common.{◌≤◌, ◌∙◌, ◌⊎◌, sym, [], length, inl, inr, arith, add-one}
use Rattle.src_lines.specs.Cells.{leading}
use Rattle.src_lines.proofs.Celling.{next_is, none_is}
use Rattle.src_lines.proofs.cells.AtomWalk.next.Goals as goal

pub returns-then-len-marks-clause-none : goal.returns-then-len-marks-clause-none
returns-then-len-marks-clause-none c = λ e.
    let ms = c.self.inside.marks.now in
    let bs = c.self.inside.bytes.now in
    let over : (length ms ≤ leading ms) ⊎ (length bs ≤ leading ms) = elim c.then-len-marks.either [
      | inl le ↦ inl (omega (arith, c.name_len-len.ensures.is))
      | inr more ↦ inr (omega (arith, c.name_len-len.ensures.is, more))
    ] in
    sym c.self.view_is ∙ none_is [] ms bs over

pub returns-then-len-marks-clause-over : goal.returns-then-len-marks-clause-over
returns-then-len-marks-clause-over c = λ e.
    let ms = c.self.inside.marks.now in
    let bs = c.self.inside.bytes.now in
    let over : (length ms ≤ leading ms) ⊎ (length bs ≤ leading ms) = elim c.then-len-marks.either [
      | inl le ↦ inl (omega (arith, c.name_len-len.ensures.is))
      | inr more ↦ inr (omega (arith, c.name_len-len.ensures.is, more))
    ] in
    sym c.self.view_is ∙ none_is [] ms bs over

pub returns-clause-some : goal.returns-clause-some
returns-clause-some c =
    let ms = c.self.inside.marks.now in
    let bs = c.self.inside.bytes.now in
    rw (c.marked-atom.ensures, c.split_at.ensures.front, c.split_at-2.ensures.back, c.split_at-3.ensures.back, add-one c.name_len-len.result) (sym c.self.view_is ∙ next_is [] ms bs _ c.name_len-len.result c.name_len-len.ensures.is (omega arith) (omega arith))
