use Rattle.std.proofs.Common.{ℕ, List, ◌++◌, length, refl, ap, ◌∙◌}
use Rattle.lc_base.specs.Lines.{lines_of}
use Rattle.tool_files.proofs.PartLemmas.{line_step, last_step}
use Rattle.tool_files.proofs.parts.without.Goals as goal

pub loop-line-preserved : goal.loop-line-preserved
loop-line-preserved c =
    ap (λ (xs : List ℕ). length (lines_of (xs ++ c.in-Some.following.now))) c.in_ok-push_line.ensures
    ∙ line_step c.is_cut.result c.loop-line.kept.items c.in-Some.line.now c.in-Some.following.now c.loop-line.rest.now c.in-Some.ensures.line
    ∙ c.loop-line.invariant

pub returns : goal.returns
returns c =
    ap (λ (xs : List ℕ). length (lines_of xs)) (c.from_vec.ensures ∙ c.in_ok-push_last.ensures)
    ∙ last_step c.is_cut-2.result c.loop-line.kept.items c.loop-line.rest.now (c.in_default.ensures.none refl)
    ∙ c.loop-line.invariant
