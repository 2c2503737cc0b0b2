use Rattle.std.proofs.Common.{◌≡◌, ℕ, Bool, sym, ap, ◌∙◌, arith}
use Rattle.tool_check.specs.Summary.{count_below, is_numbered}
use Rattle.tool_check.proofs.SummaryLemmas.{count_yes, count_no}
use Rattle.tool_check.proofs.summary.member_count.Goals as goal
use Rattle.tool_check.proofs.summary.member_count.Goals.{then-is_numbered, else-is_numbered}

pub loop-value-preserved : goal.loop-value-preserved
loop-value-preserved c =
    let P : ℕ → Bool = is_numbered c.args.ctype.now.classes c.args.number in
    elim c.if-is_numbered.branch [
      | then-is_numbered w ↦ record {
        counted = omega (arith, count_yes P c.loop-value.value (sym c.is_numbered.ensures ∙ w.if-is_numbered.true), w.count-is, c.loop-value.invariant.counted);
        few = omega (arith, w.count-is);
      }
      | else-is_numbered w ↦ record {
        counted = omega (arith, count_no P c.loop-value.value (sym c.is_numbered.ensures ∙ w.if-is_numbered.false), w.count-is, c.loop-value.invariant.counted);
        few = omega (arith, w.count-is);
      }
    ]

pub returns-then-is_numbered-2-clause-is : goal.returns-then-is_numbered-2-clause-is
returns-then-is_numbered-2-clause-is c =
    let P : ℕ → Bool = is_numbered c.args.ctype.now.classes c.args.number in
    let end : c.loop-value.value ≡ c.args.last = omega arith in
    omega (arith, count_yes P c.args.last (sym c.is_numbered-2.ensures ∙ c.if-is_numbered-2.true), c.loop-value.invariant.counted, ap (count_below P) end)

pub returns-else-is_numbered-2-clause-is : goal.returns-else-is_numbered-2-clause-is
returns-else-is_numbered-2-clause-is c =
    let P : ℕ → Bool = is_numbered c.args.ctype.now.classes c.args.number in
    let end : c.loop-value.value ≡ c.args.last = omega arith in
    omega (arith, count_no P c.args.last (sym c.is_numbered-2.ensures ∙ c.if-is_numbered-2.false), c.loop-value.invariant.counted, ap (count_below P) end)
