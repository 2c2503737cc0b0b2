use Rattle.std.proofs.Common.{◌≡◌, Some, arith, sym, ◌∙◌}
use Rattle.strfmon.proofs.FormatLemmas.{flags_step, flags_last, flags_bad, flags_over}
use Rattle.strfmon.proofs.format.flags_of.Goals as goal

pub returns-in_default-clause-is : goal.returns-in_default-clause-is
returns-in_default-clause-is c =
    sym (c.loop-at.invariant.rest ∙ flags_bad c.args.bytes.now c.loop-at.at c.loop-at.flags (omega arith) (sym c.with_flag.ensures.is ∙ c.in_default.is))

pub loop-at-preserved : goal.loop-at-preserved
loop-at-preserved c = record {
  rest = c.loop-at.invariant.rest
      ∙ flags_step c.args.bytes.now c.loop-at.at c.in-Some.used c.loop-at.flags c.in-Some.more (omega arith) (sym c.with_flag.ensures.is ∙ cc) (omega arith) c.in-Some.ensures.within;
  within = omega (arith, c.in-Some.ensures.within);
}

pub returns-after-loop-at-clause-is : goal.returns-after-loop-at-clause-is
returns-after-loop-at-clause-is c =
    sym (c.loop-at.invariant.rest ∙ flags_over c.args.bytes.now c.loop-at.at c.loop-at.flags (omega arith))

pub returns-then-used-eq0-clause-is : goal.returns-then-used-eq0-clause-is
returns-then-used-eq0-clause-is c =
    let last : c.with_flag.result ≡ Some (c.in-Some.more, 0) = cc in
    sym (c.loop-at.invariant.rest ∙ flags_last c.args.bytes.now c.loop-at.at c.loop-at.flags c.in-Some.more (omega arith) (sym c.with_flag.ensures.is ∙ last))
