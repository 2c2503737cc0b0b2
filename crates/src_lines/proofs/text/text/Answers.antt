use Rattle.std.proofs.Common.{◌∙◌, sym, arith, map}
use Rattle.src_lines.specs.Atoms.{piece}
use Rattle.src_lines.proofs.Runs.{text_ends, text_is_open, text_goes_on, text_fails}
use Rattle.src_lines.proofs.text.text.Goals as goal

pub returns-in-Err-clause-is : goal.returns-in-Err-clause-is
returns-in-Err-clause-is c =
    let next = rw c.in-Some.is at c.in_ok-read.ensures in
    let wrong = rw c.in-Err.is at next.0 in
    text_fails c.in_ok-fault_in_text-in-Err.field-0 (map piece c.loop-atoms.atoms) _ _ _ c.in-Err.reason _ _ wrong c.loop-atoms.invariant.is c.in_ok-fault_in_text-in-Err.ensures

pub returns-then-is_bare-clause-is : goal.returns-then-is_bare-clause-is
returns-then-is_bare-clause-is c =
    let next = rw c.in-Some.is at c.in_ok-read.ensures in
    let good = rw c.in-Ok.is at next.0 in
    rw c.of.ensures (sym c.loop-atoms.invariant.is ∙ text_ends c.loop-atoms.atoms _ _ _ c.in-Ok.atom _ good (sym c.is_bare.ensures ∙ c.if-is_bare.true))

pub loop-atoms-preserved : goal.loop-atoms-preserved
loop-atoms-preserved c =
    let next = rw c.in-Some.is at c.in_ok-read.ensures in
    let good = rw c.in-Ok.is at next.0 in
    let one = text_goes_on c.loop-atoms.atoms _ _ _ c.in-Ok.atom _ good (sym c.is_bare.ensures ∙ c.if-is_bare.false) in
    record {
      within = next.2;
      forward = omega (arith, next.1, c.loop-atoms.invariant.forward);
      is = rw c.in_ok-atoms.ensures (sym one ∙ c.loop-atoms.invariant.is);
    }

pub returns-clause-is : goal.returns-clause-is
returns-clause-is c =
    let next = rw c.in_default.is at c.in_ok-read.ensures in
    rw c.place_at.ensures (sym c.loop-atoms.invariant.is ∙ text_is_open (map piece c.loop-atoms.atoms) _ _ next)
