use Rattle.std.proofs.Common.{◌∙◌, sym, arith}
use Rattle.src_lines.proofs.Runs.{run_ends, run_is_over, run_goes_on, run_fails}
use Rattle.src_lines.proofs.text.run.Goals as goal

pub returns-in-Err-clause-is : goal.returns-in-Err-clause-is
returns-in-Err-clause-is c =
    let next = rw c.in-Some.is at c.in_ok-read.ensures in
    let wrong = rw (c.in-Some.read-is, c.in-Err.is) at next.0 in
    rw c.place_at.ensures (sym c.loop-atoms.invariant.is ∙ run_fails c.args.run_end c.loop-atoms.atoms _ _ c.in-Err.reason _ wrong)

pub returns-then-ends_run-clause-is : goal.returns-then-ends_run-clause-is
returns-then-ends_run-clause-is c =
    let next = rw c.in-Some.is at c.in_ok-read.ensures in
    let good = rw c.in-Ok.is at next.0 in
    sym c.loop-atoms.invariant.is ∙ run_ends c.args.run_end c.loop-atoms.atoms _ _ c.in-Ok.atom _ good (sym c.ends_run.ensures ∙ c.if-ends_run.true)

pub loop-atoms-preserved : goal.loop-atoms-preserved
loop-atoms-preserved c =
    let next = rw c.in-Some.is at c.in_ok-read.ensures in
    let good = rw c.in-Ok.is at next.0 in
    let one = run_goes_on c.args.run_end c.loop-atoms.atoms _ _ c.in-Ok.atom _ good (sym c.ends_run.ensures ∙ c.if-ends_run.false) in
    record {
      within = next.2;
      forward = omega (arith, next.1, c.loop-atoms.invariant.forward);
      is = rw c.in_ok-atoms.ensures (sym one ∙ c.loop-atoms.invariant.is);
    }

pub returns-clause-is : goal.returns-clause-is
returns-clause-is c =
    let next = rw c.in_default.is at c.in_ok-read.ensures in
    sym c.loop-atoms.invariant.is ∙ run_is_over c.args.run_end c.loop-atoms.atoms _ next
