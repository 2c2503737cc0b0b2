use Rattle.script_plan.proofs.KeyLemmas.{have_versions}
use Rattle.script_plan.proofs.plan.prepare.Goals as goal

pub invariant_of-result : goal.invariant_of-result
invariant_of-result c = record {
  accepted = c.in_ok-bundle.ensures.accepted;
  numbered = c.in_ok-library.ensures.numbered;
  installable = c.in_ok-library.ensures.installable;
  installed = have_versions c.in_ok-bundle.bundle c.in_ok-library.library c.in_ok-library.ensures.library c.in_ok-bundle.ensures.keyed;
}
