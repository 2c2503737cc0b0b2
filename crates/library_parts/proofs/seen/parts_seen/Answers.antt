use Rattle.std.proofs.Common.{refl, rules, arith}
use Rattle.std.proofs.lemmas.Grind.{common_steps}
use Rattle.library_parts.specs.Parts.{at_first}
use Rattle.library_parts.specs.declared.part.PartKind.TheVariants.{Source, Catalog}
use Rattle.library_parts.proofs.SizeLemmas.{seen_sized, blocks_few}
use Rattle.library_parts.proofs.seen.parts_seen.Goals as goal

pub returns-clause-is : goal.returns-clause-is
returns-clause-is c = first_of (search rules, grind (arith, common_steps))

pub returns-clause-sized : goal.returns-clause-sized
returns-clause-sized c = seen_sized at_first 0 c.args.parts.now _ (returns-clause-is c)

pub returns-clause-few_sources : goal.returns-clause-few_sources
returns-clause-few_sources c = blocks_few Source at_first c.args.parts.now _ (returns-clause-is c) refl

pub returns-clause-few_catalogs : goal.returns-clause-few_catalogs
returns-clause-few_catalogs c = blocks_few Catalog at_first c.args.parts.now _ (returns-clause-is c) refl
