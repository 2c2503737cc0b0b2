use Rattle.std.proofs.Common.{subst, sym}
use Rattle.std.specs.List.{All}
use Rattle.lc_base.specs.Blocks.{IsSized}
use Rattle.library_parts.specs.declared.blocks.Blocks.{Blocks}
use Rattle.library_parts.specs.declared.part.PartKind.TheVariants.{Charmap, Source, Catalog}
use Rattle.library_parts.proofs.SizeLemmas.{blocks_sized}
use Rattle.std.proofs.Common.{rules, arith}
use Rattle.std.proofs.lemmas.Grind.{common_steps}
use Rattle.library_parts.proofs.blocks.Blocks.of.Goals as goal

pub returns-clause-is : goal.returns-clause-is
returns-clause-is c = first_of (search rules, grind (arith, common_steps))

pub returns-clause-charmaps : goal.returns-clause-charmaps
returns-clause-charmaps c = subst (λ (b : Blocks). All IsSized b.charmaps) (sym (returns-clause-is c)) (blocks_sized Charmap c.args.parts.items c.requires)

pub returns-clause-sources : goal.returns-clause-sources
returns-clause-sources c = subst (λ (b : Blocks). All IsSized b.sources) (sym (returns-clause-is c)) (blocks_sized Source c.args.parts.items c.requires)

pub returns-clause-catalogs : goal.returns-clause-catalogs
returns-clause-catalogs c = subst (λ (b : Blocks). All IsSized b.catalogs) (sym (returns-clause-is c)) (blocks_sized Catalog c.args.parts.items c.requires)
