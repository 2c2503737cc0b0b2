use Rattle.std.proofs.Common.{◌∙◌, ap, sym, subst, length, List}
use Rattle.std.specs.List.{All}
use Rattle.std.proofs.lemmas.Result.{IfOk-weaker}
use Rattle.category_store.specs.declared.blocks.Placed.{Placed}
use Rattle.lc_base.specs.Blocks.{IsSized}
use Rattle.category_store.proofs.SizeLemmas.{blocks_sized, blocks_count}
use Rattle.category_store.proofs.reading.read_blocks.Goals as goal

pub read_sources-requires : goal.read_sources-requires
read_sources-requires c =
    subst (λ (ps : List Placed). All (λ (p : Placed). IsSized p.block.now) ps) (sym c.as_slice.ensures.value) (blocks_sized c.args.locales.now c.args.later.now c.in_ok-blocks.blocks.items c.requires.locales c.requires.later c.in_ok-blocks.ensures)

pub returns-clause-count : goal.returns-clause-count
returns-clause-count c =
    let count = blocks_count c.args.locales.now c.args.later.now c.in_ok-blocks.blocks.items c.in_ok-blocks.ensures in
    IfOk-weaker c.read_sources.result _ _ (λ v is. is ∙ (ap length c.as_slice.ensures.value ∙ count)) c.read_sources.ensures.count
