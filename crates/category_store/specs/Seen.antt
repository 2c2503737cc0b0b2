-- Blocks that are lent as values of the definitions.
use Rattle.std.specs.Prelude.{List}
use Rattle.std.specs.Borrow.{Bor}
use Rattle.std.specs.Option.{option_copied}
use Rattle.lc_base.specs.declared.block.Block.{Block}
use Rattle.lc_base.specs.declared.block.Later.{Later}
use Rattle.category_store.specs.declared.blocks.Placed.{Placed as Lent}
use Rattle.category_store.specs.Blocks.{Placed}

-- a block with its key
abbrev pub placed : Lent → Placed
placed p = record { key = option_copied p.key; block = p.block.now }

-- a block that was taken from two lists, and what is left of them
abbrev pub taken : Lent × Bor (List Block) × Bor (List Later) → Placed × List Block × List Later
taken t = (placed t.0, t.1.now, t.2.now)
