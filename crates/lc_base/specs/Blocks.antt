-- Blocks of a bundle (our own).
use Rattle.std.specs.Prelude.{◌<◌, ◌^◌, length}
use Rattle.lc_base.specs.declared.block.Block.{Block}

-- a block whose text and first line have the sizes that readers of texts take
pub record IsSized (block : Block) : Type 0 where
  pub text : length block.text < 2 ^ 31
  pub line : block.first_line < 2 ^ 31
