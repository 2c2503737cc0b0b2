-- Sizes of blocks, one block after another.
use Rattle.std.proofs.Common.{List, [], ◌∷◌}
use Rattle.std.specs.List.{All}
use Rattle.std.proofs.lemmas.List.Elements.{All-nil, All-cons}
use Rattle.lc_base.specs.declared.block.Block.{Block}
use Rattle.lc_base.specs.declared.block.Later.{Later}
use Rattle.lc_base.specs.Blocks.{IsSized}

pub none_sized : All IsSized []
none_sized = All-nil IsSized

pub one_more_sized : (b : Block) (bs : List Block) → IsSized b → All IsSized bs → All IsSized (b ∷ bs)
one_more_sized b bs h all = All-cons IsSized b bs h all

pub none_later_sized : All (λ (l : Later). IsSized l.block) []
none_later_sized = All-nil (λ (l : Later). IsSized l.block)
