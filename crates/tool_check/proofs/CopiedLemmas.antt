-- Blocks that are added with what is looked at.
use Rattle.std.proofs.Common.{◌≡◌, List, [], ◌∷◌, ◌++◌, All, sym, ap, ◌∙◌, append-nil, append_assoc, arith}
use Rattle.std.specs.List.{Contains}
use Rattle.std.proofs.lemmas.List.Elements.{All-push, All-append}
use Rattle.lc_base.specs.declared.block.Block.{Block}
use Rattle.tool_check.specs.declared.looks.Look.{Look}
use Rattle.tool_check.specs.Looks.{block_alone, IsOneAlone, AddsAlone}

all_of_none : (P : Block → Type 0) → All P []
all_of_none P = λ k d lt. absurd (omega (arith, lt))

pub none_added : (look : Look) (blocks old new : List Block) → new ≡ old → AddsAlone look blocks old new
none_added look blocks old new e = record { more = []; parts = e ∙ sym (append-nil old); each = all_of_none (IsOneAlone look blocks) }

pub one_added : (look : Look) (blocks old new : List Block) (block alone : Block) → Contains blocks block → alone ≡ block_alone look block → new ≡ old ++ alone ∷ [] → AddsAlone look blocks old new
one_added look blocks old new block alone there is e = record {
  more = alone ∷ [];
  parts = e;
  each = All-push (IsOneAlone look blocks) [] alone (all_of_none (IsOneAlone look blocks)) (record { block = block; there = there; alone_is = is });
}

pub added_twice : (look : Look) (blocks old between new : List Block) → AddsAlone look blocks old between → AddsAlone look blocks between new → AddsAlone look blocks old new
added_twice look blocks old between new a b = record {
  more = a.more ++ b.more;
  parts = b.parts ∙ ap (λ (xs : List Block). xs ++ b.more) a.parts ∙ append_assoc old a.more b.more;
  each = All-append (IsOneAlone look blocks) a.more b.more a.each b.each;
}
