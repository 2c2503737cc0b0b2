-- The blocks of parts, part after part.
use Rattle.std.specs.Prelude.{if◌then◌else◌}
use Rattle.std.proofs.Common.{◌≡◌, ℕ, List, [], ◌∷◌, ◌++◌, refl, ap, append_assoc}
use Rattle.lc_base.specs.declared.block.Block.{Block}
use Rattle.library_parts.specs.declared.part.LibraryPart.{LibraryPart}
use Rattle.library_parts.specs.declared.part.PartKind.{PartKind}
use Rattle.library_parts.specs.declared.part.PartKind.TheVariants.{Charmap, Source, Catalog}
use Rattle.library_parts.specs.declared.blocks.Blocks.{Blocks}
use Rattle.library_parts.specs.Places.{befores, behind_part, block, blocks_of, same_kind, more_blocks, with_block}

-- more blocks behind those that are there
abbrev pub joined_blocks : Blocks → List Block → List Block → List Block → List ℕ → Blocks
joined_blocks s cs ss ts bs = record { charmaps = s.charmaps ++ cs; sources = s.sources ++ ss; catalogs = s.catalogs ++ ts; befores = s.befores ++ bs }

-- the blocks so far, with those of parts behind so many lines
abbrev pub blocks_from : Blocks → ℕ → List LibraryPart → Blocks
blocks_from s before ps = joined_blocks s (blocks_of Charmap before ps) (blocks_of Source before ps) (blocks_of Catalog before ps) (befores before ps)

append_nil : {A : Type 0} (xs : List A) → xs ++ [] ≡ xs
append_nil [] = refl
append_nil {A} (x ∷ xs) = ap (λ (ys : List A). x ∷ ys) (append_nil xs)

-- a block before others of its kind
abbrev before_others : PartKind → PartKind → Block → List Block → List Block
before_others kind k b rest = if same_kind kind k then b ∷ rest else rest

taken : (s : Blocks) (k : PartKind) (b : Block) (n : ℕ) (cs ss ts : List Block) (bs : List ℕ)
    → joined_blocks (more_blocks s k b n) cs ss ts bs ≡ joined_blocks s (before_others Charmap k b cs) (before_others Source k b ss) (before_others Catalog k b ts) (n ∷ bs)
taken s Charmap b n cs ss ts bs = simp append_assoc
taken s Source b n cs ss ts bs = simp append_assoc
taken s Catalog b n cs ss ts bs = simp append_assoc

-- a part that was taken
pub blocks_step : (s : Blocks) (before : ℕ) (p : LibraryPart) (ps : List LibraryPart) → blocks_from (with_block s before p) (behind_part before p) ps ≡ blocks_from s before (p ∷ ps)
blocks_step s before p ps =
    let next = behind_part before p in
    taken s p.kind (block before p) before (blocks_of Charmap next ps) (blocks_of Source next ps) (blocks_of Catalog next ps) (befores next ps)

-- behind the last part
pub blocks_end : (s : Blocks) (before : ℕ) → blocks_from s before [] ≡ s
blocks_end s before = simp append_nil
