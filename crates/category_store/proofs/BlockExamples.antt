-- Worked examples of blocks by place, and of charsets by their names.
use Rattle.std.specs.Prelude.{◌≡◌, ℕ, List, [], ◌∷◌, codes, map, refl}
use Rattle.lc_base.specs.declared.block.Block.{Block}
use Rattle.charset.specs.CodedSet.{utf8, listed}
use Rattle.category_store.specs.Blocks.{by_place}
use Rattle.category_store.specs.Sources.{charset_named}

-- ---- blocks by place

abbrev block : ℕ → List ℕ → Block
block line name = record { name = name; charset = codes "UTF-8"; first_line = line; text = [] }

-- the blocks of both lists go by place
by_place-both : map (λ p. p.block.first_line) (by_place (block 2 (codes "a") ∷ block 9 (codes "b") ∷ []) (record { key = codes "k"; block = block 5 (codes "a") } ∷ record { key = codes "l"; block = block 12 (codes "c") } ∷ [])) ≡ 2 ∷ 5 ∷ 9 ∷ 12 ∷ []
by_place-both = refl

-- ---- charsets

charset_named-built_in : charset_named ((codes "demo", listed (codes "DEMO") []) ∷ []) (codes "UTF-8") ≡ utf8
charset_named-built_in = refl

charset_named-charmap : charset_named ((codes "demo", listed (codes "DEMO") []) ∷ []) (codes "demo") ≡ listed (codes "DEMO") []
charset_named-charmap = refl
