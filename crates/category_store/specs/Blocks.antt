-- The blocks of a bundle that have a locale's source, in the order of their places (our own).
use Rattle.std.specs.Prelude.{ℕ, Bool, nat_lt, List, [], ◌∷◌, map, Option, Some, None, if◌then◌else◌}
use Rattle.lc_base.specs.declared.block.Block.{Block}
use Rattle.lc_base.specs.declared.block.Later.{Later}

-- a block, with the key of a later version
pub record Placed : Type 0 where
  pub key : Option (List ℕ)
  pub block : Block

abbrev pub locale_block : Block → Placed
locale_block block = record { key = None; block = block }

abbrev pub later_block : Later → Placed
later_block later = record { key = Some later.key; block = later.block }

-- whether a block stands before another
abbrev pub is_before : Placed → Placed → Bool
is_before x y = nat_lt x.block.first_line y.block.first_line

-- a block among those of another list: after those that stand before it
abbrev pub among : Placed → (List Placed → List Placed) → List Placed → List Placed
among x rest [] = x ∷ rest []
among x rest (y ∷ ys) = if is_before y x then y ∷ among x rest ys else x ∷ rest (y ∷ ys)

-- two lists that each go by place, as one that does
abbrev pub merged : List Placed → List Placed → List Placed
merged [] ys = ys
merged (x ∷ xs) ys = among x (merged xs) ys

-- the blocks of locales and of their later versions, by place
abbrev pub by_place : List Block → List Later → List Placed
by_place locales later = merged (map locale_block locales) (map later_block later)

-- the first block of two lists by place, with what is left of each
abbrev pub first_block : List Block → List Later → Option (Placed × List Block × List Later)
first_block [] [] = None
first_block [] (y ∷ ys) = Some (later_block y, [], ys)
first_block (x ∷ xs) [] = Some (locale_block x, xs, [])
first_block (x ∷ xs) (y ∷ ys) = if is_before (later_block y) (locale_block x) then Some (later_block y, x ∷ xs, ys) else Some (locale_block x, xs, y ∷ ys)
