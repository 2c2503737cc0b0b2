-- Sizes of blocks by place.
use Rattle.std.proofs.Common.{◌≡◌, ℕ, ◌+◌, Bool, true, false, cond, List, [], ◌∷◌, length, map, sym, ap, subst, arith}
use Rattle.std.specs.List.{All, AllByRecursion}
use Rattle.std.proofs.lemmas.List.{length-map}
use Rattle.std.proofs.lemmas.List.Elements.{All-from_recursion, recursion_from_All}
use Rattle.lc_base.specs.declared.block.Block.{Block}
use Rattle.lc_base.specs.declared.block.Later.{Later}
use Rattle.category_store.specs.declared.blocks.Placed.{Placed as LentPlaced}
use Rattle.lc_base.specs.Blocks.{IsSized}
use Rattle.category_store.specs.Blocks.{Placed, locale_block, later_block, is_before, among, merged, by_place}
use Rattle.category_store.specs.Seen.{placed}

abbrev sized : Placed → Type 0
sized p = IsSized p.block

either_sized : (b : Bool) (xs ys : List Placed) → AllByRecursion sized xs → AllByRecursion sized ys → AllByRecursion sized (cond b xs ys)
either_sized true xs ys h k = h
either_sized false xs ys h k = k

among_sized : (x : Placed) (rest : List Placed → List Placed) (ys : List Placed) → sized x → ((zs : List Placed) → AllByRecursion sized zs → AllByRecursion sized (rest zs)) → AllByRecursion sized ys → AllByRecursion sized (among x rest ys)
among_sized x rest [] h keep all = (h, keep [] tt)
among_sized x rest (y ∷ ys) h keep all = either_sized (is_before y x) (y ∷ among x rest ys) (x ∷ rest (y ∷ ys)) (all.0, among_sized x rest ys h keep all.1) (h, keep (y ∷ ys) all)

merged_sized : (xs ys : List Placed) → AllByRecursion sized xs → AllByRecursion sized ys → AllByRecursion sized (merged xs ys)
merged_sized [] ys h k = k
merged_sized (x ∷ xs) ys h k = among_sized x (merged xs) ys h.0 (λ zs all. merged_sized xs zs h.1 all) k

locales_sized : (bs : List Block) → AllByRecursion IsSized bs → AllByRecursion sized (map locale_block bs)
locales_sized [] h = tt
locales_sized (b ∷ bs) h = (h.0, locales_sized bs h.1)

later_sized : (ls : List Later) → AllByRecursion (λ (l : Later). IsSized l.block) ls → AllByRecursion sized (map later_block ls)
later_sized [] h = tt
later_sized (l ∷ ls) h = (h.0, later_sized ls h.1)

lent_sized : (ps : List LentPlaced) → AllByRecursion sized (map placed ps) → AllByRecursion (λ (p : LentPlaced). IsSized p.block.now) ps
lent_sized [] h = tt
lent_sized (p ∷ ps) h = (h.0, lent_sized ps h.1)

-- all blocks by place have the sizes that the blocks of both lists have
pub blocks_sized : (locales : List Block) (later : List Later) (ps : List LentPlaced) → All IsSized locales → All (λ (l : Later). IsSized l.block) later → map placed ps ≡ by_place locales later → All (λ (p : LentPlaced). IsSized p.block.now) ps
blocks_sized locales later ps h k e =
    let all : AllByRecursion sized (by_place locales later) = merged_sized (map locale_block locales) (map later_block later) (locales_sized locales (recursion_from_All _ locales h)) (later_sized later (recursion_from_All _ later k)) in
    All-from_recursion _ ps (lent_sized ps (subst (AllByRecursion sized) (sym e) all))

either_length : (b : Bool) (xs ys : List Placed) (n : ℕ) → length xs ≡ n → length ys ≡ n → length (cond b xs ys) ≡ n
either_length true xs ys n h k = h
either_length false xs ys n h k = k

among_length : (x : Placed) (rest : List Placed → List Placed) (ys : List Placed) (n : ℕ) → ((zs : List Placed) → length (rest zs) ≡ n + length zs) → length (among x rest ys) ≡ n + length ys + 1
among_length x rest [] n keep = let k = keep [] in omega arith
among_length x rest (y ∷ ys) n keep =
    let k = keep (y ∷ ys) in
    let i = among_length x rest ys n keep in
    either_length (is_before y x) (y ∷ among x rest ys) (x ∷ rest (y ∷ ys)) (n + length (y ∷ ys) + 1) (omega arith) (omega arith)

merged_length : (xs ys : List Placed) → length (merged xs ys) ≡ length xs + length ys
merged_length [] ys = omega arith
merged_length (x ∷ xs) ys = let a = among_length x (merged xs) ys (length xs) (λ zs. merged_length xs zs) in omega arith

-- there are as many blocks by place as in both lists
pub blocks_count : (locales : List Block) (later : List Later) (ps : List LentPlaced) → map placed ps ≡ by_place locales later → length ps ≡ length locales + length later
blocks_count locales later ps e =
    let a = length-map ps placed in
    let b = ap length e in
    let m = merged_length (map locale_block locales) (map later_block later) in
    let x = length-map locales locale_block in
    let y = length-map later later_block in
    omega arith
