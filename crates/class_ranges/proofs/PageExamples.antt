-- Maps, bits, pages and blocks that are asked.
use Rattle.std.proofs.Common.{◌≡◌, true, false, [], ◌∷◌, Some, None, refl}
use Rattle.class_ranges.specs.Maps.{image, block_gives}
use Rattle.class_ranges.specs.Pages.{has_bit, in_page, page_says}

-- the image of a key, and of a value that is none
key : image ((65, 97) ∷ (66, 98) ∷ []) 66 ≡ 98
key = refl

no_key : image ((65, 97) ∷ (66, 98) ∷ []) 67 ≡ 67
no_key = refl

-- the lowest bit is bit 0
lowest : has_bit 5 0 ≡ true
lowest = refl

unset : has_bit 5 1 ≡ false
unset = refl

-- the value at place 130 has bit 2 of the third word
third_word : in_page (0 ∷ 0 ∷ 4 ∷ 0 ∷ []) 130 ≡ true
third_word = refl

other_word : in_page (0 ∷ 4 ∷ 0 ∷ 0 ∷ []) 130 ≡ false
other_word = refl

-- page 0 has no value, page 1 all, page 2 is the first with bits, and there is no page 3
none : page_says ((1 ∷ 0 ∷ 0 ∷ 0 ∷ []) ∷ []) 0 0 ≡ Some false
none = refl

all : page_says ((1 ∷ 0 ∷ 0 ∷ 0 ∷ []) ∷ []) 1 9 ≡ Some true
all = refl

bits : page_says ((1 ∷ 0 ∷ 0 ∷ 0 ∷ []) ∷ []) 2 0 ≡ Some true
bits = refl

no_page : page_says ((1 ∷ 0 ∷ 0 ∷ 0 ∷ []) ∷ []) 3 0 ≡ None
no_page = refl

-- block 0 gives the value, block 1 is the first with images, and there is no block 2
itself : block_gives ((9 ∷ 8 ∷ []) ∷ []) 0 1 65 ≡ Some 65
itself = refl

moved : block_gives ((9 ∷ 8 ∷ []) ∷ []) 1 1 65 ≡ Some 8
moved = refl

no_block : block_gives ((9 ∷ 8 ∷ []) ∷ []) 2 1 65 ≡ None
no_block = refl
