-- What the locale names stand for after a history. An op that a search does not name leaves what it
-- searches for as it was.
use Rattle.std.specs.Prelude.{ℕ, suc, Bool, not, ◌&&◌, ◌==◌, if◌then◌else◌, List, [], ◌∷◌, slice_index_or, Option}
use Rattle.std.specs.List.{find}
use Rattle.lc_base.specs.declared.category.Category.{Category}
use Rattle.lc_base.specs.declared.category.Category.TheVariants.{Ctype, Numeric, Monetary, Time, Messages}
use Rattle.lc_base.specs.Categories.{categories, number_for}
use Rattle.lc_base.specs.Mask.{includes}
use Rattle.mask_compose.specs.Parts.{Parts, part_of}
use Rattle.mask_compose.specs.Offer.{Offered, no_offer}
use Rattle.handle_table.specs.Entry.{Op, Install, History, Setting, is_accepted}

-- the POSIX locale's offer: the first opening one
abbrev pub posix_offer : Setting → Offered
posix_offer c = slice_index_or c.opening 0 no_offer

-- the POSIX locale's object
abbrev pub posix : Setting → Parts
posix c = (posix_offer c).object

-- the offer of a name before any Install; no op names a number that is not on the shelf
abbrev pub opening_offer : Setting → ℕ → Offered
opening_offer c n = slice_index_or c.opening n (posix_offer c)

-- the offer of a name after an op
abbrev pub offer_after : Op → ℕ → Offered → Offered
offer_after (Install m offer) n before = if m == n then offer else before
offer_after _ n before = before

-- the offer of a name: that of its last Install, else the opening one
abbrev pub shelf : Setting → History → ℕ → Offered
shelf c [] n = opening_offer c n
shelf c (e ∷ H) n = if is_accepted e.reply then offer_after e.op n (shelf c H n) else shelf c H n

-- the number of Installs after an op
abbrev pub installs_after : Op → ℕ → ℕ
installs_after (Install m offer) before = suc before
installs_after _ before = before

-- how many times a locale was installed
abbrev pub installs : History → ℕ
installs [] = 0
installs (e ∷ H) = if is_accepted e.reply then installs_after e.op (installs H) else installs H

-- the part that a mask and numbers take from the shelf for a category: in the mask that part of the
-- offer of the category's name, otherwise the POSIX locale's part
abbrev pub part_from_shelf : Setting → History → ℕ → List ℕ → Category → ℕ
part_from_shelf c H mask numbers category =
    if includes mask category then part_of (shelf c H (number_for numbers category)).object category else part_of (posix c) category

-- the object that a mask and numbers take from the shelf
abbrev pub from_shelf : Setting → History → ℕ → List ℕ → Parts
from_shelf c H mask numbers = record {
  ctype = part_from_shelf c H mask numbers Ctype;
  numeric = part_from_shelf c H mask numbers Numeric;
  monetary = part_from_shelf c H mask numbers Monetary;
  time = part_from_shelf c H mask numbers Time;
  messages = part_from_shelf c H mask numbers Messages;
}

-- whether the mask has the category, and the offer of its name lacks it
abbrev pub is_lacking : Setting → History → ℕ → List ℕ → Category → Bool
is_lacking c H mask numbers category =
    includes mask category && not (includes (shelf c H (number_for numbers category)).available category)

-- the first category of the mask that the offer of its name lacks, or none
abbrev pub lacking : Setting → History → ℕ → List ℕ → Option Category
lacking c H mask numbers = find (is_lacking c H mask numbers) categories
