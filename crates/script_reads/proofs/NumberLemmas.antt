-- A number that a command was given is one that can be formatted.
use Rattle.std.proofs.Common.{◌≡◌, true, List, [], ◌∷◌, ◌++◌}
use Rattle.std.specs.Prelude.{ℤ, pos, negsuc}
use Rattle.std.specs.List.{list_all}
use Rattle.std.proofs.lemmas.List.Folds.{list_all-append}
use Rattle.int_format.specs.Ints.{is_number}
use Rattle.script_words.specs.Numbers as written

-- both ranges are the same
pub is_formatted : (n : ℤ) → written.is_number n ≡ true → is_number n ≡ true
is_formatted (pos n) h = h
is_formatted (negsuc n) h = h

pub one_more_number : (ns : List ℤ) (n : ℤ) → list_all is_number ns ≡ true → written.is_number n ≡ true → list_all is_number (ns ++ n ∷ []) ≡ true
one_more_number ns n all one =
    let same : is_number n ≡ true = is_formatted n one in
    simp (list_all-append, all, same)
