-- Keywords of a keyword list and their values (XBD 7.3.1, 7.3.3 to 7.3.6). The first line with a keyword counts, and a value of another kind than the keyword's counts as none; a source has neither.
use Rattle.std.specs.Prelude.{ℕ, ℤ, List, [], ◌∷◌, Option, Some, None, if◌then◌else◌}
use Rattle.std.specs.Str.{bytes_eq}
use Rattle.lc_base.specs.declared.category.Category.{Category}
use Rattle.lc_base.specs.declared.place.Place.{Place}
use Rattle.keywords.specs.LookUp.{posix_text, posix_number, posix_texts}
use Rattle.keywords.specs.declared.source.Value.{Value}
use Rattle.keywords.specs.declared.source.Value.TheVariants.{Text, Number, Chars, Pair}
use Rattle.keywords.specs.declared.source.Entry.{Entry}

-- the operands of the first line with this keyword
abbrev pub operands : List Entry → List ℕ → Option (List (Place × Value))
operands [] keyword = None
operands (e ∷ es) keyword = if bytes_eq e.keyword keyword then Some e.values else operands es keyword

-- the text that operands begin with, or else the POSIX value
abbrev pub text_or : List ℕ → Option (List (Place × Value)) → List ℕ
text_or posix None = posix
text_or posix (Some []) = posix
text_or posix (Some ((place, Text text) ∷ vs)) = text
text_or posix (Some ((place, Number n) ∷ vs)) = posix
text_or posix (Some ((place, Chars a b) ∷ vs)) = posix
text_or posix (Some ((place, Pair a b) ∷ vs)) = posix

-- the number that operands begin with, or else the POSIX value
abbrev pub number_or : ℤ → Option (List (Place × Value)) → ℤ
number_or posix None = posix
number_or posix (Some []) = posix
number_or posix (Some ((place, Text text) ∷ vs)) = posix
number_or posix (Some ((place, Number n) ∷ vs)) = n
number_or posix (Some ((place, Chars a b) ∷ vs)) = posix
number_or posix (Some ((place, Pair a b) ∷ vs)) = posix

-- the texts, numbers, ranges of characters and pairs among values
abbrev pub texts : List (Place × Value) → List (List ℕ)
texts [] = []
texts ((place, Text text) ∷ vs) = text ∷ texts vs
texts ((place, Number n) ∷ vs) = texts vs
texts ((place, Chars a b) ∷ vs) = texts vs
texts ((place, Pair a b) ∷ vs) = texts vs

abbrev pub numbers : List (Place × Value) → List ℤ
numbers [] = []
numbers ((place, Text text) ∷ vs) = numbers vs
numbers ((place, Number n) ∷ vs) = n ∷ numbers vs
numbers ((place, Chars a b) ∷ vs) = numbers vs
numbers ((place, Pair a b) ∷ vs) = numbers vs

abbrev pub ranges : List (Place × Value) → List (ℕ × ℕ)
ranges [] = []
ranges ((place, Text text) ∷ vs) = ranges vs
ranges ((place, Number n) ∷ vs) = ranges vs
ranges ((place, Chars a b) ∷ vs) = (a, b) ∷ ranges vs
ranges ((place, Pair a b) ∷ vs) = ranges vs

abbrev pub pairs : List (Place × Value) → List (ℕ × ℕ)
pairs [] = []
pairs ((place, Text text) ∷ vs) = pairs vs
pairs ((place, Number n) ∷ vs) = pairs vs
pairs ((place, Chars a b) ∷ vs) = pairs vs
pairs ((place, Pair a b) ∷ vs) = (a, b) ∷ pairs vs

-- the numbers of operands, or else the POSIX value
abbrev pub numbers_or : List ℤ → Option (List (Place × Value)) → List ℤ
numbers_or posix None = posix
numbers_or posix (Some vs) = numbers vs

-- the texts of operands, or else the POSIX value
abbrev pub texts_or : List (List ℕ) → Option (List (Place × Value)) → List (List ℕ)
texts_or posix None = posix
texts_or posix (Some vs) = texts vs

-- the value of a keyword of a category: that of its first line, or else its POSIX value
abbrev pub text_value : Category → List Entry → List ℕ → List ℕ
text_value category list keyword = text_or (posix_text category keyword) (operands list keyword)

abbrev pub number_value : Category → List Entry → List ℕ → ℤ
number_value category list keyword = number_or (posix_number category keyword) (operands list keyword)

abbrev pub numbers_value : Category → List Entry → List ℕ → List ℤ
numbers_value category list keyword = numbers_or (posix_number category keyword ∷ []) (operands list keyword)

abbrev pub texts_value : Category → List Entry → List ℕ → List (List ℕ)
texts_value category list keyword = texts_or (posix_texts category keyword) (operands list keyword)
