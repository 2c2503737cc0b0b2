-- The name of an object whose categories may have different locales (XSH setlocale leaves its form open; this is our own):
-- LC_CTYPE=a;LC_NUMERIC=b;LC_MONETARY=c;LC_TIME=d;LC_MESSAGES=e.
use Rattle.std.specs.Prelude.{◌≡◌, ℕ, ◌+◌, Bool, true, ◌==◌, not, ◌&&◌, List, [], ◌∷◌, ◌++◌, length, slice_range, Option, Some, None, option_map, if◌then◌else◌}
use Rattle.std.specs.List.{list_any, list_all, join_with_byte, slice_split}
use Rattle.lc_base.specs.declared.category.Category.{Category}
use Rattle.lc_base.specs.Categories.{categories, category_name}
use Rattle.lc_base.specs.Lines.{after, ◌>>=◌}

-- the byte between two fields of a mixed name, ;
abbrev pub is_separator : ℕ → Bool
is_separator b = b == 59

-- what may stand as a part: it is not empty and has no ;
abbrev pub is_part : List ℕ → Bool
is_part name = not (length name == 0) && not (list_any is_separator name)

-- the field of a category: its name, = and the part
abbrev pub field : Category → List ℕ → List ℕ
field category part = category_name category ++ 61 ∷ part

-- the fields of categories with these parts, in order
abbrev pub fields : List Category → List (List ℕ) → List (List ℕ)
fields [] parts = []
fields (c ∷ cs) [] = []
fields (c ∷ cs) (part ∷ parts) = field c part ∷ fields cs parts

-- the mixed name with these five parts
abbrev pub mixed_name : List (List ℕ) → List ℕ
mixed_name parts = join_with_byte 59 (fields categories parts)

-- whether these are five texts that may stand as parts
abbrev pub are_parts : List (List ℕ) → Bool
are_parts parts = length parts == 5 && list_all is_part parts

-- a text is the mixed name with these parts
pub record IsMixedName (text : List ℕ) (parts : List (List ℕ)) : Type 0 where
  pub good : are_parts parts ≡ true
  pub spelled : text ≡ mixed_name parts

-- ---- the parts of a mixed name

-- a part that is not empty
abbrev pub unless_empty : List ℕ → Option (List ℕ)
unless_empty part = if length part == 0 then None else Some part

-- the part in a category's field
abbrev pub part_in : Category → List ℕ → Option (List ℕ)
part_in category field = (after (category_name category) field >>= after (61 ∷ [])) >>= unless_empty

-- the parts in the fields of categories, where each category has its field and no other is there
abbrev pub parts_in : List Category → List (List ℕ) → Option (List (List ℕ))
parts_in [] [] = Some []
parts_in [] (field ∷ fields) = None
parts_in (c ∷ cs) [] = None
parts_in (c ∷ cs) (field ∷ fields) = part_in c field >>= λ part. option_map (λ parts. part ∷ parts) (parts_in cs fields)

-- the five parts of a mixed name; none where a text is no mixed name
abbrev pub mixed_parts : List ℕ → Option (List (List ℕ))
mixed_parts text = parts_in categories (slice_split is_separator text)

-- where the parts in fields stand, from the field on that begins at this byte: the start and the length of each
abbrev pub spans_from : ℕ → List Category → List (List ℕ) → List (ℕ × ℕ)
spans_from at [] parts = []
spans_from at (c ∷ cs) [] = []
spans_from at (c ∷ cs) (part ∷ parts) = (at + length (field c []), length part) ∷ spans_from (at + length (field c part) + 1) cs parts

-- where the five parts of a mixed name stand
abbrev pub spans_of : List (List ℕ) → List (ℕ × ℕ)
spans_of parts = spans_from 0 categories parts

-- the text of a span
abbrev pub spanned : List ℕ → ℕ × ℕ → List ℕ
spanned text span = slice_range text span.0 (span.0 + span.1)

-- the fields of what follows a field, if something does
abbrev pub fields_of : Option (List ℕ) → List (List ℕ)
fields_of None = []
fields_of (Some text) = slice_split is_separator text

-- how many bytes follow a field, the ; before them included
abbrev pub length_after : Option (List ℕ) → ℕ
length_after None = 0
length_after (Some text) = length text + 1
