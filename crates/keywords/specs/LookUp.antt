-- What the table of keywords says of a keyword.
use Rattle.std.specs.Prelude.{ℕ, ℤ, negsuc, List, [], find, Option, Some, None, option_map}
use Rattle.std.specs.Str.{bytes_eq}
use Rattle.lc_base.specs.declared.category.Category.{Category}
use Rattle.keywords.specs.declared.row.Operands.{Operands}
use Rattle.keywords.specs.declared.row.Rule.{Rule}
use Rattle.keywords.specs.Table.{PosixValue, Nothing, Text, Number, Texts, Ranges, Pairs, KeywordRow, keywords}

-- the first of rows with a name
abbrev pub row_in : List KeywordRow → List ℕ → Option KeywordRow
row_in rows name = find (λ (r : KeywordRow). bytes_eq r.name name) rows

-- the row of a keyword; none where the category has no such keyword
abbrev pub keyword_of : Category → List ℕ → Option KeywordRow
keyword_of category name = row_in (keywords category) name

-- what a keyword takes
abbrev pub takes_of : Category → List ℕ → Option Operands
takes_of category name = option_map (λ (r : KeywordRow). r.takes) (keyword_of category name)

-- what the operands of a keyword must be, beyond their kind
abbrev pub rule_of : Category → List ℕ → Option Rule
rule_of category name = option_map (λ (r : KeywordRow). r.rule) (keyword_of category name)

-- the POSIX value of a keyword
abbrev pub posix_in : Option KeywordRow → PosixValue
posix_in None = Nothing
posix_in (Some r) = r.posix

-- POSIX values by their kinds: a keyword of another kind has an empty text or list, and -1
abbrev pub text_of : PosixValue → List ℕ
text_of (Text text) = text
text_of _ = []

abbrev pub number_of : PosixValue → ℤ
number_of (Number n) = n
number_of _ = negsuc 0

abbrev pub texts_of : PosixValue → List (List ℕ)
texts_of (Texts texts) = texts
texts_of _ = []

abbrev pub ranges_of : PosixValue → List (ℕ × ℕ)
ranges_of (Ranges ranges) = ranges
ranges_of _ = []

abbrev pub pairs_of : PosixValue → List (ℕ × ℕ)
pairs_of (Pairs pairs) = pairs
pairs_of _ = []

-- the POSIX value of a keyword
abbrev pub posix_text : Category → List ℕ → List ℕ
posix_text category name = text_of (posix_in (keyword_of category name))

abbrev pub posix_number : Category → List ℕ → ℤ
posix_number category name = number_of (posix_in (keyword_of category name))

abbrev pub posix_texts : Category → List ℕ → List (List ℕ)
posix_texts category name = texts_of (posix_in (keyword_of category name))

abbrev pub posix_ranges : Category → List ℕ → List (ℕ × ℕ)
posix_ranges category name = ranges_of (posix_in (keyword_of category name))

abbrev pub posix_pairs : Category → List ℕ → List (ℕ × ℕ)
posix_pairs category name = pairs_of (posix_in (keyword_of category name))
