-- What accepted files have, as a table (our own).
use Rattle.std.specs.Prelude.{ℕ, ◌+◌, ◌^◌, ◌==◌, Bool, false, ◌&&◌, List, [], ◌∷◌, ◌++◌, length, drop, codes, zero, suc, unwrap_or, if◌then◌else◌}
use Rattle.std.specs.List.{flat_map}
use Rattle.std.specs.Fmt.{decimal}
use Rattle.lc_base.specs.Categories.{category_name}
use Rattle.keywords.specs.declared.source.Body.{Body}
use Rattle.keywords.specs.declared.source.Body.TheVariants.{Copy, Entries}
use Rattle.keywords.specs.declared.source.Section.{Section}
use Rattle.charset.specs.CodedSet.{CodedSet, set_name, has}
use Rattle.ctype_classes.specs.Table.{class_names}
use Rattle.ctype_classes.specs.Classes.{Classes, class_answer, numbered_answer}

-- a row: a name, blanks up to the fifteenth byte, and what stands behind them
abbrev pub row : List ℕ → List ℕ → List ℕ
row name value = name ++ drop (length name) (codes "               ") ++ value ++ 10 ∷ []

-- the line with which the summary of a file begins
abbrev pub accepted_line : List ℕ → List ℕ
accepted_line path = path ++ codes ": accepted" ++ 10 ∷ []

-- so many keywords
abbrev pub keyword_count : ℕ → List ℕ
keyword_count n = decimal n ++ (if n == 1 then codes " keyword" else codes " keywords")

-- what a section says: the locale that it copies, or the number of its keywords
abbrev pub body_text : Body → List ℕ
body_text (Copy place name) = codes "copy of " ++ name
body_text (Entries entries) = keyword_count (length entries)

abbrev pub section_row : Section → List ℕ
section_row s = row (category_name s.category) (body_text s.body)

-- how many values below this one pass a test
unfoldable pub count_below : (ℕ → Bool) → ℕ → ℕ
count_below test zero = 0
count_below test (suc n) = if test n then count_below test n + 1 else count_below test n

-- whether a value is in a class, if there is one of that name
abbrev pub is_in_class : Classes → List ℕ → ℕ → Bool
is_in_class classes class w = unwrap_or (class_answer classes class w) false

-- how many characters of a charset are in a class
abbrev pub class_count : CodedSet → Classes → List ℕ → ℕ
class_count set classes class = count_below (λ w. has set w && is_in_class classes class w) (2 ^ 32)

-- whether a value is in the class with a number, if there is one
abbrev pub is_numbered : Classes → ℕ → ℕ → Bool
is_numbered classes number w = unwrap_or (numbered_answer classes number w) false

-- how many characters of a charset are in the class with a number
abbrev pub numbered_count : CodedSet → Classes → ℕ → ℕ
numbered_count set classes number = count_below (λ w. has set w && is_numbered classes number w) (2 ^ 32)

abbrev pub class_row : CodedSet → Classes → List ℕ → List ℕ
class_row set classes class = row class (decimal (class_count set classes class))

-- the summary of a charmap
abbrev pub charmap_summary : List ℕ → CodedSet → List ℕ
charmap_summary path set = accepted_line path ++ row (codes "charset") (set_name set)

-- the summary of a locale: its sections, its charset, and how many characters each class has, those last that it declares
abbrev pub locale_summary : List ℕ → List Section → CodedSet → Classes → List (List ℕ) → List ℕ
locale_summary path sections set classes declared =
    accepted_line path ++ flat_map section_row sections ++ row (codes "charset") (set_name set) ++ flat_map (class_row set classes) class_names
    ++ flat_map (class_row set classes) declared
