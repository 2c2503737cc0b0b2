-- Message catalogs with their names and locales (XSH catopen, catgets).
use Rattle.std.specs.Prelude.{ℕ, ◌+◌, Bool, ◌&&◌, List, [], ◌∷◌, slice_get, Option, Some, None, Ok, if◌then◌else◌}
use Rattle.std.specs.Option.{option_and_then}
use Rattle.std.specs.Str.{bytes_eq}
use Rattle.lc_base.specs.declared.block.Block.{Block}
use Rattle.lc_base.specs.Reading.{Reads, ◌>>=◌}
use Rattle.msg_catalog.specs.Books.{text_at}
use Rattle.msg_catalog.specs.Messages.{messages}
use Rattle.library_parts.specs.declared.books.NamedBook.{NamedBook}

-- the catalog of a block, whose charset is the catalog's locale
abbrev pub book_read : Block → Reads NamedBook
book_read b = messages b.text b.first_line >>= λ ms. Ok (record { name = b.name; locale = b.charset; book = ms })

-- the catalogs of blocks, up to the first fault
abbrev pub books_read : List Block → Reads (List NamedBook)
books_read [] = Ok []
books_read (b ∷ bs) = book_read b >>= λ book. books_read bs >>= λ more. Ok (book ∷ more)

-- whether a catalog has this name for this locale
abbrev pub is_for : List ℕ → List ℕ → NamedBook → Bool
is_for name locale b = bytes_eq b.name name && bytes_eq b.locale locale

-- the number of the last catalog of a name for a locale: found where none of those to come is, of which the first has the number n
abbrev pub last_number : Option ℕ → ℕ → List ℕ → List ℕ → List NamedBook → Option ℕ
last_number found n name locale [] = found
last_number found n name locale (b ∷ bs) = last_number (if is_for name locale b then Some n else found) (n + 1) name locale bs

abbrev pub number_of : List ℕ → List ℕ → List NamedBook → Option ℕ
number_of name locale bs = last_number None 0 name locale bs

-- the text of a message of the catalog with a number
abbrev pub message_at : List NamedBook → ℕ → ℕ → ℕ → Option (List ℕ)
message_at bs number set message = option_and_then (λ (b : NamedBook). text_at set message b.book) (slice_get bs number)
