-- What files give and what is told of them, tried on small examples.
use Rattle.std.proofs.Common.{◌≡◌, ℕ, true, false, List, [], ◌∷◌, Ok, Err, codes, refl}
use Rattle.std.specs.Fmt.{digits}
use Rattle.lc_base.specs.declared.block.Block.{Block}
use Rattle.lc_base.specs.declared.place.Place.{Place}
use Rattle.lc_base.specs.declared.reason.Reason.TheVariants.{BadFormat, EmptyRadix}
use Rattle.charset.specs.CodedSet.{utf8, posix}
use Rattle.tool_files.specs.declared.sources.FilePath.{FilePath}
use Rattle.tool_files.specs.Library.{charset_of, too_many}
use Rattle.tool_files.specs.Told.{file_of, place_in, is_format, IsFileMessage}

-- a file of ten lines, and another
abbrev two : List FilePath
two = record { path = codes "de"; first_line = 1 } ∷ record { path = codes "en"; first_line = 12 } ∷ []

first_file : file_of two 11 ≡ (codes "de", 1)
first_file = refl

last_file : file_of two 12 ≡ (codes "en", 12)
last_file = refl

no_file : file_of [] 5 ≡ ([], 1)
no_file = refl

abbrev at : ℕ → ℕ → Place
at line column = record { line = line; column = column }

first_line : place_in 12 (at 12 9) ≡ at 1 9
first_line = refl

third_line : place_in 12 (at 14 9) ≡ at 3 9
third_line = refl

format : is_format (BadFormat 3) ≡ true
format = refl

no_format : is_format EmptyRadix ≡ false
no_format = refl

-- the line is that of the file
told : IsFileMessage two (at 14 9) EmptyRadix (codes "en:3:9: EmptyRadix: a radix has bytes\n")
unfolding digits
told = record { spot = at 3 9; spot_is = λ _. refl; begins = record { rest = codes ": a radix has bytes\n"; parts = refl } }

abbrev block : ℕ → Block
block line = record { name = []; charset = []; first_line = line; text = [] }

nothing_named : charset_of [] [] ≡ Ok posix
nothing_named = refl

no_charmap : charset_of [] (block 1 ∷ []) ≡ Ok utf8
no_charmap = refl

charmap_too_late : charset_of (block 2147483648 ∷ []) (block 1 ∷ []) ≡ Err too_many
charmap_too_late = refl
