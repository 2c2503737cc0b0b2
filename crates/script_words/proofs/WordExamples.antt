-- Names, words and commands on small inputs.
use Rattle.std.proofs.Common.{◌≡◌, ℕ, true, false, List, [], ◌∷◌, Some, None, refl}
use Rattle.std.specs.Prelude.{codes, replicate}
use Rattle.script_words.specs.Names.{is_formed, is_locale_name, is_part_name, is_charmap_name, is_thread_name}
use Rattle.script_words.specs.Spans.{Span, whole_line, next_word}
use Rattle.lc_base.specs.Cuts.{cut_at}
use Rattle.lc_base.specs.Numbers.{decimal_number}
use Rattle.script_words.specs.Words.{text_of_word, categories_of_word, mask_of_word, variable_of_word, handle_of_word}
use Rattle.script_words.specs.Tables.{items_table}

-- ---- names

-- each kind of byte that a locale's name may have
locale_named : is_locale_name (codes "de_DE.UTF-8@euro") ≡ true
unfolding next_word text_of_word mask_of_word categories_of_word variable_of_word decimal_number cut_at is_formed is_locale_name is_charmap_name is_thread_name items_table
locale_named = refl

locale_named-C : is_locale_name (codes "C") ≡ false
unfolding next_word text_of_word mask_of_word categories_of_word variable_of_word decimal_number cut_at is_formed is_locale_name is_charmap_name is_thread_name items_table
locale_named-C = refl

locale_named-POSIX : is_locale_name (codes "POSIX") ≡ false
unfolding next_word text_of_word mask_of_word categories_of_word variable_of_word decimal_number cut_at is_formed is_locale_name is_charmap_name is_thread_name items_table
locale_named-POSIX = refl

locale_named-UTF : is_locale_name (codes "UTF-8") ≡ true
unfolding next_word text_of_word mask_of_word categories_of_word variable_of_word decimal_number cut_at is_formed is_locale_name is_charmap_name is_thread_name items_table
locale_named-UTF = refl

locale_named-slash : is_locale_name (codes "a/b") ≡ false
unfolding next_word text_of_word mask_of_word categories_of_word variable_of_word decimal_number cut_at is_formed is_locale_name is_charmap_name is_thread_name items_table
locale_named-slash = refl

-- a category of an object may have the name `C`, and not `POSIX`
part_named-C : is_part_name (codes "C") ≡ true
unfolding is_part_name is_formed
part_named-C = refl

part_named-POSIX : is_part_name (codes "POSIX") ≡ false
unfolding is_part_name is_formed
part_named-POSIX = refl

part_named-slash : is_part_name (codes "a/b") ≡ false
unfolding is_part_name is_formed
part_named-slash = refl

formed-empty : is_formed [] ≡ false
unfolding next_word text_of_word mask_of_word categories_of_word variable_of_word decimal_number cut_at is_formed is_locale_name is_charmap_name is_thread_name items_table
formed-empty = refl

formed-longest : is_formed (replicate 64 97) ≡ true
unfolding next_word text_of_word mask_of_word categories_of_word variable_of_word decimal_number cut_at is_formed is_locale_name is_charmap_name is_thread_name items_table
formed-longest = refl

formed-too_long : is_formed (replicate 65 97) ≡ false
unfolding next_word text_of_word mask_of_word categories_of_word variable_of_word decimal_number cut_at is_formed is_locale_name is_charmap_name is_thread_name items_table
formed-too_long = refl

charmap_named-C : is_charmap_name (codes "C") ≡ true
unfolding next_word text_of_word mask_of_word categories_of_word variable_of_word decimal_number cut_at is_formed is_locale_name is_charmap_name is_thread_name items_table
charmap_named-C = refl

charmap_named-UTF : is_charmap_name (codes "UTF-8") ≡ false
unfolding next_word text_of_word mask_of_word categories_of_word variable_of_word decimal_number cut_at is_formed is_locale_name is_charmap_name is_thread_name items_table
charmap_named-UTF = refl

charmap_named-POSIX : is_charmap_name (codes "POSIX") ≡ false
unfolding next_word text_of_word mask_of_word categories_of_word variable_of_word decimal_number cut_at is_formed is_locale_name is_charmap_name is_thread_name items_table
charmap_named-POSIX = refl

-- a thread's name begins with a letter, and has letters and digits alone
thread_named : is_thread_name (codes "zA09") ≡ true
unfolding next_word text_of_word mask_of_word categories_of_word variable_of_word decimal_number cut_at is_formed is_locale_name is_charmap_name is_thread_name items_table
thread_named = refl

thread_named-digit : is_thread_name (codes "9a") ≡ false
unfolding next_word text_of_word mask_of_word categories_of_word variable_of_word decimal_number cut_at is_formed is_locale_name is_charmap_name is_thread_name items_table
thread_named-digit = refl

thread_named-underscore : is_thread_name (codes "a_b") ≡ false
unfolding next_word text_of_word mask_of_word categories_of_word variable_of_word decimal_number cut_at is_formed is_locale_name is_charmap_name is_thread_name items_table
thread_named-underscore = refl

thread_named-GLOBAL : is_thread_name (codes "GLOBAL") ≡ false
unfolding next_word text_of_word mask_of_word categories_of_word variable_of_word decimal_number cut_at is_formed is_locale_name is_charmap_name is_thread_name items_table
thread_named-GLOBAL = refl

thread_named-longest : is_thread_name (replicate 16 97) ≡ true
unfolding next_word text_of_word mask_of_word categories_of_word variable_of_word decimal_number cut_at is_formed is_locale_name is_charmap_name is_thread_name items_table
thread_named-longest = refl

thread_named-too_long : is_thread_name (replicate 17 97) ≡ false
unfolding next_word text_of_word mask_of_word categories_of_word variable_of_word decimal_number cut_at is_formed is_locale_name is_charmap_name is_thread_name items_table
thread_named-too_long = refl

-- ---- words

abbrev at : ℕ → List ℕ → Span
at column bytes = record { place = record { line = 3; column = column }; bytes = bytes }

-- columns are counted in bytes from 1, and a tab is a blank
first_word : next_word (whole_line 3 (codes " \tab c ")) ≡ Some (at 3 (codes "ab"), at 5 (codes " c "))
unfolding next_word text_of_word mask_of_word categories_of_word variable_of_word decimal_number cut_at is_formed is_locale_name is_charmap_name is_thread_name items_table
first_word = refl

last_word : next_word (at 5 (codes " c ")) ≡ Some (at 6 (codes "c"), at 7 (codes " "))
unfolding next_word text_of_word mask_of_word categories_of_word variable_of_word decimal_number cut_at is_formed is_locale_name is_charmap_name is_thread_name items_table
last_word = refl

no_word : next_word (at 7 (codes " ")) ≡ None
unfolding next_word text_of_word mask_of_word categories_of_word variable_of_word decimal_number cut_at is_formed is_locale_name is_charmap_name is_thread_name items_table
no_word = refl

-- a blank between quotes ends no word, and neither does a quote behind a backslash
quoted_word : next_word (whole_line 3 (codes "\"a \\\" b\" c")) ≡ Some (at 1 (codes "\"a \\\" b\""), at 9 (codes " c"))
unfolding next_word text_of_word mask_of_word categories_of_word variable_of_word decimal_number cut_at is_formed is_locale_name is_charmap_name is_thread_name items_table
quoted_word = refl

open_word : next_word (whole_line 3 (codes "\"a b")) ≡ Some (at 1 (codes "\"a b"), at 5 [])
unfolding next_word text_of_word mask_of_word categories_of_word variable_of_word decimal_number cut_at is_formed is_locale_name is_charmap_name is_thread_name items_table
open_word = refl

text_plain : text_of_word (codes "a\\b") ≡ Some (codes "a\\b")
unfolding next_word text_of_word mask_of_word categories_of_word variable_of_word decimal_number cut_at is_formed is_locale_name is_charmap_name is_thread_name items_table
text_plain = refl

text_quoted : text_of_word (codes "\"a b\\\"\\\\\\x4Fz\"") ≡ Some (codes "a b\"\\Oz")
unfolding next_word text_of_word mask_of_word categories_of_word variable_of_word decimal_number cut_at is_formed is_locale_name is_charmap_name is_thread_name items_table
text_quoted = refl

text_quoted-empty : text_of_word (codes "\"\"") ≡ Some []
unfolding next_word text_of_word mask_of_word categories_of_word variable_of_word decimal_number cut_at is_formed is_locale_name is_charmap_name is_thread_name items_table
text_quoted-empty = refl

-- a control byte may stand between quotes alone
text_quoted-control : text_of_word (34 ∷ 7 ∷ 34 ∷ []) ≡ Some (7 ∷ [])
unfolding next_word text_of_word mask_of_word categories_of_word variable_of_word decimal_number cut_at is_formed is_locale_name is_charmap_name is_thread_name items_table
text_quoted-control = refl

text_plain-control : text_of_word (97 ∷ 7 ∷ []) ≡ None
unfolding next_word text_of_word mask_of_word categories_of_word variable_of_word decimal_number cut_at is_formed is_locale_name is_charmap_name is_thread_name items_table
text_plain-control = refl

text_plain-delete : text_of_word (97 ∷ 127 ∷ []) ≡ None
unfolding next_word text_of_word mask_of_word categories_of_word variable_of_word decimal_number cut_at is_formed is_locale_name is_charmap_name is_thread_name items_table
text_plain-delete = refl

text_plain-quote : text_of_word (codes "a\"b\"") ≡ None
unfolding next_word text_of_word mask_of_word categories_of_word variable_of_word decimal_number cut_at is_formed is_locale_name is_charmap_name is_thread_name items_table
text_plain-quote = refl

text_open : text_of_word (codes "\"a") ≡ None
unfolding next_word text_of_word mask_of_word categories_of_word variable_of_word decimal_number cut_at is_formed is_locale_name is_charmap_name is_thread_name items_table
text_open = refl

text_behind : text_of_word (codes "\"a\"b") ≡ None
unfolding next_word text_of_word mask_of_word categories_of_word variable_of_word decimal_number cut_at is_formed is_locale_name is_charmap_name is_thread_name items_table
text_behind = refl

text_escape : text_of_word (codes "\"\\n\"") ≡ None
unfolding next_word text_of_word mask_of_word categories_of_word variable_of_word decimal_number cut_at is_formed is_locale_name is_charmap_name is_thread_name items_table
text_escape = refl

text_one_digit : text_of_word (codes "\"\\x4\"") ≡ None
unfolding next_word text_of_word mask_of_word categories_of_word variable_of_word decimal_number cut_at is_formed is_locale_name is_charmap_name is_thread_name items_table
text_one_digit = refl

number_largest : decimal_number (codes "0004294967295") ≡ Some 4294967295
unfolding next_word text_of_word mask_of_word categories_of_word variable_of_word decimal_number cut_at is_formed is_locale_name is_charmap_name is_thread_name items_table
number_largest = refl

number_too_large : decimal_number (codes "4294967296") ≡ None
unfolding next_word text_of_word mask_of_word categories_of_word variable_of_word decimal_number cut_at is_formed is_locale_name is_charmap_name is_thread_name items_table
number_too_large = refl

number_signed : decimal_number (codes "+1") ≡ None
unfolding next_word text_of_word mask_of_word categories_of_word variable_of_word decimal_number cut_at is_formed is_locale_name is_charmap_name is_thread_name items_table
number_signed = refl

number_empty : decimal_number [] ≡ None
unfolding next_word text_of_word mask_of_word categories_of_word variable_of_word decimal_number cut_at is_formed is_locale_name is_charmap_name is_thread_name items_table
number_empty = refl

mask_all : mask_of_word (codes "LC_ALL") ≡ Some 31
unfolding next_word text_of_word mask_of_word categories_of_word variable_of_word decimal_number cut_at is_formed is_locale_name is_charmap_name is_thread_name items_table
mask_all = refl

mask_names : mask_of_word (codes "LC_CTYPE,LC_TIME,LC_CTYPE") ≡ Some 9
unfolding next_word text_of_word mask_of_word categories_of_word variable_of_word decimal_number cut_at is_formed is_locale_name is_charmap_name is_thread_name items_table
mask_names = refl

-- a bit that no category has is kept
mask_number : mask_of_word (codes "32") ≡ Some 32
unfolding next_word text_of_word mask_of_word categories_of_word variable_of_word decimal_number cut_at is_formed is_locale_name is_charmap_name is_thread_name items_table
mask_number = refl

mask_all_and_more : mask_of_word (codes "LC_TIME,LC_ALL") ≡ None
unfolding next_word text_of_word mask_of_word categories_of_word variable_of_word decimal_number cut_at is_formed is_locale_name is_charmap_name is_thread_name items_table
mask_all_and_more = refl

mask_comma : mask_of_word (codes "LC_TIME,") ≡ None
unfolding next_word text_of_word mask_of_word categories_of_word variable_of_word decimal_number cut_at is_formed is_locale_name is_charmap_name is_thread_name items_table
mask_comma = refl

handle_written : handle_of_word (codes "A.0.007") ≡ Some (record { thread = codes "A"; row = 0; generation = 7 })
unfolding handle_of_word next_word text_of_word mask_of_word categories_of_word variable_of_word decimal_number cut_at is_formed is_locale_name is_charmap_name is_thread_name items_table
handle_written = refl

handle_short : handle_of_word (codes "A.1") ≡ None
unfolding handle_of_word next_word text_of_word mask_of_word categories_of_word variable_of_word decimal_number cut_at is_formed is_locale_name is_charmap_name is_thread_name items_table
handle_short = refl

handle_long : handle_of_word (codes "A.0.1.2") ≡ None
unfolding handle_of_word next_word text_of_word mask_of_word categories_of_word variable_of_word decimal_number cut_at is_formed is_locale_name is_charmap_name is_thread_name items_table
handle_long = refl

handle_of_number : handle_of_word (codes "9.0.1") ≡ None
unfolding handle_of_word next_word text_of_word mask_of_word categories_of_word variable_of_word decimal_number cut_at is_formed is_locale_name is_charmap_name is_thread_name items_table
handle_of_number = refl
