-- Names that are looked for among known blocks and threads.
use Rattle.std.proofs.Common.{◌≡◌, ℕ, true, false, List, [], ◌∷◌, Option, Some, None, refl}
use Rattle.std.specs.Prelude.{codes}
use Rattle.lc_base.specs.declared.block.Block.{Block}
use Rattle.script_commands.specs.declared.known.Known.{Known}
use Rattle.script_commands.specs.Known.{lacks_charset, lacks_locale, lacks_key, thread_number}

abbrev block : List ℕ → Block
block name = record { name = name; charset = codes "UTF-8"; first_line = 2; text = [] }

-- a charmap, a locale, and a later version of another locale
abbrev known : Option Known
known = Some (record { charmaps = block (codes "m") ∷ []; locales = block (codes "a") ∷ []; later = record { key = codes "k"; block = block (codes "b") } ∷ [] })

-- the two charsets that are built in
charset_utf8 : lacks_charset known (codes "UTF-8") ≡ false
charset_utf8 = refl

charset_posix : lacks_charset known (codes "POSIX") ≡ false
charset_posix = refl

charset_of_a_charmap : lacks_charset known (codes "m") ≡ false
charset_of_a_charmap = refl

-- a locale is no charset
charset_of_a_locale : lacks_charset known (codes "a") ≡ true
charset_of_a_locale = refl

-- in the first reading no charset is lacking
charset_at_first : lacks_charset None (codes "a") ≡ false
charset_at_first = refl

-- the two names of the POSIX locale
native_c : lacks_locale known (codes "C") ≡ false
native_c = refl

native_posix : lacks_locale known (codes "POSIX") ≡ false
native_posix = refl

native_of_a_block : lacks_locale known (codes "a") ≡ false
native_of_a_block = refl

-- a name that only a later version has
native_of_a_later_version : lacks_locale known (codes "b") ≡ true
native_of_a_later_version = refl

-- nor is a key a name, nor a charmap's name a locale's
native_of_a_key : lacks_locale known (codes "k") ≡ true
native_of_a_key = refl

native_of_a_charmap : lacks_locale known (codes "m") ≡ true
native_of_a_charmap = refl

native_at_first : lacks_locale None (codes "b") ≡ false
native_at_first = refl

key_of_a_version : lacks_key known (codes "k") ≡ false
key_of_a_version = refl

-- the name of a version is no key
key_of_a_name : lacks_key known (codes "b") ≡ true
key_of_a_name = refl

key_at_first : lacks_key None (codes "b") ≡ false
key_at_first = refl

-- threads are numbered from 0
second_thread : thread_number known (codes "B" ∷ codes "A" ∷ []) (codes "A") ≡ Some 1
second_thread = refl

thread_in_small_letters : thread_number known (codes "B" ∷ codes "A" ∷ []) (codes "a") ≡ None
thread_in_small_letters = refl

thread_at_first : thread_number None [] (codes "A") ≡ Some 0
thread_at_first = refl
