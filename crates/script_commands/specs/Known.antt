-- Names that are looked for in a whole bundle (our own). In the first reading of its lines nothing is known, and no name is
-- looked for; in the second all blocks and threads are known, and each name is.
use Rattle.std.specs.Prelude.{ℕ, Bool, false, not, ◌||◌, List, position, codes, Option, Some, None}
use Rattle.std.specs.List.{list_any}
use Rattle.std.specs.Str.{bytes_eq}
use Rattle.lc_base.specs.BuiltIn.{is_built_in_charset, is_posix_locale}
use Rattle.lc_base.specs.declared.block.Block.{Block}
use Rattle.lc_base.specs.declared.block.Later.{Later}
use Rattle.script_commands.specs.declared.known.Known.{Known}

-- whether one of the blocks has the name
abbrev pub has_block : List Block → List ℕ → Bool
has_block blocks name = list_any (λ (b : Block). bytes_eq b.name name) blocks

-- whether one of the later versions has the key
abbrev pub has_key : List Later → List ℕ → Bool
has_key later key = list_any (λ (l : Later). bytes_eq l.key key) later

-- whether a charset is neither built in nor a charmap of the bundle
abbrev pub lacks_charset : Option Known → List ℕ → Bool
lacks_charset None name = false
lacks_charset (Some b) name = not (is_built_in_charset name || has_block b.charmaps name)

-- whether a native locale is neither the POSIX locale nor a locale of the bundle
abbrev pub lacks_locale : Option Known → List ℕ → Bool
lacks_locale None name = false
lacks_locale (Some b) name = not (is_posix_locale name || has_block b.locales name)

-- whether no later version of the bundle has this key
abbrev pub lacks_key : Option Known → List ℕ → Bool
lacks_key None key = false
lacks_key (Some b) key = not (has_key b.later key)

-- the number of a thread among the names of threads; 0 where no name is looked for
abbrev pub thread_number : Option Known → List (List ℕ) → List ℕ → Option ℕ
thread_number None threads name = Some 0
thread_number (Some b) threads name = position (λ t. bytes_eq t name) threads
