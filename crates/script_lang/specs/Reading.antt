-- What a bundle's lines give, line after line (our own).
use Rattle.std.specs.Prelude.{ℕ, ◌+◌, ◌==◌, nat_le, Bool, false, not, ◌&&◌, List, [], ◌∷◌, ◌++◌, length, position, codes, Option, Some, None, is_some, option_map, option_and_then, Ok, Err, if◌then◌else◌}
use Rattle.std.specs.List.{list_any}
use Rattle.std.specs.Str.{bytes_eq}
use Rattle.lc_base.specs.declared.block.Block.{Block}
use Rattle.lc_base.specs.declared.reason.Reason.TheVariants.{BadLine, OverLimit, NameTwice, NoCharmap, NoNative}
use Rattle.lc_base.specs.declared.reason.LinePart.TheVariants as parts
use Rattle.lc_base.specs.declared.reason.Limit.TheVariants as limits
use Rattle.lc_base.specs.Lines.{ended}
use Rattle.lc_base.specs.Reading.{Reads, ◌>>=◌}
use Rattle.script_lang.specs.Limits.{CHARMAP_LIMIT, LOCALE_LIMIT, LATER_LIMIT, CATALOG_LIMIT, ROUND_LIMIT, COMMAND_LIMIT}
use Rattle.script_commands.specs.Limits.{THREAD_LIMIT}
use Rattle.script_lang.specs.declared.bundle.Bundle.{Bundle}
use Rattle.script_commands.specs.declared.command.Command.{Command}
use Rattle.script_commands.specs.declared.known.Known.{Known}
use Rattle.script_lang.specs.declared.reading.BlockKind.{BlockKind}
use Rattle.script_lang.specs.declared.reading.BlockKind.TheVariants as kinds
use Rattle.script_lang.specs.declared.reading.Opened.{Opened}
use Rattle.script_lang.specs.declared.reading.Reading.{Reading}
use Rattle.script_words.specs.declared.table.Directive.{Directive}
use Rattle.script_words.specs.declared.table.Directive.TheVariants as directives
use Rattle.script_commands.specs.Commands.{command, is_over}
use Rattle.script_commands.specs.Known.{has_block, has_key, lacks_charset, lacks_locale}
use Rattle.script_words.specs.Names.{is_formed, is_locale_name, is_part_name, is_charmap_name, is_thread_name}
use Rattle.script_words.specs.Spans.{Span, start, whole_line, next_word}
use Rattle.lc_base.specs.Tables.{first_named}
use Rattle.script_words.specs.Tables.{directives_table}

-- ---- what was read so far

-- before the first line: nothing but the threads that are known, in one round
abbrev pub at_first : List (List ℕ) → Reading
at_first threads = record {
  bundle = record { charmaps = []; locales = []; later = []; catalogs = []; native = None; threads = threads; rounds = 1; commands = [] };
  current = None;
  begun = None;
}

-- ---- directives. Their place is column 1

-- just one word
unfoldable pub one_word : Span → Option Span
one_word s = option_and_then (λ (x : Span × Span). if is_over x.1 then Some x.0 else None) (next_word s)

-- just two words
unfoldable pub two_words : Span → Option (Span × Span)
two_words s = option_and_then (λ (x : Span × Span). option_map (λ (y : Span). (x.0, y)) (one_word x.1)) (next_word s)

-- just three words
unfoldable pub three_words : Span → Option (Span × Span × Span)
three_words s = option_and_then (λ (x : Span × Span). option_map (λ (y : Span × Span). (x.0, y.0, y.1)) (two_words x.1)) (next_word s)

-- a block of this kind begins behind the line with this number
abbrev pub with_open : Reading → BlockKind → List ℕ → List ℕ → ℕ → Reading
with_open r kind name charset n = record r { begun = Some (record { kind = kind; block = record { name = name; charset = charset; first_line = n + 1; text = [] } }) }

-- what is there, or else a wrong directive
abbrev pub or_no_directive : {A : Type 0} → ℕ → Option A → Reads A
or_no_directive n None = Err (start n, BadLine parts.Directive)
or_no_directive n (Some a) = Ok a

-- `.charmap NAME`
unfoldable pub charmap_line : Option Known → Reading → ℕ → Span → Reads Reading
charmap_line known r n s = or_no_directive n (one_word s) >>= λ name.
    if not (is_charmap_name name.bytes) then Err (start n, BadLine parts.Directive) else
    if nat_le CHARMAP_LIMIT (length r.bundle.charmaps) then Err (start n, OverLimit limits.Charmaps) else
    if is_some known && has_block r.bundle.charmaps name.bytes then Err (name.place, NameTwice) else
    Ok (with_open r kinds.Charmap name.bytes [] n)

-- `.locale NAME CHARSET`
unfoldable pub locale_line : Option Known → Reading → ℕ → Span → Reads Reading
locale_line known r n s = or_no_directive n (two_words s) >>= λ words.
    if not (is_locale_name words.0.bytes && is_formed words.1.bytes) then Err (start n, BadLine parts.Directive) else
    if nat_le LOCALE_LIMIT (length r.bundle.locales) then Err (start n, OverLimit limits.Locales) else
    if is_some known && has_block r.bundle.locales words.0.bytes then Err (words.0.place, NameTwice) else
    if lacks_charset known words.1.bytes then Err (words.1.place, NoCharmap) else
    Ok (with_open r kinds.Locale words.0.bytes words.1.bytes n)

-- `.later KEY NAME CHARSET`
unfoldable pub later_line : Option Known → Reading → ℕ → Span → Reads Reading
later_line known r n s = or_no_directive n (three_words s) >>= λ words.
    if not (is_locale_name words.0.bytes && is_locale_name words.1.bytes && is_formed words.2.bytes) then Err (start n, BadLine parts.Directive) else
    if nat_le LATER_LIMIT (length r.bundle.later) then Err (start n, OverLimit limits.Later) else
    if is_some known && has_key r.bundle.later words.0.bytes then Err (words.0.place, NameTwice) else
    if lacks_charset known words.2.bytes then Err (words.2.place, NoCharmap) else
    Ok (with_open r (kinds.Later words.0.bytes) words.1.bytes words.2.bytes n)

-- whether one of the catalogs has this name for this locale
abbrev pub has_catalog : List Block → List ℕ → List ℕ → Bool
has_catalog catalogs name locale = list_any (λ (b : Block). bytes_eq b.name name && bytes_eq b.charset locale) catalogs

-- `.catalog NAME LOCALE`: the catalog that catopen opens by NAME where the LC_MESSAGES category has the name LOCALE
unfoldable pub catalog_line : Option Known → Reading → ℕ → Span → Reads Reading
catalog_line known r n s = or_no_directive n (two_words s) >>= λ words.
    if not (is_locale_name words.0.bytes && is_part_name words.1.bytes) then Err (start n, BadLine parts.Directive) else
    if nat_le CATALOG_LIMIT (length r.bundle.catalogs) then Err (start n, OverLimit limits.Catalogs) else
    if is_some known && has_catalog r.bundle.catalogs words.0.bytes words.1.bytes then Err (words.0.place, NameTwice) else
    Ok (with_open r kinds.Catalog words.0.bytes words.1.bytes n)

-- this name is the native locale's
abbrev pub with_native : Reading → List ℕ → Reading
with_native r name = record r { bundle = record r.bundle { native = Some name } }

-- `.native NAME`, which stands at most once
unfoldable pub native_line : Option Known → Reading → ℕ → Span → Reads Reading
native_line known r n s = or_no_directive n (one_word s) >>= λ name.
    if not (is_formed name.bytes) then Err (start n, BadLine parts.Directive) else
    if is_some r.bundle.native then Err (start n, BadLine parts.Directive) else
    if lacks_locale known name.bytes then Err (name.place, NoNative) else
    Ok (with_native r name.bytes)

-- the thread of this number goes on
abbrev pub with_current : Reading → ℕ → Reading
with_current r t = record r { current = Some t }

-- a thread that was not named before begins
abbrev pub with_thread : Reading → List ℕ → Reading
with_thread r name = record r { bundle = record r.bundle { threads = r.bundle.threads ++ name ∷ [] }; current = Some (length r.bundle.threads) }

-- a thread that was not named before
abbrev pub new_thread : Reading → ℕ → List ℕ → Reads Reading
new_thread r n name = if nat_le THREAD_LIMIT (length r.bundle.threads) then Err (start n, OverLimit limits.Threads) else Ok (with_thread r name)

-- the thread of this name is current from now on
abbrev pub thread_named : Reading → ℕ → List ℕ → Reads Reading
thread_named r n name = elim (position (λ t. bytes_eq t name) r.bundle.threads) [
  | None ↦ new_thread r n name
  | Some t ↦ Ok (with_current r t)
]

-- `.thread NAME`
unfoldable pub thread_line : Reading → ℕ → Span → Reads Reading
thread_line r n s = or_no_directive n (one_word s) >>= λ name.
    if not (is_thread_name name.bytes) then Err (start n, BadLine parts.Directive) else thread_named r n name.bytes

-- the next round begins, without a current thread
abbrev pub with_round : Reading → Reading
with_round r = record r { bundle = record r.bundle { rounds = r.bundle.rounds + 1 }; current = None }

-- `.round`
unfoldable pub round_line : Reading → ℕ → Span → Reads Reading
round_line r n s =
    if not (is_over s) then Err (start n, BadLine parts.Directive) else
    if nat_le ROUND_LIMIT r.bundle.rounds then Err (start n, OverLimit limits.Rounds) else
    Ok (with_round r)

-- the line of a directive, with what follows its first word
abbrev pub line_of_directive : Option Known → Reading → ℕ → Directive → Span → Reads Reading
line_of_directive known r n directives.Charmap s = charmap_line known r n s
line_of_directive known r n directives.Locale s = locale_line known r n s
line_of_directive known r n directives.Later s = later_line known r n s
line_of_directive known r n directives.Catalog s = catalog_line known r n s
line_of_directive known r n directives.Native s = native_line known r n s
line_of_directive known r n directives.Thread s = thread_line r n s
line_of_directive known r n directives.Round s = round_line r n s

-- a line that begins with `.`
unfoldable pub directive_line : Option Known → Reading → ℕ → List ℕ → Reads Reading
directive_line known r n line = do
  words ← or_no_directive n (next_word (whole_line n line))
  directive ← or_no_directive n (first_named directives_table words.0.bytes)
  line_of_directive known r n directive words.1

-- ---- commands

-- one more command, of the current round
abbrev pub with_command : Reading → ℕ → Command → Reading
with_command r t c = record r { bundle = record r.bundle { commands = r.bundle.commands ++ (record { round = r.bundle.rounds; thread = t; command = c }) ∷ [] } }

-- a line whose first word is w, with what follows it
unfoldable pub command_line : Option Known → Reading → Span → Span → Reads Reading
command_line known r w s = elim r.current [
  | None ↦ Err (w.place, BadLine parts.Thread)
  | Some t ↦
      if nat_le COMMAND_LIMIT (length r.bundle.commands) then Err (w.place, OverLimit limits.Commands) else
      (command known r.bundle.threads w s >>= λ c. Ok (with_command r t c))
]

-- ---- lines

-- whether a text begins with this byte
abbrev pub begins_with : ℕ → List ℕ → Bool
begins_with c [] = false
begins_with c (b ∷ bs) = b == c

-- a line outside of blocks. Where its first byte is `.`, it is a directive; where it has no word, or its first word begins
-- with `#`, it is skipped
unfoldable pub outside : Option Known → Reading → ℕ → List ℕ → Reads Reading
outside known r n line =
    if begins_with 46 line then directive_line known r n line else
    elim (next_word (whole_line n line)) [
      | None ↦ Ok r
      | Some x ↦ if begins_with 35 x.0.bytes then Ok r else command_line known r x.0 x.1
    ]

-- the bundle with one more block of this kind
abbrev pub more_blocks : Bundle → BlockKind → Block → Bundle
more_blocks b kinds.Charmap block = record b { charmaps = b.charmaps ++ block ∷ [] }
more_blocks b kinds.Locale block = record b { locales = b.locales ++ block ∷ [] }
more_blocks b (kinds.Later key) block = record b { later = b.later ++ (record { key = key; block = block }) ∷ [] }
more_blocks b kinds.Catalog block = record b { catalogs = b.catalogs ++ block ∷ [] }

-- a block that is closed
abbrev pub with_block : Bundle → Option ℕ → BlockKind → Block → Reading
with_block b current kind block = record { bundle = more_blocks b kind block; current = current; begun = None }

-- one more line of a block
abbrev pub with_line : Bundle → Option ℕ → Opened → List ℕ → Reading
with_line b current o line = record { bundle = b; current = current; begun = Some (record o { block = record o.block { text = o.block.text ++ ended line } }) }

-- a line of a block, which is not read but for its end
abbrev pub inside : Reading → Opened → List ℕ → Reading
inside r o line = if bytes_eq line (codes ".end") then with_block r.bundle r.current o.kind o.block else with_line r.bundle r.current o line

-- a line with its number
unfoldable pub line_read : Option Known → Reading → ℕ → List ℕ → Reads Reading
line_read known r n line = elim r.begun [ None ↦ outside known r n line | Some o ↦ Ok (inside r o line) ]

-- lines, of which the first has this number
abbrev pub lines_read : Option Known → Reading → ℕ → List (List ℕ) → Reads Reading
lines_read known r n [] = Ok r
lines_read known r n (line ∷ lines) = line_read known r n line >>= λ more. lines_read known more (n + 1) lines
