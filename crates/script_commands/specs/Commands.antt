-- Commands, from their words (our own).
use Rattle.std.specs.Prelude.{ℕ, zero, suc, ℤ, Bool, true, false, List, [], ◌∷◌, codes, Option, Some, None, Ok, Err, if◌then◌else◌}
use Rattle.std.specs.Str.{bytes_eq}
use Rattle.lc_base.specs.declared.handle.Handle.{Handle as HandleNumbers}
use Rattle.lc_base.specs.declared.reason.Reason.TheVariants.{BadLine, OverLimit, NoThread, NoLater}
use Rattle.lc_base.specs.declared.reason.Limit.{Limit}
use Rattle.lc_base.specs.declared.reason.Limit.TheVariants as limits
use Rattle.lc_base.specs.declared.reason.LinePart.TheVariants.{Command as CommandPart, Argument}
use Rattle.lc_base.specs.Reading.{Reads, ◌>>=◌}
use Rattle.script_commands.specs.declared.command.Command.{Command}
use Rattle.script_commands.specs.declared.command.Command.TheVariants as commands
use Rattle.script_commands.specs.declared.command.Command.TheVariants.{New, Dup, Free, Use, Selected, Hold, Release, Setlocale, LocaleName, Install, Post, Fetch, Pins, ReadOf, CatOpen, CatGets, CatClose}
use Rattle.script_commands.specs.declared.command.OpenCatalog.{OpenCatalog}
use Rattle.script_commands.specs.declared.command.OpenCatalog.TheVariants as catalogs
use Rattle.script_commands.specs.declared.command.Read.{Read}
use Rattle.script_commands.specs.declared.command.Read.TheVariants.{Info, Conv, Class, Upper, Lower, Money, Time, Number, Parse}
use Rattle.script_commands.specs.declared.command.Target.{Target}
use Rattle.script_commands.specs.declared.command.Target.TheVariants.{Global, Variable, Handle}
use Rattle.script_words.specs.Limits.{DEFAULT_MAX, AMOUNT_LIMIT, FORMAT_LIMIT, NUMBER_LIMIT, TEXT_LIMIT}
use Rattle.script_words.specs.declared.given.UncheckedTime.{UncheckedTime}
use Rattle.script_commands.specs.declared.known.Known.{Known}
use Rattle.script_commands.specs.Known.{lacks_key, thread_number}
use Rattle.script_words.specs.Names.{is_thread_name}
use Rattle.script_words.specs.Spans.{Span, next_word, end_of}
use Rattle.lc_base.specs.Tables.{first_named}
use Rattle.script_words.specs.Tables.{items_table}
use Rattle.lc_base.specs.Numbers.{decimal_number}
use Rattle.script_words.specs.Words.{text_of_word, quoted_of_word, bounded, zone_of_word, behind_front, max_number, categories_of_word, mask_of_word, variable_of_word, class_of_word, key_of_word, cell_number, WrittenHandle, handle_of_word, WrittenCell, cell_of_word}
use Rattle.lc_base.specs.Amounts.{MoneyAmount}
use Rattle.script_words.specs.Numbers.{short_number, offset_of_word, three_numbers, amount_of_word, number_of_word}

-- ---- words of a command

-- what is there, or else a wrong word at its place
abbrev pub or_wrong : {A : Type 0} → Span → Option A → Reads A
or_wrong w None = Err (w.place, BadLine Argument)
or_wrong w (Some a) = Ok a

-- the next word, and what follows it; a missing word has the place behind the line
unfoldable pub argument : Span → Reads (Span × Span)
argument s = elim (next_word s) [ None ↦ Err (end_of s, BadLine Argument) | Some x ↦ Ok x ]

-- the next word, read by a function of its bytes, and what follows it
unfoldable pub read_as : {A : Type 0} → (List ℕ → Option A) → Span → Reads (A × Span)
read_as read s = argument s >>= λ x. or_wrong x.0 (read x.0.bytes) >>= λ a. Ok (a, x.1)

-- nothing follows but blanks; else the next word is one too many
unfoldable pub no_more : Span → Reads (Unit {0})
no_more s = elim (next_word s) [ None ↦ Ok tt | Some x ↦ Err (x.0.place, BadLine Argument) ]

-- whether nothing follows but blanks
unfoldable pub is_over : Span → Bool
is_over s = elim (next_word s) [ None ↦ true | Some x ↦ false ]

-- the handle that is written so
abbrev pub handle : Option Known → List (List ℕ) → Span → WrittenHandle → Reads HandleNumbers
handle known threads w h = elim (thread_number known threads h.thread) [
  | None ↦ Err (w.place, NoThread)
  | Some n ↦ Ok (record { owner = n; row = h.row; generation = h.generation })
]

-- the handle that a word is
abbrev pub handle_word : Option Known → List (List ℕ) → Span → Reads HandleNumbers
handle_word known threads w = or_wrong w (handle_of_word w.bytes) >>= handle known threads w

-- what a word names: `GLOBAL`, a variable or a handle
unfoldable pub target : Option Known → List (List ℕ) → Span → Reads Target
target known threads w =
    if bytes_eq w.bytes (codes "GLOBAL") then Ok Global else
    if is_thread_name w.bytes then Ok (Variable w.bytes) else
    (handle_word known threads w >>= λ h. Ok (Handle h))

-- what the next word names, and what follows it
unfoldable pub target_word : Option Known → List (List ℕ) → Span → Reads (Target × Span)
target_word known threads s = argument s >>= λ x. target known threads x.0 >>= λ named. Ok (named, x.1)

-- just one word, which names something
unfoldable pub lone_target : Option Known → List (List ℕ) → Span → Reads Target
lone_target known threads s = target_word known threads s >>= λ named. no_more named.1 >>= λ over. Ok named.0

-- what a word names: a variable of a catalog or the handle of one
unfoldable pub catalog : Option Known → List (List ℕ) → Span → Reads OpenCatalog
catalog known threads w =
    if is_thread_name w.bytes then Ok (catalogs.Variable w.bytes) else
    (handle_word known threads w >>= λ h. Ok (catalogs.Handle h))

-- the catalog that the next word names, and what follows it
unfoldable pub catalog_word : Option Known → List (List ℕ) → Span → Reads (OpenCatalog × Span)
catalog_word known threads s = argument s >>= λ x. catalog known threads x.0 >>= λ named. Ok (named, x.1)

-- the number of a thread and of its cell, which is written so
abbrev pub thread_cell : Option Known → List (List ℕ) → Span → WrittenCell → Reads (ℕ × ℕ)
thread_cell known threads w c = elim (thread_number known threads c.thread) [ None ↦ Err (w.place, NoThread) | Some n ↦ Ok (n, c.cell) ]

-- the cell that a word names
unfoldable pub cell : Option Known → List (List ℕ) → Span → Reads (ℕ × ℕ)
cell known threads w = or_wrong w (cell_of_word w.bytes) >>= thread_cell known threads w

-- a key, or else one that no later version has
abbrev pub known_key : Option Known → Span → List ℕ → Reads (List ℕ)
known_key known w key = if lacks_key known key then Err (w.place, NoLater) else Ok key

-- the key that a word is
unfoldable pub key : Option Known → Span → Reads (List ℕ)
key known w = or_wrong w (key_of_word w.bytes) >>= known_key known w

-- the most bytes of a text, which a word in front of the format may give, and what follows it
unfoldable pub max_bytes : Span → Reads (ℕ × Span)
max_bytes s = argument s >>= λ x. elim (behind_front (codes "max=") x.0.bytes) [
  | None ↦ Ok (DEFAULT_MAX, s)
  | Some digits ↦ (or_wrong x.0 (max_number digits) >>= λ n. Ok (n, x.1))
]

-- what is there, or else more than a limit allows
abbrev pub or_over : {A : Type 0} → Limit → Span → Option A → Reads A
or_over limit w None = Err (w.place, OverLimit limit)
or_over limit w (Some a) = Ok a

-- a text in quotes, of at most so many bytes, and what follows it
abbrev pub quoted_within : ℕ → Limit → Span → Reads (List ℕ × Span)
quoted_within most limit s = argument s >>= λ x. or_wrong x.0 (quoted_of_word x.0.bytes) >>= λ text. or_over limit x.0 (bounded most text) >>= λ text. Ok (text, x.1)

-- a format, and what follows it
unfoldable pub format : Span → Reads (List ℕ × Span)
format s = quoted_within FORMAT_LIMIT limits.Format s

-- a text that is scanned, or that stands for a message that is not there, and what follows it
unfoldable pub command_text : Span → Reads (List ℕ × Span)
command_text s = quoted_within TEXT_LIMIT limits.CommandText s

-- the words to the end of the line, each read by a function of its bytes, of which there may be so many; one more that is
-- well formed is one too many
abbrev pub all_read_as : {A : Type 0} → (List ℕ → Option A) → Limit → ℕ → Span → Reads (List A)
all_read_as read limit zero s = elim (next_word s) [
  | None ↦ Ok []
  | Some x ↦ (or_wrong x.0 (read x.0.bytes) >>= λ a. Err (x.0.place, OverLimit limit))
]
all_read_as read limit (suc n) s = elim (next_word s) [
  | None ↦ Ok []
  | Some x ↦ (or_wrong x.0 (read x.0.bytes) >>= λ a. all_read_as read limit n x.1 >>= λ more. Ok (a ∷ more))
]

-- all that is left are amounts
unfoldable pub amounts : Span → Reads (List MoneyAmount)
amounts s = all_read_as amount_of_word limits.Amounts AMOUNT_LIMIT s

-- all that is left are whole numbers
unfoldable pub whole_numbers : Span → Reads (List ℤ)
whole_numbers s = all_read_as number_of_word limits.Numbers NUMBER_LIMIT s

-- minutes east of UTC, which may be left out, and what follows them
unfoldable pub offset : Span → Reads (Option ℤ × Span)
offset s = if is_over s then Ok (None, s) else (read_as offset_of_word s >>= λ minutes. Ok (Some minutes.0, minutes.1))

-- the name of a time zone, which is empty where it is left out, and what follows it
unfoldable pub zone : Span → Reads (List ℕ × Span)
zone s = if is_over s then Ok ([], s) else read_as zone_of_word s

-- a date, a clock, the days of the week and of the year, and the zone; and what follows them
unfoldable pub moment : Span → Reads (UncheckedTime × Span)
moment s = do
  date ← read_as (three_numbers 45) s
  clock ← read_as (three_numbers 58) date.1
  wday ← read_as short_number clock.1
  yday ← read_as short_number wday.1
  offset ← offset yday.1
  zone ← zone offset.1
  Ok (
    record {
      year = date.0.0;
      mon = date.0.1;
      mday = date.0.2;
      hour = clock.0.0;
      min = clock.0.1;
      sec = clock.0.2;
      wday = wday.0;
      yday = yday.0;
      offset = offset.0;
      zone = zone.0;
    },
    zone.1,
  )

-- ---- what is read, by the words that say it

-- `ITEM`, of `info`
unfoldable pub info_words : Span → Reads Read
info_words s = do
  item ← read_as (first_named items_table) s
  over ← no_more item.1
  Ok (Info item.0)

-- no words, of `conv`
unfoldable pub conv_words : Span → Reads Read
conv_words s = no_more s >>= λ over. Ok Conv

-- `NAME W`, of `class`
unfoldable pub class_words : Span → Reads Read
class_words s = do
  class ← read_as class_of_word s
  value ← read_as decimal_number class.1
  over ← no_more value.1
  Ok (Class class.0 value.0)

-- `W`, and nothing else
unfoldable pub lone_value : Span → Reads ℕ
lone_value s = read_as decimal_number s >>= λ value. no_more value.1 >>= λ over. Ok value.0

-- `MAX F AMOUNTS`, of `money`
unfoldable pub money_words : Span → Reads Read
money_words s = do
  max ← max_bytes s
  format ← format max.1
  amounts ← amounts format.1
  Ok (Money max.0 format.0 amounts)

-- `MAX F DATE CLOCK WDAY YDAY OFFSET ZONE`, of `time`
unfoldable pub time_words : Span → Reads Read
time_words s = do
  max ← max_bytes s
  format ← format max.1
  time ← moment format.1
  over ← no_more time.1
  Ok (Time max.0 format.0 time.0)

-- `MAX F NUMBERS`, of `number`
unfoldable pub number_words : Span → Reads Read
number_words s = do
  max ← max_bytes s
  format ← format max.1
  numbers ← whole_numbers format.1
  Ok (Number max.0 format.0 numbers)

-- `F TEXT`, of `parse`
unfoldable pub parse_words : Span → Reads Read
parse_words s = do
  format ← format s
  text ← command_text format.1
  over ← no_more text.1
  Ok (Parse format.0 text.0)

-- `W`, of `upper`
unfoldable pub upper_words : Span → Reads Read
upper_words s = lone_value s >>= λ value. Ok (Upper value)

-- `W`, of `lower`
unfoldable pub lower_words : Span → Reads Read
lower_words s = lone_value s >>= λ value. Ok (Lower value)

-- ---- commands, each by its words in order; what follows the first word is given

-- a base, which may be left out
unfoldable pub base : Option Known → List (List ℕ) → Span → Reads (Option Target)
base known threads s = if is_over s then Ok None else (lone_target known threads s >>= λ named. Ok (Some named))

-- `new N MASK LOC`, `new N MASK LOC H`
unfoldable pub new_command : Option Known → List (List ℕ) → Span → Reads Command
new_command known threads s = do
  variable ← read_as variable_of_word s
  mask ← read_as mask_of_word variable.1
  locale ← read_as text_of_word mask.1
  base ← base known threads locale.1
  Ok (New variable.0 mask.0 locale.0 base)

-- `dup N H`
unfoldable pub dup_command : Option Known → List (List ℕ) → Span → Reads Command
dup_command known threads s = do
  variable ← read_as variable_of_word s
  from ← lone_target known threads variable.1
  Ok (Dup variable.0 from)

-- `?`, or what is selected
abbrev pub selection : Option Known → List (List ℕ) → Span → Reads Command
selection known threads w = if bytes_eq w.bytes (codes "?") then Ok Selected else (target known threads w >>= λ named. Ok (Use named))

-- `use H`, `use ?`
unfoldable pub use_command : Option Known → List (List ℕ) → Span → Reads Command
use_command known threads s = do
  word ← argument s
  command ← selection known threads word.0
  over ← no_more word.1
  Ok command

-- `setlocale CAT LOC`, `setlocale CAT`
unfoldable pub setlocale_command : Span → Reads Command
setlocale_command s = read_as categories_of_word s >>= λ categories.
    if is_over categories.1 then Ok (LocaleName categories.0) else
    (read_as text_of_word categories.1 >>= λ locale. no_more locale.1 >>= λ over. Ok (Setlocale categories.0 locale.0))

-- `install KEY`
unfoldable pub install_command : Option Known → Span → Reads Command
install_command known s = do
  word ← argument s
  key ← key known word.0
  over ← no_more word.1
  Ok (Install key)

-- `post K H`
unfoldable pub post_command : Option Known → List (List ℕ) → Span → Reads Command
post_command known threads s = do
  number ← read_as cell_number s
  named ← lone_target known threads number.1
  Ok (Post number.0 named)

-- `fetch N THREAD.K`
unfoldable pub fetch_command : Option Known → List (List ℕ) → Span → Reads Command
fetch_command known threads s = do
  variable ← read_as variable_of_word s
  word ← argument variable.1
  cell ← cell known threads word.0
  over ← no_more word.1
  Ok (Fetch variable.0 cell.0 cell.1)

-- what is read of the thread's own object, or of the global locale
abbrev pub read_command : Reads Read → Reads Command
read_command words = words >>= λ read. Ok (commands.Read read)

-- the same words behind a handle: what is read of its object
unfoldable pub read_of_command : Option Known → List (List ℕ) → (Span → Reads Read) → Span → Reads Command
read_of_command known threads words s = do
  object ← target_word known threads s
  read ← words object.1
  Ok (ReadOf object.0 read)

-- `catopen N NAME`
unfoldable pub catopen_command : Span → Reads Command
catopen_command s = do
  variable ← read_as variable_of_word s
  name ← read_as key_of_word variable.1
  over ← no_more name.1
  Ok (CatOpen variable.0 name.0)

-- `catgets C SET MSG "DEFAULT"`
unfoldable pub catgets_command : Option Known → List (List ℕ) → Span → Reads Command
catgets_command known threads s = do
  catalog ← catalog_word known threads s
  set ← read_as decimal_number catalog.1
  message ← read_as decimal_number set.1
  default ← command_text message.1
  over ← no_more default.1
  Ok (CatGets catalog.0 set.0 message.0 default.0)

-- `catclose C`
unfoldable pub catclose_command : Option Known → List (List ℕ) → Span → Reads Command
catclose_command known threads s = do
  catalog ← catalog_word known threads s
  over ← no_more catalog.1
  Ok (CatClose catalog.0)

-- ---- the tables of commands, a row each: its first word, and the command that the words behind it say

-- the objects and their pins
abbrev pub objects_table : Option Known → List (List ℕ) → Span → List (List ℕ × Reads Command)
objects_table known threads s =
    (codes "new", new_command known threads s) ∷
    (codes "dup", dup_command known threads s) ∷
    (codes "free", lone_target known threads s >>= λ named. Ok (Free named)) ∷
    (codes "use", use_command known threads s) ∷
    (codes "hold", lone_target known threads s >>= λ named. Ok (Hold named)) ∷
    (codes "release", lone_target known threads s >>= λ named. Ok (Release named)) ∷
    (codes "pins", lone_target known threads s >>= λ named. Ok (Pins named)) ∷
    []

-- what all threads share: the global locale, later versions of locales, and cells
abbrev pub shared_table : Option Known → List (List ℕ) → Span → List (List ℕ × Reads Command)
shared_table known threads s =
    (codes "setlocale", setlocale_command s) ∷
    (codes "install", install_command known s) ∷
    (codes "post", post_command known threads s) ∷
    (codes "fetch", fetch_command known threads s) ∷
    []

-- the catalogs
abbrev pub catalogs_table : Option Known → List (List ℕ) → Span → List (List ℕ × Reads Command)
catalogs_table known threads s =
    (codes "catopen", catopen_command s) ∷
    (codes "catgets", catgets_command known threads s) ∷
    (codes "catclose", catclose_command known threads s) ∷
    []

-- reads of the thread's own object, or of the global locale
abbrev pub own_reads_table : Option Known → List (List ℕ) → Span → List (List ℕ × Reads Command)
own_reads_table known threads s =
    (codes "info", read_command (info_words s)) ∷
    (codes "conv", read_command (conv_words s)) ∷
    (codes "class", read_command (class_words s)) ∷
    (codes "upper", read_command (upper_words s)) ∷
    (codes "lower", read_command (lower_words s)) ∷
    (codes "money", read_command (money_words s)) ∷
    (codes "time", read_command (time_words s)) ∷
    (codes "number", read_command (number_words s)) ∷
    (codes "parse", read_command (parse_words s)) ∷
    []

-- reads of the object of a handle; localeconv has none (XSH localeconv)
abbrev pub handle_reads_table : Option Known → List (List ℕ) → Span → List (List ℕ × Reads Command)
handle_reads_table known threads s =
    (codes "info_l", read_of_command known threads info_words s) ∷
    (codes "class_l", read_of_command known threads class_words s) ∷
    (codes "upper_l", read_of_command known threads upper_words s) ∷
    (codes "lower_l", read_of_command known threads lower_words s) ∷
    (codes "money_l", read_of_command known threads money_words s) ∷
    (codes "time_l", read_of_command known threads time_words s) ∷
    (codes "number_l", read_of_command known threads number_words s) ∷
    (codes "parse_l", read_of_command known threads parse_words s) ∷
    []

-- ---- the command of a line: the tables in turn

-- what a table says for a word, or else what is said otherwise
abbrev pub command_among : List (List ℕ × Reads Command) → List ℕ → Reads Command → Reads Command
command_among rows word otherwise = elim (first_named rows word) [ None ↦ otherwise | Some said ↦ said ]

-- the command whose first word is w, where it can only be a read with a handle
unfoldable pub handle_read_command : Option Known → List (List ℕ) → Span → Span → Reads Command
handle_read_command known threads w s = command_among (handle_reads_table known threads s) w.bytes (Err (w.place, BadLine CommandPart))

-- the command whose first word is w, where it can only be a read
unfoldable pub own_read_command : Option Known → List (List ℕ) → Span → Span → Reads Command
own_read_command known threads w s = command_among (own_reads_table known threads s) w.bytes (handle_read_command known threads w s)

-- the command whose first word is w, where it can only be one of a catalog or a read
unfoldable pub catalog_command : Option Known → List (List ℕ) → Span → Span → Reads Command
catalog_command known threads w s = command_among (catalogs_table known threads s) w.bytes (own_read_command known threads w s)

-- the command whose first word is w, where it is none of the table of objects
unfoldable pub shared_command : Option Known → List (List ℕ) → Span → Span → Reads Command
shared_command known threads w s = command_among (shared_table known threads s) w.bytes (catalog_command known threads w s)

-- the command whose first word is w, with what follows it, where the threads named so far are these
unfoldable pub command : Option Known → List (List ℕ) → Span → Span → Reads Command
command known threads w s = command_among (objects_table known threads s) w.bytes (shared_command known threads w s)
