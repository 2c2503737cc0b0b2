-- Bundles, and what their scripts print, at worked examples.
use Rattle.std.proofs.Common.{◌≡◌, ℕ, List, [], ◌∷◌, ◌++◌, Option, Some, None, refl}
use Rattle.std.specs.Prelude.{negsuc, codes}
use Rattle.lc_base.specs.declared.category.Category.TheVariants as categories
use Rattle.lc_base.specs.declared.block.Block.{Block}
use Rattle.msg_catalog.specs.declared.book.Message.{Message}
use Rattle.numeric_cat.specs.NumericValues.{NumericValues}
use Rattle.category_store.specs.Locale.{Locale, posix_locale}
use Rattle.category_store.specs.LibraryData.{LibraryData}
use Rattle.lc_base.specs.declared.handle.Handle.{Handle}
use Rattle.lc_base.specs.declared.handle.Named.TheVariants as named
use Rattle.handle_table.specs.declared.op.Refusal.{Refusal}
use Rattle.handle_table.specs.declared.op.Refusal.TheVariants as refusals
use Rattle.handle_table.specs.Entry as table
use Rattle.lc_base.specs.declared.item.Item.TheVariants.{Radixchar, Thousep}
use Rattle.script_commands.specs.declared.command.Read.TheVariants.{Info}
use Rattle.script_words.specs.declared.categories.CategoryArgument.TheVariants.{All, One}
use Rattle.script_commands.specs.declared.command.Target.{Target}
use Rattle.script_commands.specs.declared.command.Target.TheVariants as targets
use Rattle.script_commands.specs.declared.command.Command.{Command}
use Rattle.script_commands.specs.declared.command.Command.TheVariants.{New, Dup, Free, Use, Selected, Hold, Release, Setlocale, LocaleName, Install, Post, Fetch, Pins, Read, ReadOf, CatOpen, CatGets, CatClose}
use Rattle.script_commands.specs.declared.command.OpenCatalog.{OpenCatalog}
use Rattle.script_commands.specs.declared.command.OpenCatalog.TheVariants as open_catalogs
use Rattle.script_commands.specs.declared.command.Placed.{Placed}
use Rattle.script_out.specs.declared.output.OutLine.{OutLine}
use Rattle.script_out.specs.declared.output.Places.{Places}
use Rattle.script_out.specs.declared.output.Places.TheVariants as places
use Rattle.script_out.specs.declared.output.Said.{Said}
use Rattle.script_out.specs.declared.output.Said.TheVariants as said
use Rattle.script_out.specs.declared.output.Why.TheVariants as whys
use Rattle.script_plan.specs.Plan.{PlanData, counts}
use Rattle.script_reads.specs.Names.{joint_name, object_name}
use Rattle.script_wishes.specs.Variables.{bound, locale_variable}
use Rattle.script_lines.specs.Lines.{shown}
use Rattle.script_plan.specs.Serial.{serial_lines}

-- ---- a bundle: the locale `a` has LC_NUMERIC alone, `b` copies it, and `a` is the native one; the key `k` installs `a` with
-- another radix character

abbrev values : NumericValues
values = record { decimal_point = codes ","; thousands_sep = codes "."; grouping = negsuc 0 ∷ [] }

abbrev locale : List ℕ → Locale
locale name = record posix_locale { name = name; available = 2; numeric = values }

abbrev later_locale : Locale
later_locale = record posix_locale { name = codes "a"; available = 2; numeric = record values { decimal_point = codes ":" } }

abbrev pub library : LibraryData
library = record {
  locales = locale (codes "a") ∷ locale (codes "b") ∷ later_locale ∷ [];
  names = (codes "a", 1) ∷ (codes "b", 2) ∷ [];
  first = (codes "a", 1) ∷ (codes "b", 2) ∷ [];
  keys = (codes "k", 3) ∷ [];
  native = Some 1;
}

abbrev pub placed : ℕ → ℕ → List Command → List Placed
placed round thread [] = []
placed round thread (c ∷ cs) = record { round = round; thread = thread; command = c } ∷ placed round thread cs

-- the catalog `m` for the locale `C`, and one of that name for `a`
abbrev catalog : List ℕ → List ℕ → Block
catalog name locale = record { name = name; charset = locale; first_line = 2; text = [] }

abbrev message : ℕ → ℕ → List ℕ → Message
message set number text = record { set = set; number = number; text = text }

abbrev pub plan : List (List ℕ) → ℕ → List Placed → PlanData
plan threads rounds commands = record {
  bundle = record { charmaps = []; locales = []; later = []; catalogs = catalog (codes "m") (codes "a") ∷ catalog (codes "m") (codes "C") ∷ []; native = Some (codes "a"); threads = threads; rounds = rounds; commands = commands };
  library = library;
  books = (message 1 1 (codes "one") ∷ []) ∷ (message 1 1 (codes "Hello") ∷ message 2 1 (codes "Second") ∷ []) ∷ [];
}

-- the lines of the thread `A` in one round
abbrev lines : List Command → List OutLine
lines commands = serial_lines 16 65535 (plan (codes "A" ∷ []) 1 (placed 1 0 commands))

-- the lines of the threads `A` and `B`
abbrev two_threads : ℕ → List Placed → List OutLine
two_threads rounds commands = serial_lines 16 65535 (plan (codes "A" ∷ codes "B" ∷ []) rounds commands)

-- a line of a thread in a round
abbrev pub line_of : ℕ → ℕ → ℕ → Places → Option ℕ → Said → OutLine
line_of round thread index at version reply = record { round = round; thread = thread; index = index; places = at; global = version; reply = reply }

-- a line of `A` in the first round
abbrev line : ℕ → Places → Option ℕ → Said → OutLine
line index at version reply = line_of 1 0 index at version reply

-- the closing line of `A` after one round
abbrev ended : ℕ → ℕ → OutLine
ended index place = line_of 2 0 index (places.One place) None said.Ended

-- the first object of a thread
abbrev pub first_of : ℕ → Handle
first_of thread = record { owner = thread; row = 0; generation = 1 }

abbrev refused : ℕ → Places → Refusal → OutLine
refused index at refusal = line index at None (shown library All (table.Refused refusal))

abbrev x : Target
x = targets.Variable (codes "x")

abbrev numeric_a : List ℕ
numeric_a = codes "LC_CTYPE=C;LC_NUMERIC=a;LC_MONETARY=C;LC_TIME=C;LC_MESSAGES=C"

-- ---- counts

abbrev empty_block : Block
empty_block = record { name = codes "m"; charset = []; first_line = 2; text = [] }

some_counts : counts (record { charmaps = empty_block ∷ []; locales = empty_block ∷ empty_block ∷ []; later = []; catalogs = empty_block ∷ []; native = None; threads = codes "A" ∷ []; rounds = 1; commands = placed 1 0 (Selected ∷ Selected ∷ Selected ∷ []) }) ≡ record { locales = 2; charmaps = 1; threads = 1; rounds = 1; commands = 3 }
some_counts = refl

-- ---- names

common_name : joint_name (codes "a" ∷ codes "a" ∷ codes "a" ∷ codes "a" ∷ codes "a" ∷ []) ≡ codes "a"
common_name = refl

mixed_name : joint_name (codes "a" ∷ codes "b" ∷ codes "c" ∷ codes "d" ∷ codes "e" ∷ []) ≡ codes "LC_CTYPE=a;LC_NUMERIC=b;LC_MONETARY=c;LC_TIME=d;LC_MESSAGES=e"
mixed_name = refl

last_differs : joint_name (codes "a" ∷ codes "a" ∷ codes "a" ∷ codes "a" ∷ codes "b" ∷ []) ≡ codes "LC_CTYPE=a;LC_NUMERIC=a;LC_MONETARY=a;LC_TIME=a;LC_MESSAGES=b"
last_differs = refl

name_of_time : object_name library (record { ctype = 0; numeric = 1; monetary = 0; time = 2; messages = 0 }) (One categories.Time) ≡ codes "b"
name_of_time = refl

-- ---- variables

newest_binding : bound ((locale_variable (codes "y"), record { owner = 0; row = 2; generation = 1 }) ∷ (locale_variable (codes "x"), record { owner = 0; row = 1; generation = 1 }) ∷ (locale_variable (codes "x"), record { owner = 0; row = 0; generation = 1 }) ∷ []) (locale_variable (codes "x")) ≡ Some (record { owner = 0; row = 1; generation = 1 })
newest_binding = refl

-- ---- scripts

no_thread : serial_lines 16 65535 (plan [] 1 []) ≡ []
no_thread = refl

no_command : lines [] ≡ ended 1 0 ∷ []
no_command = refl

-- a category that the locale lacks makes an entry; the native locale has its name; nothing is selected
native_and_no_data : lines (Setlocale All (codes "a") ∷ Setlocale (One categories.Numeric) [] ∷ LocaleName All ∷ Read (Info Radixchar) ∷ Selected ∷ [])
    ≡ refused 1 (places.One 0) (refusals.NoData categories.Ctype)
    ∷ line 2 (places.One 1) (Some 1) (said.Name (codes "a"))
    ∷ line 3 places.None (Some 1) (said.Name numeric_a)
    ∷ line 4 places.None (Some 1) (said.Text (codes ","))
    ∷ line 5 places.None None (said.Is named.Global)
    ∷ ended 6 2 ∷ []
native_and_no_data = refl

-- the name of a category is the locale that was named, also where it copies
copied_numeric : lines (Setlocale (One categories.Numeric) (codes "b") ∷ Read (Info Radixchar) ∷ Read (Info Thousep) ∷ [])
    ≡ line 1 (places.One 0) (Some 1) (said.Name (codes "b"))
    ∷ line 2 places.None (Some 1) (said.Text (codes ","))
    ∷ line 3 places.None (Some 1) (said.Text (codes "."))
    ∷ ended 4 1 ∷ []
copied_numeric = refl

-- a mixed name is taken where a name is taken; a locale that no block names makes no entry, and is looked for only where it is
-- set; POSIX answers as C
mixed_names : lines (Setlocale All numeric_a ∷ Setlocale (One categories.Numeric) (codes "nowhere") ∷ Setlocale (One categories.Numeric) (codes "LC_CTYPE=x;LC_NUMERIC=POSIX;LC_MONETARY=x;LC_TIME=x;LC_MESSAGES=x") ∷ LocaleName All ∷ [])
    ≡ line 1 (places.One 0) (Some 1) (said.Name numeric_a)
    ∷ refused 2 places.None (refusals.NoData categories.Numeric)
    ∷ line 3 (places.One 1) (Some 2) (said.Name (codes "C"))
    ∷ line 4 places.None (Some 2) (said.Name (codes "C"))
    ∷ ended 5 2 ∷ []
mixed_names = refl

-- an object that is freed while it is selected stays the thread's own; `setlocale` asks for the global locale all the same
freed_while_selected : lines (New (codes "x") 2 (codes "a") None ∷ Use x ∷ Read (Info Radixchar) ∷ Free x ∷ Use x ∷ Read (Info Radixchar) ∷ Selected ∷ LocaleName (One categories.Numeric) ∷ Use targets.Global ∷ Read (Info Radixchar) ∷ [])
    ≡ line 1 (places.One 0) None (said.Handle (record { owner = 0; row = 0; generation = 1 }))
    ∷ line 2 (places.One 1) None (said.Was named.Global)
    ∷ line 3 places.None None (said.Text (codes ","))
    ∷ line 4 (places.One 2) None said.Freed
    ∷ refused 5 (places.One 3) refusals.Stale
    ∷ line 6 places.None None (said.Text (codes ","))
    ∷ line 7 places.None None (said.Is (named.Of (record { owner = 0; row = 0; generation = 1 })))
    ∷ line 8 places.None (Some 0) (said.Name (codes "C"))
    ∷ line 9 (places.One 4) None (said.Was (named.Of (record { owner = 0; row = 0; generation = 1 })))
    ∷ line 10 places.None (Some 0) (said.Text (codes "."))
    ∷ ended 11 5 ∷ []
freed_while_selected = refl

-- Unset, BadMask and NoData of a locale that no block names make no entry, and BadMask comes first
refused_without_an_entry : lines (Free x ∷ New (codes "x") 32 (codes "nowhere") None ∷ New (codes "x") 31 (codes "nowhere") None ∷ Use x ∷ Free targets.Global ∷ Use (targets.Handle (record { owner = 0; row = 5; generation = 1 })) ∷ [])
    ≡ line 1 places.None None (said.Refused whys.Unset)
    ∷ line 2 places.None None (said.Refused whys.BadMask)
    ∷ refused 3 places.None (refusals.NoData categories.Ctype)
    ∷ line 4 places.None None (said.Refused whys.Unset)
    ∷ refused 5 (places.One 0) refusals.GlobalHandle
    ∷ refused 6 (places.One 1) refusals.NeverMade
    ∷ ended 7 2 ∷ []
refused_without_an_entry = refl

-- one row with one generation
few_rows : serial_lines 1 1 (plan (codes "A" ∷ []) 1 (placed 1 0 (New (codes "x") 0 (codes "C") None ∷ New (codes "y") 0 (codes "C") None ∷ Free x ∷ New (codes "z") 0 (codes "C") None ∷ [])))
    ≡ line 1 (places.One 0) None (said.Handle (record { owner = 0; row = 0; generation = 1 }))
    ∷ refused 2 (places.One 1) refusals.TooMany
    ∷ line 3 (places.One 2) None said.Freed
    ∷ refused 4 (places.One 3) refusals.TooMany
    ∷ ended 5 4 ∷ []
few_rows = refl

-- ---- Holds, and reads of what is named

-- an open Hold keeps the object that is freed, and a read of it makes no entry; without one a read makes a Hold and a Release, and
-- the Hold's refusal is the reply
held_and_freed : lines (New (codes "x") 2 (codes "a") None ∷ ReadOf x (Info Radixchar) ∷ Hold x ∷ Free x ∷ ReadOf x (Info Radixchar) ∷ Use x ∷ Release x ∷ ReadOf x (Info Radixchar) ∷ [])
    ≡ line 1 (places.One 0) None (said.Handle (first_of 0))
    ∷ line 2 (places.Two 1 2) None (said.Text (codes ","))
    ∷ line 3 (places.One 3) None said.Held
    ∷ line 4 (places.One 4) None said.Freed
    ∷ line 5 places.None None (said.Text (codes ","))
    ∷ refused 6 (places.One 5) refusals.Stale
    ∷ line 7 (places.One 6) None said.Released
    ∷ refused 8 (places.One 7) refusals.Stale
    ∷ ended 9 8 ∷ []
held_and_freed = refl

-- GLOBAL is no object to read, a variable that nothing bound makes no entry, and no version is printed
reads_of_no_object : lines (ReadOf targets.Global (Info Radixchar) ∷ ReadOf x (Info Radixchar) ∷ ReadOf (targets.Handle (record { owner = 0; row = 3; generation = 1 })) (Info Radixchar) ∷ Hold targets.Global ∷ Release (targets.Handle (record { owner = 0; row = 3; generation = 1 })) ∷ [])
    ≡ refused 1 (places.One 0) refusals.GlobalHandle
    ∷ line 2 places.None None (said.Refused whys.Unset)
    ∷ refused 3 (places.One 1) refusals.NeverMade
    ∷ refused 4 (places.One 2) refusals.GlobalHandle
    ∷ refused 5 (places.One 3) refusals.NotHeld
    ∷ ended 6 4 ∷ []
reads_of_no_object = refl

-- a base keeps its handle; what is selected or held stays as it was, and a read of what is named sees the new categories where
-- no Hold is open; what the base lacks is refused, and so is a freed base
base_keeps_handle : lines (New (codes "x") 2 (codes "a") None ∷ Hold x ∷ New (codes "y") 2 (codes "C") (Some x) ∷ ReadOf x (Info Radixchar) ∷ Release x ∷ ReadOf (targets.Variable (codes "y")) (Info Radixchar) ∷ New (codes "z") 8 (codes "a") (Some x) ∷ Free x ∷ New (codes "z") 2 (codes "a") (Some x) ∷ Free (targets.Variable (codes "z")) ∷ [])
    ≡ line 1 (places.One 0) None (said.Handle (first_of 0))
    ∷ line 2 (places.One 1) None said.Held
    ∷ line 3 (places.One 2) None (said.Handle (first_of 0))
    ∷ line 4 places.None None (said.Text (codes ","))
    ∷ line 5 (places.One 3) None said.Released
    ∷ line 6 (places.Two 4 5) None (said.Text (codes "."))
    ∷ refused 7 (places.One 6) (refusals.NoData categories.Time)
    ∷ line 8 (places.One 7) None said.Freed
    ∷ refused 9 (places.One 8) refusals.Stale
    ∷ line 10 places.None None (said.Refused whys.Unset)
    ∷ ended 11 9 ∷ []
base_keeps_handle = refl

-- an unset base goes before a wrong mask, and a wrong mask before a locale that no block names
unset_base_first : lines (New (codes "y") 32 (codes "nowhere") (Some x) ∷ New (codes "y") 2 (codes "a") (Some targets.Global) ∷ [])
    ≡ line 1 places.None None (said.Refused whys.Unset)
    ∷ refused 2 (places.One 0) refusals.GlobalHandle
    ∷ ended 3 1 ∷ []
unset_base_first = refl

-- a copy of the global locale stays as it was
copy_of_global : lines (Setlocale All [] ∷ Setlocale (One categories.Numeric) (codes "a") ∷ Dup (codes "x") targets.Global ∷ Setlocale (One categories.Numeric) (codes "C") ∷ Use x ∷ Read (Info Radixchar) ∷ [])
    ≡ refused 1 (places.One 0) (refusals.NoData categories.Ctype)
    ∷ line 2 (places.One 1) (Some 1) (said.Name (codes "a"))
    ∷ line 3 (places.One 2) None (said.Handle (first_of 0))
    ∷ line 4 (places.One 3) (Some 2) (said.Name (codes "C"))
    ∷ line 5 (places.One 4) None (said.Was named.Global)
    ∷ line 6 places.None None (said.Text (codes ","))
    ∷ ended 7 5 ∷ []
copy_of_global = refl

-- an install changes what a name means from then on, and no object made before
installed : lines (New (codes "x") 2 (codes "a") None ∷ Install (codes "k") ∷ New (codes "y") 2 (codes "a") None ∷ ReadOf x (Info Radixchar) ∷ ReadOf (targets.Variable (codes "y")) (Info Radixchar) ∷ Install (codes "k") ∷ [])
    ≡ line 1 (places.One 0) None (said.Handle (first_of 0))
    ∷ line 2 (places.One 1) None (said.Installed 1)
    ∷ line 3 (places.One 2) None (said.Handle (record { owner = 0; row = 1; generation = 1 }))
    ∷ line 4 (places.Two 3 4) None (said.Text (codes ","))
    ∷ line 5 (places.Two 5 6) None (said.Text (codes ":"))
    ∷ line 6 (places.One 7) None (said.Installed 2)
    ∷ ended 7 8 ∷ []
installed = refl

-- ---- threads and rounds

-- a round is run thread by thread, whatever the order in the text; indices go on from round to round; the threads are closed in
-- order of their numbers
round_by_round : two_threads 2 (placed 1 1 (Selected ∷ []) ++ placed 1 0 (Setlocale (One categories.Numeric) (codes "a") ∷ []) ++ placed 1 1 (Read (Info Radixchar) ∷ []) ++ placed 2 1 (Setlocale (One categories.Numeric) (codes "C") ∷ []) ++ placed 2 0 (Read (Info Radixchar) ∷ []))
    ≡ line_of 1 0 1 (places.One 0) (Some 1) (said.Name (codes "a"))
    ∷ line_of 1 1 1 places.None None (said.Is named.Global)
    ∷ line_of 1 1 2 places.None (Some 1) (said.Text (codes ","))
    ∷ line_of 2 0 2 places.None (Some 1) (said.Text (codes ","))
    ∷ line_of 2 1 3 (places.One 1) (Some 2) (said.Name (codes "C"))
    ∷ line_of 3 0 3 (places.One 2) None said.Ended
    ∷ line_of 3 1 4 (places.One 3) None said.Ended ∷ []
round_by_round = refl

-- a handle goes from thread to thread by a cell; a Hold counts as a pin for each thread; Holds that are left open are released at
-- the end, in the order made
shared_by_a_cell : two_threads 2 (placed 1 0 (New (codes "x") 2 (codes "a") None ∷ New (codes "y") 0 (codes "C") None ∷ Post 0 x ∷ Hold x ∷ []) ++ placed 2 1 (Fetch (codes "x") 0 1 ∷ Fetch (codes "x") 0 0 ∷ Hold (targets.Handle (record { owner = 0; row = 1; generation = 1 })) ∷ Hold x ∷ Pins x ∷ ReadOf x (Info Radixchar) ∷ []))
    ≡ line_of 1 0 1 (places.One 0) None (said.Handle (first_of 0))
    ∷ line_of 1 0 2 (places.One 1) None (said.Handle (record { owner = 0; row = 1; generation = 1 }))
    ∷ line_of 1 0 3 (places.One 2) None said.Posted
    ∷ line_of 1 0 4 (places.One 3) None said.Held
    ∷ line_of 2 1 1 (places.One 4) None (shown library All (table.Refused refusals.EmptyCell))
    ∷ line_of 2 1 2 (places.One 5) None (said.Handle (first_of 0))
    ∷ line_of 2 1 3 (places.One 6) None said.Held
    ∷ line_of 2 1 4 (places.One 7) None said.Held
    ∷ line_of 2 1 5 (places.One 8) None (said.Pins 2)
    ∷ line_of 2 1 6 places.None None (said.Text (codes ","))
    ∷ line_of 3 0 5 (places.One 9) None said.Released
    ∷ line_of 3 0 6 (places.One 10) None said.Ended
    ∷ line_of 3 1 7 (places.One 11) None said.Released
    ∷ line_of 3 1 8 (places.One 12) None said.Released
    ∷ line_of 3 1 9 (places.One 13) None said.Ended ∷ []
shared_by_a_cell = refl

-- a variable belongs to its thread
variable_of_another_thread : two_threads 1 (placed 1 0 (New (codes "x") 2 (codes "a") None ∷ []) ++ placed 1 1 (Use x ∷ []))
    ≡ line (1) (places.One 0) None (said.Handle (first_of 0))
    ∷ line_of 1 1 1 places.None None (said.Refused whys.Unset)
    ∷ line_of 2 0 2 (places.One 1) None said.Ended
    ∷ line_of 2 1 2 (places.One 2) None said.Ended ∷ []
variable_of_another_thread = refl

-- ---- message catalogs

abbrev opened : OpenCatalog
opened = open_catalogs.Variable (codes "c")

-- by the global locale, which is C: the catalog of that name for C, with the version; a message that is there, and the default
-- where there is none; a closed handle stays refused; the places are those of the history of the catalogs
opened_and_closed : lines (CatOpen (codes "c") (codes "m") ∷ CatGets opened 1 1 (codes "?") ∷ CatGets opened 2 1 (codes "?") ∷ CatGets opened 3 1 (codes "?") ∷ CatClose opened ∷ CatGets opened 1 1 (codes "?") ∷ [])
    ≡ line 1 (places.Catalog 0) (Some 0) (said.Opened (first_of 0))
    ∷ line 2 (places.Catalog 1) None (said.Text (codes "Hello"))
    ∷ line 3 (places.Catalog 2) None (said.Text (codes "Second"))
    ∷ line 4 (places.Catalog 3) None (said.Text (codes "?"))
    ∷ line 5 (places.Catalog 4) None said.Closed
    ∷ refused 6 (places.Catalog 5) refusals.Stale
    ∷ ended 7 0 ∷ []
opened_and_closed = refl

-- no catalog has the name for the locale: no entry, with the version that was read; a locale variable of the same name is another
-- one, and an unset one goes first; a handle that nobody made has an entry
not_opened : lines (CatOpen (codes "c") (codes "nowhere") ∷ New (codes "c") 2 (codes "a") None ∷ CatClose opened ∷ CatClose (open_catalogs.Handle (record { owner = 0; row = 3; generation = 1 })) ∷ [])
    ≡ line 1 places.None (Some 0) (said.Refused whys.NoCatalog)
    ∷ line 2 (places.One 0) None (said.Handle (first_of 0))
    ∷ line 3 places.None None (said.Refused whys.Unset)
    ∷ refused 4 (places.Catalog 0) refusals.NeverMade
    ∷ ended 5 1 ∷ []
not_opened = refl

-- by the thread's own object no version is printed, and its LC_MESSAGES is what counts
opened_by_own_object : lines (New (codes "x") 2 (codes "a") None ∷ Use x ∷ CatOpen (codes "c") (codes "m") ∷ CatGets opened 1 1 (codes "?") ∷ [])
    ≡ line 1 (places.One 0) None (said.Handle (first_of 0))
    ∷ line 2 (places.One 1) None (said.Was named.Global)
    ∷ line 3 (places.Catalog 0) None (said.Opened (first_of 0))
    ∷ line 4 (places.Catalog 1) None (said.Text (codes "Hello"))
    ∷ ended 5 2 ∷ []
opened_by_own_object = refl

-- each thread has rows of its own, and only so many
few_catalog_rows : serial_lines 1 9 (plan (codes "A" ∷ codes "B" ∷ []) 1 (placed 1 0 (CatOpen (codes "c") (codes "m") ∷ CatOpen (codes "d") (codes "m") ∷ []) ++ placed 1 1 (CatOpen (codes "c") (codes "m") ∷ [])))
    ≡ line 1 (places.Catalog 0) (Some 0) (said.Opened (first_of 0))
    ∷ line 2 (places.Catalog 1) (Some 0) (said.Refused (whys.Table refusals.TooMany))
    ∷ line_of 1 1 1 (places.Catalog 2) (Some 0) (said.Opened (first_of 1))
    ∷ line_of 2 0 3 (places.One 0) None said.Ended
    ∷ line_of 2 1 2 (places.One 1) None said.Ended ∷ []
few_catalog_rows = refl
