-- What a command asks for: a call of the table or of the catalogs, or something that is read (our own; XSH newlocale, duplocale, freelocale, uselocale, setlocale, catopen, catgets and catclose for the calls).
use Rattle.std.specs.Prelude.{ℕ, nat_lt, List, [], ◌∷◌, Option, Some, None, Result, Ok, Err, IfOk, if◌then◌else◌}
use Rattle.lc_base.specs.declared.category.Category.{Category}
use Rattle.lc_base.specs.Mask.{category_bit}
use Rattle.lc_base.specs.Reading.{◌>>=◌}
use Rattle.mask_compose.specs.Offer.{Offered}
use Rattle.category_store.specs.LibraryData.{LibraryData}
use Rattle.category_store.specs.Library.{numbers, later}
use Rattle.lc_base.specs.declared.handle.Handle.{Handle}
use Rattle.lc_base.specs.declared.handle.Named.{Named}
use Rattle.lc_base.specs.declared.handle.Named.TheVariants as names
use Rattle.handle_table.specs.declared.op.Refusal.TheVariants as refusals
use Rattle.handle_table.specs.Entry as table
use Rattle.script_commands.specs.declared.command.Read.{Read}
use Rattle.script_words.specs.declared.categories.CategoryArgument.{CategoryArgument}
use Rattle.script_words.specs.declared.categories.CategoryArgument.TheVariants.{All, One}
use Rattle.script_commands.specs.declared.command.Target.{Target}
use Rattle.script_commands.specs.declared.command.Target.TheVariants as targets
use Rattle.script_commands.specs.declared.command.OpenCatalog.{OpenCatalog}
use Rattle.script_commands.specs.declared.command.OpenCatalog.TheVariants as open_catalogs
use Rattle.script_commands.specs.declared.command.Command.{Command}
use Rattle.script_commands.specs.declared.command.Command.TheVariants as commands
use Rattle.script_out.specs.declared.output.Why.{Why}
use Rattle.script_out.specs.declared.output.Why.TheVariants as whys
use Rattle.script_wishes.specs.Turns.{Task, Runs, Releases, Ends}
use Rattle.script_wishes.specs.Variables.{Bindings, bound, locale_variable, catalog_variable}

-- ---- the op of a call, or why there is none: such a refusal makes no entry

abbrev pub Asks : Type 0
Asks = Result table.Op Why

-- what a command names: a variable that nothing bound is Unset
abbrev pub handle_or_unset : Option Handle → Result Named Why
handle_or_unset None = Err whys.Unset
handle_or_unset (Some h) = Ok (names.Of h)

abbrev pub named : Bindings → Target → Result Named Why
named bindings targets.Global = Ok names.Global
named bindings (targets.Variable variable) = handle_or_unset (bound bindings (locale_variable variable))
named bindings (targets.Handle h) = Ok (names.Of h)

-- a base, which may be left out
abbrev pub base_named : Bindings → Option Target → Result (Option Named) Why
base_named bindings None = Ok None
base_named bindings (Some target) = named bindings target >>= λ n. Ok (Some n)

-- a mask: a number with a bit that no category has is BadMask
abbrev pub mask_of : ℕ → Result ℕ Why
mask_of bits = if nat_lt 31 bits then Err whys.BadMask else Ok bits

-- the mask of a setlocale
abbrev pub categories_mask : CategoryArgument → ℕ
categories_mask All = 31
categories_mask (One category) = category_bit category

-- the numbers of names: a locale that no block names is NoData
abbrev pub numbers_or_no_data : Result (List ℕ) Category → Result (List ℕ) Why
numbers_or_no_data (Ok ns) = Ok ns
numbers_or_no_data (Err category) = Err (whys.Table (refusals.NoData category))

abbrev pub named_numbers : LibraryData → List ℕ → ℕ → Result (List ℕ) Why
named_numbers library locale mask = numbers_or_no_data (numbers library locale mask)

-- newlocale: the base is looked for first, then the mask, and then the locale
abbrev pub new_op : LibraryData → Bindings → ℕ → List ℕ → Option Target → Asks
new_op library bindings bits locale base =
    base_named bindings base >>= λ n. mask_of bits >>= λ mask. named_numbers library locale mask >>= λ ns. Ok (table.New mask ns n)

-- setlocale, which looks up only the categories that it sets
abbrev pub set_op : LibraryData → ℕ → List ℕ → Asks
set_op library mask locale = named_numbers library locale mask >>= λ ns. Ok (table.SetGlobal mask ns)

abbrev pub setlocale_op : LibraryData → CategoryArgument → List ℕ → Asks
setlocale_op library categories locale = set_op library (categories_mask categories) locale

-- what a key installs. No accepted bundle installs a key without a block (`HasItsKeys`), so the first row never arises (`HasVersion`)
abbrev pub install_of : Option (ℕ × Offered) → Asks
install_of None = Err whys.Unset
install_of (Some version) = Ok (table.Install version.0 version.1)

abbrev pub install_op : LibraryData → List ℕ → Asks
install_op library key = install_of (later library key)

-- the handle of a catalog that a command names: a variable that nothing bound is Unset
abbrev pub catalog_or_unset : Option Handle → Result Handle Why
catalog_or_unset None = Err whys.Unset
catalog_or_unset (Some h) = Ok h

abbrev pub catalog_named : Bindings → OpenCatalog → Result Handle Why
catalog_named bindings (open_catalogs.Variable variable) = catalog_or_unset (bound bindings (catalog_variable variable))
catalog_named bindings (open_catalogs.Handle h) = Ok h

-- an op of what is named
abbrev pub op_on : (Named → table.Op) → Result Named Why → Asks
op_on op named = named >>= λ n. Ok (op n)

-- ---- what a command asks for

-- a call, with the categories whose name an accepted setlocale prints; a read of what is named; a read of the thread's own
-- object or else of the global locale; what is selected; the name of the global locale; a catalog to be opened by its name; the
-- message of a set and a number in an open catalog, or else the default; a catalog to be closed
pub data Wish : Type 0 where
  Calls : CategoryArgument → table.Op → Wish
  ReadsOf : Named → Read → Wish
  Reads : Read → Wish
  AsksSelection : Wish
  AsksName : CategoryArgument → Wish
  OpensCatalog : List ℕ → Wish
  GetsMessage : Handle → ℕ → ℕ → List ℕ → Wish
  ClosesCatalog : Handle → Wish

abbrev pub called : CategoryArgument → Asks → Result Wish Why
called categories asks = asks >>= λ op. Ok (Calls categories op)

-- a read of what is named
abbrev pub read_of : Bindings → Target → Read → Result Wish Why
read_of bindings target read = named bindings target >>= λ n. Ok (ReadsOf n read)

-- a message, and the end, of an open catalog
abbrev pub message_of : Bindings → OpenCatalog → ℕ → ℕ → List ℕ → Result Wish Why
message_of bindings catalog set message default = catalog_named bindings catalog >>= λ h. Ok (GetsMessage h set message default)

abbrev pub close_of : Bindings → OpenCatalog → Result Wish Why
close_of bindings catalog = catalog_named bindings catalog >>= λ h. Ok (ClosesCatalog h)

-- what each command asks for, or why it is refused without an entry
abbrev pub wish : LibraryData → Bindings → Command → Result Wish Why
wish library b (commands.New variable bits locale base) = called All (new_op library b bits locale base)
wish library b (commands.Dup variable from) = called All (op_on table.Dup (named b from))
wish library b (commands.Free target) = called All (op_on table.Free (named b target))
wish library b (commands.Use target) = called All (op_on table.Use (named b target))
wish library b commands.Selected = Ok AsksSelection
wish library b (commands.Hold target) = called All (op_on table.Hold (named b target))
wish library b (commands.Release target) = called All (op_on table.Release (named b target))
wish library b (commands.Setlocale categories locale) = called categories (setlocale_op library categories locale)
wish library b (commands.LocaleName categories) = Ok (AsksName categories)
wish library b (commands.Install key) = called All (install_op library key)
wish library b (commands.Post cell target) = called All (op_on (table.Post cell) (named b target))
wish library b (commands.Fetch variable owner cell) = called All (Ok (table.Fetch owner cell))
wish library b (commands.Pins target) = called All (op_on table.Pins (named b target))
wish library b (commands.Read read) = Ok (Reads read)
wish library b (commands.ReadOf target read) = read_of b target read
wish library b (commands.CatOpen variable name) = Ok (OpensCatalog name)
wish library b (commands.CatGets catalog set message default) = message_of b catalog set message default
wish library b (commands.CatClose catalog) = close_of b catalog

-- what a task asks for
abbrev pub wish_of : LibraryData → Bindings → Task → Result Wish Why
wish_of library b (Runs command) = wish library b command
wish_of library b (Releases h) = Ok (Calls All (table.Release (names.Of h)))
wish_of library b Ends = Ok (Calls All table.End)

-- ---- the ops of a line, in order of its places

-- what a task makes entries of in the history of the table: a read of what is named makes a Hold, and where that is accepted a Release
abbrev pub wished_ops : Wish → List table.Op
wished_ops (Calls categories op) = op ∷ []
wished_ops (ReadsOf n read) = table.Hold n ∷ table.Release n ∷ []
wished_ops (Reads read) = []
wished_ops AsksSelection = []
wished_ops (AsksName categories) = []
wished_ops (OpensCatalog name) = []
wished_ops (GetsMessage h set message default) = []
wished_ops (ClosesCatalog h) = []

abbrev pub ops_of : Result Wish Why → List table.Op
ops_of (Ok wish) = wished_ops wish
ops_of (Err why) = []

-- ---- ops that may be asked for

-- the op of a wish, if it has one, is one that may be asked for
abbrev pub Fitting : (table.Op → Type 0) → Wish → Type 0
Fitting may (Calls categories op) = may op
Fitting may (ReadsOf n read) = may (table.Hold n) × may (table.Release n)
Fitting may (Reads read) = Unit {0}
Fitting may AsksSelection = Unit {0}
Fitting may (AsksName categories) = Unit {0}
Fitting may (OpensCatalog name) = Unit {0}
Fitting may (GetsMessage h set message default) = Unit {0}
Fitting may (ClosesCatalog h) = Unit {0}

-- what a task asks for, whatever its variables stand for, is such
abbrev pub TaskMay : LibraryData → (table.Op → Type 0) → Task → Type 0
TaskMay library may task = (b : Bindings) → IfOk (wish_of library b task) (Fitting may)
