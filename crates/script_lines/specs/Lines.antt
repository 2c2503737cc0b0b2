-- The lines of a script, by the replies of the table (our own).
use Rattle.std.specs.Prelude.{ℕ, length, Option, Some, None}
use Rattle.mask_compose.specs.Parts.{Parts}
use Rattle.category_store.specs.LibraryData.{LibraryData}
use Rattle.handle_table.specs.Entry as table
use Rattle.handle_table.specs.Entry.{History}
use Rattle.script_words.specs.declared.categories.CategoryArgument.{CategoryArgument}
use Rattle.script_commands.specs.declared.command.Read.{Read}
use Rattle.script_out.specs.declared.output.OutLine.{OutLine}
use Rattle.script_out.specs.declared.output.Places.{Places}
use Rattle.script_out.specs.declared.output.Places.TheVariants as places
use Rattle.script_out.specs.declared.output.Why.TheVariants as whys
use Rattle.script_out.specs.declared.output.Said.{Said}
use Rattle.script_out.specs.declared.output.Said.TheVariants as said
use Rattle.script_reads.specs.Names.{object_name}
use Rattle.script_reads.specs.Reads.{local}

-- ---- replies

-- the printed form of a reply of the table; a change of the global locale prints the name of what the command chose
abbrev pub shown : LibraryData → CategoryArgument → table.Reply → Said
shown library categories (table.Made h) = said.Handle h
shown library categories table.Freed = said.Freed
shown library categories (table.Was former now) = said.Was former
shown library categories (table.Held object) = said.Held
shown library categories table.Released = said.Released
shown library categories (table.Set version object) = said.Name (object_name library object categories)
shown library categories (table.Installed count) = said.Installed count
shown library categories table.Posted = said.Posted
shown library categories (table.Got h) = said.Handle h
shown library categories (table.Pinned count) = said.Pins count
shown library categories table.Ended = said.Ended
shown library categories (table.Refused refusal) = said.Refused (whys.Table refusal)

-- the version that a reply prints: that of the global locale that it made
abbrev pub version_made : table.Reply → Option ℕ
version_made (table.Set version object) = Some version
version_made (table.Made h) = None
version_made table.Freed = None
version_made (table.Was former now) = None
version_made (table.Held object) = None
version_made table.Released = None
version_made (table.Installed count) = None
version_made table.Posted = None
version_made (table.Got h) = None
version_made (table.Pinned count) = None
version_made table.Ended = None
version_made (table.Refused refusal) = None

-- ---- lines

-- whose line it is: the round from 1, the thread from 0, and the index of the thread's line from 1
pub record Caller : Type 0 where
  pub round : ℕ
  pub thread : ℕ
  pub index : ℕ

abbrev pub line : Caller → Places → Option ℕ → Said → OutLine
line at place version reply = record { round = at.round; thread = at.thread; index = at.index; places = place; global = version; reply = reply }

-- a line that makes no entry
abbrev pub plain_line : Caller → Said → OutLine
plain_line at reply = line at places.None None reply

-- the line of an entry at a place
abbrev pub placed_line : LibraryData → ℕ → Caller → CategoryArgument → table.Reply → OutLine
placed_line library place at categories reply = line at (places.One place) (version_made reply) (shown library categories reply)

-- the line of the next entry
abbrev pub entry_line : LibraryData → History → Caller → CategoryArgument → table.Reply → OutLine
entry_line library H at categories reply = placed_line library (length H) at categories reply

-- the line of a read of an object
abbrev pub object_line : LibraryData → Caller → Read → Parts → OutLine
object_line library at read object = plain_line at (local library object read)

-- the line of a read of an object between a Hold and its Release, which have these places
abbrev pub held_line : LibraryData → ℕ → ℕ → Caller → Read → Parts → OutLine
held_line library hold release at read object = line at (places.Two hold release) None (local library object read)

-- a line that reads the global locale: its object as it was at a version, with that version
abbrev pub global_read_line : LibraryData → Caller → Read → ℕ → Parts → OutLine
global_read_line library at read version object = line at places.None (Some version) (local library object read)

abbrev pub global_name_line : LibraryData → Caller → CategoryArgument → ℕ → Parts → OutLine
global_name_line library at categories version object = line at places.None (Some version) (said.Name (object_name library object categories))
