-- What a line of a thread is, by the histories of the calls of a table and of catalogs that nobody else calls meanwhile (our own).
use Rattle.std.specs.Prelude.{ℕ, List, ◌∷◌, length, Option, Some, None, Result, Ok, Err}
use Rattle.mask_compose.specs.Parts.{Parts}
use Rattle.category_store.specs.LibraryData.{LibraryData}
use Rattle.lc_base.specs.declared.handle.Named.{Named}
use Rattle.handle_table.specs.Entry as table
use Rattle.handle_table.specs.Entry.{History, Setting}
use Rattle.handle_table.specs.History.{sets, global, selection}
use Rattle.handle_table.specs.Answer.{answer, entry, own}
use Rattle.catalog_handles.specs.Entry as catalogs
use Rattle.script_commands.specs.declared.command.Read.{Read}
use Rattle.script_words.specs.declared.categories.CategoryArgument.{CategoryArgument}
use Rattle.script_words.specs.declared.categories.CategoryArgument.TheVariants.{All}
use Rattle.script_out.specs.declared.output.OutLine.{OutLine}
use Rattle.script_out.specs.declared.output.Why.{Why}
use Rattle.script_out.specs.declared.output.Said.TheVariants as said
use Rattle.script_wishes.specs.Holds.{object_held, open_holds, held_as}
use Rattle.script_wishes.specs.Wishes.{Wish, Calls, ReadsOf, Reads, AsksSelection, AsksName, OpensCatalog, GetsMessage, ClosesCatalog}
use Rattle.script_lines.specs.Lines.{Caller, plain_line, entry_line, object_line, held_line, global_read_line, global_name_line}
use Rattle.script_lines.specs.Catalogs.{Books, Asked, book_for, catalog_setting, object_used, catalog_op_by, asked_after, catalogs_after, open_line, message_line, close_line}

-- what a task leaves: the history of the table, and its line
pub record Outcome : Type 0 where
  pub history : History
  pub line : OutLine

-- a line without an entry
abbrev pub without_entry : History → OutLine → Outcome
without_entry H l = record { history = H; line = l }

-- the history with a call of a thread
abbrev pub with_call : Setting → History → ℕ → table.Op → History
with_call c H thread op = entry c H thread op ∷ H

-- a call, whose line prints its answer
abbrev pub calls : Setting → LibraryData → History → Caller → CategoryArgument → table.Op → Outcome
calls c library H at categories op = record {
  history = with_call c H at.thread op;
  line = entry_line library H at categories (answer c H at.thread op);
}

-- a Hold that gives this object, a read of it, and a Release; the Hold alone where it gives none
abbrev pub reads_between : Setting → LibraryData → History → Caller → Named → Read → Option Parts → Outcome
reads_between c library H at n read None = calls c library H at All (table.Hold n)
reads_between c library H at n read (Some object) =
    let held = with_call c H at.thread (table.Hold n) in
    record { history = with_call c held at.thread (table.Release n); line = held_line library (length H) (length held) at read object }

abbrev pub held_or_refused : Setting → LibraryData → History → Caller → Named → Read → Outcome
held_or_refused c library H at n read = reads_between c library H at n read (object_held (answer c H at.thread (table.Hold n)))

-- a read of what is named: of the object that the thread's open Hold of it gave, or of the one that a Hold gives
abbrev pub reads_of : Setting → LibraryData → History → Caller → Named → Read → Option Parts → Outcome
reads_of c library H at n read (Some object) = without_entry H (object_line library at read object)
reads_of c library H at n read None = held_or_refused c library H at n read

-- a read of the thread's own object, or of the global locale with its version
abbrev pub read_line : Setting → LibraryData → History → Caller → Read → Option Parts → OutLine
read_line c library H at read (Some object) = object_line library at read object
read_line c library H at read None = global_read_line library at read (sets H) (global c H)

-- the name of the global locale with its version, whatever the thread has selected
abbrev pub name_line : Setting → LibraryData → History → Caller → CategoryArgument → OutLine
name_line c library H at categories = global_name_line library at categories (sets H) (global c H)

-- what a wish asks of the catalogs, what they answer after their history, and their history then; the stamp of
-- the entry counts all of the table
abbrev pub catalog_op_of : Setting → LibraryData → Books → History → ℕ → Result Wish Why → Option catalogs.Op
catalog_op_of c library books H thread wish = catalog_op_by library books (object_used (own H thread) (global c H)) wish

abbrev pub asked_of : Setting → LibraryData → Books → History → catalogs.History → ℕ → Result Wish Why → Asked
asked_of c library books H M thread wish = asked_after (catalog_setting c) M thread (catalog_op_of c library books H thread wish)

abbrev pub catalogs_left : Setting → LibraryData → Books → History → catalogs.History → ℕ → Result Wish Why → catalogs.History
catalogs_left c library books H M thread wish = catalogs_after (catalog_setting c) M thread (length H) (catalog_op_of c library books H thread wish)

-- a catopen by the thread's own object, or by the global locale with its version
abbrev pub opens_line : Setting → LibraryData → Books → History → Caller → List ℕ → Asked → Option Parts → OutLine
opens_line c library books H at name asked (Some object) = open_line at None asked (book_for library books object name)
opens_line c library books H at name asked None = open_line at (Some (sets H)) asked (book_for library books (global c H) name)

-- what a wish leaves after a history, where the catalogs have answered this; a refusal without an entry is printed alone
abbrev pub granted_as : Setting → LibraryData → Books → History → Asked → Caller → Result Wish Why → Outcome
granted_as c library books H asked at (Err why) = without_entry H (plain_line at (said.Refused why))
granted_as c library books H asked at (Ok (Calls categories op)) = calls c library H at categories op
granted_as c library books H asked at (Ok (ReadsOf n read)) = reads_of c library H at n read (held_as (open_holds H at.thread) n)
granted_as c library books H asked at (Ok (Reads read)) = without_entry H (read_line c library H at read (own H at.thread))
granted_as c library books H asked at (Ok AsksSelection) = without_entry H (plain_line at (said.Is (selection H at.thread)))
granted_as c library books H asked at (Ok (AsksName categories)) = without_entry H (name_line c library H at categories)
granted_as c library books H asked at (Ok (OpensCatalog name)) = without_entry H (opens_line c library books H at name asked (own H at.thread))
granted_as c library books H asked at (Ok (GetsMessage h set message default)) = without_entry H (message_line books at set message default asked)
granted_as c library books H asked at (Ok (ClosesCatalog h)) = without_entry H (close_line at asked)

-- what a wish leaves after a history of the table and one of the catalogs
abbrev pub granted : Setting → LibraryData → Books → History → catalogs.History → Caller → Result Wish Why → Outcome
granted c library books H M at wish = granted_as c library books H (asked_of c library books H M at.thread wish) at wish
