-- The message catalogs of a bundle, and what their commands ask for and print (XSH catopen, catgets and catclose).
use Rattle.std.specs.Prelude.{ℕ, Bool, ◌&&◌, List, [], ◌∷◌, length, position, slice_get, Option, Some, None, unwrap_or, option_map, Result, Ok, Err}
use Rattle.std.specs.Option.{option_and_then}
use Rattle.std.specs.Str.{bytes_eq}
use Rattle.lc_base.specs.declared.block.Block.{Block}
use Rattle.lc_base.specs.declared.category.Category.TheVariants as categories
use Rattle.mask_compose.specs.Parts.{Parts}
use Rattle.msg_catalog.specs.declared.book.Message.{Message}
use Rattle.msg_catalog.specs.Books.{text_at}
use Rattle.catalog_handles.specs.declared.handle.CatalogHandle.{CatalogHandle}
use Rattle.catalog_handles.specs.declared.share.BookShare.{BookShare}
use Rattle.catalog_handles.specs.declared.setting.CatalogSetting.{CatalogSetting}
use Rattle.catalog_handles.specs.declared.op.CatalogRefusal.{CatalogRefusal}
use Rattle.catalog_handles.specs.declared.op.CatalogRefusal.TheVariants as catalog_refusals
use Rattle.catalog_handles.specs.Entry as catalogs
use Rattle.catalog_handles.specs.Answer as answers
use Rattle.category_store.specs.LibraryData.{LibraryData}
use Rattle.lc_base.specs.declared.handle.Handle.{Handle}
use Rattle.handle_table.specs.declared.op.Refusal.{Refusal}
use Rattle.handle_table.specs.declared.op.Refusal.TheVariants as refusals
use Rattle.handle_table.specs.Entry.{Setting}
use Rattle.script_out.specs.declared.output.OutLine.{OutLine}
use Rattle.script_out.specs.declared.output.Places.TheVariants as places
use Rattle.script_out.specs.declared.output.Why.{Why}
use Rattle.script_out.specs.declared.output.Why.TheVariants as whys
use Rattle.script_out.specs.declared.output.Said.{Said}
use Rattle.script_out.specs.declared.output.Said.TheVariants as said
use Rattle.script_reads.specs.Names.{part_name}
use Rattle.script_wishes.specs.Wishes.{Wish, Calls, ReadsOf, Reads, AsksSelection, AsksName, OpensCatalog, GetsMessage, ClosesCatalog}
use Rattle.script_lines.specs.Lines.{Caller, line}

-- ---- the catalogs of a bundle

-- the blocks of catalogs, each with its locale as the charset, and the messages of each, in order of the text
pub record Books : Type 0 where
  pub blocks : List Block
  pub books : List (List Message)

-- whether a block is the catalog of this name for this locale
abbrev pub is_for : List ℕ → List ℕ → Block → Bool
is_for name locale block = bytes_eq block.name name && bytes_eq block.charset locale

-- the catalog of a name for a locale: the place of its block (the rule that the locale must be the same is our own)
abbrev pub book_named : Books → List ℕ → List ℕ → Option ℕ
book_named books name locale = position (is_for name locale) books.blocks

-- a message of a catalog
abbrev pub message_at : Books → ℕ → ℕ → ℕ → Option (List ℕ)
message_at books n set message = option_and_then (text_at set message) (slice_get books.books n)

-- the catalog that a name names for an object: the one for the locale of its LC_MESSAGES
abbrev pub book_for : LibraryData → Books → Parts → List ℕ → Option ℕ
book_for library books object name = book_named books name (part_name library object categories.Messages)

-- the number of a catalog
abbrev pub number_of : BookShare → ℕ
number_of book = book.number

-- ---- handles

-- a handle of a catalog, in the script's form, and one of the script as one of a catalog
abbrev pub handle_shown : CatalogHandle → Handle
handle_shown h = record { owner = h.owner; row = h.row; generation = h.generation }

abbrev pub handle_meant : Handle → CatalogHandle
handle_meant h = record { owner = h.owner; row = h.row; generation = h.generation }

-- ---- what is asked of the catalogs

-- the catalogs of a table's threads, with as many rows and generations for each
abbrev pub catalog_setting : Setting → CatalogSetting
catalog_setting c = record { threads = c.threads; rows = c.rows; generations = c.generations }

-- the object that a thread goes by: its own, or the global locale
abbrev pub object_used : Option Parts → Parts → Parts
object_used own global = unwrap_or own global

-- the op of a wish of a thread that goes by an object: none where there is no such catalog, and none of a wish of the table
abbrev pub wished_catalog_op : LibraryData → Books → Parts → Wish → Option catalogs.Op
wished_catalog_op library books object (OpensCatalog name) = option_map catalogs.Open (book_for library books object name)
wished_catalog_op library books object (GetsMessage h set message default) = Some (catalogs.Get (handle_meant h))
wished_catalog_op library books object (ClosesCatalog h) = Some (catalogs.Close (handle_meant h))
wished_catalog_op library books object (Calls chosen op) = None
wished_catalog_op library books object (ReadsOf n read) = None
wished_catalog_op library books object (Reads read) = None
wished_catalog_op library books object AsksSelection = None
wished_catalog_op library books object (AsksName chosen) = None

abbrev pub catalog_op_by : LibraryData → Books → Parts → Result Wish Why → Option catalogs.Op
catalog_op_by library books object (Ok wish) = wished_catalog_op library books object wish
catalog_op_by library books object (Err why) = None

-- what the catalogs have answered: the place of the entry, and its reply
pub record Asked : Type 0 where
  pub place : ℕ
  pub reply : catalogs.Reply

-- nothing was asked: no line prints this
abbrev pub not_asked : Asked
not_asked = record { place = 0; reply = catalogs.Closed }

-- what they answer after a history, and their history with the call, whose entry has this stamp: a count of entries of the table. The
-- entry stands behind so many of them, and before the others
abbrev pub asked_after : CatalogSetting → catalogs.History → ℕ → Option catalogs.Op → Asked
asked_after c M thread None = not_asked
asked_after c M thread (Some op) = record { place = length M; reply = answers.answer c M thread op }

abbrev pub catalogs_after : CatalogSetting → catalogs.History → ℕ → ℕ → Option catalogs.Op → catalogs.History
catalogs_after c M thread stamp None = M
catalogs_after c M thread stamp (Some op) = answers.entry c M thread op stamp ∷ M

-- ---- what is printed

-- the printed form of a refusal of the catalogs
abbrev pub catalog_refusal_shown : CatalogRefusal → Refusal
catalog_refusal_shown catalog_refusals.NeverMade = refusals.NeverMade
catalog_refusal_shown catalog_refusals.Stale = refusals.Stale
catalog_refusal_shown catalog_refusals.TooMany = refusals.TooMany

abbrev pub refused_by : CatalogRefusal → Said
refused_by refusal = said.Refused (whys.Table (catalog_refusal_shown refusal))

-- the printed form of a reply of the catalogs, where the catalog that a Get is given has this text
abbrev pub catalog_shown : (ℕ → List ℕ) → catalogs.Reply → Said
catalog_shown text (catalogs.Opened h) = said.Opened (handle_shown h)
catalog_shown text (catalogs.Book n) = said.Text (text n)
catalog_shown text catalogs.Closed = said.Closed
catalog_shown text (catalogs.Refused refusal) = refused_by refusal

-- the text of a message, or the default where the catalog has no such message (XSH catgets)
abbrev pub text_or : Books → ℕ → ℕ → List ℕ → ℕ → List ℕ
text_or books set message default n = unwrap_or (message_at books n set message) default

-- the reply to a catgets; and to a catopen and a catclose, which are never given a catalog to read
abbrev pub message_shown : Books → ℕ → ℕ → List ℕ → catalogs.Reply → Said
message_shown books set message default reply = catalog_shown (text_or books set message default) reply

abbrev pub handle_reply_shown : catalogs.Reply → Said
handle_reply_shown reply = catalog_shown (λ n. []) reply

-- the line of an entry of the catalogs
abbrev pub catalog_line : Caller → ℕ → Option ℕ → Said → OutLine
catalog_line at place version reply = line at (places.Catalog place) version reply

-- the line of a catopen that reads the global locale of this version, or the thread's own object: where no catalog has the name
-- it makes no entry
abbrev pub open_line : Caller → Option ℕ → Asked → Option ℕ → OutLine
open_line at version asked None = line at places.None version (said.Refused whys.NoCatalog)
open_line at version asked (Some n) = catalog_line at asked.place version (handle_reply_shown asked.reply)

-- the line of a catgets, and of a catclose
abbrev pub message_line : Books → Caller → ℕ → ℕ → List ℕ → Asked → OutLine
message_line books at set message default asked = catalog_line at asked.place None (message_shown books set message default asked.reply)

abbrev pub close_line : Caller → Asked → OutLine
close_line at asked = catalog_line at asked.place None (handle_reply_shown asked.reply)
