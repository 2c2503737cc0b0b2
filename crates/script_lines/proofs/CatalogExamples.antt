-- What the commands of catalogs ask for and print, at worked examples.
use Rattle.std.proofs.Common.{◌≡◌, ℕ, List, [], ◌∷◌, Option, Some, None, Result, Ok, Err, refl}
use Rattle.std.specs.Prelude.{codes}
use Rattle.lc_base.specs.declared.block.Block.{Block}
use Rattle.mask_compose.specs.Parts.{Parts}
use Rattle.msg_catalog.specs.declared.book.Message.{Message}
use Rattle.catalog_handles.specs.declared.handle.CatalogHandle.{CatalogHandle}
use Rattle.catalog_handles.specs.declared.op.CatalogRefusal.TheVariants as catalog_refusals
use Rattle.catalog_handles.specs.Entry as catalogs
use Rattle.category_store.specs.LibraryData.{LibraryData}
use Rattle.category_store.specs.Locale.{posix_locale}
use Rattle.lc_base.specs.declared.handle.Handle.{Handle}
use Rattle.lc_base.specs.declared.handle.Named.TheVariants.{Of, Global}
use Rattle.handle_table.specs.declared.op.Refusal.TheVariants as refusals
use Rattle.handle_table.specs.Entry as table
use Rattle.handle_table.specs.Entry.{Setting, History}
use Rattle.script_words.specs.declared.categories.CategoryArgument.TheVariants.{All}
use Rattle.script_out.specs.declared.output.Places.TheVariants as places
use Rattle.script_out.specs.declared.output.Why.{Why}
use Rattle.script_out.specs.declared.output.Why.TheVariants as whys
use Rattle.script_out.specs.declared.output.Said.TheVariants as said
use Rattle.script_wishes.specs.Variables.{Bindings, bound, locale_variable, catalog_variable}
use Rattle.script_wishes.specs.Wishes.{Wish, Calls, OpensCatalog, GetsMessage, ClosesCatalog}
use Rattle.script_lines.specs.Lines.{Caller, line}
use Rattle.script_lines.specs.Catalogs.{Books, book_named, message_at, catalog_op_by, message_shown, handle_reply_shown}
use Rattle.script_lines.specs.Outcome.{Outcome, without_entry, granted, catalogs_left}

-- ---- the catalog `greet`, of a locale `us` and of POSIX

abbrev text_of : ℕ → ℕ → List ℕ → Message
text_of set number text = record { set = set; number = number; text = text }

abbrev block_for : List ℕ → Block
block_for locale = record { name = codes "greet"; charset = locale; first_line = 1; text = [] }

abbrev books : Books
books = record {
  blocks = block_for (codes "us") ∷ block_for (codes "C") ∷ [];
  books = (text_of 1 1 (codes "Hello") ∷ text_of 1 2 (codes "Bye") ∷ text_of 2 1 (codes "Second") ∷ []) ∷ [] ∷ [];
}

abbrev library : LibraryData
library = record {
  locales = record posix_locale { name = codes "us" } ∷ [];
  names = (codes "us", 1) ∷ [];
  first = (codes "us", 1) ∷ [];
  keys = [];
  native = Some 1;
}

-- ---- which catalog a name names, and its messages

of_us : book_named books (codes "greet") (codes "us") ≡ Some 0
of_us = refl

of_posix : book_named books (codes "greet") (codes "C") ≡ Some 1
of_posix = refl

of_no_locale : book_named books (codes "greet") (codes "fr") ≡ None
of_no_locale = refl

of_no_name : book_named books (codes "us") (codes "us") ≡ None
of_no_name = refl

second : message_at books 0 2 1 ≡ Some (codes "Second")
second = refl

no_set : message_at books 0 3 1 ≡ None
no_set = refl

no_message : message_at books 1 1 1 ≡ None
no_message = refl

no_book : message_at books 2 1 1 ≡ None
no_book = refl

-- ---- what is asked

-- an object with one locale for its messages and one for all else
abbrev parts : ℕ → ℕ → Parts
parts messages others = record { ctype = others; numeric = others; monetary = others; time = others; messages = messages }

abbrev opens_greet : ℕ → ℕ → Option catalogs.Op
opens_greet messages others = catalog_op_by library books (parts messages others) (Ok (OpensCatalog (codes "greet")))

-- LC_MESSAGES alone counts
by_messages : opens_greet 1 0 ≡ Some (catalogs.Open 0)
by_messages = refl

by_posix_messages : opens_greet 0 1 ≡ Some (catalogs.Open 1)
by_posix_messages = refl

no_catalog : catalog_op_by library books (parts 1 1) (Ok (OpensCatalog (codes "other"))) ≡ None
no_catalog = refl

abbrev first_handle : Handle
first_handle = record { owner = 0; row = 2; generation = 1 }

abbrev first_catalog : CatalogHandle
first_catalog = record { owner = 0; row = 2; generation = 1 }

get_asked : catalog_op_by library books (parts 1 1) (Ok (GetsMessage first_handle 1 2 (codes "?"))) ≡ Some (catalogs.Get first_catalog)
get_asked = refl

close_asked : catalog_op_by library books (parts 1 1) (Ok (ClosesCatalog first_handle)) ≡ Some (catalogs.Close first_catalog)
close_asked = refl

nothing_asked : catalog_op_by library books (parts 1 1) (Ok (Calls All table.End)) ≡ None
nothing_asked = refl

unset_asked : catalog_op_by library books (parts 1 1) (Err whys.Unset) ≡ None
unset_asked = refl

-- ---- what is shown

message_is_shown : message_shown books 1 2 (codes "?") (catalogs.Book 0) ≡ said.Text (codes "Bye")
message_is_shown = refl

default_is_shown : message_shown books 3 1 (codes "?") (catalogs.Book 0) ≡ said.Text (codes "?")
default_is_shown = refl

stale_is_shown : message_shown books 1 1 (codes "?") (catalogs.Refused catalog_refusals.Stale) ≡ said.Refused (whys.Table refusals.Stale)
stale_is_shown = refl

opened_is_shown : handle_reply_shown (catalogs.Opened first_catalog) ≡ said.Opened first_handle
opened_is_shown = refl

closed_is_shown : handle_reply_shown catalogs.Closed ≡ said.Closed
closed_is_shown = refl

too_many_is_shown : handle_reply_shown (catalogs.Refused catalog_refusals.TooMany) ≡ said.Refused (whys.Table refusals.TooMany)
too_many_is_shown = refl

-- ---- variables of both spaces

abbrev both : Bindings
both = (catalog_variable (codes "c"), first_handle) ∷ (locale_variable (codes "c"), record { owner = 1; row = 0; generation = 3 }) ∷ (catalog_variable (codes "d"), record { owner = 0; row = 0; generation = 9 }) ∷ []

catalog_bound : bound both (catalog_variable (codes "c")) ≡ Some first_handle
catalog_bound = refl

locale_bound : bound both (locale_variable (codes "c")) ≡ Some (record { owner = 1; row = 0; generation = 3 })
locale_bound = refl

locale_unbound : bound both (locale_variable (codes "d")) ≡ None
locale_unbound = refl

-- ---- lines

abbrev setting : Setting
setting = record { threads = 1; rows = 1; generations = 9; opening = [] }

abbrev caller : Caller
caller = record { round = 1; thread = 0; index = 4 }

abbrev greet_by : History → catalogs.History → Outcome
greet_by H M = granted setting library books H M caller (Ok (OpensCatalog (codes "greet")))

-- by the global locale, with its version
by_global : greet_by [] [] ≡ without_entry [] (line caller (places.Catalog 0) (Some 0) (said.Opened (record { owner = 0; row = 0; generation = 1 })))
by_global = refl

-- no catalog: no entry of either history
abbrev other_by : Result Wish Why
other_by = Ok (OpensCatalog (codes "other"))

unopened : granted setting library books [] [] caller other_by ≡ without_entry [] (line caller places.None (Some 0) (said.Refused whys.NoCatalog))
unopened = refl

unopened_left : catalogs_left setting library books [] [] 0 other_by ≡ []
unopened_left = refl

-- by the thread's own object, which has no version
abbrev own_us : History
own_us = record { who = 0; op = table.Use (Of first_handle); reply = table.Was Global (Some (parts 1 0)) } ∷ []

-- the catalog of `us` is open in the only row
abbrev greet_open : catalogs.History
greet_open = record { who = 0; op = catalogs.Open 0; reply = catalogs.Opened (record { owner = 0; row = 0; generation = 1 }); stamp = 1 } ∷ []

by_own : greet_by own_us [] ≡ without_entry own_us (line caller (places.Catalog 0) None (said.Opened (record { owner = 0; row = 0; generation = 1 })))
by_own = refl

by_own_left : catalogs_left setting library books own_us [] 0 (Ok (OpensCatalog (codes "greet"))) ≡ greet_open
by_own_left = refl

too_many : greet_by own_us greet_open ≡ without_entry own_us (line caller (places.Catalog 1) None (said.Refused (whys.Table refusals.TooMany)))
too_many = refl

got : granted setting library books [] greet_open caller (Ok (GetsMessage (record { owner = 0; row = 0; generation = 1 }) 1 1 (codes "?")))
    ≡ without_entry [] (line caller (places.Catalog 1) None (said.Text (codes "Hello")))
got = refl

never_made : granted setting library books [] greet_open caller (Ok (ClosesCatalog first_handle))
    ≡ without_entry [] (line caller (places.Catalog 1) None (said.Refused (whys.Table refusals.NeverMade)))
never_made = refl
