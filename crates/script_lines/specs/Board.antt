-- What a line of a thread is, where others may have called since the thread's last call (our own).
-- The history that the thread has seen, and what the history may have become before its next call, are given, of the table and of
-- the catalogs. Where nobody else calls they are the same, and the lines are those of `serial`.
use Rattle.std.specs.Prelude.{◌≡◌, ℕ, ◌+◌, ◌≤◌, List, ◌∷◌, length, Option, Some, None, Result, Ok, Err}
use Rattle.mask_compose.specs.Parts.{Parts}
use Rattle.catalog_handles.specs.declared.setting.CatalogSetting.{CatalogSetting}
use Rattle.catalog_handles.specs.Entry as catalogs
use Rattle.catalog_handles.specs.Answer as catalog_answers
use Rattle.category_store.specs.LibraryData.{LibraryData}
use Rattle.lc_base.specs.declared.handle.Named.{Named}
use Rattle.handle_table.specs.Entry as table
use Rattle.handle_table.specs.Entry.{History, Setting}
use Rattle.handle_table.specs.History.{sets, global, selection}
use Rattle.handle_table.specs.Answer.{answer, own}
use Rattle.script_commands.specs.declared.command.Read.{Read}
use Rattle.script_words.specs.declared.categories.CategoryArgument.{CategoryArgument}
use Rattle.script_words.specs.declared.categories.CategoryArgument.TheVariants.{All}
use Rattle.script_out.specs.declared.output.OutLine.{OutLine}
use Rattle.script_out.specs.declared.output.Why.{Why}
use Rattle.script_out.specs.declared.output.Said.TheVariants as said
use Rattle.script_wishes.specs.Holds.{object_held, open_holds, held_as}
use Rattle.script_wishes.specs.Turns.{Turn}
use Rattle.script_wishes.specs.Variables.{Bound, bindings_of}
use Rattle.script_wishes.specs.Wishes.{Wish, Calls, ReadsOf, Reads, AsksSelection, AsksName, OpensCatalog, GetsMessage, ClosesCatalog, wish_of}
use Rattle.script_lines.specs.Lines.{Caller, plain_line, object_line, held_line}
use Rattle.script_lines.specs.Catalogs.{Books, Asked, book_for, catalog_setting, object_used, catalog_op_by, open_line, message_line, close_line}
use Rattle.script_lines.specs.Outcome.{Outcome, without_entry, with_call, calls, read_line, name_line}

-- ---- the calls that are answered

-- What a call leaves of a thread that had seen the history H. The history before it is one that may have come of H; the place is
-- the number of its entries, and the reply is its answer; and the thread is then at that history with the call
pub record Answers (c : Setting) (later : History → History → Type 0) (at : History → Type 0) (thread : ℕ) (H : History) (op : table.Op) (place : ℕ) (reply : table.Reply) : Type 0 where
  pub before : History
  pub is_later : later before H
  pub place_is : place ≡ length before
  pub reply_is : reply ≡ answer c before thread op
  pub now_at : at (with_call c before thread op)

-- The version of the global locale, and its object, at a history that may have come of H; and the thread is then at that history
pub record Finds (c : Setting) (later : History → History → Type 0) (at : History → Type 0) (H : History) (version : ℕ) (object : Parts) : Type 0 where
  pub before : History
  pub is_later : later before H
  pub version_is : version ≡ sets before
  pub object_is : object ≡ global c before
  pub now_at : at before

-- What a call of the catalogs leaves of a thread that had seen their history M, as above; the stamp is from one count of entries of
-- the table to another
pub record AnswersCatalog (c : CatalogSetting) (later : catalogs.History → catalogs.History → Type 0) (at : catalogs.History → Type 0) (thread : ℕ) (M : catalogs.History) (op : catalogs.Op) (low high place : ℕ) (reply : catalogs.Reply) : Type 0 where
  pub before : catalogs.History
  pub is_later : later before M
  pub place_is : place ≡ length before
  pub reply_is : reply ≡ catalog_answers.answer c before thread op
  pub stamp : ℕ
  pub since : low ≤ stamp
  pub until : stamp ≤ high
  pub now_at : at (catalog_answers.entry c before thread op stamp ∷ before)

-- the same, where the thread was at the history H of the table: it is then at one that may have come of H, and that is not shorter
-- than the stamp
pub record Asks (c : Setting) (later : History → History → Type 0) (catalogs_later : catalogs.History → catalogs.History → Type 0) (at : History → Type 0) (catalogs_at : catalogs.History → Type 0) (thread : ℕ) (H : History) (M : catalogs.History) (op : catalogs.Op) (place : ℕ) (reply : catalogs.Reply) : Type 0 where
  pub behind : History
  pub is_later : later behind H
  pub now_at : at behind
  pub answered : AnswersCatalog (catalog_setting c) catalogs_later catalogs_at thread M op (length H) (length behind) place reply

-- ---- the histories that a line goes by

-- what its thread had seen, what stood before its first call or at its read of the global locale, and what stood before the
-- Release of a read between, or what the thread has seen behind its call of the catalogs; and what they have answered
pub record Moments : Type 0 where
  pub seen : History
  pub first : History
  pub second : History
  pub asked : Asked

-- ---- what a wish leaves

-- a Hold that gives this object, a read of it, and a Release; the Hold alone where it gives none
abbrev pub reads_between : Setting → LibraryData → Moments → Caller → Named → Read → Option Parts → Outcome
reads_between c library m at n read None = calls c library m.first at All (table.Hold n)
reads_between c library m at n read (Some object) = record {
  history = with_call c m.second at.thread (table.Release n);
  line = held_line library (length m.first) (length m.second) at read object;
}

abbrev pub held_or_refused : Setting → LibraryData → Moments → Caller → Named → Read → Outcome
held_or_refused c library m at n read = reads_between c library m at n read (object_held (answer c m.first at.thread (table.Hold n)))

-- a read of what is named: of the object that the thread's open Hold of it gave, or of the one that a Hold gives
abbrev pub reads_of : Setting → LibraryData → Moments → Caller → Named → Read → Option Parts → Outcome
reads_of c library m at n read (Some object) = without_entry m.seen (object_line library at read object)
reads_of c library m at n read None = held_or_refused c library m at n read

-- a read of the thread's own object, or of the global locale with its version
abbrev pub reads : Setting → LibraryData → Moments → Caller → Read → Option Parts → Outcome
reads c library m at read (Some object) = without_entry m.seen (object_line library at read object)
reads c library m at read None = without_entry m.first (read_line c library m.first at read None)

-- the name of the global locale with its version
abbrev pub asks_name : Setting → LibraryData → Moments → Caller → CategoryArgument → Outcome
asks_name c library m at categories = without_entry m.first (name_line c library m.first at categories)

-- what a wish asks of the catalogs: a catopen goes by the thread's own object, or by the global locale
abbrev pub catalog_op : Setting → LibraryData → Books → Moments → ℕ → Result Wish Why → Option catalogs.Op
catalog_op c library books m thread wish = catalog_op_by library books (object_used (own m.seen thread) (global c m.first)) wish

-- a catopen by the thread's own object, or by the global locale with its version
abbrev pub opens : Setting → LibraryData → Books → Moments → Caller → List ℕ → Option Parts → Outcome
opens c library books m at name (Some object) = without_entry m.second (open_line at None m.asked (book_for library books object name))
opens c library books m at name None = without_entry m.second (open_line at (Some (sets m.first)) m.asked (book_for library books (global c m.first) name))

-- what a wish leaves: a thread's selection, its own object and its Holds are those that it had seen
abbrev pub granted_at : Setting → LibraryData → Books → Moments → Caller → Result Wish Why → Outcome
granted_at c library books m at (Err why) = without_entry m.seen (plain_line at (said.Refused why))
granted_at c library books m at (Ok (Calls categories op)) = calls c library m.first at categories op
granted_at c library books m at (Ok (ReadsOf n read)) = reads_of c library m at n read (held_as (open_holds m.seen at.thread) n)
granted_at c library books m at (Ok (Reads read)) = reads c library m at read (own m.seen at.thread)
granted_at c library books m at (Ok AsksSelection) = without_entry m.seen (plain_line at (said.Is (selection m.seen at.thread)))
granted_at c library books m at (Ok (AsksName categories)) = asks_name c library m at categories
granted_at c library books m at (Ok (OpensCatalog name)) = opens c library books m at name (own m.seen at.thread)
granted_at c library books m at (Ok (GetsMessage h set message default)) = without_entry m.second (message_line books at set message default m.asked)
granted_at c library books m at (Ok (ClosesCatalog h)) = without_entry m.second (close_line at m.asked)

-- the moments of a line of a thread that had seen H: each history may have come of the one that the thread was at before
pub record AreMoments (c : Setting) (later : History → History → Type 0) (thread : ℕ) (H : History) (m : Moments) : Type 0 where
  pub seen : m.seen ≡ H
  pub first : later m.first m.seen

-- the same of a read of what is named: where the thread has no open Hold of it, others may have called between the Hold and the
-- Release
pub record AreMomentsBetween (c : Setting) (later : History → History → Type 0) (thread : ℕ) (H : History) (n : Named) (m : Moments) : Type 0 where
  pub moments : AreMoments c later thread H m
  pub second : held_as (open_holds m.seen thread) n ≡ None → later m.second (with_call c m.first thread (table.Hold n))

-- the same of a wish of the catalogs: others may have called before the thread has seen as much as the stamp counts
pub record AreMomentsAsked (c : Setting) (later : History → History → Type 0) (thread : ℕ) (H : History) (m : Moments) : Type 0 where
  pub moments : AreMoments c later thread H m
  pub second : later m.second m.first

abbrev pub AreMomentsOf : Setting → (History → History → Type 0) → ℕ → History → Result Wish Why → Moments → Type 0
AreMomentsOf c later thread H (Ok (ReadsOf n read)) m = AreMomentsBetween c later thread H n m
AreMomentsOf c later thread H (Ok (Calls categories op)) m = AreMoments c later thread H m
AreMomentsOf c later thread H (Ok (Reads read)) m = AreMoments c later thread H m
AreMomentsOf c later thread H (Ok AsksSelection) m = AreMoments c later thread H m
AreMomentsOf c later thread H (Ok (AsksName categories)) m = AreMoments c later thread H m
AreMomentsOf c later thread H (Ok (OpensCatalog name)) m = AreMomentsAsked c later thread H m
AreMomentsOf c later thread H (Ok (GetsMessage h set message default)) m = AreMomentsAsked c later thread H m
AreMomentsOf c later thread H (Ok (ClosesCatalog h)) m = AreMomentsAsked c later thread H m
AreMomentsOf c later thread H (Err why) m = AreMoments c later thread H m

-- ---- what a function of one line leaves

-- the line is that of an outcome, and the thread is at the history that the outcome leaves
pub record Left (at : History → Type 0) (done : Outcome) (l : OutLine) : Type 0 where
  pub line : l ≡ done.line
  pub now_at : at done.history

-- the thread is at the catalogs' history that it was at, where it asked nothing of them; else they have answered it, with a stamp
-- from one count to another
abbrev pub LeftCatalogs : CatalogSetting → (catalogs.History → catalogs.History → Type 0) → (catalogs.History → Type 0) → ℕ → catalogs.History → Option catalogs.Op → ℕ → ℕ → Asked → Type 0
LeftCatalogs c later at thread M None low high asked = at M
LeftCatalogs c later at thread M (Some op) low high asked = AnswersCatalog c later at thread M op low high asked.place asked.reply

-- what they have answered to an op, if there is one, by which the line is this one, and where the thread is then
pub record LeavesAsked (c : Setting) (later : History → History → Type 0) (catalogs_later : catalogs.History → catalogs.History → Type 0) (at : History → Type 0) (catalogs_at : catalogs.History → Type 0) (thread : ℕ) (H : History) (M : catalogs.History) (op : Option catalogs.Op) (printed : Asked → OutLine) (l : OutLine) : Type 0 where
  pub asked : Asked
  pub line : l ≡ printed asked
  pub behind : History
  pub is_later : later behind H
  pub now_at : at behind
  pub left : LeftCatalogs (catalog_setting c) catalogs_later catalogs_at thread M op (length H) (length behind) asked

-- moments by which the line is that of the wish, and the thread has gone on in the history of the table
abbrev pub LeavesLine : Setting → LibraryData → Books → (History → History → Type 0) → (History → Type 0) → History → Caller → Result Wish Why → OutLine → Type 0
LeavesLine c library books later at H caller wish l =
    (m : Moments) × AreMomentsOf c later caller.thread H wish m × Left at (granted_at c library books m caller wish) l

-- the same of a read of what is named, of which the thread has no open Hold
abbrev pub LeavesReadBetween : Setting → LibraryData → (History → History → Type 0) → (History → Type 0) → History → Caller → Named → Read → OutLine → Type 0
LeavesReadBetween c library later at H caller n read l =
    (m : Moments) × AreMomentsBetween c later caller.thread H n m × Left at (held_or_refused c library m caller n read) l

-- moments by which the line is that of the wish, and the thread has gone on in the history of the table and in that of the catalogs
abbrev pub Leaves : Setting → LibraryData → Books → (History → History → Type 0) → (catalogs.History → catalogs.History → Type 0) → (History → Type 0) → (catalogs.History → Type 0)
    → History → catalogs.History → Caller → Result Wish Why → OutLine → Type 0
Leaves c library books later catalogs_later at catalogs_at H M caller wish l =
    (m : Moments) × AreMomentsOf c later caller.thread H wish m × Left at (granted_at c library books m caller wish) l
    × LeftCatalogs (catalog_setting c) catalogs_later catalogs_at caller.thread M (catalog_op c library books m caller.thread wish) (length m.first) (length m.second) m.asked

-- the same of a turn of a thread that has so many lines, where these bindings hold
abbrev pub turn_caller : ℕ → Turn → Caller
turn_caller lines turn = record { round = turn.round; thread = turn.thread; index = lines + 1 }

abbrev pub LeavesTurn : Setting → LibraryData → Books → (History → History → Type 0) → (catalogs.History → catalogs.History → Type 0) → (History → Type 0) → (catalogs.History → Type 0)
    → History → catalogs.History → List Bound → ℕ → Turn → OutLine → Type 0
LeavesTurn c library books later catalogs_later at catalogs_at H M bounds lines turn l =
    Leaves c library books later catalogs_later at catalogs_at H M (turn_caller lines turn) (wish_of library (bindings_of turn.thread bounds) turn.task) l
