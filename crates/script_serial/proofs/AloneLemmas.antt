-- A line of a table that nobody else calls meanwhile is the line of the history that its thread has seen.
use Rattle.std.proofs.Common.{◌≡◌, ℕ, ◌+◌, ◌≤◌, List, ◌∷◌, Option, Some, None, Result, Ok, Err, length, refl, sym, ap, subst, ◌∙◌, arith}
use Rattle.std.specs.Prelude.{option_map}
use Rattle.mask_compose.specs.Parts.{Parts}
use Rattle.category_store.specs.LibraryData.{LibraryData}
use Rattle.lc_base.specs.declared.handle.Named.{Named}
use Rattle.handle_table.specs.Entry as table
use Rattle.handle_table.specs.Entry.{History, Setting}
use Rattle.handle_table.specs.History.{sets, global, selection}
use Rattle.handle_table.specs.Answer.{answer, own}
use Rattle.catalog_handles.specs.declared.setting.CatalogSetting.{CatalogSetting}
use Rattle.catalog_handles.specs.Entry as catalog
use Rattle.catalog_handles.specs.Entry.{History as CatalogHistory}
use Rattle.catalog_handles.specs.Answer.{answer as answer_after, entry as catalog_entry}
use Rattle.script_commands.specs.declared.command.Read.{Read}
use Rattle.script_out.specs.declared.output.OutLine.{OutLine}
use Rattle.script_out.specs.declared.output.Said.TheVariants as said
use Rattle.script_out.specs.declared.output.Why.{Why}
use Rattle.script_wishes.specs.Holds.{object_held, open_holds, held_as}
use Rattle.script_wishes.specs.Wishes.{Wish, Calls, ReadsOf, Reads, AsksSelection, AsksName, OpensCatalog, GetsMessage, ClosesCatalog}
use Rattle.script_lines.specs.Catalogs.{Books, Asked, book_for, catalog_setting, handle_meant, object_used, catalog_op_by, asked_after, catalogs_after, open_line, message_line, close_line}
use Rattle.script_lines.specs.Lines.{Caller, plain_line, object_line, held_line}
use Rattle.script_lines.specs.Outcome.{without_entry, with_call, calls, reads_between, reads_of, read_line, name_line, opens_line, catalog_op_of, granted, catalogs_left}
use Rattle.script_lines.specs.Board.{Moments, reads_between as reads_between_at, reads_of as reads_of_at, reads as reads_at, opens, catalog_op, AnswersCatalog, Asks, AreMomentsOf, Left, LeftCatalogs, Leaves}
use Rattle.handle_table.specs.Table.{TableData}
use Rattle.catalog_handles.specs.Table.{StandsFor as CatalogsStandFor}
use Rattle.script_serial.specs.Alone.{AloneSideData, AloneData}
use Rattle.script_serial.specs.Session.{IsAt, CatalogsAreAt}

-- what a read between leaves, by the moments of its two calls
between_alone : (c : Setting) (library : LibraryData) (at : History → Type 0) (H : History) (caller : Caller) (n : Named) (read : Read) (m : Moments) (object : Option Parts) (l : OutLine)
    → m.first ≡ H → m.second ≡ with_call c m.first caller.thread (table.Hold n)
    → Left at (reads_between_at c library m caller n read object) l → Left at (reads_between c library H caller n read object) l
between_alone c library at H caller n read m None l first second left = subst (λ (G : History). Left at (reads_between c library G caller n read None) l) first left
between_alone c library at H caller n read m (Some object) l first second left =
    subst (λ (G : History). Left at (reads_between c library G caller n read (Some object)) l) first
    (subst (λ (K : History). Left at (record { history = with_call c K caller.thread (table.Release n); line = held_line library (length m.first) (length K) caller read object }) l) second left)

held_alone : (c : Setting) (library : LibraryData) (at : History → Type 0) (H : History) (caller : Caller) (n : Named) (read : Read) (m : Moments) (held : Option Parts) (l : OutLine)
    → m.seen ≡ H → m.first ≡ H → (held ≡ None → m.second ≡ with_call c m.first caller.thread (table.Hold n))
    → Left at (reads_of_at c library m caller n read held) l → Left at (reads_of c library H caller n read held) l
held_alone c library at H caller n read m (Some object) l seen first second left = subst (λ (G : History). Left at (without_entry G (object_line library caller read object)) l) seen left
held_alone c library at H caller n read m None l seen first second left =
    subst (λ (G : History). Left at (reads_between c library H caller n read (object_held (answer c G caller.thread (table.Hold n)))) l) first
    (between_alone c library at H caller n read m (object_held (answer c m.first caller.thread (table.Hold n))) l first (second refl) left)

read_alone : (c : Setting) (library : LibraryData) (at : History → Type 0) (H : History) (caller : Caller) (read : Read) (m : Moments) (object : Option Parts) (l : OutLine)
    → m.seen ≡ H → m.first ≡ H → Left at (reads_at c library m caller read object) l → Left at (without_entry H (read_line c library H caller read object)) l
read_alone c library at H caller read m (Some object) l seen first left = subst (λ (G : History). Left at (without_entry G (object_line library caller read object)) l) seen left
read_alone c library at H caller read m None l seen first left = subst (λ (G : History). Left at (without_entry G (read_line c library G caller read None)) l) first left

-- ---- the catalogs, which nobody else asks meanwhile

abbrev IsSame : CatalogHistory → CatalogHistory → Type 0
IsSame N K = N ≡ K

asked_is : (c : CatalogSetting) (catalogs_at : CatalogHistory → Type 0) (thread : ℕ) (M : CatalogHistory) (op : catalog.Op) (low high : ℕ) (asked : Asked)
    → AnswersCatalog c IsSame catalogs_at thread M op low high asked.place asked.reply → asked ≡ asked_after c M thread (Some op)
asked_is c catalogs_at thread M op low high asked a =
    ap (λ (p : ℕ). record { place = p; reply = asked.reply }) (a.place_is ∙ ap length a.is_later)
    ∙ ap (λ (r : catalog.Reply). record { place = length M; reply = r }) (a.reply_is ∙ ap (λ (N : CatalogHistory). answer_after c N thread op) a.is_later)

left_alone : (c : CatalogSetting) (catalogs_at : CatalogHistory → Type 0) (thread : ℕ) (M : CatalogHistory) (n : ℕ) (op : Option catalog.Op) (low high : ℕ) (asked : Asked)
    → low ≡ n → high ≡ n → LeftCatalogs c IsSame catalogs_at thread M op low high asked → catalogs_at (catalogs_after c M thread n op)
left_alone c catalogs_at thread M n None low high asked from to left = left
left_alone c catalogs_at thread M n (Some op) low high asked from to left =
    let since : low ≤ left.stamp = left.since in
    let until : left.stamp ≤ high = left.until in
    let stamp : left.stamp ≡ n = omega (arith, since, until, from, to) in
    subst (λ (k : ℕ). catalogs_at (catalog_entry c M thread op k ∷ M)) stamp (subst (λ (N : CatalogHistory). catalogs_at (catalog_entry c N thread op left.stamp ∷ N)) left.is_later left.now_at)

-- the moments of a line are the history that its thread has seen
seen_alone : (c : Setting) (thread : ℕ) (H : History) (w : Result Wish Why) (m : Moments) → AreMomentsOf c (λ (G K : History). G ≡ K) thread H w m → (m.seen ≡ H) × (m.first ≡ H)
seen_alone c thread H (Err why) m are = (are.seen, are.first ∙ are.seen)
seen_alone c thread H (Ok (Calls categories op)) m are = (are.seen, are.first ∙ are.seen)
seen_alone c thread H (Ok (ReadsOf n read)) m are = (are.moments.seen, are.moments.first ∙ are.moments.seen)
seen_alone c thread H (Ok (Reads read)) m are = (are.seen, are.first ∙ are.seen)
seen_alone c thread H (Ok AsksSelection) m are = (are.seen, are.first ∙ are.seen)
seen_alone c thread H (Ok (AsksName categories)) m are = (are.seen, are.first ∙ are.seen)
seen_alone c thread H (Ok (OpensCatalog name)) m are = (are.moments.seen, are.moments.first ∙ are.moments.seen)
seen_alone c thread H (Ok (GetsMessage h set message default)) m are = (are.moments.seen, are.moments.first ∙ are.moments.seen)
seen_alone c thread H (Ok (ClosesCatalog h)) m are = (are.moments.seen, are.moments.first ∙ are.moments.seen)

asked_alone : (c : Setting) (library : LibraryData) (books : Books) (catalogs_at : CatalogHistory → Type 0) (H : History) (M : CatalogHistory) (thread : ℕ) (w : Result Wish Why) (m : Moments)
    → AreMomentsOf c (λ (G K : History). G ≡ K) thread H w m → LeftCatalogs (catalog_setting c) IsSame catalogs_at thread M (catalog_op c library books m thread w) (length m.first) (length m.second) m.asked
    → LeftCatalogs (catalog_setting c) IsSame catalogs_at thread M (catalog_op_of c library books H thread w) (length m.first) (length m.second) m.asked
asked_alone c library books catalogs_at H M thread w m are left =
    let same = seen_alone c thread H w m are in
    let Left' : Option catalog.Op → Type 0 = λ op. LeftCatalogs (catalog_setting c) IsSame catalogs_at thread M op (length m.first) (length m.second) m.asked in
    subst (λ (G : History). Left' (catalog_op_by library books (object_used (own H thread) (global c G)) w)) same.1
    (subst (λ (G : History). Left' (catalog_op_by library books (object_used (own G thread) (global c m.first)) w)) same.0 left)

open_alone : (c : CatalogSetting) (catalogs_at : CatalogHistory → Type 0) (thread : ℕ) (M : CatalogHistory) (caller : Caller) (version n : Option ℕ) (low high : ℕ) (asked : Asked)
    → LeftCatalogs c IsSame catalogs_at thread M (option_map catalog.Open n) low high asked → open_line caller version asked n ≡ open_line caller version (asked_after c M thread (option_map catalog.Open n)) n
open_alone c catalogs_at thread M caller version None low high asked left = refl
open_alone c catalogs_at thread M caller version (Some n) low high asked left = ap (λ (a : Asked). open_line caller version a (Some n)) (asked_is c catalogs_at thread M (catalog.Open n) low high asked left)

opens_alone : (c : Setting) (library : LibraryData) (books : Books) (at : History → Type 0) (catalogs_at : CatalogHistory → Type 0) (H : History) (M : CatalogHistory) (caller : Caller) (name : List ℕ) (m : Moments) (object : Option Parts) (l : OutLine)
    → m.first ≡ H → m.second ≡ H
    → let op = option_map catalog.Open (book_for library books (object_used object (global c H)) name) in
    LeftCatalogs (catalog_setting c) IsSame catalogs_at caller.thread M op (length m.first) (length m.second) m.asked → Left at (opens c library books m caller name object) l
    → Left at (without_entry H (opens_line c library books H caller name (asked_after (catalog_setting c) M caller.thread op) object)) l
opens_alone c library books at catalogs_at H M caller name m (Some object) l first second asked left =
    subst (λ (k : OutLine). Left at (without_entry H k) l) (open_alone (catalog_setting c) catalogs_at caller.thread M caller None (book_for library books object name) (length m.first) (length m.second) m.asked asked)
    (subst (λ (G : History). Left at (without_entry G (open_line caller None m.asked (book_for library books object name))) l) second left)
opens_alone c library books at catalogs_at H M caller name m None l first second asked left =
    subst (λ (k : OutLine). Left at (without_entry H k) l) (open_alone (catalog_setting c) catalogs_at caller.thread M caller (Some (sets H)) (book_for library books (global c H) name) (length m.first) (length m.second) m.asked asked)
    (subst (λ (G : History). Left at (without_entry G (open_line caller (Some (sets H)) m.asked (book_for library books (global c H) name))) l) second
    (subst (λ (G : History). Left at (without_entry m.second (open_line caller (Some (sets G)) m.asked (book_for library books (global c G) name))) l) first left))

-- the line, and the history of the table then
pub alone : (c : Setting) (library : LibraryData) (books : Books) (at : History → Type 0) (catalogs_at : CatalogHistory → Type 0) (H : History) (M : CatalogHistory) (caller : Caller) (w : Result Wish Why) (l : OutLine)
    → Leaves c library books (λ (G K : History). G ≡ K) (λ (N K : CatalogHistory). N ≡ K) at catalogs_at H M caller w l → Left at (granted c library books H M caller w) l
alone c library books at catalogs_at H M caller (Err why) l leaves = subst (λ (G : History). Left at (without_entry G (plain_line caller (said.Refused why))) l) leaves.1.seen leaves.2
alone c library books at catalogs_at H M caller (Ok (Calls categories op)) l leaves = subst (λ (G : History). Left at (calls c library G caller categories op) l) (leaves.1.first ∙ leaves.1.seen) leaves.2
alone c library books at catalogs_at H M caller (Ok (ReadsOf n read)) l leaves =
    let m : Moments = leaves.0 in
    subst (λ (G : History). Left at (reads_of c library H caller n read (held_as (open_holds G caller.thread) n)) l) leaves.1.moments.seen
    (held_alone c library at H caller n read m (held_as (open_holds m.seen caller.thread) n) l leaves.1.moments.seen (leaves.1.moments.first ∙ leaves.1.moments.seen) leaves.1.second leaves.2)
alone c library books at catalogs_at H M caller (Ok (Reads read)) l leaves =
    let m : Moments = leaves.0 in
    subst (λ (G : History). Left at (without_entry H (read_line c library H caller read (own G caller.thread))) l) leaves.1.seen
    (read_alone c library at H caller read m (own m.seen caller.thread) l leaves.1.seen (leaves.1.first ∙ leaves.1.seen) leaves.2)
alone c library books at catalogs_at H M caller (Ok AsksSelection) l leaves = subst (λ (G : History). Left at (without_entry G (plain_line caller (said.Is (selection G caller.thread)))) l) leaves.1.seen leaves.2
alone c library books at catalogs_at H M caller (Ok (AsksName categories)) l leaves = subst (λ (G : History). Left at (without_entry G (name_line c library G caller categories)) l) (leaves.1.first ∙ leaves.1.seen) leaves.2
alone c library books at catalogs_at H M caller (Ok (OpensCatalog name)) l leaves =
    let m : Moments = leaves.0 in
    let op : Option Parts → Option catalog.Op = λ (o : Option Parts). option_map catalog.Open (book_for library books (object_used o (global c H)) name) in
    let asked : LeftCatalogs (catalog_setting c) (λ (N K : CatalogHistory). N ≡ K) catalogs_at caller.thread M (op (own H caller.thread)) (length m.first) (length m.second) m.asked =
    asked_alone c library books catalogs_at H M caller.thread (Ok (OpensCatalog name)) m leaves.1 leaves.3
    in
    let first : m.first ≡ H = leaves.1.moments.first ∙ leaves.1.moments.seen in
    opens_alone c library books at catalogs_at H M caller name m (own H caller.thread) l first (leaves.1.second ∙ first) asked
    (subst (λ (G : History). Left at (opens c library books m caller name (own G caller.thread)) l) leaves.1.moments.seen leaves.2)
alone c library books at catalogs_at H M caller (Ok (GetsMessage h set message default)) l leaves =
    let m : Moments = leaves.0 in
    let op : catalog.Op = catalog.Get (handle_meant h) in
    subst (λ (a : Asked). Left at (without_entry H (message_line books caller set message default a)) l) (asked_is (catalog_setting c) catalogs_at caller.thread M op (length m.first) (length m.second) m.asked leaves.3)
    (subst (λ (G : History). Left at (without_entry G (message_line books caller set message default m.asked)) l) (leaves.1.second ∙ leaves.1.moments.first ∙ leaves.1.moments.seen) leaves.2)
alone c library books at catalogs_at H M caller (Ok (ClosesCatalog h)) l leaves =
    let m : Moments = leaves.0 in
    let op : catalog.Op = catalog.Close (handle_meant h) in
    subst (λ (a : Asked). Left at (without_entry H (close_line caller a)) l) (asked_is (catalog_setting c) catalogs_at caller.thread M op (length m.first) (length m.second) m.asked leaves.3)
    (subst (λ (G : History). Left at (without_entry G (close_line caller m.asked)) l) (leaves.1.second ∙ leaves.1.moments.first ∙ leaves.1.moments.seen) leaves.2)

-- and the history of the catalogs, whose next stamp counts the table's entries
asked_left : (c : Setting) (library : LibraryData) (books : Books) (at : History → Type 0) (catalogs_at : CatalogHistory → Type 0) (H : History) (M : CatalogHistory) (caller : Caller) (w : Result Wish Why) (m : Moments)
    → AreMomentsOf c (λ (G K : History). G ≡ K) caller.thread H w m → m.second ≡ m.first
    → LeftCatalogs (catalog_setting c) IsSame catalogs_at caller.thread M (catalog_op c library books m caller.thread w) (length m.first) (length m.second) m.asked → catalogs_at (catalogs_left c library books H M caller.thread w)
asked_left c library books at catalogs_at H M caller w m are second left =
    let first : m.first ≡ H = (seen_alone c caller.thread H w m are).1 in
    left_alone (catalog_setting c) catalogs_at caller.thread M (length H) (catalog_op_of c library books H caller.thread w) (length m.first) (length m.second) m.asked (ap (λ (G : History). length G) first)
    (ap (λ (G : History). length G) (second ∙ first)) (asked_alone c library books catalogs_at H M caller.thread w m are left)

pub alone_catalogs : (c : Setting) (library : LibraryData) (books : Books) (at : History → Type 0) (catalogs_at : CatalogHistory → Type 0) (H : History) (M : CatalogHistory) (caller : Caller) (w : Result Wish Why) (l : OutLine)
    → Leaves c library books (λ (G K : History). G ≡ K) (λ (N K : CatalogHistory). N ≡ K) at catalogs_at H M caller w l → catalogs_at (catalogs_left c library books H M caller.thread w)
alone_catalogs c library books at catalogs_at H M caller (Err why) l leaves = leaves.3
alone_catalogs c library books at catalogs_at H M caller (Ok (Calls categories op)) l leaves = leaves.3
alone_catalogs c library books at catalogs_at H M caller (Ok (ReadsOf n read)) l leaves = leaves.3
alone_catalogs c library books at catalogs_at H M caller (Ok (Reads read)) l leaves = leaves.3
alone_catalogs c library books at catalogs_at H M caller (Ok AsksSelection) l leaves = leaves.3
alone_catalogs c library books at catalogs_at H M caller (Ok (AsksName categories)) l leaves = leaves.3
alone_catalogs c library books at catalogs_at H M caller (Ok (OpensCatalog name)) l leaves = asked_left c library books at catalogs_at H M caller (Ok (OpensCatalog name)) leaves.0 leaves.1 leaves.1.second leaves.3
alone_catalogs c library books at catalogs_at H M caller (Ok (GetsMessage h set message default)) l leaves =
    asked_left c library books at catalogs_at H M caller (Ok (GetsMessage h set message default)) leaves.0 leaves.1 leaves.1.second leaves.3
alone_catalogs c library books at catalogs_at H M caller (Ok (ClosesCatalog h)) l leaves = asked_left c library books at catalogs_at H M caller (Ok (ClosesCatalog h)) leaves.0 leaves.1 leaves.1.second leaves.3

-- ---- what a call of the catalogs leaves of a board that its runner has alone

pub asks_alone : (old new : AloneData) (k : AloneSideData) (H : History) (M : CatalogHistory) (op : catalog.Op) (place : ℕ) (reply : catalog.Reply)
    → old.catalogs.setting ≡ catalog_setting old.table.setting → new.table ≡ old.table → new.asked ≡ old.asked + 1 → place ≡ old.asked
    → ((N : CatalogHistory) → CatalogsStandFor old.catalogs N → reply ≡ answer_after old.catalogs.setting N k.number op)
    → ((N : CatalogHistory) (stamp : ℕ) → CatalogsStandFor old.catalogs N → CatalogsStandFor new.catalogs (catalog_entry old.catalogs.setting N k.number op stamp ∷ N))
    → IsAt old.table k H → CatalogsAreAt old M
    → Asks old.table.setting (λ (G K : History). G ≡ K) (λ (N K : CatalogHistory). N ≡ K) (IsAt new.table k) (CatalogsAreAt new) k.number H M op place reply
asks_alone old new k H M op place reply agree table asked at answers stands here there =
    let n : ℕ = length H in
    let many : new.asked ≡ length M + 1 = asked ∙ ap (λ (m : ℕ). m + 1) there.asked in
    record {
      behind = H;
      is_later = refl;
      now_at = subst (λ (t : TableData). IsAt t k H) (sym table) here;
      answered = record {
        before = M;
        is_later = refl;
        place_is = at ∙ there.asked;
        reply_is = subst (λ (c : CatalogSetting). reply ≡ answer_after c M k.number op) agree (answers M there.stands);
        stamp = n;
        since = omega arith;
        until = omega arith;
        now_at = subst (λ (c : CatalogSetting). CatalogsAreAt new (catalog_entry c M k.number op n ∷ M)) agree (record { stands = stands M n there.stands; asked = many ∙ omega arith });
      };
    }
