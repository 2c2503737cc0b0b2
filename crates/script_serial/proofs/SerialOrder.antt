-- The lines of `serial` follow each other in one order of all calls, in which each entry of the catalogs stands behind all entries that
-- the table had then.
use Rattle.std.proofs.Common.{◌≡◌, ℕ, zero, suc, ◌+◌, ◌<◌, ◌≤◌, List, [], ◌∷◌, length, Option, Some, None, Result, Ok, Err, sym, ap, subst, ◌∙◌, arith}
use Rattle.std.specs.Prelude.{option_map, All}
use Rattle.std.specs.List.{range_with_len}
use Rattle.std.proofs.lemmas.List.Elements.{All-nil, All-cons, All-weaker}
use Rattle.mask_compose.specs.Parts.{Parts}
use Rattle.category_store.specs.LibraryData.{LibraryData}
use Rattle.lc_base.specs.declared.handle.Named.{Named}
use Rattle.handle_table.specs.Entry as table
use Rattle.handle_table.specs.Entry.{History, Setting}
use Rattle.handle_table.specs.History.{sets, global}
use Rattle.handle_table.specs.Answer.{answer, own}
use Rattle.catalog_handles.specs.declared.setting.CatalogSetting.{CatalogSetting}
use Rattle.catalog_handles.specs.Entry as catalog
use Rattle.catalog_handles.specs.Entry.{History as CatalogHistory}
use Rattle.catalog_handles.specs.Answer.{entry}
use Rattle.catalog_handles.specs.Stamps.{last_stamp, IsRising, stamp_at}
use Rattle.script_commands.specs.declared.command.Read.{Read}
use Rattle.script_out.specs.declared.output.OutLine.{OutLine}
use Rattle.script_out.specs.declared.output.Why.{Why}
use Rattle.script_wishes.specs.Holds.{object_held, open_holds, held_as}
use Rattle.script_lines.specs.Catalogs.{Books, book_for, catalog_setting, object_used, asked_after, catalogs_after, open_line}
use Rattle.script_lines.specs.Lines.{Caller}
use Rattle.script_wishes.specs.Turns.{Turn}
use Rattle.script_wishes.specs.Wishes.{Wish, Calls, ReadsOf, Reads, AsksSelection, AsksName, OpensCatalog, GetsMessage, ClosesCatalog}
use Rattle.script_lines.specs.Outcome.{reads_between, reads_of, read_line, opens_line, granted, catalogs_left}
use Rattle.script_plan.specs.Serial.{Run, TurnOutcome, next_caller, outcome, with_outcome, played}
use Rattle.script_plan.specs.Prints.{places_in, catalog_places_in}
use Rattle.script_plan.proofs.LineLists.{all_right}
use Rattle.script_plan.proofs.Orders.{IsUpTo, all_from, stamp_stands, Spans, Follow}
use Rattle.script_serial.proofs.CatalogLines.{GoOnFrom}
use Rattle.script_serial.proofs.SerialLines.{first_places, granted_places, added}
use Rattle.script_serial.proofs.SerialCalls.{wish_in}
use Rattle.script_serial.proofs.SerialCatalogs.{turn_op, played_catalogs_on}
use Rattle.script_serial.proofs.SerialAnswered.{grown, granted_places_from}

-- ---- the stamps of the catalogs' entries

op_rises : (c : CatalogSetting) (M : CatalogHistory) (thread n : ℕ) (op : Option catalog.Op) → IsRising M → last_stamp M ≤ n
    → IsRising (catalogs_after c M thread n op) × (last_stamp (catalogs_after c M thread n op) ≤ n)
op_rises c M thread n None rising le = (rising, le)
op_rises c M thread n (Some op) rising le = ((le, rising), omega arith)

pub played_rises : (c : Setting) (library : LibraryData) (books : Books) (run : Run) (turns : List Turn) → IsRising run.catalogs → last_stamp run.catalogs ≤ length run.history
    → IsRising (played c library books run turns).catalogs
played_rises c library books run [] rising le = rising
played_rises c library books run (turn ∷ turns) rising le =
    let done : TurnOutcome = outcome c library books run turn in
    let next = op_rises (catalog_setting c) run.catalogs turn.thread (length run.history) (turn_op c library books run turn) rising le in
    let more = grown c library books run turn in
    let last : last_stamp done.catalogs ≤ length run.history = next.1 in
    played_rises c library books (with_outcome run turn done) turns next.0 (omega (arith, last, more))

-- the places of a line in the catalogs' history have this stamp
abbrev AreAt : CatalogHistory → ℕ → OutLine → Type 0
AreAt F n l = All (λ (q : ℕ). stamp_at F q ≡ n) (catalog_places_in l.places)

none_at : (F : CatalogHistory) (n : ℕ) → All (λ (q : ℕ). stamp_at F q ≡ n) []
none_at F n = All-nil (λ (q : ℕ). stamp_at F q ≡ n)

one_at : (c : CatalogSetting) (F M : CatalogHistory) (thread n : ℕ) (op : catalog.Op) → GoOnFrom (catalogs_after c M thread n (Some op)) F → All (λ (q : ℕ). stamp_at F q ≡ n) (length M ∷ [])
one_at c F M thread n op on =
    All-cons (λ (q : ℕ). stamp_at F q ≡ n) (length M) [] (ap (λ (G : CatalogHistory). stamp_at G (length M)) on.is ∙ stamp_stands on.more M (entry c M thread op n)) (none_at F n)

open_at : (c : CatalogSetting) (F M : CatalogHistory) (n : ℕ) (at : Caller) (version book : Option ℕ) → GoOnFrom (catalogs_after c M at.thread n (option_map catalog.Open book)) F
    → AreAt F n (open_line at version (asked_after c M at.thread (option_map catalog.Open book)) book)
open_at c F M n at version None on = none_at F n
open_at c F M n at version (Some k) on = one_at c F M at.thread n (catalog.Open k) on

opens_at : (c : Setting) (library : LibraryData) (books : Books) (F : CatalogHistory) (H : History) (M : CatalogHistory) (at : Caller) (name : List ℕ) (object : Option Parts)
    → let op = option_map catalog.Open (book_for library books (object_used object (global c H)) name) in
    GoOnFrom (catalogs_after (catalog_setting c) M at.thread (length H) op) F
    → AreAt F (length H) (opens_line c library books H at name (asked_after (catalog_setting c) M at.thread op) object)
opens_at c library books F H M at name (Some object) on = open_at (catalog_setting c) F M (length H) at None (book_for library books object name) on
opens_at c library books F H M at name None on = open_at (catalog_setting c) F M (length H) at (Some (sets H)) (book_for library books (global c H) name) on

between_at : (c : Setting) (library : LibraryData) (F : CatalogHistory) (n : ℕ) (H : History) (at : Caller) (named : Named) (read : Read) (object : Option Parts) → AreAt F n (reads_between c library H at named read object).line
between_at c library F n H at named read None = none_at F n
between_at c library F n H at named read (Some object) = none_at F n

of_at : (c : Setting) (library : LibraryData) (F : CatalogHistory) (n : ℕ) (H : History) (at : Caller) (named : Named) (read : Read) (held : Option Parts) → AreAt F n (reads_of c library H at named read held).line
of_at c library F n H at named read (Some object) = none_at F n
of_at c library F n H at named read None = between_at c library F n H at named read (object_held (answer c H at.thread (table.Hold named)))

read_at : (c : Setting) (library : LibraryData) (F : CatalogHistory) (n : ℕ) (H : History) (at : Caller) (read : Read) (object : Option Parts) → AreAt F n (read_line c library H at read object)
read_at c library F n H at read None = none_at F n
read_at c library F n H at read (Some object) = none_at F n

granted_at : (c : Setting) (library : LibraryData) (books : Books) (F : CatalogHistory) (H : History) (M : CatalogHistory) (at : Caller) (w : Result Wish Why)
    → GoOnFrom (catalogs_left c library books H M at.thread w) F → AreAt F (length H) (granted c library books H M at w).line
granted_at c library books F H M at (Err why) on = none_at F (length H)
granted_at c library books F H M at (Ok (Calls categories op)) on = none_at F (length H)
granted_at c library books F H M at (Ok (ReadsOf named read)) on = of_at c library F (length H) H at named read (held_as (open_holds H at.thread) named)
granted_at c library books F H M at (Ok (Reads read)) on = read_at c library F (length H) H at read (own H at.thread)
granted_at c library books F H M at (Ok AsksSelection) on = none_at F (length H)
granted_at c library books F H M at (Ok (AsksName categories)) on = none_at F (length H)
granted_at c library books F H M at (Ok (OpensCatalog name)) on = opens_at c library books F H M at name (own H at.thread) on
granted_at c library books F H M at (Ok (GetsMessage h set message default)) on = one_at (catalog_setting c) F M at.thread (length H) _ on
granted_at c library books F H M at (Ok (ClosesCatalog h)) on = one_at (catalog_setting c) F M at.thread (length H) _ on

-- ---- the order of the lines

below : (from n : ℕ) → All (λ (p : ℕ). p < from + n) (range_with_len from n)
below from zero = All-nil (λ (p : ℕ). p < from + 0)
below from (suc n) =
    All-cons (λ (p : ℕ). p < from + suc n) from (range_with_len (from + 1) n) (omega arith)
    (All-weaker (λ (p : ℕ). p < from + 1 + n) (λ (p : ℕ). p < from + suc n) (λ p lt. omega (arith, lt)) (range_with_len (from + 1) n) (below (from + 1) n))

-- a turn's line made its calls behind those before it
spans : (c : Setting) (library : LibraryData) (books : Books) (F : CatalogHistory) (run : Run) (turn : Turn)
    → let done = outcome c library books run turn in GoOnFrom done.catalogs F → Spans (stamp_at F) (length run.history) (length done.history) done.line
spans c library books F run turn on =
    let done : TurnOutcome = outcome c library books run turn in
    let H : History = run.history in
    let at : Caller = next_caller run turn in
    let more : length H ≤ length done.history = grown c library books run turn in
    let up : All (λ (p : ℕ). p < length done.history) (first_places (length done.history)) =
    All-weaker (λ (p : ℕ). p < 0 + length done.history) (λ (p : ℕ). p < length done.history) (λ p lt. omega (arith, lt)) (first_places (length done.history)) (below 0 (length done.history))
    in
    record {
      up = more;
      table = all_from (length H) (length done.history) (places_in done.line.places) (granted_places_from c library books H run.catalogs at (wish_in library run turn))
          (all_right (λ (p : ℕ). p < length done.history) (first_places (length H)) (places_in done.line.places)
          (subst (All (λ (p : ℕ). p < length done.history)) (sym (granted_places c library books H run.catalogs at (wish_in library run turn))) up));
      catalogs = All-weaker (λ (q : ℕ). stamp_at F q ≡ length H) (λ (q : ℕ). IsUpTo (length H) (length done.history) (stamp_at F q))
          (λ q is. record { since = omega (arith, is); until = omega (arith, is, more) }) (catalog_places_in done.line.places)
          (granted_at c library books F H run.catalogs at (wish_in library run turn) on);
    }

pub lines_follow : (c : Setting) (library : LibraryData) (books : Books) (run : Run) (turns : List Turn)
    → let last = played c library books run turns in Follow (stamp_at last.catalogs) (length run.history) (added c library books run turns) (length last.history)
lines_follow c library books run [] = omega arith
lines_follow c library books run (turn ∷ turns) =
    let done : TurnOutcome = outcome c library books run turn in
    let next : Run = with_outcome run turn done in
    let last : Run = played c library books next turns in
    (length done.history, spans c library books last.catalogs run turn (played_catalogs_on c library books next turns), lines_follow c library books next turns)
