-- The lines of a thread, by what its board has answered.
use Rattle.std.specs.Prelude.{option_map, IfOk, OnOk}
use Rattle.std.proofs.Common.{◌≡◌, ℕ, ◌+◌, Option, Some, None, Result, Ok, Err, List, length, refl, sym, ap, subst, ◌∙◌, arith}
use Rattle.mask_compose.specs.Parts.{Parts}
use Rattle.category_store.specs.LibraryData.{LibraryData}
use Rattle.lc_base.specs.declared.handle.Named.{Named}
use Rattle.handle_table.specs.Entry as table
use Rattle.handle_table.specs.Entry.{History, Setting}
use Rattle.handle_table.specs.History.{sets, global, selection}
use Rattle.handle_table.specs.Answer.{answer, own}
use Rattle.script_commands.specs.declared.command.Read.{Read}
use Rattle.script_words.specs.declared.categories.CategoryArgument.{CategoryArgument}
use Rattle.script_words.specs.declared.categories.CategoryArgument.TheVariants.{All}
use Rattle.script_out.specs.declared.output.OutLine.{OutLine}
use Rattle.script_out.specs.declared.output.Places.TheVariants as places
use Rattle.script_out.specs.declared.output.Said.{Said}
use Rattle.script_out.specs.declared.output.Said.TheVariants as said
use Rattle.script_out.specs.declared.output.Why.{Why}
use Rattle.script_reads.specs.Names.{object_name}
use Rattle.script_reads.specs.Reads.{local}
use Rattle.script_wishes.specs.Holds.{object_held, open_holds, held_as}
use Rattle.script_wishes.specs.Turns.{Turn}
use Rattle.script_wishes.specs.Variables.{Bindings, bound, Bound, bindings_of}
use Rattle.script_wishes.specs.Wishes.{Wish, Calls, ReadsOf, Reads, AsksSelection, AsksName, OpensCatalog, GetsMessage, ClosesCatalog, wish_of}
use Rattle.script_lines.specs.Lines.{Caller, line, plain_line, placed_line, object_line}
use Rattle.catalog_handles.specs.Entry as catalogs
use Rattle.catalog_handles.specs.declared.handle.CatalogHandle.{CatalogHandle}
use Rattle.lc_base.specs.declared.handle.Handle.{Handle}
use Rattle.script_lines.specs.Catalogs.{Books, not_asked, book_for, catalog_setting, object_used, catalog_op_by, handle_meant, message_shown, handle_reply_shown, open_line}
use Rattle.script_lines.specs.Outcome.{with_call}
use Rattle.script_lines.specs.Thread.{BindsAs}
use Rattle.script_lines.specs.Board.{Answers, Finds, Asks, Moments, reads_between, reads_of, reads, opens, Left, LeftCatalogs, LeavesAsked, LeavesLine, Leaves, LeavesReadBetween, turn_caller, LeavesTurn}
use Rattle.script_wishes.proofs.WishLemmas.{wish_same}

-- ---- lines without a call

pub refusal_leaves : (c : Setting) (library : LibraryData) (books : Books) (later : History → History → Type 0) (at : History → Type 0) (H : History) (caller : Caller) (why : Why) (l : OutLine)
    → at H → later H H → l ≡ plain_line caller (said.Refused why) → LeavesLine c library books later at H caller (Err why) l
refusal_leaves c library books later at H caller why l here stays printed =
    (record { seen = H; first = H; second = H; asked = not_asked }, record { seen = refl; first = stays }, record { line = printed; now_at = here })

pub selection_leaves : (c : Setting) (library : LibraryData) (books : Books) (later : History → History → Type 0) (at : History → Type 0) (H : History) (caller : Caller) (number : ℕ) (selected : Named) (l : OutLine)
    → caller.thread ≡ number → selected ≡ selection H number → at H → later H H → l ≡ plain_line caller (said.Is selected) → LeavesLine c library books later at H caller (Ok AsksSelection) l
selection_leaves c library books later at H caller number selected l own is here stays printed = (
  record { seen = H; first = H; second = H; asked = not_asked },
  record { seen = refl; first = stays },
  record {
    line = printed ∙ ap (λ (n : Named). plain_line caller (said.Is n)) (is ∙ ap (λ (t : ℕ). selection H t) (sym own));
    now_at = here;
  },
)

-- ---- reads of the thread's own object and of the global locale

pub own_leaves : (c : Setting) (library : LibraryData) (books : Books) (later : History → History → Type 0) (at : History → Type 0) (H : History) (caller : Caller) (read : Read) (number : ℕ) (object : Parts) (l : OutLine)
    → caller.thread ≡ number → Some object ≡ own H number → at H → later H H → l ≡ object_line library caller read object
    → LeavesLine c library books later at H caller (Ok (Reads read)) l
own_leaves c library books later at H caller read number object l same is here stays printed =
    let gives : Some object ≡ own H caller.thread = is ∙ ap (λ (t : ℕ). own H t) (sym same) in
    let m : Moments = record { seen = H; first = H; second = H; asked = not_asked } in
    (m, record { seen = refl; first = stays }, subst (λ (x : Option Parts). Left at (reads c library m caller read x) l) gives (record { line = printed; now_at = here }))

pub global_leaves : (c : Setting) (library : LibraryData) (books : Books) (later : History → History → Type 0) (at : History → Type 0) (H : History) (caller : Caller) (read : Read) (number version : ℕ) (object : Parts) (reply : Said) (l : OutLine)
    → caller.thread ≡ number → None ≡ own H number → Finds c later at H version object → reply ≡ local library object read → l ≡ line caller places.None (Some version) reply
    → LeavesLine c library books later at H caller (Ok (Reads read)) l
global_leaves c library books later at H caller read number version object reply l same is found reply_is printed =
    let gives : None ≡ own H caller.thread = is ∙ ap (λ (t : ℕ). own H t) (sym same) in
    let m : Moments = record { seen = H; first = found.before; second = found.before; asked = not_asked } in (
      m,
      record { seen = refl; first = found.is_later },
      subst (λ (x : Option Parts). Left at (reads c library m caller read x) l) gives (record {
        line =
            printed
            ∙ ap (λ (s : Said). line caller places.None (Some version) s) reply_is
            ∙ ap (λ (v : ℕ). line caller places.None (Some v) (local library object read)) found.version_is
            ∙ ap (λ (p : Parts). line caller places.None (Some (sets found.before)) (local library p read)) found.object_is;
        now_at = found.now_at;
      }),
    )

pub name_leaves : (c : Setting) (library : LibraryData) (books : Books) (later : History → History → Type 0) (at : History → Type 0) (H : History) (caller : Caller) (categories : CategoryArgument) (version : ℕ) (object : Parts) (name : List ℕ) (l : OutLine)
    → Finds c later at H version object → name ≡ object_name library object categories → l ≡ line caller places.None (Some version) (said.Name name)
    → LeavesLine c library books later at H caller (Ok (AsksName categories)) l
name_leaves c library books later at H caller categories version object name l found named printed = (
  record { seen = H; first = found.before; second = found.before; asked = not_asked },
  record { seen = refl; first = found.is_later },
  record {
    line =
        printed
        ∙ ap (λ (n : List ℕ). line caller places.None (Some version) (said.Name n)) named
        ∙ ap (λ (v : ℕ). line caller places.None (Some v) (said.Name (object_name library object categories))) found.version_is
        ∙ ap (λ (p : Parts). line caller places.None (Some (sets found.before)) (said.Name (object_name library p categories))) found.object_is;
    now_at = found.now_at;
  },
)

-- ---- calls

pub call_leaves : (c : Setting) (library : LibraryData) (books : Books) (later : History → History → Type 0) (at : History → Type 0) (H : History) (caller : Caller) (categories : CategoryArgument) (op : table.Op) (number place : ℕ) (r : table.Reply) (l : OutLine)
    → caller.thread ≡ number → Answers c later at number H op place r → l ≡ placed_line library place caller categories r
    → LeavesLine c library books later at H caller (Ok (Calls categories op)) l
call_leaves c library books later at H caller categories op number place r l own answered printed =
    let a : Answers c later at caller.thread H op place r = subst (λ (t : ℕ). Answers c later at t H op place r) (sym own) answered in (
      record { seen = H; first = a.before; second = a.before; asked = not_asked },
      record { seen = refl; first = a.is_later },
      record {
        line =
            printed
            ∙ ap (λ (p : ℕ). placed_line library p caller categories r) a.place_is
            ∙ ap (λ (x : table.Reply). placed_line library (length a.before) caller categories x) a.reply_is;
        now_at = a.now_at;
      },
    )

-- ---- reads of what is named

-- of the object of the thread's open Hold
pub held_leaves : (c : Setting) (library : LibraryData) (books : Books) (later : History → History → Type 0) (at : History → Type 0) (H : History) (caller : Caller) (n : Named) (read : Read) (number : ℕ) (object : Parts) (l : OutLine)
    → caller.thread ≡ number → Some object ≡ held_as (open_holds H number) n → at H → later H H → l ≡ object_line library caller read object
    → LeavesLine c library books later at H caller (Ok (ReadsOf n read)) l
held_leaves c library books later at H caller n read number object l own is here stays printed =
    let gives : Some object ≡ held_as (open_holds H caller.thread) n = is ∙ ap (λ (t : ℕ). held_as (open_holds H t) n) (sym own) in
    let m : Moments = record { seen = H; first = H; second = H; asked = not_asked } in (
      m,
      record { moments = record { seen = refl; first = stays }; second = λ none. absurd (cc (gives ∙ none)) },
      subst (λ (x : Option Parts). Left at (reads_of c library m caller n read x) l) gives (record { line = printed; now_at = here }),
    )

-- where there is none, between a Hold and a Release
pub unheld_leaves : (c : Setting) (library : LibraryData) (books : Books) (later : History → History → Type 0) (at : History → Type 0) (H : History) (caller : Caller) (n : Named) (read : Read) (number : ℕ) (l : OutLine)
    → caller.thread ≡ number → None ≡ held_as (open_holds H number) n → LeavesReadBetween c library later at H caller n read l
    → LeavesLine c library books later at H caller (Ok (ReadsOf n read)) l
unheld_leaves c library books later at H caller n read number l own is between =
    let m : Moments = between.0 in
    let gives : None ≡ held_as (open_holds m.seen caller.thread) n =
    is ∙ ap (λ (t : ℕ). held_as (open_holds H t) n) (sym own) ∙ ap (λ (G : History). held_as (open_holds G caller.thread) n) (sym between.1.moments.seen)
    in
    (m, between.1, subst (λ (x : Option Parts). Left at (reads_of c library m caller n read x) l) gives between.2)

-- a Hold that gives an object, and a Release
pub between_leaves : (c c' : Setting) (library : LibraryData) (later : Setting → ℕ → History → History → Type 0) (at at' : History → Type 0) (H : History) (caller : Caller) (n : Named) (read : Read)
    (number number' place release : ℕ) (r r' : table.Reply) (object : Parts) (reply : Said) (l : OutLine)
    → caller.thread ≡ number → number' ≡ number → c' ≡ c → Answers c (later c number) at number H (table.Hold n) place r → object_held r ≡ Some object → reply ≡ local library object read
    → ((G : History) → at G → Answers c' (later c' number') at' number' G (table.Release n) release r') → l ≡ line caller (places.Two place release) None reply
    → LeavesReadBetween c library (later c number) at' H caller n read l
between_leaves c c' library later at at' H caller n read number number' place release r r' object reply l own kept same held is reply_is after printed =
    let a : Answers c (later c number) at caller.thread H (table.Hold n) place r = subst (λ (t : ℕ). Answers c (later c number) at t H (table.Hold n) place r) (sym own) held in
    let G : History = with_call c a.before caller.thread (table.Hold n) in
    let b : Answers c (later c number) at' caller.thread G (table.Release n) release r' =
    subst (λ (t : ℕ). Answers c (later c number) at' t G (table.Release n) release r') (sym own)
    (subst (λ (t : ℕ). Answers c (later c t) at' t G (table.Release n) release r') kept
    (subst (λ (s : Setting). Answers s (later s number') at' number' G (table.Release n) release r') same (after G a.now_at)))
    in
    let m : Moments = record { seen = H; first = a.before; second = b.before; asked = not_asked } in
    let gives : Some object ≡ object_held (answer c a.before caller.thread (table.Hold n)) = sym is ∙ ap object_held a.reply_is in (
      m,
      record { moments = record { seen = refl; first = a.is_later }; second = λ none. b.is_later },
      subst (λ (x : Option Parts). Left at' (reads_between c library m caller n read x) l) gives (record {
        line =
            printed
            ∙ ap (λ (p : ℕ). line caller (places.Two p release) None reply) a.place_is
            ∙ ap (λ (p : ℕ). line caller (places.Two (length a.before) p) None reply) b.place_is
            ∙ ap (λ (s : Said). line caller (places.Two (length a.before) (length b.before)) None s) reply_is;
        now_at = b.now_at;
      }),
    )

-- a Hold that gives none
pub unmade_leaves : (c c' : Setting) (library : LibraryData) (later : Setting → ℕ → History → History → Type 0) (at : History → Type 0) (H : History) (caller : Caller) (n : Named) (read : Read)
    (number number' place : ℕ) (r : table.Reply) (l : OutLine)
    → caller.thread ≡ number → number' ≡ number → c' ≡ c → Answers c (later c number) at number H (table.Hold n) place r → object_held r ≡ None
    → ((G : History) → at G → later c' number' G G) → l ≡ placed_line library place caller All r
    → LeavesReadBetween c library (later c number) at H caller n read l
unmade_leaves c c' library later at H caller n read number number' place r l own kept same held is stays printed =
    let a : Answers c (later c number) at caller.thread H (table.Hold n) place r = subst (λ (t : ℕ). Answers c (later c number) at t H (table.Hold n) place r) (sym own) held in
    let G : History = with_call c a.before caller.thread (table.Hold n) in
    let next : later c number G G = subst (λ (t : ℕ). later c t G G) kept (subst (λ (s : Setting). later s number' G G) same (stays G a.now_at)) in
    let m : Moments = record { seen = H; first = a.before; second = G; asked = not_asked } in
    let gives : None ≡ object_held (answer c a.before caller.thread (table.Hold n)) = sym is ∙ ap object_held a.reply_is in (
      m,
      record { moments = record { seen = refl; first = a.is_later }; second = λ none. next },
      subst (λ (x : Option Parts). Left at (reads_between c library m caller n read x) l) gives (record {
        line =
            printed
            ∙ ap (λ (p : ℕ). placed_line library p caller All r) a.place_is
            ∙ ap (λ (x : table.Reply). placed_line library (length a.before) caller All x) a.reply_is;
        now_at = a.now_at;
      }),
    )

-- ---- how many calls are left

pub fewer_by_two : (ready : ℕ → Type 0) → ((n : ℕ) → ready (n + 1) → ready n) → (n : ℕ) → ready (n + 2) → ready n
fewer_by_two ready fewer n r = let same : n + 2 ≡ n + 1 + 1 = omega arith in fewer n (fewer (n + 1) (subst ready same r))

-- ---- what is asked of the catalogs

pub both_ok : {T E : Type 0} (r : Result T E) (P : T → Type 0) (Q : Type 0) → IfOk r P → OnOk r Q → IfOk r (λ x. P x × Q)
both_ok (Ok x) P Q p q = (p, q)
both_ok (Err e) P Q p q = tt

-- a line that asks nothing of them leaves the thread at their history
pub unasked : (c : Setting) (library : LibraryData) (books : Books) (later : History → History → Type 0) (catalogs_later : catalogs.History → catalogs.History → Type 0) (at : History → Type 0) (catalogs_at : catalogs.History → Type 0)
    (H : History) (M : catalogs.History) (caller : Caller) (wish : Result Wish Why) (l : OutLine)
    → ((object : Parts) → catalog_op_by library books object wish ≡ None) → catalogs_at M → LeavesLine c library books later at H caller wish l
    → Leaves c library books later catalogs_later at catalogs_at H M caller wish l
unasked c library books later catalogs_later at catalogs_at H M caller wish l asks here leaves =
    let m : Moments = leaves.0 in (
      m,
      leaves.1,
      leaves.2,
      subst (λ (op : Option catalogs.Op). LeftCatalogs (catalog_setting c) catalogs_later catalogs_at caller.thread M op (length m.first) (length m.second) m.asked) (sym (asks (object_used (own m.seen caller.thread) (global c m.first)))) here,
    )

-- a catopen by the thread's own object
pub own_opens : (c : Setting) (library : LibraryData) (books : Books) (later : History → History → Type 0) (catalogs_later : catalogs.History → catalogs.History → Type 0) (at : History → Type 0) (catalogs_at : catalogs.History → Type 0)
    (H : History) (M : catalogs.History) (caller : Caller) (name : List ℕ) (number : ℕ) (object : Parts) (book : Option ℕ) (l : OutLine)
    → caller.thread ≡ number → Some object ≡ own H number → later H H → book ≡ book_for library books object name
    → LeavesAsked c later catalogs_later at catalogs_at caller.thread H M (option_map catalogs.Open book) (λ asked. open_line caller None asked book) l
    → Leaves c library books later catalogs_later at catalogs_at H M caller (Ok (OpensCatalog name)) l
own_opens c library books later catalogs_later at catalogs_at H M caller name number object book l same is stays named opened =
    let gives : Some object ≡ own H caller.thread = is ∙ ap (λ (t : ℕ). own H t) (sym same) in
    let m : Moments = record { seen = H; first = H; second = opened.behind; asked = opened.asked } in
    let Gives : Option catalogs.Op → Type 0 = λ op. LeftCatalogs (catalog_setting c) catalogs_later catalogs_at caller.thread M op (length H) (length opened.behind) opened.asked in (
      m,
      record { moments = record { seen = refl; first = stays }; second = opened.is_later },
      subst (λ (x : Option Parts). Left at (opens c library books m caller name x) l) gives
          (record { line = opened.line ∙ ap (λ (b : Option ℕ). open_line caller None opened.asked b) named; now_at = opened.now_at }),
      subst (λ (x : Option Parts). Gives (catalog_op_by library books (object_used x (global c H)) (Ok (OpensCatalog name)))) gives
          (subst (λ (b : Option ℕ). Gives (option_map catalogs.Open b)) named opened.left),
    )

-- a catopen by the global locale
pub global_opens : (c c' : Setting) (library : LibraryData) (books : Books) (later : Setting → ℕ → History → History → Type 0) (catalogs_later : Setting → ℕ → catalogs.History → catalogs.History → Type 0)
    (at at' : History → Type 0) (catalogs_at : catalogs.History → Type 0) (H : History) (M : catalogs.History) (caller : Caller) (name : List ℕ) (number number' version : ℕ) (object : Parts) (book : Option ℕ) (l : OutLine)
    → caller.thread ≡ number → number' ≡ number → c' ≡ c → None ≡ own H number → Finds c (later c number) at H version object
    → book ≡ book_for library books object name
    → ((G : History) → at G → LeavesAsked c' (later c' number') (catalogs_later c' number') at' catalogs_at caller.thread G M (option_map catalogs.Open book) (λ asked. open_line caller (Some version) asked book) l)
    → Leaves c library books (later c number) (catalogs_later c number) at' catalogs_at H M caller (Ok (OpensCatalog name)) l
global_opens c c' library books later catalogs_later at at' catalogs_at H M caller name number number' version object book l same kept fixed is found named asks =
    let gives : None ≡ own H caller.thread = is ∙ ap (λ (t : ℕ). own H t) (sym same) in
    let G : History = found.before in
    let chosen : book ≡ book_for library books (global c G) name = named ∙ ap (λ (p : Parts). book_for library books p name) found.object_is in
    let opened : LeavesAsked c (later c number) (catalogs_later c number) at' catalogs_at caller.thread G M (option_map catalogs.Open book) (λ asked. open_line caller (Some version) asked book) l =
    subst (λ (s : Setting). LeavesAsked s (later s number) (catalogs_later s number) at' catalogs_at caller.thread G M (option_map catalogs.Open book) (λ asked. open_line caller (Some version) asked book) l) fixed
    (subst (λ (t : ℕ). LeavesAsked c' (later c' t) (catalogs_later c' t) at' catalogs_at caller.thread G M (option_map catalogs.Open book) (λ asked. open_line caller (Some version) asked book) l) kept (asks G found.now_at))
    in
    let m : Moments = record { seen = H; first = G; second = opened.behind; asked = opened.asked } in
    let Gives : Option catalogs.Op → Type 0 = λ op. LeftCatalogs (catalog_setting c) (catalogs_later c number) catalogs_at caller.thread M op (length G) (length opened.behind) opened.asked in (
      m,
      record { moments = record { seen = refl; first = found.is_later }; second = opened.is_later },
      subst (λ (x : Option Parts). Left at' (opens c library books m caller name x) l) gives (record {
        line =
            opened.line
            ∙ ap (λ (v : ℕ). open_line caller (Some v) opened.asked book) found.version_is
            ∙ ap (λ (b : Option ℕ). open_line caller (Some (sets G)) opened.asked b) chosen;
        now_at = opened.now_at;
      }),
      subst (λ (x : Option Parts). Gives (catalog_op_by library books (object_used x (global c G)) (Ok (OpensCatalog name)))) gives
          (subst (λ (b : Option ℕ). Gives (option_map catalogs.Open b)) chosen opened.left),
    )

-- a catgets
pub message_leaves : (c : Setting) (library : LibraryData) (books : Books) (later : History → History → Type 0) (catalogs_later : catalogs.History → catalogs.History → Type 0) (at : History → Type 0) (catalogs_at : catalogs.History → Type 0)
    (H : History) (M : catalogs.History) (caller : Caller) (h : Handle) (meant : CatalogHandle) (set message : ℕ) (default : List ℕ) (number place : ℕ) (r : catalogs.Reply) (reply : Said) (l : OutLine)
    → caller.thread ≡ number → later H H → meant ≡ handle_meant h → Asks c later catalogs_later at catalogs_at number H M (catalogs.Get meant) place r
    → reply ≡ message_shown books set message default r → l ≡ line caller (places.Catalog place) None reply
    → Leaves c library books later catalogs_later at catalogs_at H M caller (Ok (GetsMessage h set message default)) l
message_leaves c library books later catalogs_later at catalogs_at H M caller h meant set message default number place r reply l same stays means asks reply_is printed =
    let a : Asks c later catalogs_later at catalogs_at caller.thread H M (catalogs.Get (handle_meant h)) place r =
    subst (λ (g : CatalogHandle). Asks c later catalogs_later at catalogs_at caller.thread H M (catalogs.Get g) place r) means
    (subst (λ (t : ℕ). Asks c later catalogs_later at catalogs_at t H M (catalogs.Get meant) place r) (sym same) asks)
    in (
      record { seen = H; first = H; second = a.behind; asked = record { place = place; reply = r } },
      record { moments = record { seen = refl; first = stays }; second = a.is_later },
      record { line = printed ∙ ap (λ (s : Said). line caller (places.Catalog place) None s) reply_is; now_at = a.now_at },
      a.answered,
    )

-- a catclose
pub close_leaves : (c : Setting) (library : LibraryData) (books : Books) (later : History → History → Type 0) (catalogs_later : catalogs.History → catalogs.History → Type 0) (at : History → Type 0) (catalogs_at : catalogs.History → Type 0)
    (H : History) (M : catalogs.History) (caller : Caller) (h : Handle) (meant : CatalogHandle) (number place : ℕ) (r : catalogs.Reply) (reply : Said) (l : OutLine)
    → caller.thread ≡ number → later H H → meant ≡ handle_meant h → Asks c later catalogs_later at catalogs_at number H M (catalogs.Close meant) place r
    → reply ≡ handle_reply_shown r → l ≡ line caller (places.Catalog place) None reply
    → Leaves c library books later catalogs_later at catalogs_at H M caller (Ok (ClosesCatalog h)) l
close_leaves c library books later catalogs_later at catalogs_at H M caller h meant number place r reply l same stays means asks reply_is printed =
    let a : Asks c later catalogs_later at catalogs_at caller.thread H M (catalogs.Close (handle_meant h)) place r =
    subst (λ (g : CatalogHandle). Asks c later catalogs_later at catalogs_at caller.thread H M (catalogs.Close g) place r) means
    (subst (λ (t : ℕ). Asks c later catalogs_later at catalogs_at t H M (catalogs.Close meant) place r) (sym same) asks)
    in (
      record { seen = H; first = H; second = a.behind; asked = record { place = place; reply = r } },
      record { moments = record { seen = refl; first = stays }; second = a.is_later },
      record { line = printed ∙ ap (λ (s : Said). line caller (places.Catalog place) None s) reply_is; now_at = a.now_at },
      a.answered,
    )

-- a catopen of a catalog
pub book_asked : (c : Setting) (later : History → History → Type 0) (catalogs_later : catalogs.History → catalogs.History → Type 0) (at : History → Type 0) (catalogs_at : catalogs.History → Type 0)
    (H : History) (M : catalogs.History) (caller : Caller) (number place n : ℕ) (version : Option ℕ) (r : catalogs.Reply) (reply : Said) (l : OutLine)
    → caller.thread ≡ number → Asks c later catalogs_later at catalogs_at number H M (catalogs.Open n) place r → reply ≡ handle_reply_shown r → l ≡ line caller (places.Catalog place) version reply
    → LeavesAsked c later catalogs_later at catalogs_at caller.thread H M (Some (catalogs.Open n)) (λ asked. open_line caller version asked (Some n)) l
book_asked c later catalogs_later at catalogs_at H M caller number place n version r reply l same asks reply_is printed =
    let a : Asks c later catalogs_later at catalogs_at caller.thread H M (catalogs.Open n) place r =
    subst (λ (t : ℕ). Asks c later catalogs_later at catalogs_at t H M (catalogs.Open n) place r) (sym same) asks
    in record {
      asked = record { place = place; reply = r };
      line = printed ∙ ap (λ (s : Said). line caller (places.Catalog place) version s) reply_is;
      behind = a.behind;
      is_later = a.is_later;
      now_at = a.now_at;
      left = a.answered;
    }

-- ---- turns

-- a line is counted, the wish is granted, and the variable is bound
pub turn_leaves : {S : Type 0} (c : Setting) (library : LibraryData) (books : Books) (number_of : S → ℕ) (later : ℕ → History → History → Type 0) (catalogs_later : ℕ → catalogs.History → catalogs.History → Type 0)
    (at at' : S → History → Type 0) (catalogs_at catalogs_at' : S → catalogs.History → Type 0) (H : History) (M : catalogs.History) (bounds : List Bound) (lines : ℕ) (turn : Turn)
    (before counting served after : S) (caller : Caller) (variables : Bindings) (w : Result Wish Why) (l : OutLine)
    → turn.thread ≡ number_of before → counting ≡ before → after ≡ served → caller ≡ record { round = turn.round; thread = number_of before; index = lines + 1 }
    → w ≡ wish_of library variables turn.task → BindsAs (number_of before) variables bounds → at before H → catalogs_at before M
    → (at counting H → catalogs_at counting M → Leaves c library books (later (number_of counting)) (catalogs_later (number_of counting)) (at' served) (catalogs_at' served) H M caller w l)
    → LeavesTurn c library books (later (number_of before)) (catalogs_later (number_of before)) (at' after) (catalogs_at' after) H M bounds lines turn l
turn_leaves {S} c library books number_of later catalogs_later at at' catalogs_at catalogs_at' H M bounds lines turn before counting served after caller variables w l own counted bound_after called wished binds here there leaves =
    let L : Caller → Result Wish Why → Type 0 = λ a x. Leaves c library books (later (number_of before)) (catalogs_later (number_of before)) (at' after) (catalogs_at' after) H M a x l in
    let given : L caller w =
    subst (λ (s : S). Leaves c library books (later (number_of before)) (catalogs_later (number_of before)) (at' s) (catalogs_at' s) H M caller w l) (sym bound_after)
    (subst (λ (s : S). Leaves c library books (later (number_of s)) (catalogs_later (number_of s)) (at' served) (catalogs_at' served) H M caller w l) counted
    (leaves (subst (λ (s : S). at s H) (sym counted) here) (subst (λ (s : S). catalogs_at s M) (sym counted) there)))
    in
    let asks : w ≡ wish_of library (bindings_of turn.thread bounds) turn.task =
    wished ∙ wish_same library variables (bindings_of turn.thread bounds) turn.task (λ v. binds v ∙ ap (λ (t : ℕ). bound (bindings_of t bounds) v) (sym own))
    in
    let whose : caller ≡ turn_caller lines turn = called ∙ ap (λ (t : ℕ). record { round = turn.round; thread = t; index = lines + 1 }) (sym own) in
    subst (λ (a : Caller). L a (wish_of library (bindings_of turn.thread bounds) turn.task)) whose (subst (λ (x : Result Wish Why). L caller x) asks given)
