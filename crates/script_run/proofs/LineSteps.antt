-- How a line leads from what its thread had seen to what it has seen then.
use Rattle.std.proofs.Common.{◌≡◌, ℕ, ◌+◌, ◌≤◌, Bool, true, false, cond, not, List, [], ◌∷◌, ◌++◌, length, map, Option, Some, None, Result, Ok, Err, refl, sym, ap, ◌∙◌, subst, arith, eq-eqb, append_assoc}
use Rattle.std.specs.Prelude.{◌||◌, if◌then◌else◌, filter, reverse, zip, All, unwrap_or, option_map}
use Rattle.std.specs.List.{list_any}
use Rattle.std.proofs.lemmas.Bool.{lt-ltb, le-ltb}
use Rattle.std.proofs.lemmas.List.{length-append}
use Rattle.std.proofs.lemmas.List.Elements.{All-nil, All-cons, filter-append}
use Rattle.std.proofs.lemmas.List.Folds.{list_any-append}
use Rattle.mask_compose.specs.Parts.{Parts}
use Rattle.category_store.specs.LibraryData.{LibraryData}
use Rattle.lc_base.specs.declared.handle.Handle.{Handle}
use Rattle.lc_base.specs.declared.handle.Named.{Named}
use Rattle.lc_base.specs.declared.handle.Named.TheVariants.{Global, Of}
use Rattle.handle_table.specs.Entry as table
use Rattle.handle_table.specs.declared.op.Refusal.TheVariants.{NotHeld}
use Rattle.handle_table.specs.Entry.{Op, New, Dup, Free, Use, Hold, Release, SetGlobal, Install, Post, Fetch, Pins, End, Reply, Released, Entry, History, Setting, names, is_accepted}
use Rattle.handle_table.specs.History.{sets, global, selection, holding}
use Rattle.handle_table.proofs.Numbering.{same_itself}
use Rattle.handle_table.specs.Answer.{answer, own, IsLegal, first_reason, unless}
use Rattle.thread_current.specs.Thread.{GoesOnFrom, entries_by}
use Rattle.script_commands.specs.declared.command.Read.{Read}
use Rattle.script_words.specs.declared.categories.CategoryArgument.{CategoryArgument}
use Rattle.script_words.specs.declared.categories.CategoryArgument.TheVariants as categories
use Rattle.script_out.specs.declared.output.OutLine.{OutLine}
use Rattle.script_out.specs.declared.output.Places.TheVariants as places
use Rattle.script_out.specs.declared.output.Said.{Said}
use Rattle.script_out.specs.declared.output.Said.TheVariants as said
use Rattle.script_out.specs.declared.output.Why.{Why}
use Rattle.script_out.specs.declared.output.Why.TheVariants as whys
use Rattle.script_wishes.specs.declared.holds.OpenHold.{OpenHold}
use Rattle.script_wishes.specs.declared.holds.HoldChange.{HoldChange}
use Rattle.script_wishes.specs.declared.holds.HoldChange.TheVariants as changes
use Rattle.script_wishes.specs.Holds.{object_held, with_hold, without, hold_change, changed, holds_after, open_holds, held_as, is_of}
use Rattle.catalog_handles.specs.declared.setting.CatalogSetting.{CatalogSetting}
use Rattle.catalog_handles.specs.Entry as catalogs
use Rattle.catalog_handles.specs.Entry.{History as CatalogHistory}
use Rattle.script_wishes.specs.Wishes.{Wish, Calls, ReadsOf, Reads, AsksSelection, AsksName, OpensCatalog, GetsMessage, ClosesCatalog, ops_of}
use Rattle.script_lines.specs.Lines.{Caller, version_made, shown, line, plain_line, entry_line, object_line, held_line}
use Rattle.script_reads.specs.Names.{object_name}
use Rattle.script_reads.specs.Reads.{local}
use Rattle.script_lines.specs.Outcome.{Outcome, without_entry, with_call, calls, read_line, name_line}
use Rattle.script_lines.specs.Catalogs.{Books, Asked, object_used, book_for, open_line, handle_reply_shown, message_shown, handle_meant}
use Rattle.script_lines.specs.Board.{Moments, reads_between, reads_of, reads, opens, catalog_op, granted_at, AreMomentsOf, LeftCatalogs}
use Rattle.script_plan.specs.Prints.{PlacedCall, call_of, caller_of, places_in, behind_last}
use Rattle.script_seats.specs.Seated.{MayFollow}
use Rattle.script_run.specs.Timed.{oldest, places_by, second_moment, IsEntryOf}
use Rattle.script_run.proofs.Growth.{oldest_grows, oldest_all}
use Rattle.script_seats.proofs.HoldLists.{holds_of, or_second}
use Rattle.script_run.proofs.Apart.{places_stay}
use Rattle.script_seats.proofs.OwnCalls.{own_says, selection_says, holds_says}

-- ---- a step

-- where a line ends
abbrev pub ended : OutLine → ℕ → ℕ
ended l stamp = unwrap_or (behind_last (places_in l.places)) stamp

-- the histories of a line, by what its thread has seen behind it
abbrev pub moments_by : History → History → OutLine → ℕ → Asked → Moments
moments_by W seen l moment asked = record { seen = seen; first = oldest moment W; second = oldest (second_moment (places_in l.places) moment) W; asked = asked }

-- the line of a wish of a thread that had seen S leads to the history of an outcome, where the catalogs are asked for the op and
-- answer this, with a stamp
pub record IsStep (c : Setting) (library : LibraryData) (books : Books) (at : Caller) (wish : Result Wish Why) (S : History) (done : Outcome) (moment stamp : ℕ) (op : Option catalogs.Op) (asked : Asked) : Type 0 where
  pub later : GoesOnFrom done.history S
  pub since : length S ≤ moment
  pub until : moment ≤ ended done.line stamp
  pub within : ended done.line stamp ≤ length done.history
  pub places : places_by at.thread done.history ≡ reverse (places_in done.line.places) ++ places_by at.thread S
  pub caller : caller_of done.line ≡ at
  pub entries : All (IsEntryOf c done.history) (map (call_of at.thread) (zip (places_in done.line.places) (ops_of wish)))
  pub line : (seen : History) → entries_by at.thread seen ≡ entries_by at.thread S
      → done.line ≡ (granted_at c library books (moments_by done.history seen done.line moment asked) at wish).line
  pub asks : (seen : History) → entries_by at.thread seen ≡ entries_by at.thread S → op ≡ catalog_op c library books (moments_by done.history seen done.line moment asked) at.thread wish
  pub few : length (entries_by at.thread done.history) + length (open_holds done.history at.thread) ≤ length (entries_by at.thread S) + length (open_holds S at.thread) + 2

-- ---- histories that go on

pub longer : (G H : History) → GoesOnFrom G H → length H ≤ length G
longer G H on =
    let whole : length G ≡ length on.0 + length H = ap (λ (F : History). length F) on.1 ∙ length-append on.0 H in
    omega arith

pub goes_further : (F G H : History) → GoesOnFrom F G → GoesOnFrom G H → GoesOnFrom F H
goes_further F G H a b = (a.0 ++ b.0, a.1 ∙ ap (λ (X : History). a.0 ++ X) b.1 ∙ sym (append_assoc a.0 b.0 H))

pub goes_one_more : (e : Entry) (G H : History) → GoesOnFrom G H → GoesOnFrom (e ∷ G) H
goes_one_more e G H a = (e ∷ a.0, ap (λ (X : History). e ∷ X) a.1)

follow_places : (c : Setting) (t : ℕ) (G H : History) → MayFollow c t G H → places_by t G ≡ places_by t H
follow_places c t G H f =
    ap (places_by t) f.later.1 ∙ places_stay t f.later.0 H (ap (entries_by t) (sym f.later.1) ∙ f.others)

pub follow_holds : (c : Setting) (t : ℕ) (G H : History) → MayFollow c t G H → open_holds G t ≡ open_holds H t
follow_holds c t G H f = holds_says t G H f.others

-- ---- the newest entry

newest_whole : (e : Entry) (H : History) → oldest (length H + 1) (e ∷ H) ≡ e ∷ H
newest_whole e H = ap (λ (b : Bool). cond b (e ∷ H) (oldest (length H + 1) H)) (lt-ltb (length H) (length H + 1) (omega arith))

below_newest : (e : Entry) (H : History) → oldest (length H) (e ∷ H) ≡ H
below_newest e H = ap (λ (b : Bool). cond b (e ∷ H) (oldest (length H) H)) (le-ltb (length H) (length H) (omega arith)) ∙ oldest_all H

-- the entry of a call that is the newest
newest_entry : (c : Setting) (H : History) (t : ℕ) (op : Op) → IsEntryOf c (with_call c H t op) (record { place = length H; thread = t; op = op })
newest_entry c H t op =
    let e : Entry = record { who = t; op = op; reply = answer c H t op } in
    record {
      within = omega arith;
      entry = newest_whole e H ∙ ap (λ (F : History). with_call c F t op) (sym (below_newest e H));
    }

-- an entry stays where more is added
entry_grows : (c : Setting) (more W : History) (call : PlacedCall) → IsEntryOf c W call → IsEntryOf c (more ++ W) call
entry_grows c more W call is =
    let within = is.within in
    let whole = length-append more W in
    record {
      within = omega arith;
      entry = oldest_grows (call.place + 1) more W (omega arith) ∙ is.entry ∙ ap (λ (F : History). with_call c F call.thread call.op) (sym (oldest_grows call.place more W (omega arith)));
    }

own_place : (c : Setting) (H : History) (t : ℕ) (op : Op) → places_by t (with_call c H t op) ≡ length H ∷ places_by t H
own_place c H t op = ap (λ (b : Bool). cond b (length H ∷ places_by t H) (places_by t H)) (eq-eqb t t refl)

pub own_entry : (c : Setting) (H : History) (t : ℕ) (op : Op) → entries_by t (with_call c H t op) ≡ record { who = t; op = op; reply = answer c H t op } ∷ entries_by t H
own_entry c H t op = ap (λ (b : Bool). cond b (record { who = t; op = op; reply = answer c H t op } ∷ entries_by t H) (entries_by t H)) (eq-eqb t t refl)

pub own_holds : (c : Setting) (H : History) (t : ℕ) (op : Op) → open_holds (with_call c H t op) t ≡ holds_after (open_holds H t) op (answer c H t op)
own_holds c H t op = ap (λ (b : Bool). cond b (holds_after (open_holds H t) op (answer c H t op)) (open_holds H t)) (eq-eqb t t refl)

-- ---- how many Holds are standing

fewer_left : (p : OpenHold → Bool) (os : List OpenHold) → length (filter p os) ≤ length os
fewer_left p [] = omega arith
fewer_left p (o ∷ os) =
    let rest = fewer_left p os in
    elim (p o) as (λ (b : Bool). length (cond b (o ∷ filter p os) (filter p os)) ≤ length (o ∷ os)) [
      | true ↦ omega arith
      | false ↦ omega arith
    ]

one_hold : (os : List OpenHold) (n : Named) (x : Option Parts) → length (with_hold os n x) ≤ length os + 1
one_hold os Global x = omega arith
one_hold os (Of h) None = omega arith
one_hold os (Of h) (Some o) = let whole = length-append os (record { handle = h; object = o } ∷ []) in omega arith

one_change : (os : List OpenHold) (x : Option Parts) (change : HoldChange) → length (changed os x change) ≤ length os + 1
one_change os x changes.Keep = omega arith
one_change os x (changes.Open n) = one_hold os n x
one_change os x (changes.Close n) = let few = fewer_left (λ (o : OpenHold). not (names n o.handle)) os in omega arith
one_change os x changes.CloseAll = omega arith

pub one_more_hold : (os : List OpenHold) (op : Op) (reply : Reply) → length (holds_after os op reply) ≤ length os + 1
one_more_hold os op reply =
    elim (is_accepted reply) as (λ (b : Bool). length (cond b (changed os (object_held reply) (hold_change op)) os) ≤ length os + 1) [
      | true ↦ one_change os (object_held reply) (hold_change op)
      | false ↦ omega arith
    ]

-- ---- the shapes of a line

-- a line without a place, of what its thread had seen
stays : (c : Setting) (library : LibraryData) (books : Books) (at : Caller) (wish : Result Wish Why) (S : History) (version : Option ℕ) (reply : Said) (op : Option catalogs.Op) (asked : Asked)
    → ((seen : History) → entries_by at.thread seen ≡ entries_by at.thread S
    → line at places.None version reply ≡ (granted_at c library books (moments_by S seen (line at places.None version reply) (length S) asked) at wish).line)
    → ((seen : History) → entries_by at.thread seen ≡ entries_by at.thread S → op ≡ catalog_op c library books (moments_by S seen (line at places.None version reply) (length S) asked) at.thread wish)
    → IsStep c library books at wish S (without_entry S (line at places.None version reply)) (length S) (length S) op asked
stays c library books at wish S version reply op asked same asks = record {
  later = ([], refl);
  since = omega arith;
  until = omega arith;
  within = omega arith;
  places = refl;
  caller = refl;
  entries = All-nil (IsEntryOf c S);
  line = same;
  asks = asks;
  few = omega arith;
}

-- a line without a place, of what stands now
looks : (c : Setting) (library : LibraryData) (books : Books) (at : Caller) (wish : Result Wish Why) (S first : History) (version : Option ℕ) (reply : Said) (op : Option catalogs.Op) (asked : Asked) → MayFollow c at.thread first S
    → ((seen : History) → entries_by at.thread seen ≡ entries_by at.thread S
    → line at places.None version reply ≡ (granted_at c library books (moments_by first seen (line at places.None version reply) (length first) asked) at wish).line)
    → ((seen : History) → entries_by at.thread seen ≡ entries_by at.thread S → op ≡ catalog_op c library books (moments_by first seen (line at places.None version reply) (length first) asked) at.thread wish)
    → IsStep c library books at wish S (without_entry first (line at places.None version reply)) (length first) (length first) op asked
looks c library books at wish S first version reply op asked f same asks =
    let entries = ap (λ (H : History). length H) f.others in
    let holds = ap (λ (os : List OpenHold). length os) (follow_holds c at.thread first S f) in
    record {
      later = f.later;
      since = longer first S f.later;
      until = omega arith;
      within = omega arith;
      places = follow_places c at.thread first S f;
      caller = refl;
      entries = All-nil (IsEntryOf c first);
      line = same;
      asks = asks;
      few = omega arith;
    }

-- what stood at an earlier moment of a history that goes on
first_back : (c : Setting) (t : ℕ) (first second : History) → MayFollow c t second first → oldest (length first) second ≡ first
first_back c t first second g = ap (oldest (length first)) g.later.1 ∙ oldest_grows (length first) g.later.0 first (omega arith) ∙ oldest_all first

-- a line without a place, of what stood before the thread had seen more
passes : (c : Setting) (library : LibraryData) (books : Books) (at : Caller) (wish : Result Wish Why) (S first second : History) (version : Option ℕ) (reply : Said) (op : Option catalogs.Op) (asked : Asked)
    → MayFollow c at.thread first S → MayFollow c at.thread second first
    → ((seen : History) → entries_by at.thread seen ≡ entries_by at.thread S
    → line at places.None version reply ≡ (granted_at c library books (moments_by second seen (line at places.None version reply) (length first) asked) at wish).line)
    → ((seen : History) → entries_by at.thread seen ≡ entries_by at.thread S → op ≡ catalog_op c library books (moments_by second seen (line at places.None version reply) (length first) asked) at.thread wish)
    → IsStep c library books at wish S (without_entry second (line at places.None version reply)) (length first) (length first) op asked
passes c library books at wish S first second version reply op asked f g same asks =
    let entries : length (entries_by at.thread second) ≡ length (entries_by at.thread S) = ap (λ (H : History). length H) (g.others ∙ f.others) in
    let holds : length (open_holds second at.thread) ≡ length (open_holds S at.thread) =
    ap (λ (os : List OpenHold). length os) (follow_holds c at.thread second first g ∙ follow_holds c at.thread first S f) in
    record {
      later = goes_further second first S g.later f.later;
      since = longer first S f.later;
      until = omega arith;
      within = longer second first g.later;
      places = follow_places c at.thread second first g ∙ follow_places c at.thread first S f;
      caller = refl;
      entries = All-nil (IsEntryOf c second);
      line = same;
      asks = asks;
      few = omega (arith, entries, holds);
    }

-- the same of a line of the catalogs, with its stamp
passes_asked : (c : Setting) (library : LibraryData) (books : Books) (at : Caller) (wish : Result Wish Why) (S first second : History) (place stamp : ℕ) (version : Option ℕ) (reply : Said) (op : Option catalogs.Op) (asked : Asked)
    → MayFollow c at.thread first S → MayFollow c at.thread second first → length first ≤ stamp → stamp ≤ length second
    → ((seen : History) → entries_by at.thread seen ≡ entries_by at.thread S
    → line at (places.Catalog place) version reply ≡ (granted_at c library books (moments_by second seen (line at (places.Catalog place) version reply) (length first) asked) at wish).line)
    → ((seen : History) → entries_by at.thread seen ≡ entries_by at.thread S → op ≡ catalog_op c library books (moments_by second seen (line at (places.Catalog place) version reply) (length first) asked) at.thread wish)
    → IsStep c library books at wish S (without_entry second (line at (places.Catalog place) version reply)) (length first) stamp op asked
passes_asked c library books at wish S first second place stamp version reply op asked f g from to same asks =
    let entries : length (entries_by at.thread second) ≡ length (entries_by at.thread S) = ap (λ (H : History). length H) (g.others ∙ f.others) in
    let holds : length (open_holds second at.thread) ≡ length (open_holds S at.thread) =
    ap (λ (os : List OpenHold). length os) (follow_holds c at.thread second first g ∙ follow_holds c at.thread first S f) in
    record {
      later = goes_further second first S g.later f.later;
      since = longer first S f.later;
      until = from;
      within = to;
      places = follow_places c at.thread second first g ∙ follow_places c at.thread first S f;
      caller = refl;
      entries = All-nil (IsEntryOf c second);
      line = same;
      asks = asks;
      few = omega (arith, entries, holds);
    }

-- a line with a place
enters : (c : Setting) (library : LibraryData) (books : Books) (at : Caller) (wish : Result Wish Why) (S first : History) (op : Op) (rest : List Op) (version : Option ℕ) (reply : Said) (asked : Asked)
    → MayFollow c at.thread first S → ops_of wish ≡ op ∷ rest
    → ((seen : History) → entries_by at.thread seen ≡ entries_by at.thread S
    → line at (places.One (length first)) version reply
    ≡ (granted_at c library books (moments_by (with_call c first at.thread op) seen (line at (places.One (length first)) version reply) (length first) asked) at wish).line)
    → ((m : Moments) → None ≡ catalog_op c library books m at.thread wish)
    → IsStep c library books at wish S (record { history = with_call c first at.thread op; line = line at (places.One (length first)) version reply }) (length first) (length first) None asked
enters c library books at wish S first op rest version reply asked f ops same asks =
    let t : ℕ = at.thread in
    let W : History = with_call c first t op in
    let entries : length (entries_by t W) ≡ length (entries_by t S) + 1 = ap (λ (H : History). length H) (own_entry c first t op ∙ ap (λ (H : History). record { who = t; op = op; reply = answer c first t op } ∷ H) f.others) ∙ (omega arith) in
    let holds : open_holds W t ≡ holds_after (open_holds S t) op (answer c first t op) =
    own_holds c first t op ∙ ap (λ (os : List OpenHold). holds_after os op (answer c first t op)) (follow_holds c t first S f) in
    let one : length (open_holds W t) ≤ length (open_holds S t) + 1 =
    subst (λ (os : List OpenHold). length os ≤ length (open_holds S t) + 1) (sym holds) (one_more_hold (open_holds S t) op (answer c first t op)) in
    record {
      later = goes_one_more (record { who = t; op = op; reply = answer c first t op }) first S f.later;
      since = longer first S f.later;
      until = omega arith;
      within = omega arith;
      places = own_place c first t op ∙ ap (λ (ps : List ℕ). length first ∷ ps) (follow_places c t first S f);
      caller = refl;
      entries = subst (λ (os : List Op). All (IsEntryOf c W) (map (call_of t) (zip (length first ∷ []) os))) (sym ops)
          (All-cons (IsEntryOf c W) (record { place = length first; thread = t; op = op }) [] (newest_entry c first t op) (All-nil (IsEntryOf c W)));
      line = same;
      asks = λ seen e. asks (moments_by W seen (line at (places.One (length first)) version reply) (length first) asked);
      few = omega arith;
    }

-- ---- a read between a Hold and a Release

held_accepted : (r : Reply) (o : Parts) → object_held r ≡ Some o → is_accepted r ≡ true
held_accepted (table.Refused refusal) o is = absurd (cc is)
held_accepted _ o is = refl

-- the thread holds what it has just held, as far as others alone have called since
holding_between : (c : Setting) (t : ℕ) (h : Handle) (first second : History) (o : Parts) → object_held (answer c first t (Hold (Of h))) ≡ Some o
    → MayFollow c t second (with_call c first t (Hold (Of h)))
    → open_holds second t ≡ open_holds first t ++ record { handle = h; object = o } ∷ []
holding_between c t h first second o is g =
    let r : Reply = answer c first t (Hold (Of h)) in
    follow_holds c t second (with_call c first t (Hold (Of h))) g
    ∙ own_holds c first t (Hold (Of h))
    ∙ ap (λ (b : Bool). cond b (with_hold (open_holds first t) (Of h) (object_held r)) (open_holds first t)) (held_accepted r o is)
    ∙ ap (λ (x : Option Parts). with_hold (open_holds first t) (Of h) x) is

last_of : (h : Handle) (os : List OpenHold) (o : Parts) → list_any (is_of h) (os ++ record { handle = h; object = o } ∷ []) ≡ true
last_of h os o =
    list_any-append (is_of h) os (record { handle = h; object = o } ∷ [])
    ∙ or_second (list_any (is_of h) os) (is_of h (record { handle = h; object = o }) || false) (ap (λ (b : Bool). b || false) (same_itself h))

-- so its Release is accepted
pub released_between : (c : Setting) (t : ℕ) (h : Handle) (second : History) (os : List OpenHold) (o : Parts) → IsLegal c second
    → open_holds second t ≡ os ++ record { handle = h; object = o } ∷ [] → answer c second t (Release (Of h)) ≡ Released
released_between c t h second os o legal standing =
    let held : holding second t h ≡ true = sym (holds_of c second legal t h) ∙ ap (list_any (is_of h)) standing ∙ last_of h os o in
    ap (λ (b : Bool). unless (first_reason ((if b then None else Some NotHeld) ∷ [])) Released) held

without_last : (h : Handle) (os : List OpenHold) (o : Parts) → length (without (os ++ record { handle = h; object = o } ∷ []) (Of h)) ≤ length os
without_last h os o =
    let keep : OpenHold → Bool = λ x. not (names (Of h) x.handle) in
    let last : OpenHold = record { handle = h; object = o } in
    let both = filter-append keep os (last ∷ []) in
    let none : filter keep (last ∷ []) ≡ [] = ap (λ (b : Bool). cond (not b) (last ∷ []) []) (same_itself h) in
    let whole : length (filter keep (os ++ last ∷ [])) ≡ length (filter keep os) + 0 =
    ap (λ (xs : List OpenHold). length xs) both ∙ length-append (filter keep os) (filter keep (last ∷ [])) ∙ ap (λ (xs : List OpenHold). length (filter keep os) + length xs) none in
    let few = fewer_left keep os in
    omega arith

between_holds : (c : Setting) (t : ℕ) (n : Named) (first second : History) (o : Parts) → object_held (answer c first t (Hold n)) ≡ Some o
    → MayFollow c t second (with_call c first t (Hold n)) → length (open_holds (with_call c second t (Release n)) t) ≤ length (open_holds first t)
between_holds c t Global first second o is g = absurd (cc is)
between_holds c t (Of h) first second o is g =
    let os : List OpenHold = open_holds first t in
    let last : OpenHold = record { handle = h; object = o } in
    let standing : open_holds second t ≡ os ++ last ∷ [] = holding_between c t h first second o is g in
    let left : open_holds (with_call c second t (Release (Of h))) t ≡ without (os ++ last ∷ []) (Of h) =
    own_holds c second t (Release (Of h))
    ∙ ap (λ (xs : List OpenHold). holds_after xs (Release (Of h)) (answer c second t (Release (Of h)))) standing
    ∙ ap (λ (r : Reply). holds_after (os ++ last ∷ []) (Release (Of h)) r) (released_between c t h second os o g.legal standing) in
    subst (λ (xs : List OpenHold). length xs ≤ length os) (sym left) (without_last h os o)

between : (c : Setting) (library : LibraryData) (books : Books) (at : Caller) (S first second : History) (n : Named) (read : Read) (o : Parts) (asked : Asked)
    → MayFollow c at.thread first S → MayFollow c at.thread second (with_call c first at.thread (Hold n)) → object_held (answer c first at.thread (Hold n)) ≡ Some o
    → ((seen : History) → entries_by at.thread seen ≡ entries_by at.thread S
    → held_line library (length first) (length second) at read o
    ≡ (granted_at c library books (moments_by (with_call c second at.thread (Release n)) seen (held_line library (length first) (length second) at read o) (length first) asked) at (Ok (ReadsOf n read))).line)
    → IsStep c library books at (Ok (ReadsOf n read)) S
    (record { history = with_call c second at.thread (Release n); line = held_line library (length first) (length second) at read o }) (length first) (length first) None asked
between c library books at S first second n read o asked f g is same =
    let t : ℕ = at.thread in
    let H : History = with_call c first t (Hold n) in
    let W : History = with_call c second t (Release n) in
    let e : Entry = record { who = t; op = Release n; reply = answer c second t (Release n) } in
    let more : History = e ∷ g.later.0 in
    let whole : W ≡ more ++ H = ap (λ (F : History). e ∷ F) g.later.1 in
    let behind : length H ≤ length second = longer second H g.later in
    let seconds : length (entries_by t W) ≡ length (entries_by t second) + 1 = ap (λ (F : History). length F) (own_entry c second t (Release n)) ∙ (omega arith) in
    let firsts : length (entries_by t H) ≡ length (entries_by t first) + 1 = ap (λ (F : History). length F) (own_entry c first t (Hold n)) ∙ (omega arith) in
    let others : length (entries_by t second) ≡ length (entries_by t H) = ap (λ (F : History). length F) g.others in
    let before : length (entries_by t first) ≡ length (entries_by t S) = ap (λ (F : History). length F) f.others in
    let standing : length (open_holds first t) ≡ length (open_holds S t) = ap (λ (os : List OpenHold). length os) (follow_holds c t first S f) in
    let left : length (open_holds W t) ≤ length (open_holds first t) = between_holds c t n first second o is g in
    let hold : PlacedCall = record { place = length first; thread = t; op = Hold n } in
    let release : PlacedCall = record { place = length second; thread = t; op = Release n } in
    record {
      later = goes_one_more e second S (goes_further second H S g.later (goes_one_more (record { who = t; op = Hold n; reply = answer c first t (Hold n) }) first S f.later));
      since = longer first S f.later;
      until = omega arith;
      within = omega arith;
      places = own_place c second t (Release n)
          ∙ ap (λ (ps : List ℕ). length second ∷ ps) (follow_places c t second H g ∙ own_place c first t (Hold n) ∙ ap (λ (ps : List ℕ). length first ∷ ps) (follow_places c t first S f));
      caller = refl;
      entries = All-cons (IsEntryOf c W) hold (release ∷ [])
          (subst (λ (F : History). IsEntryOf c F hold) (sym whole) (entry_grows c more H hold (newest_entry c first t (Hold n))))
          (All-cons (IsEntryOf c W) release [] (newest_entry c second t (Release n)) (All-nil (IsEntryOf c W)));
      line = same;
      asks = λ seen e. refl;
      few = omega arith;
    }

-- ---- each wish

-- how many entries stood when the line was made
abbrev pub read_moment : Moments → Option Parts → ℕ
read_moment m (Some object) = length m.seen
read_moment m None = length m.first

abbrev pub moment_of : Moments → Caller → Result Wish Why → ℕ
moment_of m at (Err why) = length m.seen
moment_of m at (Ok (Calls chosen op)) = length m.first
moment_of m at (Ok (ReadsOf n read)) = read_moment m (held_as (open_holds m.seen at.thread) n)
moment_of m at (Ok (Reads read)) = read_moment m (own m.seen at.thread)
moment_of m at (Ok AsksSelection) = length m.seen
moment_of m at (Ok (AsksName chosen)) = length m.first
moment_of m at (Ok (OpensCatalog name)) = length m.first
moment_of m at (Ok (GetsMessage h set message default)) = length m.first
moment_of m at (Ok (ClosesCatalog h)) = length m.first

pub call_step : (c : Setting) (library : LibraryData) (books : Books) (at : Caller) (m : Moments) (chosen : CategoryArgument) (op : Op) → MayFollow c at.thread m.first m.seen
    → IsStep c library books at (Ok (Calls chosen op)) m.seen (calls c library m.first at chosen op) (length m.first) (length m.first) None m.asked
call_step c library books at m chosen op f =
    let r : Reply = answer c m.first at.thread op in
    enters c library books at (Ok (Calls chosen op)) m.seen m.first op [] (version_made r) (shown library chosen r) m.asked f refl
    (λ seen same. ap (λ (F : History). (calls c library F at chosen op).line) (sym (below_newest (record { who = at.thread; op = op; reply = r }) m.first)))
    (λ n. refl)

own_step : (c : Setting) (library : LibraryData) (books : Books) (at : Caller) (m : Moments) (read : Read) (x : Option Parts) → own m.seen at.thread ≡ x → MayFollow c at.thread m.first m.seen
    → IsStep c library books at (Ok (Reads read)) m.seen (reads c library m at read x) (read_moment m x) (read_moment m x) None m.asked
own_step c library books at m read (Some o) is f =
    stays c library books at (Ok (Reads read)) m.seen None (local library o read) None m.asked
    (λ seen same.
    ap (λ (x : Option Parts). (reads c library (moments_by m.seen seen (object_line library at read o) (length m.seen) m.asked) at read x).line)
    (sym (own_says at.thread seen m.seen same ∙ is)))
    (λ seen same. refl)
own_step c library books at m read None is f =
    let l : OutLine = read_line c library m.first at read None in
    looks c library books at (Ok (Reads read)) m.seen m.first (Some (sets m.first)) (local library (global c m.first) read) None m.asked f
    (λ seen same.
    ap (λ (F : History). read_line c library F at read None) (sym (oldest_all m.first))
    ∙ ap (λ (x : Option Parts). (reads c library (moments_by m.first seen l (length m.first) m.asked) at read x).line) (sym (own_says at.thread seen m.seen same ∙ is)))
    (λ seen same. refl)

-- the stamp of what the catalogs have answered, and the line's moment where they were not asked
module _ (cs : CatalogSetting) (catalogs_later : CatalogHistory → CatalogHistory → Type 0) (catalogs_at : CatalogHistory → Type 0) (M : CatalogHistory) where
  abbrev pub stamp_by : (thread low high : ℕ) (asked : Asked) (op : Option catalogs.Op) → LeftCatalogs cs catalogs_later catalogs_at thread M op low high asked → ℕ → ℕ
  stamp_by thread low high asked None left moment = moment
  stamp_by thread low high asked (Some op) left moment = left.stamp

  -- a catopen: by the thread's own object, or by the global locale, of a catalog that there is or not
  open_own_step : (c : Setting) (library : LibraryData) (books : Books) (at : Caller) (m : Moments) (name : List ℕ) (o : Parts) (n : Option ℕ) → own m.seen at.thread ≡ Some o → book_for library books o name ≡ n
      → MayFollow c at.thread m.first m.seen → MayFollow c at.thread m.second m.first
      → (left : LeftCatalogs cs catalogs_later catalogs_at at.thread M (option_map catalogs.Open n) (length m.first) (length m.second) m.asked)
      → IsStep c library books at (Ok (OpensCatalog name)) m.seen (without_entry m.second (open_line at None m.asked n)) (length m.first)
      (stamp_by at.thread (length m.first) (length m.second) m.asked (option_map catalogs.Open n) left (length m.first)) (option_map catalogs.Open n) m.asked
  open_own_step c library books at m name o None is found f g left =
      passes c library books at (Ok (OpensCatalog name)) m.seen m.first m.second None (said.Refused whys.NoCatalog) None m.asked f g
      (λ seen same.
      ap (λ (k : Option ℕ). open_line at None m.asked k) (sym found)
      ∙ ap (λ (x : Option Parts). (opens c library books (moments_by m.second seen (open_line at None m.asked None) (length m.first) m.asked) at name x).line) (sym (own_says at.thread seen m.seen same ∙ is)))
      (λ seen same.
      ap (option_map catalogs.Open) (sym found)
      ∙ ap (λ (x : Option Parts). option_map catalogs.Open (book_for library books (object_used x (global c (oldest (length m.first) m.second))) name)) (sym (own_says at.thread seen m.seen same ∙ is)))
  open_own_step c library books at m name o (Some k) is found f g left =
      passes_asked c library books at (Ok (OpensCatalog name)) m.seen m.first m.second m.asked.place left.stamp None (handle_reply_shown m.asked.reply) (Some (catalogs.Open k)) m.asked f g left.since left.until
      (λ seen same.
      ap (λ (j : Option ℕ). open_line at None m.asked j) (sym found)
      ∙ ap (λ (x : Option Parts). (opens c library books (moments_by m.second seen (open_line at None m.asked (Some k)) (length m.first) m.asked) at name x).line) (sym (own_says at.thread seen m.seen same ∙ is)))
      (λ seen same.
      ap (option_map catalogs.Open) (sym found)
      ∙ ap (λ (x : Option Parts). option_map catalogs.Open (book_for library books (object_used x (global c (oldest (length m.first) m.second))) name)) (sym (own_says at.thread seen m.seen same ∙ is)))

  open_global_step : (c : Setting) (library : LibraryData) (books : Books) (at : Caller) (m : Moments) (name : List ℕ) (n : Option ℕ) → own m.seen at.thread ≡ None → book_for library books (global c m.first) name ≡ n
      → MayFollow c at.thread m.first m.seen → MayFollow c at.thread m.second m.first
      → (left : LeftCatalogs cs catalogs_later catalogs_at at.thread M (option_map catalogs.Open n) (length m.first) (length m.second) m.asked)
      → IsStep c library books at (Ok (OpensCatalog name)) m.seen (without_entry m.second (open_line at (Some (sets m.first)) m.asked n)) (length m.first)
      (stamp_by at.thread (length m.first) (length m.second) m.asked (option_map catalogs.Open n) left (length m.first)) (option_map catalogs.Open n) m.asked
  open_global_step c library books at m name None is found f g left =
      let l : OutLine = open_line at (Some (sets m.first)) m.asked None in
      let back : oldest (length m.first) m.second ≡ m.first = first_back c at.thread m.first m.second g in
      passes c library books at (Ok (OpensCatalog name)) m.seen m.first m.second (Some (sets m.first)) (said.Refused whys.NoCatalog) None m.asked f g
      (λ seen same.
      ap (λ (k : Option ℕ). open_line at (Some (sets m.first)) m.asked k) (sym found)
      ∙ ap (λ (F : History). open_line at (Some (sets F)) m.asked (book_for library books (global c F) name)) (sym back)
      ∙ ap (λ (x : Option Parts). (opens c library books (moments_by m.second seen l (length m.first) m.asked) at name x).line) (sym (own_says at.thread seen m.seen same ∙ is)))
      (λ seen same.
      ap (option_map catalogs.Open) (sym found)
      ∙ ap (λ (F : History). option_map catalogs.Open (book_for library books (global c F) name)) (sym back)
      ∙ ap (λ (x : Option Parts). option_map catalogs.Open (book_for library books (object_used x (global c (oldest (length m.first) m.second))) name)) (sym (own_says at.thread seen m.seen same ∙ is)))
  open_global_step c library books at m name (Some k) is found f g left =
      let l : OutLine = open_line at (Some (sets m.first)) m.asked (Some k) in
      let back : oldest (length m.first) m.second ≡ m.first = first_back c at.thread m.first m.second g in
      passes_asked c library books at (Ok (OpensCatalog name)) m.seen m.first m.second m.asked.place left.stamp (Some (sets m.first)) (handle_reply_shown m.asked.reply) (Some (catalogs.Open k)) m.asked f g left.since left.until
      (λ seen same.
      ap (λ (j : Option ℕ). open_line at (Some (sets m.first)) m.asked j) (sym found)
      ∙ ap (λ (F : History). open_line at (Some (sets F)) m.asked (book_for library books (global c F) name)) (sym back)
      ∙ ap (λ (x : Option Parts). (opens c library books (moments_by m.second seen l (length m.first) m.asked) at name x).line) (sym (own_says at.thread seen m.seen same ∙ is)))
      (λ seen same.
      ap (option_map catalogs.Open) (sym found)
      ∙ ap (λ (F : History). option_map catalogs.Open (book_for library books (global c F) name)) (sym back)
      ∙ ap (λ (x : Option Parts). option_map catalogs.Open (book_for library books (object_used x (global c (oldest (length m.first) m.second))) name)) (sym (own_says at.thread seen m.seen same ∙ is)))

  open_step : (c : Setting) (library : LibraryData) (books : Books) (at : Caller) (m : Moments) (name : List ℕ) (x : Option Parts) → own m.seen at.thread ≡ x
      → MayFollow c at.thread m.first m.seen → MayFollow c at.thread m.second m.first
      → let op = option_map catalogs.Open (book_for library books (object_used x (global c m.first)) name) in
      (left : LeftCatalogs cs catalogs_later catalogs_at at.thread M op (length m.first) (length m.second) m.asked)
      → IsStep c library books at (Ok (OpensCatalog name)) m.seen (opens c library books m at name x) (length m.first) (stamp_by at.thread (length m.first) (length m.second) m.asked op left (length m.first)) op m.asked
  open_step c library books at m name (Some o) is f g left = open_own_step c library books at m name o (book_for library books o name) is refl f g left
  open_step c library books at m name None is f g left = open_global_step c library books at m name (book_for library books (global c m.first) name) is refl f g left

between_step : (c : Setting) (library : LibraryData) (books : Books) (at : Caller) (m : Moments) (n : Named) (read : Read) (y : Option Parts) → object_held (answer c m.first at.thread (Hold n)) ≡ y
    → held_as (open_holds m.seen at.thread) n ≡ None → MayFollow c at.thread m.first m.seen → MayFollow c at.thread m.second (with_call c m.first at.thread (Hold n))
    → IsStep c library books at (Ok (ReadsOf n read)) m.seen (reads_between c library m at n read y) (length m.first) (length m.first) None m.asked
between_step c library books at m n read None held free f g =
    let r : Reply = answer c m.first at.thread (Hold n) in
    let l : OutLine = entry_line library m.first at categories.All r in
    let W : History = with_call c m.first at.thread (Hold n) in
    let first : m.first ≡ oldest (length m.first) W = sym (below_newest (record { who = at.thread; op = Hold n; reply = r }) m.first) in
    enters c library books at (Ok (ReadsOf n read)) m.seen m.first (Hold n) (Release n ∷ []) (version_made r) (shown library categories.All r) m.asked f refl
    (λ seen same.
    let now : Moments = moments_by W seen l (length m.first) m.asked in
    ap (λ (F : History). (calls c library F at categories.All (Hold n)).line) first
    ∙ ap (λ (x : Option Parts). (reads_between c library now at n read x).line) (sym (ap (λ (F : History). object_held (answer c F at.thread (Hold n))) (sym first) ∙ held))
    ∙ ap (λ (x : Option Parts). (reads_of c library now at n read x).line) (sym (ap (λ (os : List OpenHold). held_as os n) (holds_says at.thread seen m.seen same) ∙ free)))
    (λ k. refl)
between_step c library books at m n read (Some o) held free f g =
    let l : OutLine = held_line library (length m.first) (length m.second) at read o in
    let H : History = with_call c m.first at.thread (Hold n) in
    let W : History = with_call c m.second at.thread (Release n) in
    let e : Entry = record { who = at.thread; op = Release n; reply = answer c m.second at.thread (Release n) } in
    let more : History = e ∷ g.later.0 in
    let second : m.second ≡ oldest (length m.second) W = sym (below_newest e m.second) in
    let first : m.first ≡ oldest (length m.first) W =
    sym (ap (oldest (length m.first)) (ap (λ (F : History). e ∷ F) g.later.1) ∙ oldest_grows (length m.first) more H (omega arith)
    ∙ below_newest (record { who = at.thread; op = Hold n; reply = answer c m.first at.thread (Hold n) }) m.first) in
    between c library books at m.seen m.first m.second n read o m.asked f g held
    (λ seen same.
    let now : Moments = moments_by W seen l (length m.first) m.asked in
    ap (λ (F : History). held_line library (length F) (length m.second) at read o) first
    ∙ ap (λ (F : History). held_line library (length now.first) (length F) at read o) second
    ∙ ap (λ (x : Option Parts). (reads_between c library now at n read x).line) (sym (ap (λ (F : History). object_held (answer c F at.thread (Hold n))) (sym first) ∙ held))
    ∙ ap (λ (x : Option Parts). (reads_of c library now at n read x).line) (sym (ap (λ (os : List OpenHold). held_as os n) (holds_says at.thread seen m.seen same) ∙ free)))

held_step : (c : Setting) (library : LibraryData) (books : Books) (at : Caller) (m : Moments) (n : Named) (read : Read) (x : Option Parts) → held_as (open_holds m.seen at.thread) n ≡ x
    → MayFollow c at.thread m.first m.seen → (held_as (open_holds m.seen at.thread) n ≡ None → MayFollow c at.thread m.second (with_call c m.first at.thread (Hold n)))
    → IsStep c library books at (Ok (ReadsOf n read)) m.seen (reads_of c library m at n read x) (read_moment m x) (read_moment m x) None m.asked
held_step c library books at m n read (Some o) is f g =
    stays c library books at (Ok (ReadsOf n read)) m.seen None (local library o read) None m.asked
    (λ seen same.
    ap (λ (x : Option Parts). (reads_of c library (moments_by m.seen seen (object_line library at read o) (length m.seen) m.asked) at n read x).line)
    (sym (ap (λ (os : List OpenHold). held_as os n) (holds_says at.thread seen m.seen same) ∙ is)))
    (λ seen same. refl)
held_step c library books at m n read None is f g =
    between_step c library books at m n read (object_held (answer c m.first at.thread (Hold n))) refl is f (g is)

module _ (cs : CatalogSetting) (catalogs_later : CatalogHistory → CatalogHistory → Type 0) (catalogs_at : CatalogHistory → Type 0) (M : CatalogHistory) where
  pub granted_step : (c : Setting) (library : LibraryData) (books : Books) (at : Caller) (m : Moments) (wish : Result Wish Why) (S : History) → AreMomentsOf c (MayFollow c at.thread) at.thread S wish m
      → (left : LeftCatalogs cs catalogs_later catalogs_at at.thread M (catalog_op c library books m at.thread wish) (length m.first) (length m.second) m.asked)
      → IsStep c library books at wish m.seen (granted_at c library books m at wish) (moment_of m at wish)
      (stamp_by cs catalogs_later catalogs_at M at.thread (length m.first) (length m.second) m.asked (catalog_op c library books m at.thread wish) left (moment_of m at wish))
      (catalog_op c library books m at.thread wish) m.asked
  granted_step c library books at m (Err why) S of left = stays c library books at (Err why) m.seen None (said.Refused why) None m.asked (λ seen same. refl) (λ seen same. refl)
  granted_step c library books at m (Ok (Calls chosen op)) S of left = call_step c library books at m chosen op of.first
  granted_step c library books at m (Ok (ReadsOf n read)) S of left = held_step c library books at m n read (held_as (open_holds m.seen at.thread) n) refl of.moments.first of.second
  granted_step c library books at m (Ok (Reads read)) S of left = own_step c library books at m read (own m.seen at.thread) refl of.first
  granted_step c library books at m (Ok AsksSelection) S of left =
      stays c library books at (Ok AsksSelection) m.seen None (said.Is (selection m.seen at.thread)) None m.asked
      (λ seen same. ap (λ (n : Named). plain_line at (said.Is n)) (sym (selection_says at.thread seen m.seen same)))
      (λ seen same. refl)
  granted_step c library books at m (Ok (AsksName chosen)) S of left =
      looks c library books at (Ok (AsksName chosen)) m.seen m.first (Some (sets m.first)) (said.Name (object_name library (global c m.first) chosen)) None m.asked of.first
      (λ seen same. ap (λ (F : History). name_line c library F at chosen) (sym (oldest_all m.first)))
      (λ seen same. refl)
  granted_step c library books at m (Ok (OpensCatalog name)) S of left = open_step cs catalogs_later catalogs_at M c library books at m name (own m.seen at.thread) refl of.moments.first of.second left
  granted_step c library books at m (Ok (GetsMessage h set message default)) S of left =
      passes_asked c library books at (Ok (GetsMessage h set message default)) m.seen m.first m.second m.asked.place left.stamp None (message_shown books set message default m.asked.reply) (Some (catalogs.Get (handle_meant h))) m.asked
      of.moments.first of.second left.since left.until (λ seen same. refl) (λ seen same. refl)
  granted_step c library books at m (Ok (ClosesCatalog h)) S of left =
      passes_asked c library books at (Ok (ClosesCatalog h)) m.seen m.first m.second m.asked.place left.stamp None (handle_reply_shown m.asked.reply) (Some (catalogs.Close (handle_meant h))) m.asked
      of.moments.first of.second left.since left.until (λ seen same. refl) (λ seen same. refl)
