-- The lines that `serial` prints are the one list that a script may print line after line.
use Rattle.std.proofs.Common.{◌≡◌, ℕ, zero, suc, ◌+◌, ◌<◌, ◌≤◌, Bool, cond, List, [], ◌∷◌, ◌++◌, length, map, drop, find, get_or, Option, Some, None, Result, Ok, Err, refl, sym, ap, subst, ◌∙◌, arith, inl, inr, append-nil, append_assoc, length-append}
use Rattle.std.specs.Prelude.{◌==◌, ◌⊎◌, count_by, All, option_map}
use Rattle.std.specs.List.{AllPairs, range_with_len}
use Rattle.std.specs.Option.{option_or}
use Rattle.std.proofs.lemmas.Bool.{cases_lt, ne_eqb}
use Rattle.std.proofs.lemmas.List.{map-append}
use Rattle.std.proofs.lemmas.List.Elements.{All-head, All-tail, All-weaker}
use Rattle.std.proofs.lemmas.List.Folds.{find-append}
use Rattle.std.proofs.lemmas.List.FromFn.{length-range_with_len}
use Rattle.std.proofs.lemmas.List.Kept.{AllPairs-from_increasing}
use Rattle.mask_compose.specs.Parts.{Parts}
use Rattle.category_store.specs.LibraryData.{LibraryData}
use Rattle.lc_base.specs.declared.handle.Named.{Named}
use Rattle.handle_table.specs.Entry as table
use Rattle.handle_table.specs.Entry.{Entry, History, Setting}
use Rattle.handle_table.specs.History.{sets, global, selection}
use Rattle.handle_table.specs.Answer.{answer, own, IsLegal}
use Rattle.script_words.specs.declared.categories.CategoryArgument.TheVariants.{All as AllCategories}
use Rattle.script_commands.specs.declared.command.Read.{Read}
use Rattle.script_out.specs.declared.output.OutLine.{OutLine}
use Rattle.script_out.specs.declared.output.Places.{Places}
use Rattle.script_out.specs.declared.output.Places.TheVariants as places
use Rattle.script_out.specs.declared.output.Said.TheVariants as said
use Rattle.script_out.specs.declared.output.Why.{Why}
use Rattle.script_plan.specs.Plan.{PlanData, books_of}
use Rattle.script_wishes.specs.Holds.{object_held, open_holds, held_as}
use Rattle.script_wishes.specs.Turns.{Turn, command_turns, closing_turns}
use Rattle.script_lines.specs.Lines.{Caller, plain_line, placed_line, held_line, global_read_line, global_name_line}
use Rattle.script_wishes.specs.Variables.{Bound, bindings_of}
use Rattle.script_wishes.specs.Wishes.{Wish, Calls, ReadsOf, Reads, AsksSelection, AsksName, wish_of, OpensCatalog, GetsMessage, ClosesCatalog}
use Rattle.script_lines.specs.Outcome.{reads_between, reads_of, read_line, granted, opens_line, catalogs_left}
use Rattle.script_plan.specs.Serial.{Run, next_caller, outcome, with_outcome, played, begun, commands_played, serial_lines, setting, TurnOutcome}
use Rattle.script_plan.specs.Prints.{TaskLine, with_tasks, bound_by, places_in, all_places, PlacedCall, calls_after, with_placed, history_below, Around, around, past, next_place, seen, global_of, IsReadBetween, IsHoldRefused, IsReadOf, IsRead, IsGranted, AreAnswered, caller_of, caller_after, callers_after, command_calls, all_turns, AreNewest, PrintsInOrder, catalog_places_in, all_catalog_places, IsCatalogCall, IsOpenOf, IsOpen}
use Rattle.script_plan.proofs.LineLists.{GoUp, is_this, bit_of, count_more}
use Rattle.script_serial.proofs.Unstamped.{unstamped, unstamped_append, unstamped_length, answer_same}
use Rattle.script_serial.proofs.SerialLines.{granted_caller, next_is, first_places, IsCounted, one_turn, granted_places, added, added_append}
use Rattle.script_serial.proofs.SerialCalls.{call_at, calls_from, calls_length, find_newest, legal_before, same_entry, past_is, granted_legal, granted_gains, wish_in, task_line_of, line_thread, bound_next, calls_here, calls_played, with_tasks_first}
use Rattle.script_serial.proofs.SerialSeen.{own_past, next_of, own_seen, selection_seen, holds_seen, own_back, granted_next}
use Rattle.script_plan.proofs.GoingOn.{is_at, GoesOnFrom, goes_nowhere, wished_calls, below_on}
use Rattle.script_plan.proofs.VersionLemmas.{global_on}
use Rattle.script_serial.proofs.SerialAnswered.{places_so_far}
use Rattle.script_serial.proofs.SerialPrints.{serial_is}
use Rattle.script_lines.specs.Catalogs.{Books, Asked, book_for, catalog_setting, handle_meant, object_used, asked_after, catalogs_after, open_line, message_line, close_line}
use Rattle.script_serial.proofs.CatalogLines.{GoOnFrom}
use Rattle.script_serial.proofs.SerialCatalogs.{granted_enters}
use Rattle.catalog_handles.specs.declared.setting.CatalogSetting.{CatalogSetting}
use Rattle.catalog_handles.specs.Entry.{History as CatalogHistory}
use Rattle.catalog_handles.specs.Entry as catalog
use Rattle.catalog_handles.specs.Answer as catalog_answers

-- ---- numbers that go up and are all there

pairs_up : (xs : List ℕ) → AllPairs (λ x y. x < y) xs → GoUp xs
pairs_up [] h = tt
pairs_up (x ∷ xs) h = (λ k d lt. h 0 (suc k) d (omega arith) (omega (arith, lt)), pairs_up xs (λ i j d lt within. h (suc i) (suc j) d (omega (arith, lt)) (omega (arith, within))))

count_above : (p : ℕ) (xs : List ℕ) → All (λ (y : ℕ). p < y) xs → count_by (is_this p) xs ≡ 0
count_above p [] above = refl
count_above p (x ∷ xs) above =
    let lt : p < x = All-head (λ (y : ℕ). p < y) x xs above in
    let no : bit_of p x ≡ 0 = ap (λ (b : Bool). cond b 1 0) (ne_eqb x p (λ same. omega (arith, same, lt))) in
    let rest : count_by (is_this p) xs ≡ 0 = count_above p xs (All-tail (λ (y : ℕ). p < y) x xs above) in
    let more = count_more p x xs in
    omega (arith, no, rest, more)

range_is : (a : ℕ) (xs : List ℕ) → GoUp xs → All (λ (y : ℕ). a ≤ y) xs → ((p : ℕ) → a ≤ p → p < a + length xs → count_by (is_this p) xs ≡ 1) → xs ≡ range_with_len a (length xs)
range_is a [] up from once = refl
range_is a (x ∷ xs) up from once =
    let low : a ≤ x = All-head (λ (y : ℕ). a ≤ y) x xs from in
    elim (cases_lt a x) [
      | inl lt ↦
          let one : count_by (is_this a) (x ∷ xs) ≡ 1 = once a (omega arith) (omega arith) in
          let none : count_by (is_this a) xs ≡ 0 = count_above a xs (All-weaker (λ (y : ℕ). x < y) (λ (y : ℕ). a < y) (λ y h. omega (arith, h, lt)) xs up.0) in
          let no : bit_of a x ≡ 0 = ap (λ (b : Bool). cond b 1 0) (ne_eqb x a (λ same. omega (arith, same, lt))) in
          let more = count_more a x xs in
          absurd (omega (arith, one, none, no, more))
      | inr ge ↦
          let here : x ≡ a = omega (arith, low, ge) in
          let rest : xs ≡ range_with_len (a + 1) (length xs) =
          range_is (a + 1) xs up.1 (All-weaker (λ (y : ℕ). x < y) (λ (y : ℕ). a + 1 ≤ y) (λ y h. omega (arith, h, here)) xs up.0) (λ p above below.
          let one : count_by (is_this p) (x ∷ xs) ≡ 1 = once p (omega (arith, above)) (omega (arith, below)) in
          let no : bit_of p x ≡ 0 = ap (λ (b : Bool). cond b 1 0) (ne_eqb x p (λ same. omega (arith, same, here, above))) in
          let more = count_more p x xs in
          omega (arith, one, no, more))
          in
          ap (λ (n : ℕ). n ∷ xs) here ∙ ap (λ (ns : List ℕ). a ∷ ns) rest
    ]

first_is : (p : ℕ) (rest : List ℕ) (a m : ℕ) → p ∷ rest ≡ range_with_len a m → p ≡ a
first_is p rest a zero is = absurd (cc is)
first_is p rest a (suc m) is = ap (λ (xs : List ℕ). get_or xs 0 0) is

second_is : (p q : ℕ) (rest : List ℕ) (a m : ℕ) → p ∷ q ∷ rest ≡ range_with_len a m → q ≡ a + 1
second_is p q rest a zero is = absurd (cc is)
second_is p q rest a (suc m) is = first_is q rest (a + 1) m (ap (drop 1) is)

-- what is left of numbers from one on
pub record Left (b : ℕ) (ys : List ℕ) : Type 0 where
  pub many : ℕ
  pub is : ys ≡ range_with_len b many

left_of : (xs ys : List ℕ) (a m b : ℕ) → b ≡ a + length xs → xs ++ ys ≡ range_with_len a m → Left b ys
left_of [] ys a m b same is = let here : a ≡ b = omega (arith, same) in record { many = m; is = is ∙ ap (λ (n : ℕ). range_with_len n m) here }
left_of (x ∷ xs) ys a zero b same is = absurd (cc is)
left_of (x ∷ xs) ys a (suc m) b same is = left_of xs ys (a + 1) m b (omega (arith, same)) (ap (drop 1) is)

-- ---- the past, where the first calls are those of a history

past_of : (c : Setting) (H : History) (later : List PlacedCall) → IsLegal c H → history_below c (calls_from H ++ later) (length H) ≡ H
past_of c [] later legal = refl
past_of c (e ∷ H) later legal =
    let call : PlacedCall = call_at H e in
    let calls : List PlacedCall = (calls_from H ++ call ∷ []) ++ later in
    let before : history_below c calls (length H) ≡ H =
    ap (λ (cs : List PlacedCall). history_below c cs (length H)) (append_assoc (calls_from H) (call ∷ []) later) ∙ past_of c H (call ∷ later) legal.1
    in
    let found : find (is_at (length H)) calls ≡ Some call =
    find-append (is_at (length H)) (calls_from H ++ call ∷ []) later
    ∙ ap (λ (o : Option PlacedCall). option_or o (find (is_at (length H)) later)) (find_newest H e)
    in
    ap (λ (G : History). with_placed c G (find (is_at (length H)) calls)) before
    ∙ ap (λ (o : Option PlacedCall). with_placed c H o) found
    ∙ same_entry c H e legal.0

pub record Begins (G F : History) : Type 0 where
  pub rest : List PlacedCall
  pub is : calls_from F ≡ calls_from G ++ rest

begins : (E G : History) → Begins G (E ++ G)
begins [] G = record { rest = []; is = sym (append-nil (calls_from G)) }
begins (e ∷ E) G =
    let b = begins E G in
    record {
      rest = b.rest ++ call_at (E ++ G) e ∷ [];
      is = ap (λ (cs : List PlacedCall). cs ++ call_at (E ++ G) e ∷ []) b.is ∙ append_assoc (calls_from G) b.rest (call_at (E ++ G) e ∷ []);
    }

past_back : (c : Setting) (H G : History) (later : List PlacedCall) → IsLegal c H → GoesOnFrom G H → history_below c (calls_from H ++ later) (length G) ≡ G
past_back c H G later legal on =
    let b = begins on.more G in
    let split : calls_from H ++ later ≡ calls_from G ++ (b.rest ++ later) =
    ap (λ (K : History). calls_from K ++ later) on.is
    ∙ ap (λ (cs : List PlacedCall). cs ++ later) b.is
    ∙ append_assoc (calls_from G) b.rest later
    in
    ap (λ (cs : List PlacedCall). history_below c cs (length G)) split
    ∙ past_of c G (b.rest ++ later) (legal_before c on.more G (subst (IsLegal c) on.is legal))

-- ---- one line

-- what is known of the line that comes after a history
pub record Comes (x : Around) (H : History) (M : CatalogHistory) (at : Caller) (l : OutLine) : Type 0 where
  pub here : past x (length H) ≡ H
  pub seen : seen x at.thread ≡ own_past H at.thread
  pub whole : GoesOnFrom H x.whole
  pub rest : List ℕ
  pub many : ℕ
  pub at_next : places_in l.places ++ rest ≡ range_with_len (length H) many
  pub catalogs : GoOnFrom (unstamped M) (unstamped x.catalogs)
  pub catalogs_rest : List ℕ
  pub catalogs_many : ℕ
  pub catalogs_at_next : catalog_places_in l.places ++ catalogs_rest ≡ range_with_len (length M) catalogs_many
  pub newest : (version : ℕ) → places_in l.places ≡ [] → l.global ≡ Some version → version ≡ sets H

-- the place of a line with one place
one_is : {x : Around} {H : History} {M : CatalogHistory} {at : Caller} {l : OutLine} (k : Comes x H M at l) (place : ℕ) → l.places ≡ places.One place → place ≡ length H
one_is {x} {H} {M} {at} {l} k place is = first_is place k.rest (length H) k.many (ap (λ (p : Places). places_in p ++ k.rest) (sym is) ∙ k.at_next)

two_are : {x : Around} {H : History} {M : CatalogHistory} {at : Caller} {l : OutLine} (k : Comes x H M at l) (hold release : ℕ) → l.places ≡ places.Two hold release → (hold ≡ length H) × (release ≡ length H + 1)
two_are {x} {H} {M} {at} {l} k hold release is =
    let all : hold ∷ release ∷ k.rest ≡ range_with_len (length H) k.many = ap (λ (p : Places). places_in p ++ k.rest) (sym is) ∙ k.at_next in
    (first_is hold (release ∷ k.rest) (length H) k.many all, second_is hold release k.rest (length H) k.many all)

global_is : {x : Around} {H : History} {M : CatalogHistory} {at : Caller} {l : OutLine} (k : Comes x H M at l) → global_of x (sets H) ≡ global x.setting H
global_is {x} {H} {M} {at} {l} k = global_on x.setting H x.whole k.whole

between_same : (x : Around) (H : History) (M : CatalogHistory) (at : Caller) (l : OutLine) (n : Named) (read : Read) → Comes x H M at l → IsReadBetween x at l n read ⊎ IsHoldRefused x at l n
    → l ≡ (reads_between x.setting x.plan.library H at n read (object_held (answer x.setting H at.thread (table.Hold n)))).line
between_same x H M at l n read k (inl r) =
    let c : Setting = x.setting in
    let library : LibraryData = x.plan.library in
    let at_two = two_are k r.hold r.release (ap (λ (m : OutLine). m.places) r.is) in
    let held : object_held (answer c H at.thread (table.Hold n)) ≡ Some r.object =
    ap (λ (G : History). object_held (answer c G at.thread (table.Hold n))) (sym k.here)
    ∙ ap (λ (p : ℕ). object_held (answer c (past x p) at.thread (table.Hold n))) (sym at_two.0)
    ∙ r.held
    in
    let behind : r.release ≡ suc (length H) = let e = at_two.1 in omega (arith, e) in
    r.is
    ∙ ap (λ (p : ℕ). held_line library p r.release at read r.object) at_two.0
    ∙ ap (λ (p : ℕ). held_line library (length H) p at read r.object) behind
    ∙ ap (λ (o : Option Parts). (reads_between c library H at n read o).line) (sym held)
between_same x H M at l n read k (inr r) =
    let c : Setting = x.setting in
    let library : LibraryData = x.plan.library in
    let one : r.place ≡ length H = one_is k r.place (ap (λ (m : OutLine). m.places) r.is) in
    let before : past x r.place ≡ H = ap (past x) one ∙ k.here in
    let refused : object_held (answer c H at.thread (table.Hold n)) ≡ None = ap (λ (G : History). object_held (answer c G at.thread (table.Hold n))) (sym before) ∙ r.held in
    r.is
    ∙ ap (λ (G : History). placed_line library r.place at AllCategories (answer c G at.thread (table.Hold n))) before
    ∙ ap (λ (p : ℕ). placed_line library p at AllCategories (answer c H at.thread (table.Hold n))) one
    ∙ ap (λ (o : Option Parts). (reads_between c library H at n read o).line) (sym refused)

of_same : (x : Around) (H : History) (M : CatalogHistory) (at : Caller) (l : OutLine) (n : Named) (read : Read) (held : Option Parts) → Comes x H M at l → IsReadOf x at l n read held
    → l ≡ (reads_of x.setting x.plan.library H at n read held).line
of_same x H M at l n read (Some object) k is = is
of_same x H M at l n read None k is = between_same x H M at l n read k is

read_same : (x : Around) (H : History) (M : CatalogHistory) (at : Caller) (l : OutLine) (read : Read) (object : Option Parts) → Comes x H M at l → IsRead x at l read object
    → l ≡ read_line x.setting x.plan.library H at read object
read_same x H M at l read (Some object) k is = is
read_same x H M at l read None k r =
    let version : r.version ≡ sets H = k.newest r.version (ap (λ (m : OutLine). places_in m.places) r.is) (ap (λ (m : OutLine). m.global) r.is) in
    r.is
    ∙ ap (λ (v : ℕ). global_read_line x.plan.library at read v (global_of x v)) version
    ∙ ap (global_read_line x.plan.library at read (sets H)) (global_is k)

-- the line is this one, and the catalogs go on from this history of theirs, but for stamps
pub record IsNext (x : Around) (printed : OutLine) (M : CatalogHistory) (l : OutLine) : Type 0 where
  pub line : l ≡ printed
  pub catalogs : GoOnFrom (unstamped M) (unstamped x.catalogs)

-- two ways to cut a list at one length from its end are one
same_end : (es bs M N : CatalogHistory) → es ++ M ≡ bs ++ N → length M ≡ length N → (M ≡ N) × (es ≡ bs)
same_end [] [] M N is same = (is, refl)
same_end [] (b ∷ bs) M N is same =
    let long : length M ≡ length (b ∷ (bs ++ N)) = ap length is in
    let sum = length-append bs N in
    absurd (omega (arith, long, sum, same))
same_end (a ∷ es) [] M N is same =
    let long : length (a ∷ (es ++ M)) ≡ length N = ap length is in
    let sum = length-append es M in
    absurd (omega (arith, long, sum, same))
same_end (a ∷ es) (b ∷ bs) M N is same =
    let rest = same_end es bs M N (ap (drop 1) is) same in
    let first : a ≡ b = ap (λ (xs : CatalogHistory). get_or xs 0 a) is in
    (rest.0, ap (λ (e : catalog.Entry). e ∷ es) first ∙ ap (λ (xs : CatalogHistory). b ∷ xs) rest.1)

-- the line of a call of the catalogs has their next place, and prints the answer to what they were asked before
call_same : (x : Around) (H : History) (M : CatalogHistory) (at : Caller) (l : OutLine) (op : catalog.Op) (printed : Asked → OutLine)
    → ((a : Asked) → catalog_places_in (printed a).places ≡ a.place ∷ []) → Comes x H M at l → IsCatalogCall x at l op printed
    → IsNext x (printed (asked_after (catalog_setting x.setting) M at.thread (Some op))) (catalogs_after (catalog_setting x.setting) M at.thread (length H) (Some op)) l
call_same x H M at l op printed placed k r =
    let c : CatalogSetting = catalog_setting x.setting in
    let t : ℕ = at.thread in
    let a : Asked = r.asked in
    let here : catalog_places_in l.places ≡ a.place ∷ [] = ap (λ (m : OutLine). catalog_places_in m.places) r.is ∙ placed a in
    let place : a.place ≡ length M = first_is a.place k.catalogs_rest (length M) k.catalogs_many (ap (λ (ps : List ℕ). ps ++ k.catalogs_rest) (sym here) ∙ k.catalogs_at_next) in
    let N : CatalogHistory = r.stands.before in
    let reply : CatalogHistory → catalog.Reply = λ (K : CatalogHistory). catalog_answers.answer c K t op in
    let behind : CatalogHistory = unstamped r.stands.behind in
    let e : catalog.Entry = record { who = t; op = op; reply = reply N; stamp = 0 } in
    let whole : unstamped x.catalogs ≡ behind ++ e ∷ unstamped N = ap unstamped r.stands.whole ∙ unstamped_append r.stands.behind (catalog_answers.entry c N t op r.stands.stamp ∷ N) in
    let long : length (unstamped M) ≡ length (unstamped N) = unstamped_length M ∙ sym place ∙ r.stands.place ∙ sym (unstamped_length N) in
    let cut : (unstamped M ≡ unstamped N) × (k.catalogs.more ≡ behind ++ e ∷ []) =
    same_end k.catalogs.more (behind ++ e ∷ []) (unstamped M) (unstamped N) (sym k.catalogs.is ∙ whole ∙ sym (append_assoc behind (e ∷ []) (unstamped N))) long
    in
    let answers : reply N ≡ reply M = sym (answer_same c N t op) ∙ ap reply (sym cut.0) ∙ answer_same c M t op in
    let asked : a ≡ asked_after c M t (Some op) =
    ap (λ (p : ℕ). record { place = p; reply = a.reply }) place
    ∙ ap (λ (q : catalog.Reply). record { place = length M; reply = q }) (r.stands.reply ∙ answers)
    in
    record {
      line = r.is ∙ ap printed asked;
      catalogs = record {
        more = behind;
        is = whole ∙ ap (λ (q : catalog.Reply). behind ++ record { who = t; op = op; reply = q; stamp = 0 } ∷ unstamped N) answers
            ∙ ap (λ (K : CatalogHistory). behind ++ record { who = t; op = op; reply = reply M; stamp = 0 } ∷ K) (sym cut.0);
      };
    }

open_same : (x : Around) (H : History) (M : CatalogHistory) (at : Caller) (l : OutLine) (version n : Option ℕ) → Comes x H M at l → IsOpenOf x at l version n
    → let op = option_map catalog.Open n in
    IsNext x (open_line at version (asked_after (catalog_setting x.setting) M at.thread op) n) (catalogs_after (catalog_setting x.setting) M at.thread (length H) op) l
open_same x H M at l version None k is = record { line = is; catalogs = k.catalogs }
open_same x H M at l version (Some n) k r = call_same x H M at l (catalog.Open n) (λ (a : Asked). open_line at version a (Some n)) (λ a. refl) k r

-- a line of a catopen prints its version, and no place of the table
open_printed : (x : Around) (at : Caller) (l : OutLine) (version n : Option ℕ) → IsOpenOf x at l version n → (places_in l.places ≡ []) × (l.global ≡ version)
open_printed x at l version None is = (ap (λ (m : OutLine). places_in m.places) is, ap (λ (m : OutLine). m.global) is)
open_printed x at l version (Some n) r = (ap (λ (m : OutLine). places_in m.places) r.is, ap (λ (m : OutLine). m.global) r.is)

opens_same : (x : Around) (H : History) (M : CatalogHistory) (at : Caller) (l : OutLine) (name : List ℕ) (object : Option Parts) → Comes x H M at l → IsOpen x at l name object
    → let op = option_map catalog.Open (book_for x.plan.library (books_of x.plan) (object_used object (global x.setting H)) name) in
    IsNext x (opens_line x.setting x.plan.library (books_of x.plan) H at name (asked_after (catalog_setting x.setting) M at.thread op) object) (catalogs_after (catalog_setting x.setting) M at.thread (length H) op) l
opens_same x H M at l name (Some object) k is = open_same x H M at l None (book_for x.plan.library (books_of x.plan) object name) k is
opens_same x H M at l name None k r =
    let n : Parts → Option ℕ = λ (o : Parts). book_for x.plan.library (books_of x.plan) o name in
    let printed : (places_in l.places ≡ []) × (l.global ≡ Some r.version) = open_printed x at l (Some r.version) (n (global_of x r.version)) r.opens in
    let version : r.version ≡ sets H = k.newest r.version printed.0 printed.1 in
    open_same x H M at l (Some (sets H)) (n (global x.setting H)) k
    (subst (λ (o : Parts). IsOpenOf x at l (Some (sets H)) (n o)) (global_is k)
    (subst (λ (v : ℕ). IsOpenOf x at l (Some v) (n (global_of x v))) version r.opens))

-- what the relation says of the next line leaves one line alone
granted_same : (x : Around) (H : History) (M : CatalogHistory) (at : Caller) (l : OutLine) (w : Result Wish Why) → Comes x H M at l → IsGranted x at l w
    → IsNext x (granted x.setting x.plan.library (books_of x.plan) H M at w).line (catalogs_left x.setting x.plan.library (books_of x.plan) H M at.thread w) l
granted_same x H M at l (Err why) k is = record { line = is; catalogs = k.catalogs }
granted_same x H M at l (Ok (Calls categories op)) k r =
    let c : Setting = x.setting in
    let library : LibraryData = x.plan.library in
    let one : r.place ≡ length H = one_is k r.place (ap (λ (m : OutLine). m.places) r.is) in
    record {
      line =
          r.is
          ∙ ap (λ (p : ℕ). placed_line library p at categories (answer c (past x p) at.thread op)) one
          ∙ ap (λ (G : History). placed_line library (length H) at categories (answer c G at.thread op)) k.here;
      catalogs = k.catalogs;
    }
granted_same x H M at l (Ok (ReadsOf n read)) k is =
    let t : ℕ = at.thread in
    let same : held_as (open_holds (seen x t) t) n ≡ held_as (open_holds H t) n = ap (λ hs. held_as hs n) (ap (λ (G : History). open_holds G t) k.seen ∙ holds_seen H t) in
    record { line = of_same x H M at l n read (held_as (open_holds H t) n) k (subst (IsReadOf x at l n read) same is); catalogs = k.catalogs }
granted_same x H M at l (Ok (Reads read)) k is =
    let t : ℕ = at.thread in
    let same : own (seen x t) t ≡ own H t = ap (λ (G : History). own G t) k.seen ∙ own_seen H t in
    record { line = read_same x H M at l read (own H t) k (subst (IsRead x at l read) same is); catalogs = k.catalogs }
granted_same x H M at l (Ok AsksSelection) k is =
    let t : ℕ = at.thread in
    record { line = is ∙ ap (λ (s : Named). plain_line at (said.Is s)) (ap (λ (G : History). selection G t) k.seen ∙ selection_seen H t); catalogs = k.catalogs }
granted_same x H M at l (Ok (AsksName categories)) k r =
    let version : r.version ≡ sets H = k.newest r.version (ap (λ (m : OutLine). places_in m.places) r.is) (ap (λ (m : OutLine). m.global) r.is) in
    record {
      line =
          r.is
          ∙ ap (λ (v : ℕ). global_name_line x.plan.library at categories v (global_of x v)) version
          ∙ ap (global_name_line x.plan.library at categories (sets H)) (global_is k);
      catalogs = k.catalogs;
    }
granted_same x H M at l (Ok (OpensCatalog name)) k is =
    let t : ℕ = at.thread in
    let same : own (seen x t) t ≡ own H t = ap (λ (G : History). own G t) k.seen ∙ own_seen H t in
    opens_same x H M at l name (own H t) k (subst (IsOpen x at l name) same is)
granted_same x H M at l (Ok (GetsMessage h set message default)) k r =
    call_same x H M at l (catalog.Get (handle_meant h)) (λ (a : Asked). message_line (books_of x.plan) at set message default a) (λ a. refl) k r
granted_same x H M at l (Ok (ClosesCatalog h)) k r = call_same x H M at l (catalog.Close (handle_meant h)) (λ (a : Asked). close_line at a) (λ a. refl) k r

-- ---- all lines

-- the lines that are left, behind those of a run
pub record AreLeft (c : Setting) (plan : PlanData) (all : List OutLine) (V : CatalogHistory) (calls : List PlacedCall) (run : Run) (before : List TaskLine) (turns : List Turn) (lines : List OutLine) : Type 0 where
  pub legal : IsLegal c run.history
  pub calls_are : calls ≡ calls_from run.history ++ calls_after plan.library before (with_tasks turns lines)
  pub bounds : bound_by before ≡ run.bindings
  pub next : (t : ℕ) → next_place t before ≡ length (own_past run.history t)
  pub counted : IsCounted run
  pub callers : map caller_of lines ≡ callers_after (map caller_of run.lines) turns
  pub placed : Left (length run.history) (all_places lines)
  pub catalogs : GoOnFrom (unstamped run.catalogs) (unstamped V)
  pub catalogs_placed : Left (length run.catalogs) (all_catalog_places lines)
  pub are_answered : AreAnswered c plan all V calls before (with_tasks turns lines)
  pub newest : AreNewest c calls run.lines lines

none_left : (c : Setting) (plan : PlanData) (all : List OutLine) (V : CatalogHistory) (calls : List PlacedCall) (run : Run) (before : List TaskLine) (lines : List OutLine) → AreLeft c plan all V calls run before [] lines → lines ≡ []
none_left c plan all V calls run before [] w = refl
none_left c plan all V calls run before (l ∷ lines) w = no_caller w.callers
  where
    no_caller : caller_of l ∷ map caller_of lines ≡ [] → l ∷ lines ≡ []
    no_caller is = absurd (cc is)

line_whose : (c : Setting) (plan : PlanData) (all : List OutLine) (V : CatalogHistory) (calls : List PlacedCall) (run : Run) (before : List TaskLine) (turn : Turn) (turns : List Turn) (l : OutLine) (lines : List OutLine) → AreLeft c plan all V calls run before (turn ∷ turns) (l ∷ lines)
    → caller_of l ≡ next_caller run turn
line_whose c plan all V calls run before turn turns l lines w = ap (λ (cs : List Caller). get_or cs 0 (caller_of l)) w.callers ∙ sym (next_is run turn)

line_is : (c : Setting) (plan : PlanData) (all : List OutLine) (V : CatalogHistory) (calls : List PlacedCall) (run : Run) (before : List TaskLine) (turn : Turn) (turns : List Turn) (l : OutLine) (lines : List OutLine) → AreLeft c plan all V calls run before (turn ∷ turns) (l ∷ lines)
    → let done = outcome c plan.library (books_of plan) run turn in IsNext (around c plan all V calls before (with_tasks turns lines)) done.line done.catalogs l
line_is c plan all V calls run before turn turns l lines w =
    let H : History = run.history in
    let M : CatalogHistory = run.catalogs in
    let at : Caller = next_caller run turn in
    let x : Around = around c plan all V calls before (with_tasks turns lines) in
    let later : List PlacedCall = calls_after plan.library before (with_tasks (turn ∷ turns) (l ∷ lines)) in
    let back : (G : History) → GoesOnFrom G H → past x (length G) ≡ G = λ G on. ap (λ (cs : List PlacedCall). history_below c cs (length G)) w.calls_are ∙ past_back c H G later w.legal on in
    let here : past x (length H) ≡ H = back H (goes_nowhere H) in
    let long : length H ≤ length calls =
    let is : length calls ≡ length (calls_from H ++ later) = ap length w.calls_are in
    let sum = length-append (calls_from H) later in
    let same = calls_length H in
    omega (arith, is, sum, same)
    in
    let whose : caller_of l ≡ at = line_whose c plan all V calls run before turn turns l lines w in
    let thread : l.thread ≡ turn.thread = ap (λ (a : Caller). a.thread) whose in
    let comes : Comes x H M at l = record {
      here = here;
      seen = ap (past x) (w.next turn.thread) ∙ back (own_past H turn.thread) (own_back H turn.thread);
      whole = subst (λ (G : History). GoesOnFrom G (past x (length calls))) here (below_on c calls (length H) (length calls) long);
      rest = all_places lines;
      many = w.placed.many;
      at_next = w.placed.is;
      catalogs = w.catalogs;
      catalogs_rest = all_catalog_places lines;
      catalogs_many = w.catalogs_placed.many;
      catalogs_at_next = w.catalogs_placed.is;
      newest = λ version none is. w.newest.0 version none is ∙ ap (λ (n : ℕ). sets (past x n)) (places_so_far run w.counted) ∙ ap sets here;
    }
    in
    let wished : wish_of plan.library (bindings_of l.thread (bound_by before)) turn.task ≡ wish_in plan.library run turn =
    ap (λ (t : ℕ). wish_of plan.library (bindings_of t (bound_by before)) turn.task) thread
    ∙ ap (λ (bs : List Bound). wish_of plan.library (bindings_of turn.thread bs) turn.task) w.bounds
    in
    granted_same x H M at l (wish_in plan.library run turn) comes
    (subst (IsGranted x at l) wished
    (subst (λ (a : Caller). IsGranted x a l (wish_of plan.library (bindings_of l.thread (bound_by before)) turn.task)) whose w.are_answered.0))

-- the lines that are left after one more turn, where its line is the one that it leaves
one_left : (c : Setting) (plan : PlanData) (all : List OutLine) (V : CatalogHistory) (calls : List PlacedCall) (run : Run) (before : List TaskLine) (turn : Turn) (turns : List Turn) (lines : List OutLine)
    → let done = outcome c plan.library (books_of plan) run turn in
    AreLeft c plan all V calls run before (turn ∷ turns) (done.line ∷ lines) → GoOnFrom (unstamped done.catalogs) (unstamped V) → AreLeft c plan all V calls (with_outcome run turn done) (task_line_of turn done.line ∷ before) turns lines
one_left c plan all V calls run before turn turns lines w on =
    let done : TurnOutcome = outcome c plan.library (books_of plan) run turn in
    let l : OutLine = done.line in
    let H : History = run.history in
    let M : CatalogHistory = run.catalogs in
    let at : Caller = next_caller run turn in
    let wished : Result Wish Why = wish_in plan.library run turn in
    let d : TaskLine = task_line_of turn l in
    let after : List PlacedCall = calls_after plan.library (d ∷ before) (with_tasks turns lines) in
    let gained : length done.history ≡ length H + length (places_in l.places) =
    let is : length (first_places (length H) ++ places_in l.places) ≡ length (first_places (length done.history)) = ap length (granted_places c plan.library (books_of plan) H M at wished) in
    let sum = length-append (first_places (length H)) (places_in l.places) in
    let old = length-range_with_len 0 (length H) in
    let new = length-range_with_len 0 (length done.history) in
    omega (arith, is, sum, old, new)
    in
    let entered : length done.catalogs ≡ length M + length (catalog_places_in l.places) =
    let is : length (first_places (length M) ++ catalog_places_in l.places) ≡ length (first_places (length done.catalogs)) = ap length (granted_enters c plan.library (books_of plan) H M at wished) in
    let sum = length-append (first_places (length M)) (catalog_places_in l.places) in
    let old = length-range_with_len 0 (length M) in
    let new = length-range_with_len 0 (length done.catalogs) in
    omega (arith, is, sum, old, new)
    in
    record {
      legal = granted_legal c plan.library (books_of plan) H M at wished w.legal;
      calls_are =
          w.calls_are
          ∙ ap (λ (here : List PlacedCall). calls_from H ++ (here ++ after)) (calls_here c plan.library (books_of plan) run before turn w.bounds)
          ∙ sym (append_assoc (calls_from H) (wished_calls turn.thread (places_in l.places) wished) after)
          ∙ ap (λ (cs : List PlacedCall). cs ++ after) (sym (granted_gains c plan.library (books_of plan) H M at wished));
      bounds = bound_next c plan.library (books_of plan) run before turn w.bounds;
      next = λ t.
          ap (λ (n : ℕ). next_of (l.thread == t) (places_in l.places) n) (w.next t)
          ∙ ap (λ (thread : ℕ). next_of (thread == t) (places_in l.places) (length (own_past H t))) (line_thread c plan.library (books_of plan) run turn)
          ∙ granted_next t c plan.library (books_of plan) H M at wished;
      counted = one_turn c plan.library (books_of plan) run turn w.counted;
      callers =
          let before_it : List Caller = map caller_of run.lines in
          let longer : map caller_of (run.lines ++ l ∷ []) ≡ before_it ++ caller_after before_it turn ∷ [] =
          map-append caller_of run.lines (l ∷ []) ∙ ap (λ (a : Caller). before_it ++ a ∷ []) (granted_caller c plan.library (books_of plan) H M at wished ∙ next_is run turn)
          in
          ap (drop 1) w.callers ∙ ap (λ (cs : List Caller). callers_after cs turns) (sym longer);
      placed = left_of (places_in l.places) (all_places lines) (length H) w.placed.many (length done.history) gained w.placed.is;
      catalogs = on;
      catalogs_placed = left_of (catalog_places_in l.places) (all_catalog_places lines) (length M) w.catalogs_placed.many (length done.catalogs) entered w.catalogs_placed.is;
      are_answered = w.are_answered.1;
      newest = w.newest.1;
    }

-- what is left after turns
pub record Rest (c : Setting) (plan : PlanData) (all : List OutLine) (V : CatalogHistory) (calls : List PlacedCall) (run : Run) (turns more : List Turn) (lines : List OutLine) : Type 0 where
  pub before : List TaskLine
  pub others : List OutLine
  pub is : lines ≡ added c plan.library (books_of plan) run turns ++ others
  pub left : AreLeft c plan all V calls (played c plan.library (books_of plan) run turns) before more others

rest_of : (c : Setting) (plan : PlanData) (all : List OutLine) (V : CatalogHistory) (calls : List PlacedCall) (run : Run) (before : List TaskLine) (turns more : List Turn) (lines : List OutLine) → AreLeft c plan all V calls run before (turns ++ more) lines
    → Rest c plan all V calls run turns more lines
rest_of c plan all V calls run before [] more lines w = record { before = before; others = lines; is = refl; left = w }
rest_of c plan all V calls run before (turn ∷ turns) more [] w = no_turn w.callers
  where
    no_turn : [] ≡ caller_after (map caller_of run.lines) turn ∷ callers_after (map caller_of run.lines ++ caller_after (map caller_of run.lines) turn ∷ []) (turns ++ more) → Rest c plan all V calls run (turn ∷ turns) more []
    no_turn is = absurd (cc is)
rest_of c plan all V calls run before (turn ∷ turns) more (l ∷ lines) w =
    let done : TurnOutcome = outcome c plan.library (books_of plan) run turn in
    let is_next = line_is c plan all V calls run before turn (turns ++ more) l lines w in
    let same : l ≡ done.line = is_next.line in
    let w' : AreLeft c plan all V calls run before (turn ∷ (turns ++ more)) (done.line ∷ lines) = subst (λ (m : OutLine). AreLeft c plan all V calls run before (turn ∷ (turns ++ more)) (m ∷ lines)) same w in
    let rest : Rest c plan all V calls (with_outcome run turn done) turns more lines =
    rest_of c plan all V calls (with_outcome run turn done) (task_line_of turn done.line ∷ before) turns more lines (one_left c plan all V calls run before turn (turns ++ more) lines w' is_next.catalogs)
    in
    record {
      before = rest.before;
      others = rest.others;
      is = ap (λ (m : OutLine). m ∷ lines) same ∙ ap (λ (ls : List OutLine). done.line ∷ ls) rest.is;
      left = rest.left;
    }

-- ---- the one list

all_of : (xs others lines : List OutLine) → lines ≡ xs ++ others → others ≡ [] → lines ≡ xs
all_of xs others lines is none = is ∙ ap (λ (ls : List OutLine). xs ++ ls) none ∙ append-nil xs

joined : (c : Setting) (library : LibraryData) (books : Books) (xs ys : List Turn) (lines others : List OutLine) → lines ≡ added c library books begun xs ++ others → others ≡ added c library books (played c library books begun xs) ys
    → lines ≡ added c library books begun (xs ++ ys)
joined c library books xs ys lines others first rest =
    first ∙ ap (λ (ls : List OutLine). added c library books begun xs ++ ls) rest ∙ sym (added_append c library books begun xs ys)

pub only_serial : (rows generations : ℕ) (plan : PlanData) (lines : List OutLine) → PrintsInOrder (setting plan rows generations) plan lines → lines ≡ serial_lines rows generations plan
only_serial rows generations plan lines w =
    let c : Setting = setting plan rows generations in
    let library : LibraryData = plan.library in
    let books : Books = books_of plan in
    let V : CatalogHistory = w.prints.catalogs in
    let commands : List Turn = command_turns plan.bundle in
    let own : History = history_below c (command_calls plan lines) (length (command_calls plan lines)) in
    let turns : List Turn = all_turns c plan lines in
    let calls : List PlacedCall = calls_after library [] (with_tasks turns lines) in
    let up : GoUp (all_places lines) = pairs_up (all_places lines) (AllPairs-from_increasing (all_places lines) w.in_order) in
    let catalogs_up : GoUp (all_catalog_places lines) = pairs_up (all_catalog_places lines) (AllPairs-from_increasing (all_catalog_places lines) w.catalogs_in_order) in
    let begin : AreLeft c plan lines V calls begun [] (commands ++ closing_turns plan.bundle own) lines = record {
      legal = tt;
      calls_are = refl;
      bounds = refl;
      next = λ t. refl;
      counted = refl;
      callers = w.prints.callers;
      placed = record { many = length (all_places lines); is = range_is 0 (all_places lines) up (λ k d lt. omega arith) (λ p low high. w.prints.placed.once p (omega (arith, high))) };
      catalogs = record { more = unstamped V; is = sym (append-nil (unstamped V)) };
      catalogs_placed = record {
        many = length (all_catalog_places lines);
        is = range_is 0 (all_catalog_places lines) catalogs_up (λ k d lt. omega arith) (λ p low high. w.prints.catalogs_placed.once p (omega (arith, high)));
      };
      are_answered = w.prints.answered;
      newest = w.newest;
    }
    in
    let first = rest_of c plan lines V calls begun [] commands (closing_turns plan.bundle own) lines begin in
    let commanded : History = (commands_played c plan).history in
    let own_calls : command_calls plan lines ≡ calls_from commanded =
    ap (λ (ls : List OutLine). calls_after library [] (with_tasks commands ls)) first.is
    ∙ ap (calls_after library []) (with_tasks_first c library books begun commands first.others)
    ∙ calls_played c library books begun [] commands refl
    in
    let same : own ≡ commanded =
    ap (λ (cs : List PlacedCall). history_below c cs (length cs)) own_calls
    ∙ ap (history_below c (calls_from commanded)) (calls_length commanded)
    ∙ past_is c commanded commanded first.left.legal (goes_nowhere commanded)
    in
    let closing : List Turn = closing_turns plan.bundle commanded in
    let run : Run = commands_played c plan in
    let left : AreLeft c plan lines V calls run first.before (closing ++ []) first.others =
    subst (λ (ts : List Turn). AreLeft c plan lines V calls run first.before ts first.others) (ap (closing_turns plan.bundle) same ∙ sym (append-nil closing)) first.left
    in
    let last = rest_of c plan lines V calls run first.before closing [] first.others left in
    let none : last.others ≡ [] = none_left c plan lines V calls (played c library books run closing) last.before last.others last.left in
    let rest : first.others ≡ added c library books run closing = all_of (added c library books run closing) last.others first.others last.is none in
    joined c library books commands closing lines first.others first.is rest ∙ sym (serial_is rows generations plan)
