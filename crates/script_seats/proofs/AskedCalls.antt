-- What a call of the catalogs leaves of a thread, as a board says it.
use Rattle.std.proofs.Common.{◌≡◌, ℕ, ◌+◌, ◌≤◌, ◌∷◌, length, refl, sym, ap, subst, ◌∙◌, arith}
use Rattle.turn_gate.specs.Callers.{Gate}
use Rattle.std.proofs.lemmas.List.{length-append}
use Rattle.mask_compose.specs.Parts.{Parts}
use Rattle.handle_table.specs.Entry.{History, Setting}
use Rattle.handle_table.specs.History.{sets, global_at}
use Rattle.thread_current.specs.Thread.{Thread, SawMore, GoesOnFrom as ThreadGoesOn, IsInOrder as IsInOrderAt}
use Rattle.thread_current.proofs.Calls.{saw_both}
use Rattle.catalog_handles.specs.declared.setting.CatalogSetting.{CatalogSetting}
use Rattle.catalog_handles.specs.Entry as catalogs
use Rattle.catalog_handles.specs.Entry.{History as CatalogHistory}
use Rattle.catalog_handles.specs.Answer as catalog_answers
use Rattle.catalog_handles.specs.Reader.{GoesOnFrom, entries_by, IsInOrder, Answered}
use Rattle.script_lines.specs.Board.{AnswersCatalog, Asks}
use Rattle.script_lines.specs.Catalogs.{catalog_setting}
use Rattle.script_seats.specs.declared.seated.Seated.{Seated}
use Rattle.script_seats.specs.Seated.{Gates, IsSeatedAt, IsAskingAt, HasCalls, CanCall, MayFollow, MayFollowAsked}
use Rattle.script_seats.proofs.SeatLemmas.{Found, finds_at, ready_same, asks_kept}

pub asked_at_all : (gate here : Gate CatalogSetting) (old new : Seated) (op : catalogs.Op) (least place stamp : ℕ) (reply : catalogs.Reply) → here ≡ gate → Answered here old.reader new.reader op least place stamp reply
    → Answered gate old.reader new.reader op least place stamp reply
asked_at_all gate here old new op least place stamp reply one a = subst (λ (g : Gate CatalogSetting). Answered g old.reader new.reader op least place stamp reply) one a

answers_asked : (g : Gates) (old new : Seated) (op : catalogs.Op) (least place stamp : ℕ) (reply : catalogs.Reply) (low high : ℕ) → CanCall 1 g old → Answered g.catalogs old.reader new.reader op least place stamp reply
    → IsInOrder g.catalogs.terms new.reader → new.number ≡ old.number → low ≤ least → stamp ≤ high → (M : CatalogHistory) → IsAskingAt g.catalogs old M
    → AnswersCatalog (catalog_setting g.locales.terms.setting) (MayFollowAsked g.locales.terms.setting old.number) (IsAskingAt g.catalogs new) old.number M op low high place reply
answers_asked g old new op least place stamp reply low high may a is number from to M at =
    let c : Setting = g.locales.terms.setting in
    let cs : CatalogSetting = g.catalogs.terms.setting in
    let own : old.reader.number ≡ old.number = at.number in
    let reply_is : reply ≡ catalog_answers.answer (catalog_setting c) a.before old.number op =
    a.reply_is ∙ ap (λ (n : ℕ). catalog_answers.answer cs a.before n op) own ∙ ap (λ (s : CatalogSetting). catalog_answers.answer s a.before old.number op) may.agree
    in
    let given : least ≤ stamp = omega (arith, a.stamp_is) in
    record {
      before = a.before;
      is_later = record {
        later = subst (GoesOnFrom a.before) at.seen a.later;
        legal = subst (λ (s : CatalogSetting). catalog_answers.IsLegal s a.before) may.agree a.legal;
        others = ap (λ (n : ℕ). entries_by n a.before) (sym own) ∙ a.others ∙ sym at.in_order.calls ∙ ap (λ (n : ℕ). entries_by n old.reader.seen) own ∙ ap (entries_by old.number) at.seen;
      };
      place_is = a.place_is;
      reply_is = reply_is;
      stamp = stamp;
      since = omega (arith, from, given);
      until = to;
      now_at = record {
        thread = (a.same.table ∙ at.thread.0, a.same.terms ∙ at.thread.1);
        in_order = is;
        seen = a.seen ∙ ap (λ (n : ℕ). record { who = n; op = op; reply = reply; stamp = stamp } ∷ a.before) own ∙ ap (λ (r : catalogs.Reply). record { who = old.number; op = op; reply = r; stamp = stamp } ∷ a.before) reply_is;
        number = a.same.number ∙ own ∙ sym number;
      };
    }

-- the thread has seen more of the table before its call, and as much as the stamp counts behind it
pub asks_left : (g : Gates) (old new : Seated) (op : catalogs.Op) (least place stamp : ℕ) (reply : catalogs.Reply) (version : ℕ) (object : Parts) → CanCall 1 g old → Found g.locales old new version object
    → Answered g.catalogs old.reader new.reader op least place stamp reply → IsInOrder g.catalogs.terms new.reader → new.number ≡ old.number → length old.mine.seen ≤ least → stamp ≤ length new.mine.seen
    → (H : History) (M : CatalogHistory) → IsSeatedAt g.locales old H → IsAskingAt g.catalogs old M
    → Asks g.locales.terms.setting (MayFollow g.locales.terms.setting old.number) (MayFollowAsked g.locales.terms.setting old.number) (IsSeatedAt g.locales new) (IsAskingAt g.catalogs new) old.number H M op place reply
asks_left g old new op least place stamp reply version object may found a is number from to H M here there =
    let low : length H ≤ least = subst (λ (G : History). length G ≤ least) here.knows.seen from in
    record {
      behind = new.mine.seen;
      is_later = subst (MayFollow g.locales.terms.setting old.number new.mine.seen) here.knows.seen found.follows;
      now_at = found.seated;
      answered = answers_asked g old new op least place stamp reply (length H) (length new.mine.seen) may a is number low to M there;
    }

asked_less : (g : Gates) (old new : Seated) (op : catalogs.Op) (least place stamp : ℕ) (reply : catalogs.Reply) → Answered g.catalogs old.reader new.reader op least place stamp reply → IsInOrder g.catalogs.terms new.reader
    → new ≡ record old { reader = new.reader } → (n : ℕ) → CanCall (n + 1) g old → CanCall n g new
asked_less g old new op least place stamp reply a is same n may =
    let at = may.asks.seated in
    let more : length new.reader.calls ≡ length old.reader.calls + 1 = ap (λ (V : CatalogHistory). length V) a.calls ∙ (omega arith) in
    let quota = may.asks.quota in
    let calls = may.calls.quota in
    let made : CanCall n g (record old { reader = new.reader }) = record {
      calls = record {
        seated = record { thread = may.calls.seated.thread; in_order = may.calls.seated.in_order; knows = record { seen = may.calls.seated.knows.seen; number = may.calls.seated.knows.number; holds = may.calls.seated.knows.holds } };
        quota = omega arith;
      };
      asks = record {
        seated = record { thread = (a.same.table ∙ at.thread.0, a.same.terms ∙ at.thread.1); in_order = is; seen = refl; number = a.same.number ∙ at.number };
        quota = omega (arith, more, quota);
      };
      agree = may.agree;
    } in
    subst (CanCall n g) (sym same) made

one_less : (n : ℕ) (gate : Gate Setting) (s : Seated) → HasCalls (n + 1) gate s → HasCalls n gate s
one_less n gate s may = let quota = may.quota in record { seated = may.seated; quota = omega (arith, quota) }

-- the thread may make one call less afterwards
pub asks_less : (g : Gates) (old new : Seated) (op : catalogs.Op) (least place stamp : ℕ) (reply : catalogs.Reply) (version : ℕ) (object : Parts) → Found g.locales old new version object
    → Answered g.catalogs old.reader new.reader op least place stamp reply → IsInOrder g.catalogs.terms new.reader → new.number ≡ old.number → (n : ℕ) → CanCall (n + 1) g old → CanCall n g new
asks_less g old new op least place stamp reply version object found a is number n may =
    let asked : Seated = record old { reader = new.reader } in
    let left : CanCall n g asked = asked_less g old asked op least place stamp reply a is refl n may in
    record {
      calls = ready_same g.locales old new version object found n (one_less n g.locales old may.calls);
      asks = asks_kept g.catalogs n asked new refl number left.asks;
      agree = may.agree;
    }

-- ---- a call of the catalogs between two looks at the table

pub as_long : (G H : History) → ThreadGoesOn G H → length H ≤ length G
as_long G H on =
    let whole : length G ≡ length on.0 + length H = ap (λ (F : History). length F) on.1 ∙ length-append on.0 H in
    omega (arith, whole)

-- what two looks leave of a thread, at a table that is this one
pub looked_twice : (g : Gates) (here : Gate Setting) (old new : Seated) (mid : Thread) → here ≡ g.locales → CanCall 1 g old → SawMore old.mine mid → SawMore mid new.mine
    → IsInOrderAt here.terms new.mine → new.number ≡ old.number → new.holds.items ≡ old.holds.items
    → Found g.locales old new (sets new.mine.seen) (global_at here.terms.setting new.mine.seen (sets new.mine.seen))
looked_twice g here old new mid one may first second is number holds =
    let calls : HasCalls 0 g.locales old = one_less 0 g.locales old may.calls in
    finds_at g.locales here old new (sets new.mine.seen) (global_at here.terms.setting new.mine.seen (sets new.mine.seen)) one calls (saw_both old.mine mid new.mine first second) is number holds refl refl
