-- A thread that has asked the catalogs: what its next line adds, and what stays when it has seen more.
use Rattle.std.proofs.Common.{◌≡◌, ℕ, ◌≤◌, Bool, true, false, cond, List, [], ◌∷◌, ◌++◌, length, Option, Some, None, refl, sym, ap, subst, ◌∙◌, arith, length-append, eq-eqb}
use Rattle.std.specs.Prelude.{◌==◌, All}
use Rattle.std.proofs.lemmas.List.{map-append}
use Rattle.std.proofs.lemmas.List.Elements.{All-nil, All-cons}
use Rattle.turn_gate.specs.declared.entry.Terms.{Terms}
use Rattle.turn_gate.specs.Callers.{Gate}
use Rattle.handle_table.specs.Entry as table
use Rattle.handle_table.specs.Entry.{History, Setting}
use Rattle.thread_current.specs.Thread as threads
use Rattle.catalog_handles.specs.declared.setting.CatalogSetting.{CatalogSetting}
use Rattle.catalog_handles.specs.Entry as catalogs
use Rattle.catalog_handles.specs.Entry.{History as CatalogHistory}
use Rattle.catalog_handles.specs.Answer as catalog_answers
use Rattle.catalog_handles.specs.Reader.{ReaderData, GoesOnFrom, entries_by, SawMore, IsInOrder}
use Rattle.catalog_handles.proofs.Meeting.{goes_same, as_long}
use Rattle.script_lines.specs.Board.{LeftCatalogs}
use Rattle.script_lines.specs.Catalogs.{Asked, catalog_setting}
use Rattle.script_seats.specs.declared.seated.Seated.{Seated}
use Rattle.script_seats.specs.Seated.{IsAskingAt, MayFollowAsked}
use Rattle.script_run.specs.Timed.{Timed, catalog_places_by, asked_place, asked_in, asked_back, HasStanding, StandsAsked}
use Rattle.script_run.specs.Beside.{HasAsked, HasAskedSince}
use Rattle.script_run.proofs.AskedPlaces.{shadow, shadow_places}
use Rattle.script_run.proofs.AskedRounds.{standing_grow}
use Rattle.script_run.proofs.LineSteps.{stamp_by}
use Rattle.script_run.proofs.Seeing as seeing

-- ---- the calls of a thread, by who has called alone

shadow_if : (e : catalogs.Entry) (V : CatalogHistory) (b : Bool) → shadow (cond b (e ∷ V) V) ≡ cond b (record { who = e.who; op = table.End; reply = table.Ended } ∷ shadow V) (shadow V)
shadow_if e V true = refl
shadow_if e V false = refl

shadow_entries : (t : ℕ) (V : CatalogHistory) → threads.entries_by t (shadow V) ≡ shadow (entries_by t V)
shadow_entries t [] = refl
shadow_entries t (e ∷ V) =
    ap (λ (H : History). cond (e.who == t) (record { who = e.who; op = table.End; reply = table.Ended } ∷ H) H) (shadow_entries t V) ∙ sym (shadow_if e (entries_by t V) (e.who == t))

shadow_goes : (W V : CatalogHistory) → GoesOnFrom W V → threads.GoesOnFrom (shadow W) (shadow V)
shadow_goes W V on = (shadow on.0, ap shadow on.1 ∙ map-append (λ (e : catalogs.Entry). record { who = e.who; op = table.End; reply = table.Ended }) on.0 V)

-- the places of a thread whose calls are the same
pub same_asked_places : (t : ℕ) (S W : CatalogHistory) → GoesOnFrom W S → entries_by t W ≡ entries_by t S → catalog_places_by t W ≡ catalog_places_by t S
same_asked_places t S W later same =
    sym (shadow_places t W)
    ∙ seeing.same_places t (shadow S) (shadow W) (shadow_goes W S later) (shadow_entries t W ∙ ap shadow same ∙ sym (shadow_entries t S))
    ∙ shadow_places t S

-- and where a thread has the same calls in a longer history, it has them in one between
pub between_asked_places : (t : ℕ) (S W T : CatalogHistory) → GoesOnFrom W S → GoesOnFrom T W → entries_by t T ≡ entries_by t S → catalog_places_by t W ≡ catalog_places_by t S
between_asked_places t S W T low high same =
    let ends : threads.entries_by t (shadow T) ≡ threads.entries_by t (shadow S) = shadow_entries t T ∙ ap shadow same ∙ sym (shadow_entries t S) in
    sym (shadow_places t W)
    ∙ seeing.same_places t (shadow S) (shadow W) (shadow_goes W S low) (seeing.between_same t (shadow S) (shadow W) (shadow T) (shadow_goes W S low) (shadow_goes T W high) ends)
    ∙ shadow_places t S

-- ---- a thread that saw more

saw_calls : (terms : Terms CatalogSetting) (t u : ReaderData) → IsInOrder terms t → IsInOrder terms u → SawMore t u → entries_by t.number u.seen ≡ entries_by t.number t.seen
saw_calls terms t u before after saw =
    ap (λ (n : ℕ). entries_by n u.seen) (sym saw.same.number) ∙ after.calls ∙ saw.calls ∙ sym before.calls

pub asked_kept : (terms : Terms CatalogSetting) (t u : ReaderData) (made : List Timed) → HasAsked terms t made → SawMore t u → IsInOrder terms u → HasAsked terms u made
asked_kept terms t u made was saw order = record {
  in_order = order;
  standing = standing_grow terms.setting u.seen t.seen made saw.later was.standing;
  places =
      ap (λ (n : ℕ). catalog_places_by n u.seen) saw.same.number
      ∙ same_asked_places t.number t.seen u.seen saw.later (saw_calls terms t u was.in_order order saw)
      ∙ was.places;
}

-- ---- one more line

-- the thread has asked what the line asks, and has seen the answer
pub record AsksNext (gate : Gate CatalogSetting) (old new : Seated) (op : Option catalogs.Op) (asked : Asked) (made : List Timed) (t : Timed) : Type 0 where
  pub asking : IsAskingAt gate new new.reader.seen
  pub has : HasAsked gate.terms new.reader (t ∷ made)
  pub since : HasAskedSince (length old.reader.seen) t
  pub later : GoesOnFrom new.reader.seen old.reader.seen

own_newest : (e : catalogs.Entry) (V : CatalogHistory) → catalog_places_by e.who (e ∷ V) ≡ length V ∷ catalog_places_by e.who V
own_newest e V = ap (λ (b : Bool). cond b (length V ∷ catalog_places_by e.who V) (catalog_places_by e.who V)) (eq-eqb e.who e.who refl)

pub asking_same : (gate : Gate CatalogSetting) (s : Seated) (M : CatalogHistory) → IsAskingAt gate s M → IsAskingAt gate s s.reader.seen
asking_same gate s M at = record { thread = at.thread; in_order = at.in_order; seen = refl; number = at.number }

-- a thread that has asked nothing has made as many calls
pub same_calls_long : (gate : Gate CatalogSetting) (old new : Seated) → IsAskingAt gate old old.reader.seen → IsAskingAt gate new old.reader.seen → new.number ≡ old.number → length new.reader.calls ≡ length old.reader.calls
same_calls_long gate old new was is number =
    ap (λ (V : CatalogHistory). length V) (sym is.in_order.calls)
    ∙ ap (λ (n : ℕ). length (entries_by n new.reader.seen)) (is.number ∙ number ∙ sym was.number)
    ∙ ap (λ (V : CatalogHistory). length (entries_by old.reader.number V)) is.seen
    ∙ ap (λ (V : CatalogHistory). length V) was.in_order.calls

pub asks_next : (c : Setting) (gate : Gate CatalogSetting) (old new : Seated) (op : Option catalogs.Op) (asked : Asked) (low high moment : ℕ) (made : List Timed) (t : Timed) → gate.terms.setting ≡ catalog_setting c
    → IsAskingAt gate old old.reader.seen → HasAsked gate.terms old.reader made → new.number ≡ old.number → t.op ≡ op → t.asked ≡ asked → t.task_line.line.thread ≡ old.number
    → (left : LeftCatalogs (catalog_setting c) (MayFollowAsked c old.number) (IsAskingAt gate new) old.number old.reader.seen op low high asked)
    → t.stamp ≡ stamp_by (catalog_setting c) (MayFollowAsked c old.number) (IsAskingAt gate new) old.reader.seen old.number low high asked op left moment → AsksNext gate old new op asked made t
asks_next c gate old new None asked low high moment made t agree at was number op_is asked_is thread left stamp_is =
    let nothing : asked_in t ≡ [] = ap (λ (o : Option catalogs.Op). asked_place o t.asked) op_is in
    let seen : new.reader.seen ≡ old.reader.seen = left.seen in
    let mine : new.reader.number ≡ old.reader.number = left.number ∙ number ∙ sym at.number in
    record {
      asking = asking_same gate new old.reader.seen left;
      has = record {
        in_order = left.in_order;
        standing = All-cons (HasStanding gate.terms.setting new.reader.seen) t made
            (subst (λ (o : Option catalogs.Op). StandsAsked gate.terms.setting new.reader.seen t.task_line.line.thread o t.asked t.stamp) (sym op_is) tt)
            (subst (λ (V : CatalogHistory). All (HasStanding gate.terms.setting V) made) (sym seen) was.standing);
        places = ap (λ (V : CatalogHistory). catalog_places_by new.reader.number V) seen ∙ ap (λ (n : ℕ). catalog_places_by n old.reader.seen) mine ∙ was.places ∙ ap (λ (ps : List ℕ). ps ++ asked_back made) (sym nothing);
      };
      since = subst (All (λ (p : ℕ). length old.reader.seen ≤ p)) (sym nothing) (All-nil (λ (p : ℕ). length old.reader.seen ≤ p));
      later = subst (λ (V : CatalogHistory). GoesOnFrom V old.reader.seen) (sym seen) (goes_same old.reader.seen);
    }
asks_next c gate old new (Some op) asked low high moment made t agree at was number op_is asked_is thread left stamp_is =
    let cs : CatalogSetting = catalog_setting c in
    let S : CatalogHistory = old.reader.seen in
    let first : CatalogHistory = left.before in
    let f : MayFollowAsked c old.number first S = left.is_later in
    let e : catalogs.Entry = catalog_answers.entry cs first old.number op left.stamp in
    let now : IsAskingAt gate new (e ∷ first) = left.now_at in
    let seen : new.reader.seen ≡ e ∷ first = now.seen in
    let here : asked_in t ≡ asked.place ∷ [] = ap (λ (o : Option catalogs.Op). asked_place o t.asked) op_is ∙ ap (λ (a : Asked). a.place ∷ []) asked_is in
    let mine : new.reader.number ≡ old.number = now.number ∙ number in
    let own : old.reader.number ≡ old.number = at.number in
    let later : GoesOnFrom (e ∷ first) S = (e ∷ f.later.0, ap (λ (V : CatalogHistory). e ∷ V) f.later.1) in
    let long : length S ≤ length first = as_long first S f.later in
    let place : asked.place ≡ length first = left.place_is in
    let stands : StandsAsked cs (e ∷ first) old.number (Some op) asked left.stamp = record { before = first; behind = []; whole = refl; place = place; reply = left.reply_is } in
    let stands_t : StandsAsked cs (e ∷ first) t.task_line.line.thread t.op t.asked t.stamp =
    subst (λ (n : ℕ). StandsAsked cs (e ∷ first) n t.op t.asked t.stamp) (sym thread)
    (subst (λ (o : Option catalogs.Op). StandsAsked cs (e ∷ first) old.number o t.asked t.stamp) (sym op_is)
    (subst (λ (a : Asked). StandsAsked cs (e ∷ first) old.number (Some op) a t.stamp) (sym asked_is)
    (subst (StandsAsked cs (e ∷ first) old.number (Some op) asked) (sym stamp_is) stands)))
    in
    let Here : CatalogSetting → CatalogHistory → Type 0 = λ s V. StandsAsked s V t.task_line.line.thread t.op t.asked t.stamp in
    let before_places : catalog_places_by old.number first ≡ asked_back made =
    same_asked_places old.number S first f.later f.others ∙ ap (λ (n : ℕ). catalog_places_by n S) (sym own) ∙ was.places
    in
    record {
      asking = asking_same gate new (e ∷ first) now;
      has = record {
        in_order = now.in_order;
        standing = All-cons (HasStanding gate.terms.setting new.reader.seen) t made
            (subst (λ (s : CatalogSetting). Here s new.reader.seen) (sym agree) (subst (Here cs) (sym seen) stands_t))
            (subst (λ (V : CatalogHistory). All (HasStanding gate.terms.setting V) made) (sym seen) (standing_grow gate.terms.setting (e ∷ first) S made later was.standing));
        places = ap (λ (V : CatalogHistory). catalog_places_by new.reader.number V) seen ∙ ap (λ (n : ℕ). catalog_places_by n (e ∷ first)) mine ∙ own_newest e first
            ∙ ap (λ (ps : List ℕ). length first ∷ ps) before_places
            ∙ ap (λ (n : ℕ). n ∷ asked_back made) (sym place)
            ∙ ap (λ (ps : List ℕ). ps ++ asked_back made) (sym here);
      };
      since = subst (All (λ (p : ℕ). length S ≤ p)) (sym here) (All-cons (λ (p : ℕ). length S ≤ p) asked.place [] (omega (arith, long, place)) (All-nil (λ (p : ℕ). length S ≤ p)));
      later = subst (λ (V : CatalogHistory). GoesOnFrom V S) (sym seen) later;
    }

-- ---- how much a thread has asked

one_many : (e : catalogs.Entry) (n : ℕ) (es : CatalogHistory) (ps : List ℕ) (b : Bool) → length ps ≡ length es → length (cond b (n ∷ ps) ps) ≡ length (cond b (e ∷ es) es)
one_many e n es ps true same = omega (arith, same)
one_many e n es ps false same = same

as_many : (t : ℕ) (V : CatalogHistory) → length (catalog_places_by t V) ≡ length (entries_by t V)
as_many t [] = refl
as_many t (e ∷ V) = one_many e (length V) (entries_by t V) (catalog_places_by t V) (e.who == t) (as_many t V)

one_at_most : (op : Option catalogs.Op) (asked : Asked) → length (asked_place op asked) ≤ 1
one_at_most None asked = omega arith
one_at_most (Some op) asked = omega arith

few_back : (ts : List Timed) → length (asked_back ts) ≤ length ts
few_back [] = omega arith
few_back (t ∷ ts) =
    let one = one_at_most t.op t.asked in
    let more = few_back ts in
    let both = length-append (asked_in t) (asked_back ts) in
    omega (arith, one, more, both)

-- no more than one call for each of its lines
pub asked_few : (terms : Terms CatalogSetting) (r : ReaderData) (made : List Timed) → HasAsked terms r made → length r.calls ≤ length made
asked_few terms r made has =
    let calls : length r.calls ≡ length (entries_by r.number r.seen) = ap (λ (V : CatalogHistory). length V) (sym has.in_order.calls) in
    let many = as_many r.number r.seen in
    let places : length (catalog_places_by r.number r.seen) ≡ length (asked_back made) = ap (λ (ps : List ℕ). length ps) has.places in
    let few = few_back made in
    omega (arith, calls, many, places, few)
