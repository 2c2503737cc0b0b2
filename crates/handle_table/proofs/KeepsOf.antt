-- What a table keeps after each call is as the longer history says.
use Rattle.std.proofs.Common.{◌≡◌, ℕ, suc, ◌+◌, ◌<◌, Bool, true, false, ◌==◌, ◌&&◌, List, [], ◌∷◌, length, None, Some, refl, ap, sym, ◌∙◌, subst, add-one}
use Rattle.std.proofs.lemmas.Bool.{and_right}
use Rattle.std.specs.Prelude.{if◌then◌else◌}
use Rattle.mask_compose.specs.Parts.{Parts, composed}
use Rattle.mask_compose.specs.Offer.{Offered}
use Rattle.generations.specs.Kind.{nth}
use Rattle.generations.proofs.Least.{least_passes}
use Rattle.lc_base.specs.declared.handle.Handle.{Handle}
use Rattle.lc_base.specs.declared.handle.Named.{Named}
use Rattle.lc_base.specs.declared.handle.Named.TheVariants.{Global, Of}
use Rattle.handle_table.specs.declared.op.Refusal.{Refusal}
use Rattle.handle_table.specs.declared.op.Refusal.TheVariants.{AlreadyHeld, NotHeld}
use Rattle.handle_table.specs.Numbers.{object_handles}
use Rattle.handle_table.specs.Entry.{Op, New, Dup, Free, Use, Hold, Release, SetGlobal, Install, Fetch, Pins, End, Entry, History, Setting, names, is_accepted}
use Rattle.handle_table.specs.Shelf.{posix, shelf, installs, from_shelf}
use Rattle.handle_table.specs.History.{handle_in, makes, live, object_named, replies_with, object, selection, holding, posted, sets, global, is_free, free_row}
use Rattle.handle_table.specs.Answer.{no_data, never_made, stale, global_handle, already_held, not_held, first_reason, reasons, unless, made_in, reply_to, answer, entry}
use Rattle.handle_table.specs.Row.{pinned, unpinned}
use Rattle.handle_table.specs.Rows.{changed, all_let_go}
use Rattle.handle_table.specs.Kept.{RowsStand, KeptData, Keeps}
use Rattle.handle_table.specs.Effects.{after_make, after_rebuild, after_free, after_use, after_hold, after_release, after_set, after_install, after_end}
use Rattle.handle_table.proofs.Numbering.{same_itself}
use Rattle.handle_table.proofs.Gone.{no_reason, names_handle, not_refused}
use Rattle.handle_table.proofs.Changes.{object_stays, object_refused, posted_refused, shelf_refused, installs_refused, sets_refused, global_refused, refused_makes, same_either}
use Rattle.handle_table.proofs.Same.{MakesNext, rows_kept, same_refused, same_quiet, same_holders, rows_of_make}
use Rattle.handle_table.proofs.RowsOf.{rows_of_use, rows_of_hold, rows_of_release, rows_of_end, rows_of_free}
use Rattle.handle_table.proofs.PartsOf.{objects_kept, objects_of_base, objects_of_make, selections_kept, selections_written, cells_kept, shelf_kept, shelf_of_install, global_kept, global_of_set}
use Rattle.handle_table.proofs.Says.{object_said}

-- an op with no reason against it is accepted, where what it asks for is
pub unopposed : (c : Setting) (H : History) (w : ℕ) (op : Op) → first_reason (reasons c H w op) ≡ None
    → is_accepted (reply_to c H w op) ≡ true → is_accepted (answer c H w op) ≡ true
unopposed c H w op none accepted = ap (λ r. is_accepted (unless r (reply_to c H w op))) none ∙ accepted

-- a refused call changes nothing that is kept
pub keeps_refused : (c : Setting) (H : History) (w : ℕ) (op : Op) (refusal : Refusal) (kept : KeptData) → w < c.threads
    → first_reason (reasons c H w op) ≡ Some refusal → Keeps c H kept → Keeps c (entry c H w op ∷ H) kept
keeps_refused c H w op refusal kept caller reason k =
    let e : Entry = entry c H w op in
    let refused : is_accepted e.reply ≡ false = ap (λ r. is_accepted (unless r (reply_to c H w op))) reason in
    let same = same_refused e H refused in record {
      legal = (refl, k.legal);
      callers = (caller, k.callers);
      opening = k.opening;
      rows = rows_kept c H (e ∷ H) kept.rows same k.rows;
      objects = objects_kept c e H kept.objects (refl, k.legal) (refused_makes op e.reply refused) (λ h before. object_refused c e H h refused) k.objects;
      selections = selections_kept c H (e ∷ H) kept.selections same.holders.selection k.selections;
      cells = cells_kept c H (e ∷ H) kept.cells (λ t j. posted_refused e H t j refused) k.cells;
      shelf = shelf_kept c H (e ∷ H) kept.installed (λ n. shelf_refused c e H n refused) k.shelf;
      installs = k.installs ∙ sym (installs_refused e H refused);
      global = global_kept c H (e ∷ H) kept.global (sets_refused e H refused) (global_refused c e H refused) k.global;
    }

-- whether the thread holds what is named
abbrev pub holding_of : History → ℕ → Named → Bool
holding_of H w Global = false
holding_of H w (Of h) = holding H w h

unless_held : (b : Bool) → (if b then Some AlreadyHeld else None) ≡ None → b ≡ false
unless_held true p = absurd (cc p)
unless_held false p = refl

unless_unheld : (b : Bool) → (if b then None else Some NotHeld) ≡ None → b ≡ true
unless_unheld true p = refl
unless_unheld false p = absurd (cc p)

-- what a thread begins to hold it did not hold before
unheld_before : (c : Setting) (H : History) (w : ℕ) (g h : Handle) → first_reason (reasons c H w (Hold (Of g))) ≡ None → names (Of g) h ≡ true
    → holding H w h ≡ false
unheld_before c H w g h none is =
    let second = no_reason (never_made H (Of g)) (stale H (Of g) ∷ already_held H w (Of g) ∷ []) none in
    let third = no_reason (stale H (Of g)) (already_held H w (Of g) ∷ []) second.1 in
    let last = no_reason (already_held H w (Of g)) [] third.1 in
    sym (ap (λ n. holding_of H w n) (names_handle (Of g) h is)) ∙ unless_held (holding H w g) last.0

-- what a thread gives up it held before
held_before : (c : Setting) (H : History) (w : ℕ) (g h : Handle) → first_reason (reasons c H w (Release (Of g))) ≡ None → names (Of g) h ≡ true
    → holding H w h ≡ true
held_before c H w g h none is =
    let last = no_reason (not_held H w (Of g)) [] none in
    sym (ap (λ n. holding_of H w n) (names_handle (Of g) h is)) ∙ unless_unheld (holding H w g) last.0

-- a Free
pub keeps_free : (c : Setting) (H : History) (w : ℕ) (n : Named) (kept : KeptData) → w < c.threads
    → first_reason (reasons c H w (Free n)) ≡ None → Keeps c H kept → Keeps c (entry c H w (Free n) ∷ H) (after_free n kept)
keeps_free c H w n kept caller none k =
    let e : Entry = entry c H w (Free n) in
    let accepted = unopposed c H w (Free n) none refl in
    record {
      legal = (refl, k.legal);
      callers = (caller, k.callers);
      opening = k.opening;
      rows = rows_of_free c H w n kept.rows caller accepted k.rows;
      objects = objects_kept c e H kept.objects (refl, k.legal) refl (λ h before. object_stays c e H h (refl, k.legal) before refl) k.objects;
      selections = selections_kept c H (e ∷ H) kept.selections (λ t. same_either (w == t && is_accepted e.reply) (selection H t)) k.selections;
      cells = cells_kept c H (e ∷ H) kept.cells (λ t j. same_either (w == t && is_accepted e.reply) (posted H t j)) k.cells;
      shelf = shelf_kept c H (e ∷ H) kept.installed (λ n. same_either (is_accepted e.reply) (shelf c H n)) k.shelf;
      installs = k.installs ∙ sym (same_either (is_accepted e.reply) (installs H));
      global = global_kept c H (e ∷ H) kept.global (same_either (is_accepted e.reply) (sets H)) (same_either (is_accepted e.reply) (global c H)) k.global;
    }

-- a Use
pub keeps_use : (c : Setting) (H : History) (w : ℕ) (n : Named) (kept : KeptData) → w < c.threads
    → first_reason (reasons c H w (Use n)) ≡ None → Keeps c H kept → Keeps c (entry c H w (Use n) ∷ H) (after_use w n kept)
keeps_use c H w n kept caller none k =
    let e : Entry = entry c H w (Use n) in
    let accepted = unopposed c H w (Use n) none refl in
    record {
      legal = (refl, k.legal);
      callers = (caller, k.callers);
      opening = k.opening;
      rows = subst (λ m. RowsStand c (e ∷ H) (changed pinned (changed unpinned kept.rows m) n)) (sym (k.selections.each w caller)) (rows_of_use c H w n kept.rows caller accepted k.rows);
      objects = objects_kept c e H kept.objects (refl, k.legal) refl (λ h before. object_stays c e H h (refl, k.legal) before refl) k.objects;
      selections = selections_written c e H n kept.selections accepted refl k.selections;
      cells = cells_kept c H (e ∷ H) kept.cells (λ t j. same_either (w == t && is_accepted e.reply) (posted H t j)) k.cells;
      shelf = shelf_kept c H (e ∷ H) kept.installed (λ n. same_either (is_accepted e.reply) (shelf c H n)) k.shelf;
      installs = k.installs ∙ sym (same_either (is_accepted e.reply) (installs H));
      global = global_kept c H (e ∷ H) kept.global (same_either (is_accepted e.reply) (sets H)) (same_either (is_accepted e.reply) (global c H)) k.global;
    }

-- a Hold
pub keeps_hold : (c : Setting) (H : History) (w : ℕ) (g : Handle) (kept : KeptData) → w < c.threads
    → first_reason (reasons c H w (Hold (Of g))) ≡ None → Keeps c H kept → Keeps c (entry c H w (Hold (Of g)) ∷ H) (after_hold w (Of g) kept)
keeps_hold c H w g kept caller none k =
    let e : Entry = entry c H w (Hold (Of g)) in
    let accepted = unopposed c H w (Hold (Of g)) none refl in
    record {
      legal = (refl, k.legal);
      callers = (caller, k.callers);
      opening = k.opening;
      rows = rows_of_hold c H w (Of g) kept.rows caller accepted (λ h is. unheld_before c H w g h none is) k.rows;
      objects = objects_kept c e H kept.objects (refl, k.legal) refl (λ h before. object_stays c e H h (refl, k.legal) before refl) k.objects;
      selections = selections_kept c H (e ∷ H) kept.selections (λ t. same_either (w == t && is_accepted e.reply) (selection H t)) k.selections;
      cells = cells_kept c H (e ∷ H) kept.cells (λ t j. same_either (w == t && is_accepted e.reply) (posted H t j)) k.cells;
      shelf = shelf_kept c H (e ∷ H) kept.installed (λ n. same_either (is_accepted e.reply) (shelf c H n)) k.shelf;
      installs = k.installs ∙ sym (same_either (is_accepted e.reply) (installs H));
      global = global_kept c H (e ∷ H) kept.global (same_either (is_accepted e.reply) (sets H)) (same_either (is_accepted e.reply) (global c H)) k.global;
    }

-- a Release
pub keeps_release : (c : Setting) (H : History) (w : ℕ) (g : Handle) (kept : KeptData) → w < c.threads
    → first_reason (reasons c H w (Release (Of g))) ≡ None → Keeps c H kept → Keeps c (entry c H w (Release (Of g)) ∷ H) (after_release w (Of g) kept)
keeps_release c H w g kept caller none k =
    let e : Entry = entry c H w (Release (Of g)) in
    let accepted = unopposed c H w (Release (Of g)) none refl in
    record {
      legal = (refl, k.legal);
      callers = (caller, k.callers);
      opening = k.opening;
      rows = rows_of_release c H w (Of g) kept.rows caller accepted (λ h is. held_before c H w g h none is) k.rows;
      objects = objects_kept c e H kept.objects (refl, k.legal) refl (λ h before. object_stays c e H h (refl, k.legal) before refl) k.objects;
      selections = selections_kept c H (e ∷ H) kept.selections (λ t. same_either (w == t && is_accepted e.reply) (selection H t)) k.selections;
      cells = cells_kept c H (e ∷ H) kept.cells (λ t j. same_either (w == t && is_accepted e.reply) (posted H t j)) k.cells;
      shelf = shelf_kept c H (e ∷ H) kept.installed (λ n. same_either (is_accepted e.reply) (shelf c H n)) k.shelf;
      installs = k.installs ∙ sym (same_either (is_accepted e.reply) (installs H));
      global = global_kept c H (e ∷ H) kept.global (same_either (is_accepted e.reply) (sets H)) (same_either (is_accepted e.reply) (global c H)) k.global;
    }

-- a SetGlobal
pub keeps_set : (c : Setting) (H : History) (w : ℕ) (mask : ℕ) (numbers : List ℕ) (picks : Parts) (kept : KeptData) → w < c.threads
    → first_reason (reasons c H w (SetGlobal mask numbers)) ≡ None → picks ≡ from_shelf c H mask numbers → Keeps c H kept
    → Keeps c (entry c H w (SetGlobal mask numbers) ∷ H) (after_set mask picks kept)
keeps_set c H w mask numbers picks kept caller none is k =
    let e : Entry = entry c H w (SetGlobal mask numbers) in
    let accepted = unopposed c H w (SetGlobal mask numbers) none refl in
    record {
      legal = (refl, k.legal);
      callers = (caller, k.callers);
      opening = k.opening;
      rows = rows_kept c H (e ∷ H) kept.rows (same_quiet e H refl refl) k.rows;
      objects = objects_kept c e H kept.objects (refl, k.legal) refl (λ h before. object_stays c e H h (refl, k.legal) before refl) k.objects;
      selections = selections_kept c H (e ∷ H) kept.selections (λ t. same_either (w == t && is_accepted e.reply) (selection H t)) k.selections;
      cells = cells_kept c H (e ∷ H) kept.cells (λ t j. same_either (w == t && is_accepted e.reply) (posted H t j)) k.cells;
      shelf = shelf_kept c H (e ∷ H) kept.installed (λ n. same_either (is_accepted e.reply) (shelf c H n)) k.shelf;
      installs = k.installs ∙ sym (same_either (is_accepted e.reply) (installs H));
      global = global_of_set c H w mask numbers kept.global picks accepted is k.global;
    }

-- an Install
pub keeps_install : (c : Setting) (H : History) (w : ℕ) (m : ℕ) (offer : Offered) (kept : KeptData) → w < c.threads → m < length c.opening
    → Keeps c H kept → Keeps c (entry c H w (Install m offer) ∷ H) (after_install m offer kept)
keeps_install c H w m offer kept caller on k =
    let e : Entry = entry c H w (Install m offer) in
    record {
      legal = (refl, k.legal);
      callers = (caller, k.callers);
      opening = k.opening;
      rows = rows_kept c H (e ∷ H) kept.rows (same_quiet e H refl refl) k.rows;
      objects = objects_kept c e H kept.objects (refl, k.legal) refl (λ h before. object_stays c e H h (refl, k.legal) before refl) k.objects;
      selections = selections_kept c H (e ∷ H) kept.selections (λ t. same_either (w == t && is_accepted e.reply) (selection H t)) k.selections;
      cells = cells_kept c H (e ∷ H) kept.cells (λ t j. same_either (w == t && is_accepted e.reply) (posted H t j)) k.cells;
      shelf = shelf_of_install c H w m offer kept.installed on k.shelf;
      installs = add-one kept.installs ∙ ap suc k.installs;
      global = global_kept c H (e ∷ H) kept.global (same_either (is_accepted e.reply) (sets H)) (same_either (is_accepted e.reply) (global c H)) k.global;
    }

-- a Fetch changes nothing
pub keeps_fetch : (c : Setting) (H : History) (w : ℕ) (owner j : ℕ) (kept : KeptData) → w < c.threads → Keeps c H kept → Keeps c (entry c H w (Fetch owner j) ∷ H) kept
keeps_fetch c H w owner j kept caller k =
    let e : Entry = entry c H w (Fetch owner j) in
    record {
      legal = (refl, k.legal);
      callers = (caller, k.callers);
      opening = k.opening;
      rows = rows_kept c H (e ∷ H) kept.rows (same_quiet e H refl refl) k.rows;
      objects = objects_kept c e H kept.objects (refl, k.legal) refl (λ h before. object_stays c e H h (refl, k.legal) before refl) k.objects;
      selections = selections_kept c H (e ∷ H) kept.selections (λ t. same_either (w == t && is_accepted e.reply) (selection H t)) k.selections;
      cells = cells_kept c H (e ∷ H) kept.cells (λ t j. same_either (w == t && is_accepted e.reply) (posted H t j)) k.cells;
      shelf = shelf_kept c H (e ∷ H) kept.installed (λ n. same_either (is_accepted e.reply) (shelf c H n)) k.shelf;
      installs = k.installs ∙ sym (same_either (is_accepted e.reply) (installs H));
      global = global_kept c H (e ∷ H) kept.global (same_either (is_accepted e.reply) (sets H)) (same_either (is_accepted e.reply) (global c H)) k.global;
    }

-- a count of pins changes nothing
pub keeps_pins : (c : Setting) (H : History) (w : ℕ) (n : Named) (kept : KeptData) → w < c.threads → Keeps c H kept → Keeps c (entry c H w (Pins n) ∷ H) kept
keeps_pins c H w n kept caller k =
    let e : Entry = entry c H w (Pins n) in
    record {
      legal = (refl, k.legal);
      callers = (caller, k.callers);
      opening = k.opening;
      rows = rows_kept c H (e ∷ H) kept.rows (same_quiet e H refl refl) k.rows;
      objects = objects_kept c e H kept.objects (refl, k.legal) refl (λ h before. object_stays c e H h (refl, k.legal) before refl) k.objects;
      selections = selections_kept c H (e ∷ H) kept.selections (λ t. same_either (w == t && is_accepted e.reply) (selection H t)) k.selections;
      cells = cells_kept c H (e ∷ H) kept.cells (λ t j. same_either (w == t && is_accepted e.reply) (posted H t j)) k.cells;
      shelf = shelf_kept c H (e ∷ H) kept.installed (λ n. same_either (is_accepted e.reply) (shelf c H n)) k.shelf;
      installs = k.installs ∙ sym (same_either (is_accepted e.reply) (installs H));
      global = global_kept c H (e ∷ H) kept.global (same_either (is_accepted e.reply) (sets H)) (same_either (is_accepted e.reply) (global c H)) k.global;
    }

-- an End
pub keeps_end : (c : Setting) (H : History) (w : ℕ) (kept : KeptData) → w < c.threads → Keeps c H kept → Keeps c (entry c H w End ∷ H) (after_end w kept)
keeps_end c H w kept caller k =
    let e : Entry = entry c H w (End) in
    record {
      legal = (refl, k.legal);
      callers = (caller, k.callers);
      opening = k.opening;
      rows = subst (λ m. RowsStand c (e ∷ H) (all_let_go w (changed unpinned kept.rows m))) (sym (k.selections.each w caller)) (rows_of_end c H w kept.rows caller k.rows);
      objects = objects_kept c e H kept.objects (refl, k.legal) refl (λ h before. object_stays c e H h (refl, k.legal) before refl) k.objects;
      selections = selections_written c e H Global kept.selections refl refl k.selections;
      cells = cells_kept c H (e ∷ H) kept.cells (λ t j. same_either (w == t && is_accepted e.reply) (posted H t j)) k.cells;
      shelf = shelf_kept c H (e ∷ H) kept.installed (λ n. same_either (is_accepted e.reply) (shelf c H n)) k.shelf;
      installs = k.installs ∙ sym (same_either (is_accepted e.reply) (installs H));
      global = global_kept c H (e ∷ H) kept.global (same_either (is_accepted e.reply) (sets H)) (same_either (is_accepted e.reply) (global c H)) k.global;
    }

-- a New with a base has a live one
pub base_live : (c : Setting) (H : History) (w mask : ℕ) (numbers : List ℕ) (b : Handle) → first_reason (reasons c H w (New mask numbers (Some (Of b)))) ≡ None
    → live H b ≡ true
base_live c H w mask numbers b none =
    let first = no_reason (no_data c H mask numbers) (global_handle (Of b) ∷ never_made H (Of b) ∷ stale H (Of b) ∷ []) none in
    let third = no_reason (never_made H (Of b)) (stale H (Of b) ∷ []) first.1 in
    let last = no_reason (stale H (Of b)) [] third.1 in
    (not_refused H (Of b) b third.0 last.0 (same_itself b)).1

-- a New with a base
pub keeps_rebuild : (c : Setting) (H : History) (w : ℕ) (mask : ℕ) (numbers : List ℕ) (b : Handle) (x : Parts) (kept : KeptData) → w < c.threads
    → first_reason (reasons c H w (New mask numbers (Some (Of b)))) ≡ None → x ≡ composed mask (from_shelf c H mask numbers) (object c H b)
    → Keeps c H kept → Keeps c (entry c H w (New mask numbers (Some (Of b))) ∷ H) (after_rebuild b x kept)
keeps_rebuild c H w mask numbers b x kept caller none is k =
    let e : Entry = entry c H w (New mask numbers (Some (Of b))) in
    let accepted = unopposed c H w (New mask numbers (Some (Of b))) none refl in
    let place = object_said c H kept.rows kept.objects b k.legal k.callers k.rows k.objects (base_live c H w mask numbers b none) in
    record {
      legal = (refl, k.legal);
      callers = (caller, k.callers);
      opening = k.opening;
      rows = rows_kept c H (e ∷ H) kept.rows (same_quiet e H refl refl) k.rows;
      objects = objects_of_base c H w mask numbers b kept.objects x k.legal accepted place.0 place.1 place.2 is k.objects;
      selections = selections_kept c H (e ∷ H) kept.selections (λ t. same_either (w == t && is_accepted e.reply) (selection H t)) k.selections;
      cells = cells_kept c H (e ∷ H) kept.cells (λ t j. same_either (w == t && is_accepted e.reply) (posted H t j)) k.cells;
      shelf = shelf_kept c H (e ∷ H) kept.installed (λ n. same_either (is_accepted e.reply) (shelf c H n)) k.shelf;
      installs = k.installs ∙ sym (same_either (is_accepted e.reply) (installs H));
      global = global_kept c H (e ∷ H) kept.global (same_either (is_accepted e.reply) (sets H)) (same_either (is_accepted e.reply) (global c H)) k.global;
    }

-- a New without a base
pub keeps_new : (c : Setting) (H : History) (w q : ℕ) (mask : ℕ) (numbers : List ℕ) (x : Parts) (kept : KeptData) → w < c.threads
    → first_reason (reasons c H w (New mask numbers None)) ≡ None → free_row c H w ≡ Some q → x ≡ composed mask (from_shelf c H mask numbers) (posix c)
    → Keeps c H kept → Keeps c (entry c H w (New mask numbers None) ∷ H) (after_make w q x kept)
keeps_new c H w q mask numbers x kept caller none free is k =
    let e : Entry = entry c H w (New mask numbers None) in
    let accepted : is_accepted e.reply ≡ true =
    ap (λ r. is_accepted (unless r (made_in H w (free_row c H w)))) none ∙ ap (λ o. is_accepted (made_in H w o)) free
    in
    let next : MakesNext c e H w q = record {
      free = free;
      makes = ap (λ r. handle_in (unless r (made_in H w (free_row c H w)))) none ∙ ap (λ o. handle_in (made_in H w o)) free;
      frees_none = λ h. and_right (is_accepted e.reply) false refl;
      holders = same_holders e H refl;
    } in
    let answers : replies_with e.reply (nth object_handles w q (makes H w q + 1)) ≡ true =
    ap (λ r. replies_with (unless r (made_in H w (free_row c H w))) (nth object_handles w q (makes H w q + 1))) none
    ∙ ap (λ o. replies_with (made_in H w o) (nth object_handles w q (makes H w q + 1))) free ∙ same_itself (nth object_handles w q (makes H w q + 1))
    in
    let made_object : object c (e ∷ H) (nth object_handles w q (makes H w q + 1)) ≡ x =
    ap (λ b. if b then composed mask (from_shelf c H mask numbers) (posix c) else object c H (nth object_handles w q (makes H w q + 1))) answers ∙ sym is
    in
    let row = (least_passes c.rows q (is_free c H w) free).1 in record {
      legal = (refl, k.legal);
      callers = (caller, k.callers);
      opening = k.opening;
      rows = rows_of_make c e H w q kept.rows k.legal caller next k.rows;
      objects = objects_of_make c e H w q kept.objects x (refl, k.legal) caller row next (sym made_object)
          (λ h before. object_stays c e H h (refl, k.legal) before refl) k.objects;
      selections = selections_kept c H (e ∷ H) kept.selections next.holders.selection k.selections;
      cells = cells_kept c H (e ∷ H) kept.cells (λ t j. same_either (w == t && is_accepted e.reply) (posted H t j)) k.cells;
      shelf = shelf_kept c H (e ∷ H) kept.installed (λ n. same_either (is_accepted e.reply) (shelf c H n)) k.shelf;
      installs = k.installs ∙ sym (same_either (is_accepted e.reply) (installs H));
      global = global_kept c H (e ∷ H) kept.global (same_either (is_accepted e.reply) (sets H)) (same_either (is_accepted e.reply) (global c H)) k.global;
    }

-- a Dup
pub keeps_dup : (c : Setting) (H : History) (w q : ℕ) (n : Named) (x : Parts) (kept : KeptData) → w < c.threads
    → first_reason (reasons c H w (Dup n)) ≡ None → free_row c H w ≡ Some q → x ≡ object_named (object c H) (global c H) n
    → Keeps c H kept → Keeps c (entry c H w (Dup n) ∷ H) (after_make w q x kept)
keeps_dup c H w q n x kept caller none free is k =
    let e : Entry = entry c H w (Dup n) in
    let accepted : is_accepted e.reply ≡ true =
    ap (λ r. is_accepted (unless r (made_in H w (free_row c H w)))) none ∙ ap (λ o. is_accepted (made_in H w o)) free
    in
    let next : MakesNext c e H w q = record {
      free = free;
      makes = ap (λ r. handle_in (unless r (made_in H w (free_row c H w)))) none ∙ ap (λ o. handle_in (made_in H w o)) free;
      frees_none = λ h. and_right (is_accepted e.reply) false refl;
      holders = same_holders e H refl;
    } in
    let answers : replies_with e.reply (nth object_handles w q (makes H w q + 1)) ≡ true =
    ap (λ r. replies_with (unless r (made_in H w (free_row c H w))) (nth object_handles w q (makes H w q + 1))) none
    ∙ ap (λ o. replies_with (made_in H w o) (nth object_handles w q (makes H w q + 1))) free ∙ same_itself (nth object_handles w q (makes H w q + 1))
    in
    let made_object : object c (e ∷ H) (nth object_handles w q (makes H w q + 1)) ≡ x =
    ap (λ b. if b then object_named (object c H) (global c H) n else object c H (nth object_handles w q (makes H w q + 1))) answers ∙ sym is
    in
    let row = (least_passes c.rows q (is_free c H w) free).1 in record {
      legal = (refl, k.legal);
      callers = (caller, k.callers);
      opening = k.opening;
      rows = rows_of_make c e H w q kept.rows k.legal caller next k.rows;
      objects = objects_of_make c e H w q kept.objects x (refl, k.legal) caller row next (sym made_object)
          (λ h before. object_stays c e H h (refl, k.legal) before refl) k.objects;
      selections = selections_kept c H (e ∷ H) kept.selections next.holders.selection k.selections;
      cells = cells_kept c H (e ∷ H) kept.cells (λ t j. same_either (w == t && is_accepted e.reply) (posted H t j)) k.cells;
      shelf = shelf_kept c H (e ∷ H) kept.installed (λ n. same_either (is_accepted e.reply) (shelf c H n)) k.shelf;
      installs = k.installs ∙ sym (same_either (is_accepted e.reply) (installs H));
      global = global_kept c H (e ∷ H) kept.global (same_either (is_accepted e.reply) (sets H)) (same_either (is_accepted e.reply) (global c H)) k.global;
    }
