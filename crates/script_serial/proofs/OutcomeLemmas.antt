-- What the outcome of a task leaves of its own thread and of the others.
use Rattle.std.proofs.Common.{◌≡◌, ℕ, ◌+◌, Bool, false, cond, List, [], ◌∷◌, ◌++◌, Option, Some, None, Result, Ok, Err, refl, sym, ap, ◌∙◌, arith}
use Rattle.std.specs.Prelude.{◌≢◌, ◌==◌, ◌&&◌}
use Rattle.std.proofs.lemmas.List.Sums.{sum_by_push}
use Rattle.std.proofs.lemmas.Bool.{eq-eqb, ne_eqb, and_left}
use Rattle.mask_compose.specs.Parts.{Parts}
use Rattle.category_store.specs.LibraryData.{LibraryData}
use Rattle.lc_base.specs.declared.handle.Named.{Named}
use Rattle.handle_table.specs.Entry as table
use Rattle.handle_table.specs.Entry.{History, Setting, is_accepted}
use Rattle.handle_table.specs.History.{selection, selection_after}
use Rattle.handle_table.specs.Answer.{answer, own, own_after}
use Rattle.script_commands.specs.declared.command.Read.{Read}
use Rattle.script_out.specs.declared.output.OutLine.{OutLine}
use Rattle.script_out.specs.declared.output.Why.{Why}
use Rattle.script_wishes.specs.Holds.{object_held, holds_after, open_holds, held_as}
use Rattle.script_lines.specs.Lines.{Caller}
use Rattle.script_lines.specs.Outcome.{with_call, reads_between, reads_of, read_line, granted, asked_of}
use Rattle.script_plan.specs.Serial.{lines_of_thread}
use Rattle.script_serial.specs.Alone.{AloneSideData, Knows}
use Rattle.script_wishes.specs.Wishes.{Wish, Calls, ReadsOf, Reads, AsksSelection, AsksName, OpensCatalog, GetsMessage, ClosesCatalog}
use Rattle.script_lines.specs.Catalogs.{Books}
use Rattle.script_serial.proofs.CatalogLines.{opens_caller}
use Rattle.catalog_handles.specs.Entry.{History as CatalogHistory}

-- ---- whose line it is

between_thread : (c : Setting) (library : LibraryData) (H : History) (at : Caller) (n : Named) (read : Read) (object : Option Parts) → (reads_between c library H at n read object).line.thread ≡ at.thread
between_thread c library H at n read None = refl
between_thread c library H at n read (Some object) = refl

of_whose : (c : Setting) (library : LibraryData) (H : History) (at : Caller) (n : Named) (read : Read) (held : Option Parts) → (reads_of c library H at n read held).line.thread ≡ at.thread
of_whose c library H at n read (Some object) = refl
of_whose c library H at n read None = between_thread c library H at n read (object_held (answer c H at.thread (table.Hold n)))

read_thread : (c : Setting) (library : LibraryData) (H : History) (at : Caller) (read : Read) (object : Option Parts) → (read_line c library H at read object).thread ≡ at.thread
read_thread c library H at read (Some object) = refl
read_thread c library H at read None = refl

-- the line of an outcome is its caller's
pub granted_thread : (c : Setting) (library : LibraryData) (books : Books) (H : History) (M : CatalogHistory) (at : Caller) (w : Result Wish Why) → (granted c library books H M at w).line.thread ≡ at.thread
granted_thread c library books H M at (Err why) = refl
granted_thread c library books H M at (Ok (Calls categories op)) = refl
granted_thread c library books H M at (Ok (ReadsOf n read)) = of_whose c library H at n read (held_as (open_holds H at.thread) n)
granted_thread c library books H M at (Ok (Reads read)) = read_thread c library H at read (own H at.thread)
granted_thread c library books H M at (Ok AsksSelection) = refl
granted_thread c library books H M at (Ok (AsksName categories)) = refl
granted_thread c library books H M at (Ok (OpensCatalog name)) = ap (λ (a : Caller). a.thread) (opens_caller c library books H at name (asked_of c library books H M at.thread (Ok (OpensCatalog name))) (own H at.thread))
granted_thread c library books H M at (Ok (GetsMessage h set message default)) = refl
granted_thread c library books H M at (Ok (ClosesCatalog h)) = refl

-- ---- how many lines a thread has

abbrev one_if : Bool → ℕ
one_if b = cond b 1 0

counted : (t : ℕ) (lines : List OutLine) (l : OutLine) → lines_of_thread t (lines ++ l ∷ []) ≡ lines_of_thread t lines + one_if (l.thread == t)
counted t lines l = sum_by_push (λ (x : OutLine). cond (x.thread == t) 1 0) lines l

pub one_more_line : (t : ℕ) (lines : List OutLine) (l : OutLine) → l.thread ≡ t → lines_of_thread t (lines ++ l ∷ []) ≡ lines_of_thread t lines + 1
one_more_line t lines l own = counted t lines l ∙ ap (λ (b : Bool). lines_of_thread t lines + one_if b) (eq-eqb l.thread t own)

pub no_line_more : (t : ℕ) (lines : List OutLine) (l : OutLine) → l.thread ≢ t → lines_of_thread t (lines ++ l ∷ []) ≡ lines_of_thread t lines
no_line_more t lines l other = let n : ℕ = lines_of_thread t lines in counted t lines l ∙ ap (λ (b : Bool). n + one_if b) (ne_eqb l.thread t other) ∙ omega arith

-- ---- what another thread knows

-- a call of another thread changes nothing that a thread knows
pub knows_call : (c : Setting) (H : History) (t : AloneSideData) (who : ℕ) (op : table.Op) → who ≢ t.number → Knows t H → Knows t (with_call c H who op)
knows_call c H t who op other k =
    let r = answer c H who op in
    let apart : (who == t.number) ≡ false = ne_eqb who t.number other in
    let refused : (who == t.number) && is_accepted r ≡ false = and_left (who == t.number) (is_accepted r) apart in
    record {
      own = k.own ∙ sym (ap (λ (b : Bool). cond b (own_after r (own H t.number)) (own H t.number)) apart);
      selected = k.selected ∙ sym (ap (λ (b : Bool). cond b (selection_after op (selection H t.number)) (selection H t.number)) refused);
      holds = k.holds ∙ sym (ap (λ (b : Bool). cond b (holds_after (open_holds H t.number) op r) (open_holds H t.number)) apart);
    }

knows_between : (c : Setting) (library : LibraryData) (H : History) (t : AloneSideData) (at : Caller) (n : Named) (read : Read) (object : Option Parts) → at.thread ≢ t.number → Knows t H → Knows t (reads_between c library H at n read object).history
knows_between c library H t at n read None other k = knows_call c H t at.thread (table.Hold n) other k
knows_between c library H t at n read (Some object) other k = knows_call c (with_call c H at.thread (table.Hold n)) t at.thread (table.Release n) other (knows_call c H t at.thread (table.Hold n) other k)

knows_of : (c : Setting) (library : LibraryData) (H : History) (t : AloneSideData) (at : Caller) (n : Named) (read : Read) (held : Option Parts) → at.thread ≢ t.number → Knows t H → Knows t (reads_of c library H at n read held).history
knows_of c library H t at n read (Some object) other k = k
knows_of c library H t at n read None other k = knows_between c library H t at n read (object_held (answer c H at.thread (table.Hold n))) other k

pub knows_granted : (c : Setting) (library : LibraryData) (books : Books) (H : History) (M : CatalogHistory) (t : AloneSideData) (at : Caller) (w : Result Wish Why) → at.thread ≢ t.number → Knows t H → Knows t (granted c library books H M at w).history
knows_granted c library books H M t at (Err why) other k = k
knows_granted c library books H M t at (Ok (Calls categories op)) other k = knows_call c H t at.thread op other k
knows_granted c library books H M t at (Ok (ReadsOf n read)) other k = knows_of c library H t at n read (held_as (open_holds H at.thread) n) other k
knows_granted c library books H M t at (Ok (Reads read)) other k = k
knows_granted c library books H M t at (Ok AsksSelection) other k = k
knows_granted c library books H M t at (Ok (AsksName categories)) other k = k
knows_granted c library books H M t at (Ok (OpensCatalog name)) other k = k
knows_granted c library books H M t at (Ok (GetsMessage h set message default)) other k = k
knows_granted c library books H M t at (Ok (ClosesCatalog h)) other k = k
