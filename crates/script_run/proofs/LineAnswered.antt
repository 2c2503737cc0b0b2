-- A line that is right for a history prints what its task asks for, judged by what stands before its places.
use Rattle.std.proofs.Common.{◌≡◌, ℕ, ◌<◌, List, [], ◌∷◌, length, Option, Some, None, Result, Ok, Err, refl, sym, ap, subst, ◌∙◌, arith, inl, inr}
use Rattle.std.specs.Prelude.{All, option_map}
use Rattle.std.proofs.lemmas.List.Elements.{All-head, All-tail}
use Rattle.mask_compose.specs.Parts.{Parts}
use Rattle.lc_base.specs.declared.handle.Named.{Named}
use Rattle.handle_table.specs.Entry as table
use Rattle.handle_table.specs.Entry.{History, Setting}
use Rattle.handle_table.specs.History.{sets, global, global_at, selection}
use Rattle.handle_table.specs.Answer.{answer, own}
use Rattle.script_commands.specs.declared.command.Read.{Read}
use Rattle.script_words.specs.declared.categories.CategoryArgument.{CategoryArgument}
use Rattle.script_words.specs.declared.categories.CategoryArgument.TheVariants.{All as AllCategories}
use Rattle.script_out.specs.declared.output.OutLine.{OutLine}
use Rattle.script_out.specs.declared.output.Said.TheVariants as said
use Rattle.script_out.specs.declared.output.Why.{Why}
use Rattle.catalog_handles.specs.Entry as catalogs
use Rattle.script_lines.specs.Catalogs.{object_used, book_for, catalog_setting, open_line}
use Rattle.script_lines.specs.Board.{catalog_op, granted_at, reads_between, reads_of, reads, opens}
use Rattle.script_wishes.specs.Holds.{object_held, open_holds, held_as}
use Rattle.script_lines.specs.Lines.{plain_line, placed_line, entry_line, global_read_line, global_name_line}
use Rattle.script_wishes.specs.Variables.{bindings_of}
use Rattle.script_wishes.specs.Wishes.{Wish, Calls, ReadsOf, Reads, AsksSelection, AsksName, OpensCatalog, GetsMessage, ClosesCatalog, wish_of}
use Rattle.script_plan.specs.Prints.{bound_by, places_in, call_of, Around, past, next_place, IsVersion, global_of, IsCall, IsReadOf, IsRead, IsOpenOf, IsAsked, IsOpen, IsGranted, IsAnswered, caller_of}
use Rattle.script_plan.specs.Plan.{books_of}
use Rattle.script_plan.proofs.GoingOn.{wished_calls}
use Rattle.script_run.specs.Timed.{oldest, Timed, second_moment, moments_in, IsEntryOf, IsRight, StandsAsked, HasStanding}
use Rattle.script_run.proofs.Before.{oldest_again, version_at, IsBetween, released_between}

-- what lines are judged by, where the history is W
pub record Judges (x : Around) (W : History) (t : Timed) : Type 0 where
  pub pasts : (n : ℕ) → past x n ≡ oldest n W
  pub whole : x.whole ≡ W
  pub version : IsVersion x (caller_of t.task_line.line) (sets (oldest t.moment W))
  pub between : (hold release : ℕ) → places_in t.task_line.line.places ≡ hold ∷ release ∷ [] → IsBetween t.task_line.line.thread W hold release
  pub standing : HasStanding (catalog_setting x.setting) x.catalogs t

-- the calls that a line makes, by what it wishes, are entries
abbrev pub MakesEntries : Setting → History → Timed → Result Wish Why → Type 0
MakesEntries c W t w = All (IsEntryOf c W) (wished_calls t.task_line.line.thread (places_in t.task_line.line.places) w)

past_at : (x : Around) (W : History) (t : Timed) (n : ℕ) → Judges x W t → past x (length (oldest n W)) ≡ oldest n W
past_at x W t n j = j.pasts (length (oldest n W)) ∙ oldest_again n W

global_is : (x : Around) (W : History) (t : Timed) → Judges x W t → global_of x (sets (oldest t.moment W)) ≡ global x.setting (oldest t.moment W)
global_is x W t j = ap (λ (G : History). global_at x.setting G (sets (oldest t.moment W))) j.whole ∙ version_at x.setting t.moment W

call_answered : (x : Around) (W : History) (t : Timed) (categories : CategoryArgument) (op : table.Op) → Judges x W t
    → t.task_line.line ≡ entry_line x.plan.library (oldest t.moment W) (caller_of t.task_line.line) categories (answer x.setting (oldest t.moment W) t.task_line.line.thread op)
    → IsCall x (caller_of t.task_line.line) t.task_line.line categories op
call_answered x W t categories op j is = record {
  place = length (oldest t.moment W);
  is = is ∙ ap (λ (G : History). placed_line x.plan.library (length (oldest t.moment W)) (caller_of t.task_line.line) categories (answer x.setting G t.task_line.line.thread op)) (sym (past_at x W t t.moment j));
}

read_answered : (x : Around) (W : History) (t : Timed) (read : Read) (object : Option Parts) → Judges x W t
    → t.task_line.line ≡ (reads x.setting x.plan.library (moments_in W x.before t) (caller_of t.task_line.line) read object).line
    → IsRead x (caller_of t.task_line.line) t.task_line.line read object
read_answered x W t read (Some object) j is = is
read_answered x W t read None j is = record {
  version = sets (oldest t.moment W);
  bounds = j.version;
  is = is ∙ ap (global_read_line x.plan.library (caller_of t.task_line.line) read (sets (oldest t.moment W))) (sym (global_is x W t j));
}

between_answered : (x : Around) (W : History) (t : Timed) (n : Named) (read : Read) (object : Option Parts) → Judges x W t → MakesEntries x.setting W t (Ok (ReadsOf n read))
    → object_held (answer x.setting (oldest t.moment W) t.task_line.line.thread (table.Hold n)) ≡ object
    → t.task_line.line ≡ (reads_between x.setting x.plan.library (moments_in W x.before t) (caller_of t.task_line.line) n read object).line
    → IsReadOf x (caller_of t.task_line.line) t.task_line.line n read None
between_answered x W t n read None j entries held is =
    let first : History = oldest t.moment W in
    let before : past x (length first) ≡ first = past_at x W t t.moment j in
    inr (record {
      place = length first;
      held = ap (λ (G : History). object_held (answer x.setting G t.task_line.line.thread (table.Hold n))) before ∙ held;
      is = is ∙ ap (λ (G : History). placed_line x.plan.library (length first) (caller_of t.task_line.line) AllCategories (answer x.setting G t.task_line.line.thread (table.Hold n))) (sym before);
    })
between_answered x W t n read (Some object) j entries held is =
    let c : Setting = x.setting in
    let thread : ℕ = t.task_line.line.thread in
    let first : History = oldest t.moment W in
    let second : History = oldest (second_moment (places_in t.task_line.line.places) t.moment) W in
    let at : places_in t.task_line.line.places ≡ length first ∷ length second ∷ [] = ap (λ (l : OutLine). places_in l.places) is in
    let made : All (IsEntryOf c W) (call_of thread (length first, table.Hold n) ∷ call_of thread (length second, table.Release n) ∷ []) =
    subst (λ (ps : List ℕ). All (IsEntryOf c W) (wished_calls thread ps (Ok (ReadsOf n read)))) at entries
    in
    let here : IsEntryOf c W (call_of thread (length first, table.Hold n)) =
    All-head (IsEntryOf c W) (call_of thread (length first, table.Hold n)) (call_of thread (length second, table.Release n) ∷ []) made
    in
    let there : IsEntryOf c W (call_of thread (length second, table.Release n)) =
    All-head (IsEntryOf c W) (call_of thread (length second, table.Release n)) []
    (All-tail (IsEntryOf c W) (call_of thread (length first, table.Hold n)) (call_of thread (length second, table.Release n) ∷ []) made)
    in
    let within : length second < length W = there.within in
    let accepted : answer c (oldest (length second) W) thread (table.Release n) ≡ table.Released =
    released_between c W thread n object (length first) (length second) (omega (arith, within)) (j.between (length first) (length second) at) here.entry
    (ap (λ (G : History). object_held (answer c G thread (table.Hold n))) (oldest_again t.moment W) ∙ held)
    in
    inl (record {
      hold = length first;
      release = length second;
      object = object;
      held = ap (λ (G : History). object_held (answer c G thread (table.Hold n))) (past_at x W t t.moment j) ∙ held;
      released = ap (λ (G : History). answer c G thread (table.Release n)) (j.pasts (length second)) ∙ accepted;
      is = is;
    })

of_answered : (x : Around) (W : History) (t : Timed) (n : Named) (read : Read) (object : Option Parts) → Judges x W t → MakesEntries x.setting W t (Ok (ReadsOf n read))
    → t.task_line.line ≡ (reads_of x.setting x.plan.library (moments_in W x.before t) (caller_of t.task_line.line) n read object).line
    → IsReadOf x (caller_of t.task_line.line) t.task_line.line n read object
of_answered x W t n read (Some object) j entries is = is
of_answered x W t n read None j entries is = between_answered x W t n read (object_held (answer x.setting (oldest t.moment W) t.task_line.line.thread (table.Hold n))) j entries refl is

-- what the catalogs have answered to what is asked of them
abbrev Asks : Around → Timed → Option catalogs.Op → Type 0
Asks x t op = StandsAsked (catalog_setting x.setting) x.catalogs t.task_line.line.thread op t.asked t.stamp

as_asked : (x : Around) (t : Timed) (op : catalogs.Op) → Asks x t (Some op) → IsAsked (catalog_setting x.setting) x.catalogs t.task_line.line.thread op t.asked
as_asked x t op stands = record { before = stands.before; behind = stands.behind; stamp = t.stamp; whole = stands.whole; place = stands.place; reply = stands.reply }

-- a catopen, of a catalog that there is or not
found_answered : (x : Around) (t : Timed) (version : Option ℕ) (n : Option ℕ) → Asks x t (option_map catalogs.Open n) → t.task_line.line ≡ open_line (caller_of t.task_line.line) version t.asked n
    → IsOpenOf x (caller_of t.task_line.line) t.task_line.line version n
found_answered x t version None stands is = is
found_answered x t version (Some n) stands is = record { asked = t.asked; stands = as_asked x t _ stands; is = is }

open_answered : (x : Around) (W : History) (t : Timed) (name : List ℕ) (object : Option Parts) → Judges x W t
    → Asks x t (option_map catalogs.Open (book_for x.plan.library (books_of x.plan) (object_used object (global x.setting (oldest t.moment W))) name))
    → t.task_line.line ≡ (opens x.setting x.plan.library (books_of x.plan) (moments_in W x.before t) (caller_of t.task_line.line) name object).line
    → IsOpen x (caller_of t.task_line.line) t.task_line.line name object
open_answered x W t name (Some object) j stands is = found_answered x t None (book_for x.plan.library (books_of x.plan) object name) stands is
open_answered x W t name None j stands is =
    let at = caller_of t.task_line.line in
    let first : Parts = global x.setting (oldest t.moment W) in
    record {
      version = sets (oldest t.moment W);
      bounds = j.version;
      opens = subst (λ (o : Parts). IsOpenOf x at t.task_line.line (Some (sets (oldest t.moment W))) (book_for x.plan.library (books_of x.plan) o name)) (sym (global_is x W t j))
          (found_answered x t (Some (sets (oldest t.moment W))) (book_for x.plan.library (books_of x.plan) first name) stands is);
    }

-- the line of a wish is as the relation says
granted_answered : (x : Around) (W : History) (t : Timed) (w : Result Wish Why) → Judges x W t → MakesEntries x.setting W t w
    → t.task_line.line ≡ (granted_at x.setting x.plan.library (books_of x.plan) (moments_in W x.before t) (caller_of t.task_line.line) w).line
    → Asks x t (catalog_op x.setting x.plan.library (books_of x.plan) (moments_in W x.before t) t.task_line.line.thread w)
    → IsGranted x (caller_of t.task_line.line) t.task_line.line w
granted_answered x W t (Err why) j entries is stands = is
granted_answered x W t (Ok (Calls categories op)) j entries is stands = call_answered x W t categories op j is
granted_answered x W t (Ok (ReadsOf n read)) j entries is stands =
    let thread : ℕ = t.task_line.line.thread in
    let place : ℕ = next_place thread x.before in
    subst (λ (G : History). IsReadOf x (caller_of t.task_line.line) t.task_line.line n read (held_as (open_holds G thread) n)) (sym (j.pasts place))
    (of_answered x W t n read (held_as (open_holds (oldest place W) thread) n) j entries is)
granted_answered x W t (Ok (Reads read)) j entries is stands =
    let thread : ℕ = t.task_line.line.thread in
    let place : ℕ = next_place thread x.before in
    subst (λ (G : History). IsRead x (caller_of t.task_line.line) t.task_line.line read (own G thread)) (sym (j.pasts place))
    (read_answered x W t read (own (oldest place W) thread) j is)
granted_answered x W t (Ok AsksSelection) j entries is stands =
    let thread : ℕ = t.task_line.line.thread in
    is ∙ ap (λ (G : History). plain_line (caller_of t.task_line.line) (said.Is (selection G thread))) (sym (j.pasts (next_place thread x.before)))
granted_answered x W t (Ok (AsksName categories)) j entries is stands = record {
  version = sets (oldest t.moment W);
  bounds = j.version;
  is = is ∙ ap (global_name_line x.plan.library (caller_of t.task_line.line) categories (sets (oldest t.moment W))) (sym (global_is x W t j));
}
granted_answered x W t (Ok (OpensCatalog name)) j entries is stands =
    let thread : ℕ = t.task_line.line.thread in
    let place : ℕ = next_place thread x.before in
    subst (λ (G : History). IsOpen x (caller_of t.task_line.line) t.task_line.line name (own G thread)) (sym (j.pasts place))
    (open_answered x W t name (own (oldest place W) thread) j stands is)
granted_answered x W t (Ok (GetsMessage h set message default)) j entries is stands = record { asked = t.asked; stands = as_asked x t _ stands; is = is }
granted_answered x W t (Ok (ClosesCatalog h)) j entries is stands = record { asked = t.asked; stands = as_asked x t _ stands; is = is }

-- a line that is right for a history prints what its task asks for
pub line_answered : (x : Around) (W : History) (t : Timed) → Judges x W t → IsRight x.setting x.plan W x.before t → IsAnswered x t.task_line
line_answered x W t j right =
    granted_answered x W t (wish_of x.plan.library (bindings_of t.task_line.line.thread (bound_by x.before)) t.task_line.task) j right.entries right.line (subst (Asks x t) right.op j.standing)
