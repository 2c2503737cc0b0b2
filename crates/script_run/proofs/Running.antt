-- A plan and the table that its script runs at.
use Rattle.std.proofs.Common.{◌≡◌, ℕ, ◌+◌, ◌*◌, ◌<◌, ◌≤◌, Bool, true, false, List, [], ◌∷◌, ◌++◌, length, map, refl, sym, ap, subst, ◌∙◌, arith}
use Rattle.std.specs.Prelude.{All}
use Rattle.std.specs.List.{range_with_len}
use Rattle.std.proofs.lemmas.Bool.{false≢true}
use Rattle.std.proofs.lemmas.List.Elements.{All-nil}
use Rattle.mask_compose.specs.Offer.{Offered}
use Rattle.category_store.specs.LibraryData.{LibraryData}
use Rattle.category_store.specs.Library.{opening}
use Rattle.turn_gate.specs.declared.entry.Terms.{Terms}
use Rattle.turn_gate.specs.Callers.{Gate}
use Rattle.catalog_handles.specs.declared.setting.CatalogSetting.{CatalogSetting}
use Rattle.catalog_handles.specs.Reader.{ReaderData, first_reader}
use Rattle.script_lines.specs.Catalogs.{Books, catalog_setting}
use Rattle.script_wishes.specs.Turns.{Turn, closing_turns}
use Rattle.handle_table.specs.Entry.{History, Setting}
use Rattle.handle_table.specs.Table.{TableData, StandsFor}
use Rattle.thread_current.specs.Thread.{Thread, first_thread, IsPart}
use Rattle.script_lang.specs.declared.bundle.Bundle.{Bundle}
use Rattle.script_out.specs.declared.output.OutLine.{OutLine}
use Rattle.script_plan.specs.Isolation.{IsIsolated}
use Rattle.script_plan.specs.Plan.{PlanData, books_of}
use Rattle.script_plan.specs.Prints.{with_tasks, calls_after, history_below, AreAnswered, callers_after, command_calls, all_turns, Prints}
use Rattle.script_plan.specs.Serial.{setting}
use Rattle.script_plan.proofs.Orders.{cut_stands}
use Rattle.catalog_handles.specs.Stamps.{stamp_at}
use Rattle.script_plan.proofs.LineLists.{increasing}
use Rattle.script_plan.proofs.RoundTurns.{no_turns, no_closing_turns}
use Rattle.script_plan.proofs.AnsweredApart.{isolated}
use Rattle.lc_base.specs.declared.block.Block.{Block}
use Rattle.script_seats.specs.Seated.{Gates}
use Rattle.script_run.specs.Beside.{library_and_books, library_and_books_of}
use Rattle.script_run.specs.Rounds.{IsFor, IsForAsked, plan_made, SeatData, AreClosing}
use Rattle.script_run.proofs.Closing.{closed_prints}

plan_is : (plan : PlanData) (bundle : Bundle) (library : LibraryData) (books : Books) → bundle ≡ plan.bundle → library ≡ plan.library → books ≡ books_of plan → plan_made bundle library books ≡ plan
plan_is plan bundle library books same of shelf =
    ap (λ (b : Bundle). plan_made b library books) same ∙ ap (λ (l : LibraryData). plan_made plan.bundle l books) of ∙ ap (λ (b : Books). plan_made plan.bundle plan.library b) shelf

-- the catalogs are those of the bundle
pub blocks_are : (plan : PlanData) (bundle : Bundle) (books : Books) → bundle ≡ plan.bundle → books ≡ books_of plan → books.blocks ≡ bundle.catalogs
blocks_are plan bundle books same shelf = ap (λ (b : Books). b.blocks) shelf ∙ ap (λ (b : Bundle). b.catalogs) (sym same)

-- the library and the catalogs of a plan that is made of them
pub library_and_books_made : (bundle : Bundle) (library : LibraryData) (books : Books) → books.blocks ≡ bundle.catalogs → library_and_books_of (plan_made bundle library books) ≡ library_and_books library books
library_and_books_made bundle library books same = ap (λ (blocks : List Block). library_and_books library (record { blocks = blocks; books = books.books })) (sym same)

-- what is agreed with the catalogs
abbrev pub asked_terms : ℕ → ℕ → ℕ → ℕ → Terms CatalogSetting
asked_terms threads rows generations quota = record { setting = record { threads = threads; rows = rows; generations = generations }; seats = threads; quota = quota }

-- what is agreed for so many threads with such tables
abbrev pub made_terms : ℕ → ℕ → ℕ → List Offered → ℕ → Terms Setting
made_terms threads rows generations offers quota =
    record { setting = record { threads = threads; rows = rows; generations = generations; opening = offers }; seats = threads; quota = quota }

pub terms_for : (plan : PlanData) (terms : Terms Setting) (count rows generations quota : ℕ) (offers : List Offered) → terms ≡ made_terms count rows generations offers quota → count ≡ length plan.bundle.threads
    → 0 < length plan.bundle.threads → offers ≡ opening plan.library → quota ≡ 2 * length plan.bundle.commands + 1 → IsFor plan terms
terms_for plan terms count rows generations quota offers are many some shelf calls = record {
  seats = ap (λ (t : Terms Setting). t.seats) are ∙ sym (ap (λ (t : Terms Setting). t.setting.threads) are);
  threads = ap (λ (t : Terms Setting). t.setting.threads) are ∙ many;
  some = some;
  opening = ap (λ (t : Terms Setting). t.setting.opening) are ∙ shelf;
  quota = ap (λ (t : Terms Setting). t.quota) are ∙ calls;
}

pub asked_for : (terms : Terms Setting) (asked : Terms CatalogSetting) (count rows generations quota : ℕ) (offers : List Offered) → terms ≡ made_terms count rows generations offers quota → asked ≡ asked_terms count rows generations quota
    → IsForAsked terms asked
asked_for terms asked count rows generations quota offers are asked_are = record {
  seats = ap (λ (t : Terms CatalogSetting). t.seats) asked_are ∙ sym (ap (λ (t : Terms Setting). t.seats) are);
  agree = ap (λ (t : Terms CatalogSetting). t.setting) asked_are ∙ sym (ap (λ (t : Terms Setting). catalog_setting t.setting) are);
  quota = ap (λ (t : Terms CatalogSetting). t.quota) asked_are ∙ sym (ap (λ (t : Terms Setting). t.quota) are);
}

setting_is : (plan : PlanData) (terms : Terms Setting) (count rows generations quota : ℕ) (offers : List Offered) → terms ≡ made_terms count rows generations offers quota → count ≡ length plan.bundle.threads
    → offers ≡ opening plan.library → terms.setting ≡ setting plan rows generations
setting_is plan terms count rows generations quota offers are many shelf =
    ap (λ (t : Terms Setting). t.setting) are
    ∙ ap (λ (n : ℕ). (made_terms n rows generations offers quota).setting) many
    ∙ ap (λ (os : List Offered). (made_terms (length plan.bundle.threads) rows generations os quota).setting) shelf

-- the lines of a run are such as the plan may print
pub run_prints : (plan : PlanData) (bundle : Bundle) (library : LibraryData) (books : Books) (gate : Gates) (count rows generations quota : ℕ) (offers : List Offered) (seats : List SeatData) (lines : List OutLine) (table : TableData)
    → bundle ≡ plan.bundle → library ≡ plan.library → books ≡ books_of plan → gate.locales.terms ≡ made_terms count rows generations offers quota → gate.catalogs.terms ≡ asked_terms count rows generations quota
    → count ≡ length bundle.threads → 0 < length bundle.threads → offers ≡ opening library
    → quota ≡ 2 * length bundle.commands + 1 → AreClosing gate (plan_made bundle library books) seats [] lines
    → (H : History) × StandsFor table H × (table.setting ≡ gate.locales.terms.setting) × All (IsPart H) seats → Prints (setting plan rows generations) plan lines
run_prints plan bundle library books gate count rows generations quota offers seats lines table same of shelves are asked_are many some shelf calls closing (H, stands, set, parts) =
    let made : PlanData = plan_made bundle library books in
    let for : IsFor made gate.locales.terms = terms_for made gate.locales.terms count rows generations quota offers are many some shelf calls in
    let agree = (asked_for gate.locales.terms gate.catalogs.terms count rows generations quota offers are asked_are).agree in
    let is : gate.locales.terms.setting ≡ setting made rows generations = setting_is made gate.locales.terms count rows generations quota offers are many shelf in
    subst (λ (p : PlanData). Prints (setting p rows generations) p lines) (plan_is plan bundle library books same of shelves)
    (subst (λ (c : Setting). Prints c made lines) is (closed_prints gate made seats lines table H closing for (sym agree) stands set parts))

-- so is no line, where there is no thread
pub none_prints : (plan : PlanData) (rows generations : ℕ) → plan.bundle.threads ≡ [] → Prints (setting plan rows generations) plan []
none_prints plan rows generations none =
    let c : Setting = setting plan rows generations in
    let H : History = history_below c (command_calls plan []) (length (command_calls plan [])) in
    let nothing : all_turns c plan [] ≡ [] = ap (λ (ts : List Turn). ts ++ closing_turns plan.bundle H) (no_turns plan.bundle none) ∙ no_closing_turns plan.bundle H none in
    record {
      catalogs = [];
      callers = sym (ap (callers_after []) nothing);
      placed = record {
        once = λ place lt. absurd (omega (arith, lt));
        threads = λ thread. increasing [] tt;
        rounds = λ round. All-nil (λ (p : ℕ). All (λ (q : ℕ). p < q) []);
        closing = increasing [] tt;
      };
      catalogs_placed = record {
        legal = tt;
        callers = tt;
        many = refl;
        once = λ place lt. absurd (omega (arith, lt));
        threads = λ thread. increasing [] tt;
        rounds = λ round. All-nil (λ (p : ℕ). All (λ (q : ℕ). p < q) []);
      };
      one_order = record {
        rising = tt;
        threads = λ thread before after is. cut_stands (stamp_at []) 0 0 [] before after (omega arith) is;
        rounds = λ round. record { table = All-nil (λ (p : ℕ). All (λ (q : ℕ). p < stamp_at [] q) []); catalogs = All-nil (λ (q : ℕ). All (λ (p : ℕ). stamp_at [] q ≤ p) []) };
      };
      answered = subst (λ (ts : List Turn). let ds = with_tasks ts [] in AreAnswered c plan [] [] (calls_after plan.library [] ds) [] ds) (sym nothing) tt;
    }

pub prints_isolated : (plan : PlanData) (rows generations : ℕ) (lines : List OutLine) → Prints (setting plan rows generations) plan lines → IsIsolated (setting plan rows generations) plan lines
prints_isolated plan rows generations lines prints = isolated (setting plan rows generations) plan lines prints

-- a list that is not empty
pub some_of : {X : Type 0} (xs : List X) (b : Bool) → (xs ≡ [] → b ≡ true) → b ≡ false → 0 < length xs
some_of [] b empty is = absurd (false≢true (sym is ∙ empty refl))
some_of (x ∷ xs) b empty is = omega arith

-- the threads of a table that has as many as the plan
pub threads_are : (gate : Gate Setting) (mines : List Thread) (count rows generations quota : ℕ) (offers : List Offered) → gate.terms ≡ made_terms count rows generations offers quota
    → mines ≡ map (first_thread gate) (range_with_len 0 count) → mines ≡ map (first_thread gate) (range_with_len 0 gate.terms.setting.threads)
threads_are gate mines count rows generations quota offers are threads =
    threads ∙ ap (λ (n : ℕ). map (first_thread gate) (range_with_len 0 n)) (sym (ap (λ (t : Terms Setting). t.setting.threads) are))

-- and the readers of catalogs
pub readers_are : (gate : Gate CatalogSetting) (terms : Terms Setting) (all : List ReaderData) (count rows generations quota : ℕ) (offers : List Offered) → terms ≡ made_terms count rows generations offers quota
    → all ≡ map (first_reader gate) (range_with_len 0 count) → all ≡ map (first_reader gate) (range_with_len 0 terms.setting.threads)
readers_are gate terms all count rows generations quota offers are threads =
    threads ∙ ap (λ (n : ℕ). map (first_reader gate) (range_with_len 0 n)) (sym (ap (λ (t : Terms Setting). t.setting.threads) are))
