-- Of which variables a wish depends, and that it asks for nothing but what the table answers.
use Rattle.std.proofs.Common.{◌≡◌, ℕ, ◌<◌, ◌≤◌, List, length, Option, Some, None, Result, Ok, Err, refl, sym, ap, subst}
use Rattle.std.specs.Prelude.{◌≢◌, IfOk, IfSome}
use Rattle.lc_base.specs.declared.category.Category.{Category}
use Rattle.lc_base.specs.Reading.{◌>>=◌}
use Rattle.mask_compose.specs.Offer.{Offered, AreOnShelf}
use Rattle.category_store.specs.LibraryData.{LibraryData}
use Rattle.category_store.specs.Library.{numbers, opening, later}
use Rattle.lc_base.specs.declared.handle.Handle.{Handle}
use Rattle.lc_base.specs.declared.handle.Named.{Named}
use Rattle.handle_table.specs.Entry as table
use Rattle.handle_table.specs.Entry.{Setting}
use Rattle.handle_table.specs.Table.{Fits}
use Rattle.script_words.specs.declared.categories.CategoryArgument.{CategoryArgument}
use Rattle.script_words.specs.declared.categories.CategoryArgument.TheVariants as categories
use Rattle.script_commands.specs.declared.command.Command.{Command}
use Rattle.script_commands.specs.declared.command.Command.TheVariants as commands
use Rattle.script_commands.specs.declared.command.OpenCatalog.{OpenCatalog}
use Rattle.script_commands.specs.declared.command.OpenCatalog.TheVariants as open_catalogs
use Rattle.script_commands.specs.declared.command.Target.{Target}
use Rattle.script_commands.specs.declared.command.Target.TheVariants as targets
use Rattle.script_out.specs.declared.output.Why.{Why}
use Rattle.script_commands.specs.InRange.{IsInRange}
use Rattle.category_store.specs.Shelf.{IsNumbered, IsInstallable}
use Rattle.script_wishes.specs.Seen.{TaskFits}
use Rattle.script_wishes.specs.Turns.{Task, Runs, Releases, Ends}
use Rattle.script_wishes.specs.Variables.{Variable, Bindings, bound, locale_variable, catalog_variable}
use Rattle.script_wishes.specs.Wishes.{Asks, Wish, ReadsOf, GetsMessage, ClosesCatalog, handle_or_unset, catalog_or_unset, catalog_named, named, base_named, mask_of, named_numbers, numbers_or_no_data, new_op, set_op, categories_mask, setlocale_op, install_of, install_op, op_on, called, wish, wish_of, Fitting, TaskMay}

-- ---- a wish depends on what variables stand for alone

abbrev Same : Bindings → Bindings → Type 0
Same b d = (variable : Variable) → bound b variable ≡ bound d variable

named_same : (b d : Bindings) (target : Target) → Same b d → named b target ≡ named d target
named_same b d targets.Global same = refl
named_same b d (targets.Variable variable) same = ap handle_or_unset (same (locale_variable variable))
named_same b d (targets.Handle h) same = refl

catalog_same : (b d : Bindings) (catalog : OpenCatalog) → Same b d → catalog_named b catalog ≡ catalog_named d catalog
catalog_same b d (open_catalogs.Variable variable) same = ap catalog_or_unset (same (catalog_variable variable))
catalog_same b d (open_catalogs.Handle h) same = refl

base_same : (b d : Bindings) (base : Option Target) → Same b d → base_named b base ≡ base_named d base
base_same b d None same = refl
base_same b d (Some target) same = ap (λ (r : Result Named Why). r >>= λ n. Ok (Some n)) (named_same b d target same)

on_same : (b d : Bindings) (op : Named → table.Op) (target : Target) → Same b d → called categories.All (op_on op (named b target)) ≡ called categories.All (op_on op (named d target))
on_same b d op target same = ap (λ (r : Result Named Why). called categories.All (op_on op r)) (named_same b d target same)

command_same : (library : LibraryData) (b d : Bindings) (command : Command) → Same b d → wish library b command ≡ wish library d command
command_same library b d (commands.New variable bits locale base) same =
    ap (λ (r : Result (Option Named) Why). called categories.All (r >>= λ n. mask_of bits >>= λ mask. named_numbers library locale mask >>= λ ns. Ok (table.New mask ns n))) (base_same b d base same)
command_same library b d (commands.Dup variable from) same = on_same b d table.Dup from same
command_same library b d (commands.Free target) same = on_same b d table.Free target same
command_same library b d (commands.Use target) same = on_same b d table.Use target same
command_same library b d commands.Selected same = refl
command_same library b d (commands.Hold target) same = on_same b d table.Hold target same
command_same library b d (commands.Release target) same = on_same b d table.Release target same
command_same library b d (commands.Setlocale chosen locale) same = refl
command_same library b d (commands.LocaleName chosen) same = refl
command_same library b d (commands.Install key) same = refl
command_same library b d (commands.Post cell target) same = on_same b d (table.Post cell) target same
command_same library b d (commands.Fetch variable owner cell) same = refl
command_same library b d (commands.Pins target) same = on_same b d table.Pins target same
command_same library b d (commands.Read read) same = refl
command_same library b d (commands.ReadOf target read) same = ap (λ (r : Result Named Why). r >>= λ n. Ok (ReadsOf n read)) (named_same b d target same)
command_same library b d (commands.CatOpen variable name) same = refl
command_same library b d (commands.CatGets catalog set message default) same =
    ap (λ (r : Result Handle Why). r >>= λ h. Ok (GetsMessage h set message default)) (catalog_same b d catalog same)
command_same library b d (commands.CatClose catalog) same = ap (λ (r : Result Handle Why). r >>= λ h. Ok (ClosesCatalog h)) (catalog_same b d catalog same)

pub wish_same : (library : LibraryData) (b d : Bindings) (task : Task) → Same b d → wish_of library b task ≡ wish_of library d task
wish_same library b d (Runs command) same = command_same library b d command same
wish_same library b d (Releases h) same = refl
wish_same library b d Ends same = refl

-- ---- what a wish asks for may be asked for

-- what holds of all ops that fit the table and do not end their thread
abbrev pub Admits : Setting → (table.Op → Type 0) → Type 0
Admits c may = (op : table.Op) → Fits c op → op ≢ table.End → may op

-- what comes of a step may be asked for where it may for each value of the step
after_step : {A B : Type 0} (P : B → Type 0) (r : Result A Why) (f : A → Result B Why) → ((x : A) → r ≡ Ok x → IfOk (f x) P) → IfOk (r >>= f) P
after_step P (Ok x) f h = h x refl
after_step P (Err why) f h = tt

call_may : (may : table.Op → Type 0) (chosen : CategoryArgument) (asks : Asks) → IfOk asks may → IfOk (called chosen asks) (Fitting may)
call_may may chosen (Ok op) fits = fits
call_may may chosen (Err why) fits = tt

on_may : (may : table.Op → Type 0) (op : Named → table.Op) (r : Result Named Why) → ((n : Named) → may (op n)) → IfOk (called categories.All (op_on op r)) (Fitting may)
on_may may op (Ok n) fits = fits n
on_may may op (Err why) fits = tt

-- numbers on the library's shelf are on the table's
shelf_is : (c : Setting) (library : LibraryData) (ns : List ℕ) → c.opening ≡ opening library → AreOnShelf (opening library) ns → AreOnShelf c.opening ns
shelf_is c library ns own on = subst (λ (offers : List Offered). AreOnShelf offers ns) (sym own) on

given_fit : (library : LibraryData) (r : Result (List ℕ) Category) → IfOk r (AreOnShelf (opening library)) → IfOk (numbers_or_no_data r) (AreOnShelf (opening library))
given_fit library (Ok ns) on = on
given_fit library (Err category) on = tt

numbers_fit : (c : Setting) (library : LibraryData) (locale : List ℕ) (mask : ℕ) → IsNumbered library → c.opening ≡ opening library → (ns : List ℕ) → named_numbers library locale mask ≡ Ok ns → AreOnShelf c.opening ns
numbers_fit c library locale mask numbered own ns e =
    shelf_is c library ns own (subst (λ (r : Result (List ℕ) Why). IfOk r (AreOnShelf (opening library))) e (given_fit library (numbers library locale mask) (numbered locale mask)))

new_may : (c : Setting) (may : table.Op → Type 0) → Admits c may → (library : LibraryData) (b : Bindings) (bits : ℕ) (locale : List ℕ) (base : Option Target) → IsNumbered library → c.opening ≡ opening library → IfOk (new_op library b bits locale base) may
new_may c may admits library b bits locale base numbered own =
    after_step may (base_named b base) (λ n. mask_of bits >>= λ mask. named_numbers library locale mask >>= λ ns. Ok (table.New mask ns n)) (λ n e.
    after_step may (mask_of bits) (λ mask. named_numbers library locale mask >>= λ ns. Ok (table.New mask ns n)) (λ mask m.
    after_step may (named_numbers library locale mask) (λ ns. Ok (table.New mask ns n)) (λ ns k. admits (table.New mask ns n) (numbers_fit c library locale mask numbered own ns k) (λ e. absurd (cc e)))))

set_may : (c : Setting) (may : table.Op → Type 0) → Admits c may → (library : LibraryData) (mask : ℕ) (locale : List ℕ) → IsNumbered library → c.opening ≡ opening library → IfOk (set_op library mask locale) may
set_may c may admits library mask locale numbered own =
    after_step may (named_numbers library locale mask) (λ ns. Ok (table.SetGlobal mask ns)) (λ ns k. admits (table.SetGlobal mask ns) (numbers_fit c library locale mask numbered own ns k) (λ e. absurd (cc e)))

version_may : (c : Setting) (may : table.Op → Type 0) → Admits c may → (library : LibraryData) (version : Option (ℕ × Offered)) → c.opening ≡ opening library → IfSome version (λ v. (1 ≤ v.0) × (v.0 < length (opening library))) → IfOk (install_of version) may
version_may c may admits library None own within = tt
version_may c may admits library (Some version) own within =
    admits (table.Install version.0 version.1) (within.0, subst (λ (offers : List Offered). version.0 < length offers) (sym own) within.1) (λ e. absurd (cc e))

-- what is asked of the catalogs is no op of the table
catalog_may : (may : table.Op → Type 0) (r : Result Handle Why) (f : Handle → Wish) → ((h : Handle) → Fitting may (f h)) → IfOk (r >>= λ h. Ok (f h)) (Fitting may)
catalog_may may (Ok h) f fits = fits h
catalog_may may (Err why) f fits = tt

pub command_may : (c : Setting) (may : table.Op → Type 0) → Admits c may → (library : LibraryData) (b : Bindings) (command : Command) → IsNumbered library → IsInstallable library → c.opening ≡ opening library → IsInRange c.threads command → IfOk (wish library b command) (Fitting may)
command_may c may admits library b (commands.New variable bits locale base) numbered installable own range = call_may may categories.All (new_op library b bits locale base) (new_may c may admits library b bits locale base numbered own)
command_may c may admits library b (commands.Dup variable from) numbered installable own range = on_may may table.Dup (named b from) (λ n. admits (table.Dup n) tt (λ e. absurd (cc e)))
command_may c may admits library b (commands.Free target) numbered installable own range = on_may may table.Free (named b target) (λ n. admits (table.Free n) tt (λ e. absurd (cc e)))
command_may c may admits library b (commands.Use target) numbered installable own range = on_may may table.Use (named b target) (λ n. admits (table.Use n) tt (λ e. absurd (cc e)))
command_may c may admits library b commands.Selected numbered installable own range = tt
command_may c may admits library b (commands.Hold target) numbered installable own range = on_may may table.Hold (named b target) (λ n. admits (table.Hold n) tt (λ e. absurd (cc e)))
command_may c may admits library b (commands.Release target) numbered installable own range = on_may may table.Release (named b target) (λ n. admits (table.Release n) tt (λ e. absurd (cc e)))
command_may c may admits library b (commands.Setlocale chosen locale) numbered installable own range = call_may may chosen (setlocale_op library chosen locale) (set_may c may admits library (categories_mask chosen) locale numbered own)
command_may c may admits library b (commands.LocaleName chosen) numbered installable own range = tt
command_may c may admits library b (commands.Install key) numbered installable own range = call_may may categories.All (install_op library key) (version_may c may admits library (later library key) own (installable key))
command_may c may admits library b (commands.Post cell target) numbered installable own range = on_may may (table.Post cell) (named b target) (λ n. admits (table.Post cell n) range.0 (λ e. absurd (cc e)))
command_may c may admits library b (commands.Fetch variable owner cell) numbered installable own range = admits (table.Fetch owner cell) range (λ e. absurd (cc e))
command_may c may admits library b (commands.Pins target) numbered installable own range = on_may may table.Pins (named b target) (λ n. admits (table.Pins n) tt (λ e. absurd (cc e)))
command_may c may admits library b (commands.Read read) numbered installable own range = tt
command_may c may admits library b (commands.ReadOf target read) numbered installable own range =
    after_step (Fitting may) (named b target) (λ n. Ok (ReadsOf n read)) (λ n e. (admits (table.Hold n) tt (λ h. absurd (cc h)), admits (table.Release n) tt (λ r. absurd (cc r))))
command_may c may admits library b (commands.CatOpen variable name) numbered installable own range = tt
command_may c may admits library b (commands.CatGets catalog set message default) numbered installable own range =
    catalog_may may (catalog_named b catalog) (λ h. GetsMessage h set message default) (λ h. tt)
command_may c may admits library b (commands.CatClose catalog) numbered installable own range = catalog_may may (catalog_named b catalog) ClosesCatalog (λ h. tt)

-- a table that its runner has alone answers whatever fits
pub task_fits : (c : Setting) (library : LibraryData) (task : Task) → IsNumbered library → IsInstallable library → c.opening ≡ opening library → TaskFits c.threads task → TaskMay library (Fits c) task
task_fits c library (Runs command) numbered installable own fits = λ b. command_may c (Fits c) (λ op f e. f) library b command numbered installable own fits
task_fits c library (Releases h) numbered installable own fits = λ b. tt
task_fits c library Ends numbered installable own fits = λ b. tt
