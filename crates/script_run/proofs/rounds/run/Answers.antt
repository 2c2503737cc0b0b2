use Rattle.std.proofs.Common.{◌≡◌, ◌<◌, ℕ, ◌+◌, ◌*◌, [], length, sym, ap, subst, ◌∙◌, arith}
use Rattle.std.specs.Prelude.{All}
use Rattle.thread_current.specs.Thread.{IsPart}
use Rattle.script_lang.specs.declared.bundle.Bundle.{Bundle}
use Rattle.script_lines.specs.Catalogs.{Books}
use Rattle.script_plan.specs.Prints.{Prints}
use Rattle.script_plan.specs.Serial.{setting}
use Rattle.script_plan.proofs.PlanParts.{sound_parts}
use Rattle.script_run.proofs.Beginning.{between_first, as_many_threads, as_many_readers}
use Rattle.script_run.proofs.Closing.{numbers_of}
use Rattle.script_seats.specs.Seated.{gates}
use Rattle.script_run.specs.Rounds.{plan_made}
use Rattle.script_run.proofs.Running.{blocks_are, terms_for, asked_for, run_prints, none_prints, prints_isolated, some_of, threads_are, readers_are}
use Rattle.script_run.proofs.rounds.run.Goals as goal

pub returns-then-is_empty-clause-prints : goal.returns-then-is_empty-clause-prints
returns-then-is_empty-clause-prints g c =
    let none : c.bundle-bundle.result.now.threads ≡ [] = c.is_empty.ensures.0 c.if-is_empty.true in
    subst (Prints (setting c.args.plan.now c.args.rows c.args.generations) c.args.plan.now) (sym (c.of.ensures ∙ c.new.ensures.items))
    (none_prints c.args.plan.now c.args.rows c.args.generations (ap (λ (b : Bundle). b.threads) (sym c.bundle-bundle.ensures.bundle) ∙ none))

pub returns-then-is_empty-clause-isolated : goal.returns-then-is_empty-clause-isolated
returns-then-is_empty-clause-isolated g c = prints_isolated c.args.plan.now c.args.rows c.args.generations c.of.result (returns-then-is_empty-clause-prints g c)

pub new_workers-requires-clause-many : goal.new_workers-requires-clause-many
new_workers-requires-clause-many g c =
    as_many_readers c.in_ok-catalogs.catalogs c.in_ok-catalogs.readers c.len-count.result c.in_ok-catalogs.ensures.threads
    ∙ sym (as_many_threads c.in_ok-shared.shared c.in_ok-shared.mine c.len-count.result c.in_ok-shared.ensures.threads)

pub new_workers-requires-clause-few : goal.new_workers-requires-clause-few
new_workers-requires-clause-few g c =
    let many = as_many_threads c.in_ok-shared.shared c.in_ok-shared.mine c.len-count.result c.in_ok-shared.ensures.threads in
    let count = c.len-count.ensures in
    let few = c.bundle-bundle.ensures.sound.accepted.few_threads in
    let same = ap (λ (b : Bundle). length b.threads) c.bundle-bundle.ensures.bundle in
    omega (arith, many, count, few, same)

pub all_rounds-requires-clause-sound : goal.all_rounds-requires-clause-sound
all_rounds-requires-clause-sound g c κs within = sound_parts c.args.plan.now c.bundle-bundle.result.now c.library-library.result.now c.books-books.result.books c.bundle-bundle.ensures.bundle c.library-library.ensures (ap (λ (b : Books). b.books) c.books-books.ensures)
    c.bundle-bundle.ensures.sound

pub all_rounds-requires-clause-asked : goal.all_rounds-requires-clause-asked
all_rounds-requires-clause-asked g c κs within =
    asked_for c.in_ok-shared.shared.terms c.in_ok-catalogs.catalogs.terms c.len-count.result c.args.rows c.args.generations (2 * c.len.result + 1) c.in_ok-shelf.shelf c.in_ok-shared.ensures.terms c.in_ok-catalogs.ensures.terms

pub all_rounds-requires-clause-catalogs : goal.all_rounds-requires-clause-catalogs
all_rounds-requires-clause-catalogs g c κs within =
    blocks_are c.args.plan.now c.bundle-bundle.result.now c.books-books.result c.bundle-bundle.ensures.bundle c.books-books.ensures

pub all_rounds-requires-clause-begun : goal.all_rounds-requires-clause-begun
all_rounds-requires-clause-begun g c κs within =
    let some : 0 < length c.bundle-bundle.result.now.threads = some_of c.bundle-bundle.result.now.threads c.is_empty.result c.is_empty.ensures.1 c.if-is_empty.false in
    between_first (gates c.in_ok-shared.shared c.in_ok-catalogs.catalogs) (plan_made c.bundle-bundle.result.now c.library-library.result.now c.books-books.result) c.in_ok-shared.mine c.in_ok-catalogs.readers c.in_ok-workers.workers.items
    (terms_for (plan_made c.bundle-bundle.result.now c.library-library.result.now c.books-books.result) c.in_ok-shared.shared.terms c.len-count.result c.args.rows c.args.generations (2 * c.len.result + 1) c.in_ok-shelf.shelf
    c.in_ok-shared.ensures.terms c.len-count.ensures some c.in_ok-shelf.ensures (ap (λ (n : ℕ). 2 * n + 1) c.len.ensures))
    (asked_for c.in_ok-shared.shared.terms c.in_ok-catalogs.catalogs.terms c.len-count.result c.args.rows c.args.generations (2 * c.len.result + 1) c.in_ok-shelf.shelf c.in_ok-shared.ensures.terms c.in_ok-catalogs.ensures.terms)
    (threads_are c.in_ok-shared.shared c.in_ok-shared.mine c.len-count.result c.args.rows c.args.generations (2 * c.len.result + 1) c.in_ok-shelf.shelf c.in_ok-shared.ensures.terms c.in_ok-shared.ensures.threads)
    (readers_are c.in_ok-catalogs.catalogs c.in_ok-shared.shared.terms c.in_ok-catalogs.readers c.len-count.result c.args.rows c.args.generations (2 * c.len.result + 1) c.in_ok-shelf.shelf c.in_ok-shared.ensures.terms c.in_ok-catalogs.ensures.threads)
    c.in_ok-workers.ensures.length c.in_ok-workers.ensures.first

pub close-requires-clause-numbers : goal.close-requires-clause-numbers
close-requires-clause-numbers g c =
    let some : 0 < length c.bundle-bundle.result.now.threads = some_of c.bundle-bundle.result.now.threads c.is_empty.result c.is_empty.ensures.1 c.if-is_empty.false in
    numbers_of (gates c.in_ok-shared.shared c.in_ok-catalogs.catalogs) (plan_made c.bundle-bundle.result.now c.library-library.result.now c.books-books.result) c.in_ok-lines.seats.items c.of-2.result c.in_ok-lines.lines.items c.in_ok-lines.ensures
    (terms_for (plan_made c.bundle-bundle.result.now c.library-library.result.now c.books-books.result) c.in_ok-shared.shared.terms c.len-count.result c.args.rows c.args.generations (2 * c.len.result + 1) c.in_ok-shelf.shelf
    c.in_ok-shared.ensures.terms c.len-count.ensures some c.in_ok-shelf.ensures (ap (λ (n : ℕ). 2 * n + 1) c.len.ensures))
    c.of-2.ensures

pub returns-clause-prints : goal.returns-clause-prints
returns-clause-prints g c =
    let some : 0 < length c.bundle-bundle.result.now.threads = some_of c.bundle-bundle.result.now.threads c.is_empty.result c.is_empty.ensures.1 c.if-is_empty.false in
    subst (Prints (setting c.args.plan.now c.args.rows c.args.generations) c.args.plan.now) (sym c.of-3.ensures)
    (run_prints c.args.plan.now c.bundle-bundle.result.now c.library-library.result.now c.books-books.result (gates c.in_ok-shared.shared c.in_ok-catalogs.catalogs) c.len-count.result c.args.rows c.args.generations (2 * c.len.result + 1) c.in_ok-shelf.shelf
    c.in_ok-lines.seats.items c.in_ok-lines.lines.items c.close.result c.bundle-bundle.ensures.bundle c.library-library.ensures c.books-books.ensures c.in_ok-shared.ensures.terms c.in_ok-catalogs.ensures.terms c.len-count.ensures some c.in_ok-shelf.ensures
    (ap (λ (n : ℕ). 2 * n + 1) c.len.ensures) c.in_ok-lines.ensures
    (c.close.ensures.0, c.close.ensures.1, c.close.ensures.2, subst (All (IsPart c.close.ensures.0)) c.of-2.ensures c.close.ensures.3))

pub returns-clause-isolated : goal.returns-clause-isolated
returns-clause-isolated g c = prints_isolated c.args.plan.now c.args.rows c.args.generations c.of-3.result (returns-clause-prints g c)
