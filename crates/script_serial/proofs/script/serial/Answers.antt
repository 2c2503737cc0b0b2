use Rattle.std.proofs.Common.{◌≡◌, [], sym, ap, ◌∙◌}
use Rattle.script_lines.specs.Catalogs.{Books}
use Rattle.script_lang.specs.declared.bundle.Bundle.{Bundle}
use Rattle.script_serial.proofs.PlayLemmas.{no_lines, serial_lines_are}
use Rattle.script_serial.proofs.SerialNewest.{printed_in_order}
use Rattle.script_plan.proofs.PlanParts.{sound_parts}
use Rattle.script_serial.proofs.SerialApart.{printed_isolated}
use Rattle.script_serial.proofs.script.serial.Goals as goal

pub returns-then-is_empty-clause-lines : goal.returns-then-is_empty-clause-lines
returns-then-is_empty-clause-lines c =
    let none : c.bundle-bundle.result.now.threads ≡ [] = c.is_empty.ensures.0 c.if-is_empty.true in
    c.of.ensures ∙ c.new.ensures.items ∙ sym (no_lines c.args.plan.now c.args.rows c.args.generations (ap (λ (b : Bundle). b.threads) (sym c.bundle-bundle.ensures.bundle) ∙ none))

pub all_lines-requires-clause-sound : goal.all_lines-requires-clause-sound
all_lines-requires-clause-sound c =
    sound_parts c.args.plan.now c.bundle-bundle.result.now c.library-library.result.now c.books-books.result.books c.bundle-bundle.ensures.bundle c.library-library.ensures (ap (λ (b : Books). b.books) c.books-books.ensures) c.bundle-bundle.ensures.sound

pub all_lines-requires-clause-blocks : goal.all_lines-requires-clause-blocks
all_lines-requires-clause-blocks c = ap (λ (b : Books). b.blocks) c.books-books.ensures ∙ ap (λ (b : Bundle). b.catalogs) (sym c.bundle-bundle.ensures.bundle)

pub returns-clause-lines : goal.returns-clause-lines
returns-clause-lines c =
    c.of-2.ensures
    ∙ serial_lines_are c.args.plan.now c.args.rows c.args.generations c.len-count.result c.bundle-bundle.result.now c.library-library.result.now c.books-books.result.books c.in_ok-alone.alone.table.setting c.in_ok-lines.lines.items
    c.in_ok-alone.ensures.setting c.len-count.ensures c.bundle-bundle.ensures.bundle c.library-library.ensures (ap (λ (b : Books). b.books) c.books-books.ensures) c.in_ok-lines.ensures

pub returns-then-is_empty-clause-prints : goal.returns-then-is_empty-clause-prints
returns-then-is_empty-clause-prints c = printed_in_order c.args.plan.now c.args.rows c.args.generations (returns-then-is_empty-clause-lines c)

pub returns-clause-prints : goal.returns-clause-prints
returns-clause-prints c = printed_in_order c.args.plan.now c.args.rows c.args.generations (returns-clause-lines c)

pub returns-then-is_empty-clause-isolated : goal.returns-then-is_empty-clause-isolated
returns-then-is_empty-clause-isolated c = printed_isolated c.args.plan.now c.args.rows c.args.generations (returns-then-is_empty-clause-lines c)

pub returns-clause-isolated : goal.returns-clause-isolated
returns-clause-isolated c = printed_isolated c.args.plan.now c.args.rows c.args.generations (returns-clause-lines c)
