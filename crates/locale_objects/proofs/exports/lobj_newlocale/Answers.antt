use Rattle.std.proofs.Common.{ap, ◌∙◌}
use Rattle.shared_objects.specs.Shared.{MarkedLibraryData}
use Rattle.c_values.specs.Answers.{new_told}
use Rattle.locale_objects.proofs.exports.lobj_newlocale.Goals as goal

-- src/exports.rt:71:1
pub returns : goal.returns
returns c =
    c.put_new.ensures
    ∙ ap (λ (marked : MarkedLibraryData). new_told c.args.out.now marked c.args.mask c.args.name.now c.args.base) (c.get.ensures ∙ c.peek-peek.ensures)
