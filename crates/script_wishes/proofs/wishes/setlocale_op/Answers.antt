use Rattle.std.proofs.Common.{ℕ, ap, ◌∙◌}
use Rattle.script_wishes.specs.Wishes.{set_op}
use Rattle.script_wishes.proofs.wishes.setlocale_op.Goals as goal

pub returns : goal.returns
returns c = c.set_op.ensures ∙ ap (λ (mask : ℕ). set_op c.args.library.now mask c.args.locale.now) c.mask_of_categories.ensures
