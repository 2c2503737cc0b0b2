use Rattle.std.proofs.Common.{ap, ◌∙◌}
use Rattle.mask_compose.specs.Offer.{Offered}
use Rattle.global_locale.specs.Versioned.{Versioned}
use Rattle.handle_table.proofs.kept.first_global.Goals as goal

pub returns : goal.returns
returns g c = record {
  version = ap (λ (v : Versioned). v.version) c.new.ensures;
  object = ap (λ (v : Versioned). v.object) c.new.ensures ∙ c.share.ensures ∙ ap (λ (o : Offered). o.object) (c.behind-setting.view_is ∙ c.posix.ensures);
}
