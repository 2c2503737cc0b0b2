use Rattle.std.proofs.Common.{ap, sym, length, ◌∙◌}
use Rattle.charset.proofs.Encodings.{encoded-empty, encoded-two}
use Rattle.charset.proofs.unicode.only_char.Goals as goal

pub returns-in_default : goal.returns-in_default
returns-in_default c = encoded-empty _ (sym (ap length c.chars-chars.ensures.rest) ∙ c.in_default.ensures.steps.0.0)

pub returns-in-Some-next : goal.returns-in-Some-next
returns-in-Some-next c =
    encoded-two _ _ _ _ _ (sym c.chars-chars.ensures.rest ∙ c.in-Some.ensures.steps.0) c.in-Some-next.ensures.steps.0
