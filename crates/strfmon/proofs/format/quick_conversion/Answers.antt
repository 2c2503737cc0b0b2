use Rattle.std.proofs.Common.{Some, ap, sym, ◌∙◌}
use Rattle.strfmon.proofs.FormatLemmas.{plain_letter}
use Rattle.strfmon.proofs.format.quick_conversion.Goals as goal

pub returns-in-Some-clause-is : goal.returns-in-Some-clause-is
returns-in-Some-clause-is c =
    ap (λ k. Some (k, 1)) c.plain_conversion.ensures ∙ sym (plain_letter c.args.bytes.now c.in-Some.international (sym c.is_international.ensures.is ∙ c.in-Some.is))
