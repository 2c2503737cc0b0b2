-- The rows of reasons, tried on some.
use Rattle.std.proofs.Common.{◌≡◌, [], ◌∷◌, refl}
use Rattle.lc_base.specs.declared.reason.Limit.TheVariants as limits
use Rattle.lc_base.specs.declared.reason.LinePart.TheVariants as line
use Rattle.lc_base.specs.declared.reason.Reason.TheVariants as reasons
use Rattle.reason_rules.specs.Rows.{row_of}

-- the first row, one of a limit, one that carries a place, and the last of a reason
numbered : row_of (reasons.BadLine line.Directive) ∷ row_of (reasons.OverLimit limits.Texts) ∷ row_of (reasons.BadFormat 7) ∷ row_of reasons.BadMessage ∷ [] ≡ 0 ∷ 19 ∷ 52 ∷ 55 ∷ []
numbered = refl
