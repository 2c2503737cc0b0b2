-- What an output keeps of a text.
use Rattle.std.proofs.Common.{◌≡◌, ℕ, List, [], ◌++◌, length, replicate, refl, sym, ap, ◌∙◌, length-append}
use Rattle.std.proofs.lemmas.List.{length-replicate, replicate-append-replicate}
use Rattle.strftime_fields.specs.Kept.{Kind, Growing, Lent, Counted, kept}

pub kept_nothing : (kind : Kind) → kept kind [] ≡ []
kept_nothing Growing = refl
kept_nothing Lent = refl
kept_nothing Counted = refl

pub kept_append : (kind : Kind) (a b : List ℕ) → kept kind (a ++ b) ≡ kept kind a ++ kept kind b
kept_append Growing a b = refl
kept_append Lent a b = refl
kept_append Counted a b = ap (λ n. replicate n 0) (length-append a b) ∙ sym (replicate-append-replicate (length a) (length b) 0)

pub kept_length : (kind : Kind) (a : List ℕ) → length (kept kind a) ≡ length a
kept_length Growing a = refl
kept_length Lent a = refl
kept_length Counted a = length-replicate (length a) 0
