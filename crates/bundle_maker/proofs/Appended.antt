-- A text behind what was there.
use Rattle.std.proofs.Common.{◌≡◌, ℕ, List, ◌++◌, Result, Ok, Err, ap, ◌∙◌, append_assoc}
use Rattle.std.specs.Prelude.{OnOk, is_ok, if◌then◌else◌}

-- what is added, if it is
pub if_added : {A E : Type 0} (r : Result A E) (new text more : List ℕ) → new ≡ (if is_ok r then text ++ more else text) → OnOk r (new ≡ text ++ more)
if_added (Ok x) new text more e = e
if_added (Err x) new text more e = tt

-- what is added behind a front, which was added itself
pub added : {A E : Type 0} (r : Result A E) (new before text front more : List ℕ) → before ≡ text ++ front → OnOk r (new ≡ before ++ more) → OnOk r (new ≡ text ++ (front ++ more))
added (Ok x) new before text front more is e = e ∙ ap (λ (xs : List ℕ). xs ++ more) is ∙ append_assoc text front more
added (Err x) new before text front more is e = e

-- three pieces
pub three : (text first second third one two all : List ℕ) → one ≡ text ++ first → two ≡ one ++ second → all ≡ two ++ third → all ≡ text ++ (first ++ second ++ third)
three text first second third one two all a b c =
    c
    ∙ ap (λ (xs : List ℕ). xs ++ third) (b ∙ ap (λ (xs : List ℕ). xs ++ second) a ∙ append_assoc text first second)
    ∙ append_assoc text (first ++ second) third
