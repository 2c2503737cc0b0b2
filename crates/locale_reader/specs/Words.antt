-- Sets of words, as they are kept.
use Rattle.std.specs.Prelude.{◌≡◌, ℕ, Bool, ◌||◌, List}
use Rattle.std.specs.BTreeSet.{BTreeSet}
use Rattle.std.specs.List.{list_any}
use Rattle.std.specs.Str.{bytes_eq}
use Rattle.std.specs.declared.vec.Vec.{Vec}

-- whether a word is among those of a set
abbrev pub has_word : {A : Type 0} → BTreeSet (Vec ℕ A) → List ℕ → Bool
has_word words word = list_any (λ w. bytes_eq w.items word) words.keys

-- one more word is there
abbrev pub AddsWord : {A : Type 0} → BTreeSet (Vec ℕ A) → BTreeSet (Vec ℕ A) → List ℕ → Type 0
AddsWord old new added = (word : List ℕ) → has_word new word ≡ (bytes_eq added word || has_word old word)
