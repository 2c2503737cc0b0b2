-- What a reader of a printed form answers.
use Rattle.std.specs.Prelude.{◌≡◌, ◌≢◌, ℕ, ◌==◌, ◌<◌, false, List, [], length, slice_index_or, Option, Result, Ok, Err, MatchOption, MatchResult}
use Rattle.std.specs.Borrow.{Bor}
use Rattle.std.specs.List.{list_any}
use Rattle.output_reader.specs.declared.unread.Unread.{Unread}
use Rattle.output_reader.specs.declared.unread.Unread.TheVariants.{Memory}

-- just this value is answered, unless it is out of memory
abbrev pub Gives : {A : Type 0} → A → Result A Unread → Type 0
Gives v (Ok w) = w ≡ v
Gives v (Err e) = e ≡ Memory

-- no two names are the same
abbrev pub AreDistinct : List (List ℕ) → Type 0
AreDistinct names = (i j : ℕ) → i < length names → j < length names → slice_index_or names i [] ≡ slice_index_or names j [] → i ≡ j

-- a value of this text is answered, unless it is out of memory: this very one, where no two names are the same
abbrev pub GivesFor : {A : Type 0} → (A → List ℕ) → List (List ℕ) → A → Result A Unread → Type 0
GivesFor text names v (Ok w) = (text w ≡ text v) × (AreDistinct names → w ≡ v)
GivesFor text names v (Err e) = e ≡ Memory

-- so it is of each value of such a kind that has these bytes as its text
abbrev pub ReadsBack : {A : Type 0} → (A → List ℕ) → (A → Type 0) → List (List ℕ) → List ℕ → Result A Unread → Type 0
ReadsBack {A} text Fits names bytes result = (v : A) → Fits v → text v ≡ bytes → GivesFor text names v result

-- the name of a thread of this number
abbrev pub thread_name : List (List ℕ) → ℕ → List ℕ
thread_name names t = slice_index_or names t []

-- just this value is answered, and this rest behind it, unless it is out of memory
abbrev pub GivesWith : {A : Type 0} → A → List ℕ → Result (A × Bor (List ℕ)) Unread → Type 0
GivesWith v rest result = MatchResult result (λ r. (r.0 ≡ v) × (r.1.now ≡ rest)) (λ e. e ≡ Memory)

-- just these two pieces are answered
abbrev pub AreTwo : List ℕ → List ℕ → Bor (List ℕ) × Bor (List ℕ) → Type 0
AreTwo front rest r = (r.0.now ≡ front) × (r.1.now ≡ rest)

-- just this byte is answered, and this rest behind it
abbrev pub GivesByte : ℕ → List ℕ → Option (ℕ × Bor (List ℕ)) → Type 0
GivesByte c rest result = MatchOption result ⊥ (λ r. (r.0 ≡ c) × (r.1.now ≡ rest))

-- a byte does not stand in a text
abbrev pub Lacks : List ℕ → ℕ → Type 0
Lacks text c = list_any (λ b. b == c) text ≡ false

-- what follows a word: nothing, or a space and more
abbrev pub IsBehindWord : List ℕ → Type 0
IsBehindWord rest = slice_index_or rest 0 32 ≡ 32

-- no quoted text stands behind a space at the front
abbrev pub EndsTexts : List ℕ → Type 0
EndsTexts rest = slice_index_or rest 1 0 ≢ 34
