-- Unbroken runs of the values of which a test holds (our own).
use Rattle.std.specs.Prelude.{◌≡◌, ℕ, ◌+◌, ◌<◌, ◌≤◌, Bool, true, false, Option, Some, None}

-- a test holds of no value from this one on
abbrev pub HoldsNowhereFrom : (ℕ → Bool) → ℕ → Type 0
HoldsNowhereFrom test w = (v : ℕ) → w ≤ v → test v ≡ false

-- the least value not below w of which a test holds, and the last of the unbroken run of such values from it
pub record IsRunFrom (test : ℕ → Bool) (w first last : ℕ) : Type 0 where
  pub within : (w ≤ first) × (first ≤ last)
  pub least : (v : ℕ) → w ≤ v → v < first → test v ≡ false
  pub unbroken : (v : ℕ) → first ≤ v → v ≤ last → test v ≡ true
  pub whole : test (last + 1) ≡ false

-- an answer is that run, or none where the test holds of nothing more
abbrev pub IsRunOf : (ℕ → Bool) → ℕ → Option (ℕ × ℕ) → Type 0
IsRunOf test w None = HoldsNowhereFrom test w
IsRunOf test w (Some run) = IsRunFrom test w run.0 run.1
