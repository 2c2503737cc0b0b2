-- Adding to a text of limited length.
use Rattle.std.specs.Prelude.{◌≡◌, ℕ, ◌+◌, ◌<◌, ◌≤◌, Bool, true, false, List, ◌++◌, length, Result, Ok, Err}
use Rattle.strftime_fields.specs.declared.stop.Stop.{Stop}
use Rattle.strftime_fields.specs.declared.stop.Stop.TheVariants.{TooBig, Memory}
use Rattle.strftime_fields.specs.Kept.{Kind, kept, Fails}

-- a text is added, or it would be too long, or it is out of memory
abbrev pub Appends : Kind → ℕ → List ℕ → List ℕ → List ℕ → Result (Unit {0}) Stop → Type 0
Appends kind max old text new (Ok u) = (new ≡ old ++ kept kind text) × (length new ≤ max)
Appends kind max old text new (Err TooBig) = max < length old + length text
Appends kind max old text new (Err Memory) = Fails kind

-- a text is added, or nothing is
abbrev pub Adds : Kind → List ℕ → List ℕ → List ℕ → Bool → Type 0
Adds kind old text new true = new ≡ old ++ kept kind text
Adds kind old text new false = new ≡ old
