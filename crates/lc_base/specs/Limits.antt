-- Texts that may have so many bytes (our own).
use Rattle.std.specs.Prelude.{ℕ, nat_lt, List, length, Result, Ok, Err, if◌then◌else◌}
use Rattle.lc_base.specs.declared.refusal.FormatRefusal.{FormatRefusal}
use Rattle.lc_base.specs.declared.refusal.FormatRefusal.TheVariants.{TooBig}

-- a text of at most so many bytes
abbrev pub within : ℕ → List ℕ → Result (List ℕ) FormatRefusal
within most text = if nat_lt most (length text) then Err TooBig else Ok text
