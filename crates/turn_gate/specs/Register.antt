-- The machine of the tests: a register, whose calls write a number and reply with the one before.
use Rattle.std.specs.Prelude.{◌≡◌, ℕ, ◌+◌, ◌≤◌, ◌==◌, if◌then◌else◌, [], ◌∷◌, length}
use Rattle.turn_gate.specs.History.{History}

-- the number that was written last
abbrev pub value : History ℕ ℕ → ℕ
value [] = 0
value (e ∷ H) = e.op

-- how many calls wrote another number than the one before
abbrev pub changes : History ℕ ℕ → ℕ
changes [] = 0
changes (e ∷ H) = if e.op == e.reply then changes H else changes H + 1

-- each call replied with the number before it
abbrev pub IsLegalRegister : History ℕ ℕ → Type 0
IsLegalRegister [] = Unit {0}
IsLegalRegister (e ∷ H) = (e.reply ≡ value H) × IsLegalRegister H

-- a register with this number, after so many changes and calls, stands for the history
pub record RegisterStands (number changed calls : ℕ) (H : History ℕ ℕ) : Type 0 where
  pub legal : IsLegalRegister H
  pub number_is : number ≡ value H
  pub changed_is : changed ≡ changes H
  pub calls_are : calls ≡ length H
  pub fewer : changed ≤ calls
