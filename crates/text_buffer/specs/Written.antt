-- Texts in buffers of the caller (our own).
use Rattle.std.specs.Prelude.{◌≡◌, ℕ, ◌+◌, ◌-◌, ◌^◌, min, nat_lt, List, ◌++◌, length, take, drop, Result, Ok, Err, if◌then◌else◌}
use Rattle.lc_base.specs.declared.refusal.FormatRefusal.{FormatRefusal}
use Rattle.text_buffer.specs.declared.unwritten.Unwritten.{Unwritten}
use Rattle.text_buffer.specs.declared.unwritten.Unwritten.TheVariants.{Refused, TooSmall}

-- bytes with a text over those from a place on
abbrev pub over : List ℕ → ℕ → List ℕ → List ℕ
over old at text = take at old ++ (text ++ drop (at + length text) old)

-- the length that is told of a text: the greatest `usize` stands for those above it
abbrev pub told_length : List ℕ → ℕ
told_length text = min (length text) (2 ^ 64 - 1)

-- what is told of a text, or of the refusal in its place, where a buffer has so many bytes
abbrev pub told : ℕ → Result (List ℕ) FormatRefusal → Result ℕ Unwritten
told room (Err why) = Err (Refused why)
told room (Ok text) = if nat_lt room (length text) then Err (TooSmall (told_length text)) else Ok (length text)

-- what a buffer then holds: the text at its front and behind it what was there, or where the text is refused or too long just what was there
abbrev pub held : List ℕ → Result (List ℕ) FormatRefusal → List ℕ
held old (Err why) = old
held old (Ok text) = if nat_lt (length old) (length text) then old else text ++ drop (length text) old

-- a call on a buffer is told the length of this text, and the text is there, or why not
pub record Written (old new : List ℕ) (result : Result ℕ Unwritten) (answer : Result (List ℕ) FormatRefusal) : Type 0 where
  pub is_told : result ≡ told (length old) answer
  pub is_held : new ≡ held old answer
