-- What a run of the program for right words did.
use Rattle.std.specs.Prelude.{◌≡◌, ℕ, ◌+◌, List, Option, ◌⊎◌}
use Rattle.std.specs.Io.KnownBytes.{Appends}
use Rattle.lc_base.specs.Faults.{Rose}
use Rattle.lc_base.specs.Bytes.{CameExactly, CameAtMost, AddsPrefix}
use Rattle.locale_cli.specs.Limits.{INPUT_LIMIT}
use Rattle.locale_cli.specs.declared.answer.Status.{Status}
use Rattle.locale_cli.specs.declared.answer.Status.TheVariants.{ReadFault, WriteFault, Memory, TooLarge}
use Rattle.locale_cli.specs.declared.words.Mode.{Mode}
use Rattle.locale_cli.specs.declared.answer.Answer.{Answer}
use Rattle.locale_cli.specs.Answer.{IsAnswer}
use Rattle.locale_cli.specs.Status.{too_large_line, WholeInput}

-- a sink from before a call to after it: what it holds, and its count of faults
pub record SinkStep : Type 0 where
  pub written : Option (List ℕ)
  pub written' : Option (List ℕ)
  pub faults : ℕ
  pub faults' : ℕ

-- the text was written without a fault and the status is this one, or the sink failed behind the front of the text
abbrev pub Wrote : Status → List ℕ → Status → SinkStep → Type 0
Wrote status text result k =
    ((result ≡ status) × Appends k.written k.written' text × (k.faults' ≡ k.faults))
    ⊎ ((result ≡ WriteFault) × AddsPrefix k.written k.written' text × Rose k.faults k.faults')

-- a source from before a call to after it: what is left, and its count of faults
pub record SourceStep : Type 0 where
  pub left : Option (List ℕ)
  pub left' : Option (List ℕ)
  pub faults : ℕ
  pub faults' : ℕ

-- the whole input came without a fault and was answered
abbrev pub AnsweredWhole : Mode → SourceStep → SinkStep → Status → Type 0
AnsweredWhole mode s k result = (input : List ℕ) × (a : Answer) × WholeInput s.left s.left' input × (s.faults' ≡ s.faults) × IsAnswer mode input a × Wrote a.status a.text result k

-- more bytes came than the limit allows, without a fault
abbrev pub AnsweredLarge : SourceStep → SinkStep → Status → Type 0
AnsweredLarge s k result = CameExactly s.left s.left' (INPUT_LIMIT + 1) × (s.faults' ≡ s.faults) × Wrote TooLarge too_large_line result k

-- the source failed
abbrev pub FailedToRead : SourceStep → Status → Type 0
FailedToRead s result = (result ≡ ReadFault) × Rose s.faults s.faults' × CameAtMost s.left s.left' INPUT_LIMIT

-- out of memory, and the source did not fail
abbrev pub LackedMemory : SourceStep → Status → Type 0
LackedMemory s result = (result ≡ Memory) × (s.faults' ≡ s.faults)

-- the input was answered, whole or too large; or nothing was written, since the source failed or memory ran out
abbrev pub Ran : Mode → SourceStep → SinkStep → Type 0 → Status → Type 0
Ran mode s k Unwritten result =
    (AnsweredWhole mode s k result ⊎ AnsweredLarge s k result)
    ⊎ (Unwritten × (FailedToRead s result ⊎ LackedMemory s result))
