-- What is told of what is found of a source that its reader passes over (our own).
use Rattle.std.specs.Prelude.{◌≡◌, ℕ, ◌<◌, List, [], ◌∷◌, ◌++◌, length, codes}
use Rattle.lc_base.specs.declared.block.Block.{Block}
use Rattle.tool_messages.specs.Message.{BeginsWith, fault_head}
use Rattle.tool_check.specs.declared.finding.Finding.{Finding}
use Rattle.tool_check.specs.declared.finding.Oddity.{Oddity}
use Rattle.tool_check.specs.declared.finding.Oddity.TheVariants.{Return, UnknownSection, NoSection}
use Rattle.tool_check.specs.Findings.{findings}

-- the name of an oddity, which stands for the reason
abbrev pub oddity_name : Oddity → List ℕ
oddity_name Return = codes "CarriageReturn"
oddity_name UnknownSection = codes "UnknownSection"
oddity_name NoSection = codes "NoSection"

-- what is found of the first of these sources that its reader passes over
abbrev pub source_findings : List Block → List Finding
source_findings [] = []
source_findings (block ∷ blocks) = findings block.text

-- a text is such a message, and behind it stands more
pub record BeginsWithMessage (is_message behind : List ℕ → Type 0) (text : List ℕ) : Type 0 where
  pub message : List ℕ
  pub rest : List ℕ
  pub parts : text ≡ message ++ rest
  pub is : is_message message
  pub more : behind rest

-- the message of a finding begins with the file, the line, the column and the name of the oddity
abbrev pub IsFindingMessage : List ℕ → Finding → List ℕ → Type 0
IsFindingMessage path finding message = BeginsWith (fault_head path finding.place.line finding.place.column (oddity_name finding.oddity)) message

-- a text is the messages of these findings, one after another
abbrev pub AreFindingMessages : List ℕ → List Finding → List ℕ → Type 0
AreFindingMessages path [] text = text ≡ []
AreFindingMessages path (finding ∷ findings) text = BeginsWithMessage (IsFindingMessage path finding) (AreFindingMessages path findings) text

-- at least a byte more behind those before
pub record IsAdded (old new : List ℕ) : Type 0 where
  pub told : List ℕ
  pub not_silent : 0 < length told
  pub more : new ≡ old ++ told
