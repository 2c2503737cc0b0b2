-- What is found of files that are checked, and what that adds to what is written (our own).
use Rattle.std.specs.Prelude.{◌≡◌, ℕ, ◌<◌, Bool, true, false, List, [], ◌∷◌, ◌++◌, length, All, Result, Ok, Err, if◌then◌else◌}
use Rattle.lc_base.specs.Reading.{Reads}
use Rattle.charset.specs.CodedSet.{CodedSet}
use Rattle.category_store.specs.LibraryData.{LibraryData}
use Rattle.tool_messages.specs.Message.{BeginsWith}
use Rattle.tool_files.specs.declared.sources.FilePath.{FilePath}
use Rattle.tool_files.specs.declared.sources.Sources.{Sources}
use Rattle.tool_files.specs.Library.{charset_of, library}
use Rattle.tool_files.specs.Told.{IsFileMessage}
use Rattle.tool_check.specs.declared.checked.Checked.{Checked}
use Rattle.tool_check.specs.declared.checked.Checked.TheVariants.{Accepted, Refused}
use Rattle.tool_check.specs.declared.fault.Fault.{Fault}
use Rattle.tool_check.specs.declared.finding.Finding.{Finding}
use Rattle.tool_check.specs.Found.{AreAllTold, IsFaultOf}
use Rattle.tool_check.specs.Odd.{BeginsWithMessage, AreFindingMessages, source_findings}
use Rattle.tool_check.specs.Summary.{accepted_line, charmap_summary}

-- ---- what is found of files that were read

-- the summary of a file: nothing where none is asked for; else it begins with the line that says so
abbrev pub IsSummary : Bool → List ℕ → List ℕ → Type 0
IsSummary false path summary = summary ≡ []
IsSummary true path summary = BeginsWith (accepted_line path) summary

-- a text is the messages of these faults, one after another
abbrev pub AreMessages : List FilePath → List Fault → List ℕ → Type 0
AreMessages files [] text = text ≡ []
AreMessages files (fault ∷ faults) text = BeginsWithMessage (IsFileMessage files fault.place fault.reason) (AreMessages files faults) text

-- the messages of sources: of this fault, their first one, and of those of the looks, in the order of their lines
pub record AreMessagesFrom (sources : Sources) (first : Fault) (messages : List ℕ) : Type 0 where
  pub faults : List Fault
  pub told : AreAllTold first faults
  pub each : All (IsFaultOf sources.charmaps sources.locales first) faults
  pub are : AreMessages sources.paths.items faults messages

-- the messages of findings, and behind them those of sources
abbrev pub AreAllMessages : List ℕ → List Finding → Sources → Fault → List ℕ → Type 0
AreAllMessages path findings sources first = BeginsWithMessage (AreFindingMessages path findings) (AreMessagesFrom sources first)

-- sources that give a library are accepted, with their summary, where these findings are none, and else refused, with their messages
abbrev pub IsAcceptedOf : Bool → List ℕ → List Finding → Checked → Type 0
IsAcceptedOf asked path [] (Accepted summary) = IsSummary asked path summary
IsAcceptedOf asked path [] (Refused messages) = ⊥
IsAcceptedOf asked path (finding ∷ findings) (Accepted summary) = ⊥
IsAcceptedOf asked path (finding ∷ findings) (Refused messages) = AreFindingMessages path (finding ∷ findings) messages

-- sources that give no library are refused, with the messages of findings and of their faults
abbrev pub IsRefusedOf : List ℕ → Sources → List Finding → Fault → Checked → Type 0
IsRefusedOf path sources findings first (Accepted summary) = ⊥
IsRefusedOf path sources findings first (Refused messages) = AreAllMessages path findings sources first messages

-- what is found of sources that give this, and of which the first has these findings
abbrev pub IsFoundOf : Bool → List ℕ → Sources → List Finding → Reads LibraryData → Checked → Type 0
IsFoundOf asked path sources findings (Ok library) = IsAcceptedOf asked path findings
IsFoundOf asked path sources findings (Err fault) = IsRefusedOf path sources findings (record { place = fault.0; reason = fault.1 })

-- sources are accepted where they give a library, and the first one has nothing that its reader passes over
abbrev pub IsFound : Bool → List ℕ → Sources → Checked → Type 0
IsFound asked path sources = IsFoundOf asked path sources (source_findings sources.locales) (library sources.charmaps sources.locales)

-- a charmap that gives this is accepted, with its summary, or refused, with the message of its first fault
abbrev pub IsCharmapFoundOf : Bool → List ℕ → List FilePath → Reads CodedSet → Checked → Type 0
IsCharmapFoundOf asked path files (Ok set) (Accepted summary) = summary ≡ (if asked then charmap_summary path set else [])
IsCharmapFoundOf asked path files (Ok set) (Refused messages) = ⊥
IsCharmapFoundOf asked path files (Err fault) (Accepted summary) = ⊥
IsCharmapFoundOf asked path files (Err fault) (Refused messages) = IsFileMessage files fault.0 fault.1 messages

-- a charmap is accepted where it gives a charset, and else refused
abbrev pub IsCharmapFound : Bool → List ℕ → Sources → Checked → Type 0
IsCharmapFound asked path sources found = IsCharmapFoundOf asked path sources.paths.items (charset_of sources.charmaps sources.locales) found

-- that a file is accepted with this summary, unless it is out of memory
abbrev pub accepted : {E : Type 0} → Result (List ℕ) E → Result Checked E
accepted (Ok summary) = Ok (Accepted summary)
accepted (Err e) = Err e

-- that a file is refused with these messages, unless it is out of memory
abbrev pub refused : {E : Type 0} → Result (List ℕ) E → Result Checked E
refused (Ok messages) = Ok (Refused messages)
refused (Err e) = Err e

-- ---- what is found of any file, and what is written of it

-- an accepted file has its summary, and a refused one is not silent
abbrev pub IsChecked : Bool → List ℕ → Checked → Type 0
IsChecked asked path (Accepted summary) = IsSummary asked path summary
IsChecked asked path (Refused messages) = 0 < length messages

-- what is written of an accepted file: its summary, and no message
pub record IsWrittenAccepted (asked : Bool) (path output output' messages messages' : List ℕ) : Type 0 where
  pub summary : List ℕ
  pub is_summary : IsSummary asked path summary
  pub output_is : output' ≡ output ++ summary
  pub messages_same : messages' ≡ messages

-- what is written of a refused file: at least a byte of messages behind those before, and nothing to the output
pub record IsWrittenRefused (output output' messages messages' : List ℕ) : Type 0 where
  pub output_same : output' ≡ output
  pub told : List ℕ
  pub not_silent : 0 < length told
  pub messages_more : messages' ≡ messages ++ told

-- what is written of a file that is accepted or not
abbrev pub IsWritten : Bool → Bool → List ℕ → List ℕ → List ℕ → List ℕ → List ℕ → Type 0
IsWritten true asked path output output' messages messages' = IsWrittenAccepted asked path output output' messages messages'
IsWritten false asked path output output' messages messages' = IsWrittenRefused output output' messages messages'
