-- What checking gives, case by case.
use Rattle.std.proofs.Common.{◌≡◌, ◌≢◌, ℕ, ◌<◌, ◌++◌, Bool, true, false, List, [], ◌∷◌, length, All, Result, Ok, Err, IfOk, codes, refl, ap, subst, length-append, arith, if◌then◌else◌}
use Rattle.lc_base.specs.declared.place.Place.{Place}
use Rattle.lc_base.specs.declared.reason.Reason.{Reason}
use Rattle.lc_base.specs.Reading.{Reads}
use Rattle.charset.specs.CodedSet.{CodedSet, set_name}
use Rattle.category_store.specs.LibraryData.{LibraryData}
use Rattle.tool_messages.proofs.MessageLemmas.{head_says}
use Rattle.tool_files.specs.declared.sources.FilePath.{FilePath}
use Rattle.tool_files.specs.declared.sources.Sources.{Sources}
use Rattle.tool_files.specs.Library.{charset_of, library}
use Rattle.tool_files.specs.Told.{IsFileMessage, file_of}
use Rattle.tool_check.specs.declared.checked.Checked.{Checked}
use Rattle.tool_check.specs.declared.checked.Checked.TheVariants.{Accepted, Refused}
use Rattle.tool_check.specs.declared.fault.Fault.{Fault}
use Rattle.tool_check.specs.Found.{AreAllTold, IsFaultOf}
use Rattle.tool_check.specs.Summary.{row, charmap_summary}
use Rattle.tool_check.specs.declared.finding.Finding.{Finding}
use Rattle.tool_check.specs.Odd.{AreFindingMessages, source_findings, IsAdded}
use Rattle.tool_check.proofs.OddLemmas.{findings_say}
use Rattle.tool_check.specs.Checked.{accepted, refused, IsSummary, AreMessages, AreMessagesFrom, AreAllMessages, IsAcceptedOf, IsRefusedOf, IsFoundOf, IsFound, IsCharmapFoundOf, IsCharmapFound, IsChecked, IsWritten}

-- ---- messages of faults

pub one_more_message : (files : List FilePath) (fault : Fault) (faults : List Fault) (message rest text : List ℕ) → IsFileMessage files fault.place fault.reason message
    → AreMessages files faults rest → text ≡ message ++ rest → AreMessages files (fault ∷ faults) text
one_more_message files fault faults message rest text is more e = record { message = message; rest = rest; parts = e; is = is; more = more }

pub messages_from : {E : Type 0} (sources : Sources) (first : Fault) (faults : List Fault) (messages : Result (List ℕ) E) → AreAllTold first faults
    → All (IsFaultOf sources.charmaps sources.locales first) faults → IfOk messages (AreMessages sources.paths.items faults) → IfOk messages (AreMessagesFrom sources first)
messages_from sources first faults (Ok messages) told each are = record { faults = faults; told = told; each = each; are = are }
messages_from sources first faults (Err e) told each are = tt

message_says : (files : List FilePath) (place : Place) (reason : Reason) (message : List ℕ) → IsFileMessage files place reason message → 0 < length message
message_says files place reason message is = head_says (file_of files place.line).0 is.spot.line is.spot.column _ message is.begins

messages_say : (files : List FilePath) (before : List Fault) (first : Fault) (behind : List Fault) (messages : List ℕ) → AreMessages files (before ++ first ∷ behind) messages → 0 < length messages
messages_say files [] first behind messages are =
    omega (arith, ap length are.parts, length-append are.message are.rest, message_says files first.place first.reason are.message are.is)
messages_say files (fault ∷ before) first behind messages are =
    omega (arith, ap length are.parts, length-append are.message are.rest, message_says files fault.place fault.reason are.message are.is)

messages_from_say : (sources : Sources) (first : Fault) (messages : List ℕ) → AreMessagesFrom sources first messages → 0 < length messages
messages_from_say sources first messages from =
    let files = sources.paths.items in
    messages_say files from.told.before first from.told.behind messages (subst (λ (faults : List Fault). AreMessages files faults messages) from.told.first_is from.are)

-- ---- what is found

charmap_summed : (asked : Bool) (path summary : List ℕ) (set : CodedSet) → summary ≡ (if asked then charmap_summary path set else []) → IsSummary asked path summary
charmap_summed false path summary set e = e
charmap_summed true path summary set e = record { rest = row (codes "charset") (set_name set); parts = e }

-- nothing is found beside a library
pub nothing_odd : {E : Type 0} (asked : Bool) (path : List ℕ) (findings : List Finding) (summary : Result (List ℕ) E) → findings ≡ [] → IfOk summary (IsSummary asked path)
    → IfOk (accepted summary) (IsAcceptedOf asked path findings)
nothing_odd asked path [] (Ok summary) e is = is
nothing_odd asked path [] (Err fault) e is = tt
nothing_odd asked path (finding ∷ findings) summary e is = absurd cc

-- something is found beside a library
pub all_odd : {E : Type 0} (asked : Bool) (path : List ℕ) (findings : List Finding) (messages : Result (List ℕ) E) → findings ≢ [] → IfOk messages (AreFindingMessages path findings)
    → IfOk (refused messages) (IsAcceptedOf asked path findings)
all_odd asked path [] messages some are = absurd (some refl)
all_odd asked path (finding ∷ findings) (Ok messages) some are = are
all_odd asked path (finding ∷ findings) (Err fault) some are = tt

-- the messages of findings, and behind them those of faults
pub all_told : (path : List ℕ) (findings : List Finding) (sources : Sources) (first : Fault) (found faults text : List ℕ) → AreFindingMessages path findings found
    → AreMessagesFrom sources first faults → text ≡ found ++ faults → AreAllMessages path findings sources first text
all_told path findings sources first found faults text are from e = record { message = found; rest = faults; parts = e; is = are; more = from }

all_say : (path : List ℕ) (findings : List Finding) (sources : Sources) (first : Fault) (messages : List ℕ) → AreAllMessages path findings sources first messages → 0 < length messages
all_say path findings sources first messages are =
    omega (arith, ap length are.parts, length-append are.message are.rest, messages_from_say sources first are.rest are.more)

accepted_checked : (asked : Bool) (path : List ℕ) (findings : List Finding) (found : Checked) → IsAcceptedOf asked path findings found → IsChecked asked path found
accepted_checked asked path [] (Accepted summary) is = is
accepted_checked asked path [] (Refused messages) is = absurd is
accepted_checked asked path (finding ∷ findings) (Accepted summary) is = absurd is
accepted_checked asked path (finding ∷ findings) (Refused messages) is = findings_say path finding findings messages is

refused_checked : (asked : Bool) (path : List ℕ) (sources : Sources) (findings : List Finding) (first : Fault) (found : Checked) → IsRefusedOf path sources findings first found
    → IsChecked asked path found
refused_checked asked path sources findings first (Accepted summary) is = absurd is
refused_checked asked path sources findings first (Refused messages) is = all_say path findings sources first messages is

found_of_checked : (asked : Bool) (path : List ℕ) (sources : Sources) (findings : List Finding) (reads : Reads LibraryData) (found : Checked)
    → IsFoundOf asked path sources findings reads found → IsChecked asked path found
found_of_checked asked path sources findings (Ok library) found is = accepted_checked asked path findings found is
found_of_checked asked path sources findings (Err fault) found is = refused_checked asked path sources findings _ found is

pub found_checked : (asked : Bool) (path : List ℕ) (sources : Sources) (found : Checked) → IsFound asked path sources found → IsChecked asked path found
found_checked asked path sources found is =
    found_of_checked asked path sources (source_findings sources.locales) (library sources.charmaps sources.locales) found is

charmap_found_of_checked : (asked : Bool) (path : List ℕ) (files : List FilePath) (reads : Reads CodedSet) (found : Checked) → IsCharmapFoundOf asked path files reads found
    → IsChecked asked path found
charmap_found_of_checked asked path files (Ok set) (Accepted summary) is = charmap_summed asked path summary set is
charmap_found_of_checked asked path files (Ok set) (Refused messages) is = absurd is
charmap_found_of_checked asked path files (Err fault) (Accepted summary) is = absurd is
charmap_found_of_checked asked path files (Err fault) (Refused messages) is = message_says files fault.0 fault.1 messages is

pub all_charmap_found_checked : {E : Type 0} (asked : Bool) (path : List ℕ) (sources : Sources) (found : Result Checked E) → IfOk found (IsCharmapFound asked path sources)
    → IfOk found (IsChecked asked path)
all_charmap_found_checked asked path sources (Ok found) is =
    charmap_found_of_checked asked path sources.paths.items (charset_of sources.charmaps sources.locales) found is
all_charmap_found_checked asked path sources (Err e) is = tt

-- ---- what is written

pub accepted_written : (asked : Bool) (path output output' messages messages' summary : List ℕ) → IsSummary asked path summary → output' ≡ output ++ summary → messages' ≡ messages
    → IsWritten true asked path output output' messages messages'
accepted_written asked path output output' messages messages' summary is more same = record { summary = summary; is_summary = is; output_is = more; messages_same = same }

pub refused_written : (asked : Bool) (path output output' messages messages' told : List ℕ) → 0 < length told → output' ≡ output → messages' ≡ messages ++ told
    → IsWritten false asked path output output' messages messages'
refused_written asked path output output' messages messages' told says same more = record { output_same = same; told = told; not_silent = says; messages_more = more }

pub added_written : (asked : Bool) (path output output' messages messages' : List ℕ) → IsAdded messages messages' → output' ≡ output → IsWritten false asked path output output' messages messages'
added_written asked path output output' messages messages' added same = record { output_same = same; told = added.told; not_silent = added.not_silent; messages_more = added.more }
