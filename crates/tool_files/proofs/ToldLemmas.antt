-- Problems are told in words.
use Rattle.std.proofs.Common.{◌≡◌, ℕ, false, List, ◌++◌, codes, Result, Ok, Err, IfOk, refl, subst}
use Rattle.std.specs.Fmt.{digits}
use Rattle.lc_base.specs.declared.place.Place.{Place}
use Rattle.lc_base.specs.declared.reason.Reason.{Reason}
use Rattle.script_out.specs.Output.{newline}
use Rattle.reason_rules.specs.Words.{reason_text}
use Rattle.script_out.specs.Refusal.{refusal_line}
use Rattle.tool_messages.specs.declared.answer.Problem.TheVariants.{Refused}
use Rattle.tool_messages.specs.Status.{IsSpoken}
use Rattle.tool_messages.proofs.MessageLemmas.{head_says}
use Rattle.tool_messages.specs.Message.{BeginsWith, fault_head}
use Rattle.tool_files.specs.declared.sources.FilePath.{FilePath}
use Rattle.tool_files.specs.Told.{file_of, place_in, is_format, IsMessage, IsFileMessage}

pub message_spoken : (path : List ℕ) (place : Place) (reason : Reason) (message : List ℕ) → IsMessage path place reason message → IsSpoken (Refused message)
message_spoken path place reason message is = head_says path is.spot.line is.spot.column (reason_text reason) message is.begins

pub one_message : {E : Type 0} (path : List ℕ) (place spot : Place) (reason : Reason) (told : Result (List ℕ) E) → (is_format reason ≡ false → spot ≡ place)
    → IfOk told (BeginsWith (fault_head path spot.line spot.column (reason_text reason))) → IfOk told (IsMessage path place reason)
one_message path place spot reason (Ok message) is begins = record { spot = spot; spot_is = is; begins = begins }
one_message path place spot reason (Err e) is begins = tt

pub file_message : {E : Type 0} (files : List FilePath) (path : List ℕ) (first : ℕ) (place spot : Place) (reason : Reason) (told : Result (List ℕ) E) → (path, first) ≡ file_of files place.line
    → (is_format reason ≡ false → spot ≡ place_in first place) → IfOk told (BeginsWith (fault_head path spot.line spot.column (reason_text reason)))
    → IfOk told (IsFileMessage files place reason)
file_message files path first place spot reason told e is begins =
    subst (λ (file : List ℕ × ℕ). IfOk told (IsMessage file.0 (place_in file.1 place) reason)) e (one_message path (place_in first place) spot reason told is begins)

-- the line of a refusal at no line
pub placeless : (reason : Reason) → refusal_line (record { line = 0; column = 0 }) reason ≡ codes "refused: 0:0 " ++ reason_text reason ++ newline
unfolding digits
placeless reason = refl
