-- A reply is its front and what stands behind it, and a line what stands before that and the rest.
use Rattle.std.proofs.Common.{◌≡◌, ℕ, List, [], ◌++◌, Result, Ok, Err, refl, ap, ◌∙◌, append_assoc}
use Rattle.std.specs.Prelude.{OnOk, slice_index_or}
use Rattle.std.specs.Fmt.{decimal}
use Rattle.std.proofs.lemmas.List.{append-nil}
use Rattle.script_out.specs.declared.output.OutLine.{OutLine}
use Rattle.script_out.specs.declared.output.Said.{Said}
use Rattle.script_out.specs.declared.output.Said.TheVariants as said
use Rattle.script_out.specs.Output.{space, newline, places_text, version_text, entry_text, reply_front, reply_rest, reply_text, line_text}

pub reply_parts : (names : List (List ℕ)) (reply : Said) → reply_front reply ++ reply_rest names reply ≡ reply_text names reply
reply_parts names (said.Handle h) = refl
reply_parts names said.Freed = refl
reply_parts names (said.Was former) = refl
reply_parts names (said.Is selected) = refl
reply_parts names said.Held = refl
reply_parts names said.Released = refl
reply_parts names (said.Name name) = refl
reply_parts names (said.Installed count) = append-nil _
reply_parts names said.Posted = refl
reply_parts names (said.Pins count) = append-nil _
reply_parts names (said.Text text) = refl
reply_parts names (said.Parsed fields rest) = refl
reply_parts names (said.Conv texts numbers) = refl
reply_parts names (said.Class is) = append-nil _
reply_parts names (said.Value value) = append-nil _
reply_parts names (said.Opened h) = refl
reply_parts names said.Closed = refl
reply_parts names said.Ended = refl
reply_parts names (said.Refused why) = refl

-- the pieces of a line, in order
pieces : (round name index places version front rest : List ℕ) → (round ++ space ++ name ++ (space ++ index ++ space ++ places ++ space ++ version ++ space ++ front)) ++ (rest ++ newline) ≡ (round ++ space ++ name ++ space ++ index ++ space) ++ (places ++ space ++ version ++ space ++ (front ++ rest) ++ newline)
pieces round name index places version front rest = simp (append_assoc) refl

line_parts : (names : List (List ℕ)) (l : OutLine) → (decimal l.round ++ space ++ slice_index_or names l.thread [] ++ entry_text l) ++ (reply_rest names l.reply ++ newline) ≡ line_text names l
line_parts names l = rw (← reply_parts names l.reply) (pieces (decimal l.round) (slice_index_or names l.thread []) (decimal l.index) (places_text l.places) (version_text l.global) (reply_front l.reply) (reply_rest names l.reply))

-- the rest is added behind what stands before it
pub line_joined : {A E : Type 0} (r : Result A E) (names : List (List ℕ)) (l : OutLine) (name text front all : List ℕ) → name ≡ slice_index_or names l.thread [] → front ≡ text ++ (decimal l.round ++ space ++ name ++ entry_text l) → OnOk r (all ≡ front ++ (reply_rest names l.reply ++ newline)) → OnOk r (all ≡ text ++ line_text names l)
line_joined (Ok x) names l name text front all found is e =
    e
    ∙ ap (λ (xs : List ℕ). xs ++ (reply_rest names l.reply ++ newline)) is
    ∙ append_assoc text (decimal l.round ++ space ++ name ++ entry_text l) (reply_rest names l.reply ++ newline)
    ∙ ap (λ (xs : List ℕ). text ++ ((decimal l.round ++ space ++ xs ++ entry_text l) ++ (reply_rest names l.reply ++ newline))) found
    ∙ ap (λ (xs : List ℕ). text ++ xs) (line_parts names l)
line_joined (Err x) names l name text front all found is e = e

-- a line that is added as a whole
pub line_whole : {A E : Type 0} (r : Result A E) (names : List (List ℕ)) (l : OutLine) (name text all : List ℕ) → name ≡ slice_index_or names l.thread [] → OnOk r (all ≡ text ++ ((decimal l.round ++ space ++ name ++ entry_text l) ++ (reply_rest names l.reply ++ newline))) → OnOk r (all ≡ text ++ line_text names l)
line_whole (Ok x) names l name text all found e =
    e
    ∙ ap (λ (xs : List ℕ). text ++ ((decimal l.round ++ space ++ xs ++ entry_text l) ++ (reply_rest names l.reply ++ newline))) found
    ∙ ap (λ (xs : List ℕ). text ++ xs) (line_parts names l)
line_whole (Err x) names l name text all found e = e

-- what stands at the end of a buffer is added
pub added_whole : {A E : Type 0} (r : Result A E) (all text piece entry tail : List ℕ) → OnOk r (all ≡ text ++ piece) → piece ≡ entry ++ tail → tail ≡ [] → OnOk r (all ≡ text ++ entry)
added_whole (Ok x) all text piece entry tail e is none = e ∙ ap (λ (xs : List ℕ). text ++ xs) (is ∙ ap (λ (xs : List ℕ). entry ++ xs) none ∙ append-nil entry)
added_whole (Err x) all text piece entry tail e is none = e

front_whole : (round name entry tail : List ℕ) → tail ≡ [] → round ++ space ++ name ++ entry ++ tail ≡ round ++ space ++ name ++ entry
front_whole round name entry tail none = ap (λ (xs : List ℕ). round ++ space ++ name ++ entry ++ xs) none ∙ append-nil _

-- and the rest behind it
pub added_apart : {A E : Type 0} (r : Result A E) (all front text piece round name entry tail rest : List ℕ) → front ≡ text ++ piece → piece ≡ round ++ space ++ name ++ entry ++ tail → tail ≡ [] → OnOk r (all ≡ front ++ rest) → OnOk r (all ≡ text ++ ((round ++ space ++ name ++ entry) ++ rest))
added_apart (Ok x) all front text piece round name entry tail rest added is none e =
    e
    ∙ ap (λ (xs : List ℕ). xs ++ rest) (added ∙ ap (λ (xs : List ℕ). text ++ xs) (is ∙ front_whole round name entry tail none))
    ∙ append_assoc text (round ++ space ++ name ++ entry) rest
added_apart (Err x) all front text piece round name entry tail rest added is none e = e
