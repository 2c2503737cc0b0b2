-- Messages of findings, and messages that are told once.
use Rattle.std.proofs.Common.{◌≡◌, ℕ, ◌+◌, ◌<◌, List, ◌∷◌, ◌++◌, length, codes, ap, ◌∙◌, append_assoc, length-append, arith}
use Rattle.tool_messages.specs.Message.{BeginsWith}
use Rattle.tool_messages.proofs.MessageLemmas.{head_says}
use Rattle.tool_check.specs.declared.finding.Finding.{Finding}
use Rattle.tool_check.specs.Odd.{AreFindingMessages, IsFindingMessage, IsAdded, oddity_name}

pub one_more_finding : (path : List ℕ) (finding : Finding) (findings : List Finding) (message rest text : List ℕ) → IsFindingMessage path finding message → AreFindingMessages path findings rest
    → text ≡ message ++ rest → AreFindingMessages path (finding ∷ findings) text
one_more_finding path finding findings message rest text is more e = record { message = message; rest = rest; parts = e; is = is; more = more }

pub findings_say : (path : List ℕ) (finding : Finding) (findings : List Finding) (text : List ℕ) → AreFindingMessages path (finding ∷ findings) text → 0 < length text
findings_say path finding findings text are =
    omega (arith, ap length are.parts, length-append are.message are.rest, head_says path finding.place.line finding.place.column (oddity_name finding.oddity) are.message are.is)

-- a text that is longer than the one with which it begins
pub longer_added : (old new : List ℕ) → BeginsWith old new → ((length new ≡ length old) → ⊥) → IsAdded old new
longer_added old new begins longer =
    let count : length new ≡ length old + length begins.rest = ap length begins.parts ∙ length-append old begins.rest in
    record { told = begins.rest; not_silent = omega (arith, count, longer); more = begins.parts }

-- more behind a text that begins with another
pub line_added : (old middle new : List ℕ) → BeginsWith old middle → IsAdded middle new → IsAdded old new
line_added old middle new begins added = record {
  told = begins.rest ++ added.told;
  not_silent = omega (arith, added.not_silent, length-append begins.rest added.told);
  more = added.more ∙ ap (λ (xs : List ℕ). xs ++ added.told) begins.parts ∙ append_assoc old begins.rest added.told;
}

-- the beginning of a line, and more
pub head_added : (old middle new : List ℕ) → middle ≡ old ++ codes "locale_tool: " → BeginsWith middle new → IsAdded old new
head_added old middle new e begins = record {
  told = codes "locale_tool: " ++ begins.rest;
  not_silent = omega (arith, length-append (codes "locale_tool: ") begins.rest);
  more = begins.parts ∙ ap (λ (xs : List ℕ). xs ++ begins.rest) e ∙ append_assoc old (codes "locale_tool: ") begins.rest;
}
