-- Texts that begin with others.
use Rattle.std.proofs.Common.{◌≡◌, ℕ, ◌+◌, ◌<◌, List, [], ◌++◌, length, codes, sym, ap, ◌∙◌, append_assoc, append-nil, length-append, arith}
use Rattle.std.specs.Fmt.{decimal}
use Rattle.tool_messages.specs.Shown.{shown_word}
use Rattle.tool_messages.specs.Message.{BeginsWith, fault_head}

pub begins_same : (text : List ℕ) → BeginsWith text text
begins_same text = record { rest = []; parts = sym (append-nil text) }

pub begins_more : (front text more new : List ℕ) → BeginsWith front text → new ≡ text ++ more → BeginsWith front new
begins_more front text more new begins e = record { rest = begins.rest ++ more; parts = e ∙ ap (λ (xs : List ℕ). xs ++ more) begins.parts ∙ append_assoc front begins.rest more }

pub begins_twice : (front text new : List ℕ) → BeginsWith front text → BeginsWith text new → BeginsWith front new
begins_twice front text new begins more = begins_more front text more.rest new begins more.parts

pub begins_equal : (front text new : List ℕ) → text ≡ front → BeginsWith text new → BeginsWith front new
begins_equal front text new e begins = record { rest = begins.rest; parts = begins.parts ∙ ap (λ (xs : List ℕ). xs ++ begins.rest) e }

pub begins_shorter : (front more text : List ℕ) → BeginsWith (front ++ more) text → BeginsWith front text
begins_shorter front more text begins = record { rest = more ++ begins.rest; parts = begins.parts ∙ append_assoc front more begins.rest }

-- a text that begins with the file, the line, the column and the reason of a fault is not empty
pub head_says : (file : List ℕ) (line column : ℕ) (reason text : List ℕ) → BeginsWith (fault_head file line column reason) text → 0 < length text
head_says file line column reason text begins =
    let place : List ℕ = shown_word file ++ codes ":" ++ decimal line ++ codes ":" ++ decimal column in
    let head : length (fault_head file line column reason) ≡ length (place ++ codes ": ") + length reason = length-append (place ++ codes ": ") reason in
    omega (arith, ap length begins.parts, length-append (fault_head file line column reason) begins.rest, head, length-append place (codes ": "))
