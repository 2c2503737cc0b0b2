-- Lines with the commands that they answer, and how many commands are refused for each reason (our own).
use Rattle.std.specs.Prelude.{ℕ, ◌==◌, Bool, true, false, not, List, [], ◌∷◌, ◌++◌, length, count_by, take_while, slice_index_or, codes, Option, Some, None, if◌then◌else◌}
use Rattle.std.specs.List.{flat_map}
use Rattle.std.specs.Str.{bytes_eq}
use Rattle.std.specs.Fmt.{decimal}
use Rattle.script_commands.specs.declared.command.Placed.{Placed}
use Rattle.script_out.specs.declared.output.OutLine.{OutLine}
use Rattle.script_out.specs.declared.output.Said.{Said}
use Rattle.script_out.specs.declared.output.Said.TheVariants.{Refused}
use Rattle.script_out.specs.declared.output.Why.{Why}
use Rattle.script_out.specs.Output.{space, newline, places_text, version_text, reply_text, caller_text, why_text}
use Rattle.tool_script.specs.Commands.{command_of, lines_by_thread, written_in}

-- a printed line without its newline, where the threads have these names
abbrev pub bare_line : List (List ℕ) → OutLine → List ℕ
bare_line names l =
    caller_text (slice_index_or names l.thread []) l ++ (places_text l.places ++ space ++ version_text l.global ++ space ++ reply_text names l.reply)

-- a command behind the line that answers it; nothing behind the lines that close a thread
abbrev pub comment : Option (List ℕ) → List ℕ
comment None = []
comment (Some command) = codes "  # " ++ command

-- a line with its command, where the threads have these names and commands
abbrev pub explained_line : List (List ℕ) → List (List (List ℕ)) → OutLine → List ℕ
explained_line names commands l = bare_line names l ++ comment (command_of commands l.thread l.index) ++ newline

-- the reason why a command is refused, by its first word alone
abbrev pub reason_word : Why → List ℕ
reason_word why = take_while (λ c. not (c == 32)) (why_text why)

-- the words of all reasons, in the order in which they are counted
unfoldable pub reason_words : List (List ℕ)
reason_words =
    codes "Unset" ∷
    codes "BadMask" ∷
    codes "NoData" ∷
    codes "GlobalHandle" ∷
    codes "NeverMade" ∷
    codes "Stale" ∷
    codes "TooMany" ∷
    codes "AlreadyHeld" ∷
    codes "NotHeld" ∷
    codes "EmptyCell" ∷
    codes "NoClass" ∷
    codes "TmRange" ∷
    codes "BadFormat" ∷
    codes "MissingAmount" ∷
    codes "MissingNumber" ∷
    codes "Mismatch" ∷
    codes "TooBig" ∷
    codes "NoCatalog" ∷
    []

-- whether a reply is a refusal
abbrev pub is_refused : Said → Bool
is_refused (Refused why) = true
is_refused _ = false

-- whether a reply is a refusal for the reason with this word
abbrev pub is_refused_for : List ℕ → Said → Bool
is_refused_for word (Refused why) = bytes_eq (reason_word why) word
is_refused_for word _ = false

-- how many lines are refused for the reason with this word
abbrev pub refused_count : List OutLine → List ℕ → ℕ
refused_count lines word = count_by (λ (l : OutLine). is_refused_for word l.reply) lines

-- how many commands are refused for a reason, where any is
abbrev pub count_text : List ℕ → ℕ → List ℕ
count_text word count = if count == 0 then [] else codes "# refused: " ++ decimal count ++ space ++ word ++ newline

-- how many commands are refused for each of these reasons
abbrev pub counts_text : List OutLine → List (List ℕ) → List ℕ
counts_text lines words = flat_map (λ word. count_text word (refused_count lines word)) words

-- the lines with the commands of a text, and how many are refused for each reason
abbrev pub explained_text : List (List ℕ) → List Placed → List ℕ → List OutLine → List ℕ
explained_text names commands text lines =
    flat_map (explained_line names (lines_by_thread (length names) (written_in commands text))) lines ++ counts_text lines reason_words
