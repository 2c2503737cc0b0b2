-- The commands of a script, as they are written (our own).
use Rattle.std.specs.Prelude.{ℕ, ◌-◌, ◌==◌, Bool, true, false, not, ◌&&◌, List, [], ◌∷◌, ◌++◌, map, slice_get, codes, zero, suc, Option, Some, None, option_and_then, if◌then◌else◌}
use Rattle.std.specs.Borrow.{Bor}
use Rattle.std.specs.declared.vec.Vec.{Vec}
use Rattle.std.specs.Str.{bytes_eq}
use Rattle.lc_base.specs.Lines.{lines_of}
use Rattle.script_words.specs.declared.table.Directive.{Directive}
use Rattle.script_words.specs.declared.table.Directive.TheVariants as directives
use Rattle.script_words.specs.Spans.{Span, whole_line, next_word}
use Rattle.lc_base.specs.Tables.{first_named}
use Rattle.script_words.specs.Tables.{directives_table}
use Rattle.script_commands.specs.declared.command.Placed.{Placed}
use Rattle.script_lang.specs.Reading.{begins_with}
use Rattle.tool_script.specs.declared.commands.Written.{Written as Lent}

-- whether a first word is there and is no comment's
abbrev pub is_first_of_command : Option (Span × Span) → Bool
is_first_of_command None = false
is_first_of_command (Some x) = not (begins_with 35 x.0.bytes)

-- whether a line outside of blocks is a command: no directive, not blank and no comment
unfoldable pub is_command : List ℕ → Bool
is_command line = not (begins_with 46 line) && is_first_of_command (next_word (whole_line 1 line))

-- whether a block follows the line of this directive
abbrev pub has_block : Option Directive → Bool
has_block (Some directives.Charmap) = true
has_block (Some directives.Locale) = true
has_block (Some directives.Later) = true
has_block (Some directives.Catalog) = true
has_block (Some directives.Native) = false
has_block (Some directives.Thread) = false
has_block (Some directives.Round) = false
has_block None = false

-- whether a block follows a line with this first word
abbrev pub is_first_of_block : Option (Span × Span) → Bool
is_first_of_block None = false
is_first_of_block (Some x) = has_block (first_named directives_table x.0.bytes)

-- whether a line outside of blocks begins one
unfoldable pub begins_block : List ℕ → Bool
begins_block line = begins_with 46 line && is_first_of_block (next_word (whole_line 1 line))

-- whether what follows a line is in a block, where the line is in one or not
abbrev pub is_inside_behind : Bool → List ℕ → Bool
is_inside_behind inside line = if inside then not (bytes_eq line (codes ".end")) else begins_block line

-- the lines that are commands, where the first is in a block or not
abbrev pub command_lines : Bool → List (List ℕ) → List (List ℕ)
command_lines inside [] = []
command_lines inside (line ∷ lines) =
    if not inside && is_command line then line ∷ command_lines (is_inside_behind inside line) lines else command_lines (is_inside_behind inside line) lines

-- a command as it is written, with its thread
pub record Written : Type 0 where
  pub thread : ℕ
  pub line : List ℕ

-- commands beside the lines on which they are written, as far as both go
abbrev pub written : List Placed → List (List ℕ) → List Written
written [] lines = []
written (p ∷ ps) [] = []
written (p ∷ ps) (line ∷ lines) = record { thread = p.thread; line = line } ∷ written ps lines

-- the commands of a text, as they are written
abbrev pub written_in : List Placed → List ℕ → List Written
written_in commands text = written commands (command_lines false (lines_of text))

-- the lines of a thread
abbrev pub lines_of_thread : ℕ → List Written → List (List ℕ)
lines_of_thread thread [] = []
lines_of_thread thread (w ∷ ws) = if w.thread == thread then w.line ∷ lines_of_thread thread ws else lines_of_thread thread ws

-- the lines of so many threads, by their numbers
abbrev pub lines_by_thread : ℕ → List Written → List (List (List ℕ))
lines_by_thread zero ws = []
lines_by_thread (suc n) ws = lines_by_thread n ws ++ lines_of_thread n ws ∷ []

-- the line with this number, from 1
abbrev pub line_at : List (List ℕ) → ℕ → Option (List ℕ)
line_at lines number = if number == 0 then None else slice_get lines (number - 1)

-- the command of a thread with this number, from 1
abbrev pub command_of : List (List (List ℕ)) → ℕ → ℕ → Option (List ℕ)
command_of threads thread number = option_and_then (λ lines. line_at lines number) (slice_get threads thread)

-- ---- what the code lends

abbrev pub line_seen : Bor (List ℕ) → List ℕ
line_seen line = line.now

abbrev pub written_seen : Lent → Written
written_seen w = record { thread = w.thread; line = w.line.now }

abbrev pub lines_seen : {A : Type 0} → Vec (Bor (List ℕ)) A → List (List ℕ)
lines_seen v = map line_seen v.items
