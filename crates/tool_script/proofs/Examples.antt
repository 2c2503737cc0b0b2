-- The definitions of explained lines, tried on small examples.
use Rattle.std.proofs.Common.{◌≡◌, ℕ, false, List, [], ◌∷◌, ◌++◌, Some, None, codes, refl}
use Rattle.std.specs.Fmt.{digits}
use Rattle.lc_base.specs.declared.category.Category.TheVariants.{Time}
use Rattle.handle_table.specs.declared.op.Refusal.TheVariants.{NoData}
use Rattle.script_words.specs.Spans.{next_word}
use Rattle.script_words.specs.Tables.{directives_table}
use Rattle.script_out.specs.declared.output.OutLine.{OutLine}
use Rattle.script_out.specs.declared.output.Places.TheVariants as places
use Rattle.script_out.specs.declared.output.Said.{Said}
use Rattle.script_out.specs.declared.output.Said.TheVariants.{Freed, Refused}
use Rattle.script_out.specs.declared.output.Why.TheVariants.{Unset, Table, BadFormat}
use Rattle.tool_script.specs.Commands.{is_command, begins_block, command_lines, Written, lines_of_thread, lines_by_thread, command_of}
use Rattle.tool_script.specs.Explained.{explained_line, reason_word, refused_count, counts_text}

-- a block, a comment, blank lines and directives between two commands
in_order : command_lines false (codes ".locale de X" ∷ codes "LC_TIME" ∷ codes ".thread A" ∷ codes ".end" ∷ codes ".thread A" ∷ codes " # new" ∷ [] ∷ codes "  " ∷ codes " use x" ∷ codes ".round" ∷ codes "free x" ∷ []) ≡ codes " use x" ∷ codes "free x" ∷ []
unfolding is_command begins_block next_word directives_table
in_order = refl

abbrev three : List Written
three = record { thread = 1; line = codes "use x" } ∷ record { thread = 0; line = codes "free x" } ∷ record { thread = 1; line = codes "pins x" } ∷ []

of_second : lines_of_thread 1 three ≡ codes "use x" ∷ codes "pins x" ∷ []
of_second = refl

second_of_second : command_of (lines_by_thread 2 three) 1 2 ≡ Some (codes "pins x")
second_of_second = refl

none_behind_the_last : command_of (lines_by_thread 2 three) 0 2 ≡ None
none_behind_the_last = refl

none_without_number : command_of (lines_by_thread 2 three) 0 0 ≡ None
none_without_number = refl

abbrev answer : ℕ → Said → OutLine
answer index reply = record { round = 1; thread = 0; index = index; places = places.None; global = None; reply = reply }

with_command : explained_line (codes "A" ∷ []) ((codes "free x" ∷ codes "use x" ∷ []) ∷ []) (answer 2 (Refused Unset)) ≡ codes "1 A 2 - - refused Unset  # use x" ++ 10 ∷ []
unfolding digits
with_command = refl

without_command : explained_line (codes "A" ∷ []) ((codes "free x" ∷ []) ∷ []) (answer 2 Freed) ≡ codes "1 A 2 - - freed" ++ 10 ∷ []
unfolding digits
without_command = refl

word_alone : reason_word (Table (NoData Time)) ≡ codes "NoData"
word_alone = refl

word_without_place : reason_word (BadFormat 7) ≡ codes "BadFormat"
word_without_place = refl

two_refused : refused_count (answer 1 (Refused (BadFormat 7)) ∷ answer 2 Freed ∷ answer 3 (Refused Unset) ∷ answer 4 (Refused (BadFormat 3)) ∷ []) (codes "BadFormat") ≡ 2
two_refused = refl

counted_words : counts_text (answer 1 (Refused Unset) ∷ []) (codes "Stale" ∷ codes "Unset" ∷ []) ≡ codes "# refused: 1 Unset" ++ 10 ∷ []
unfolding digits
counted_words = refl
