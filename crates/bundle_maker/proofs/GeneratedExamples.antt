-- Draws, commands, and a bundle.
use Rattle.std.proofs.Common.{◌≡◌, ◌++◌, refl}
use Rattle.std.specs.Prelude.{codes}
use Rattle.std.specs.Fmt.{digits}
use Rattle.bundle_maker.specs.Limits.{MOST_COMMANDS}
use Rattle.bundle_maker.specs.Generated.{locales_text, next_number, number_behind, drawn_command, command_line, commands_text, generated}

-- ---- numbers

first_number : number_behind 0 1 ≡ 1442695040888963407
first_number = refl

second_number : number_behind 0 2 ≡ 1876011003808476466
second_number = refl

fifth_number : number_behind 0 5 ≡ 7076646890315895283
fifth_number = refl

-- all 64 bits of a number count
behind_the_greatest : next_number 18446744073709551615 ≡ 13525302890751722018
behind_the_greatest = refl

-- ---- a draw of each row

object_made : drawn_command 169888184 ≡ codes "new a LC_ALL us"
unfolding drawn_command
object_made = refl

object_changed : drawn_command 1299921937 ≡ codes "new a LC_ALL fr a"
unfolding drawn_command
object_changed = refl

object_selected : drawn_command 784246482 ≡ codes "use a"
unfolding drawn_command
object_selected = refl

object_freed : drawn_command 1204436891 ≡ codes "free a"
unfolding drawn_command
object_freed = refl

amount_formatted : drawn_command 861605236 ≡ codes "money \"%n\" 7006.54"
unfolding drawn_command digits
amount_formatted = refl

-- the point has two digits behind it, and one before it at least
small_amount : drawn_command 44 ≡ codes "money \"%n\" 0.05"
unfolding drawn_command digits
small_amount = refl

-- the 21st of January 2021 was a Thursday
time_formatted : drawn_command 823830125 ≡ codes "time \"%c\" 2021-01-21 12:00:00 4 20"
unfolding drawn_command digits
time_formatted = refl

symbol_read : drawn_command 104453382 ≡ codes "info CRNCYSTR"
unfolding drawn_command
symbol_read = refl

value_classed : drawn_command 764459975 ≡ codes "class alpha 120"
unfolding drawn_command digits
value_classed = refl

-- ---- commands

-- the first four commands are not drawn
not_drawn : command_line 3 (number_behind 0 4) ≡ codes "new a LC_ALL us\n"
not_drawn = refl

drawn : command_line 4 (number_behind 0 5) ≡ codes "time \"%c\" 2021-01-21 12:00:00 4 20\n"
unfolding drawn_command digits
drawn = refl

-- the second thread has the commands 1, 5, 9 and 13
of_the_second_thread : commands_text 0 10 1 ≡ codes "new a LC_ALL us\nfree a\nfree a\n"
unfolding commands_text drawn_command
of_the_second_thread = refl

-- a thread may be without commands
least_bundle : generated 0 1 ≡ locales_text ++ codes ".thread T0\nnew a LC_ALL us\n.thread T1\n.thread T2\n.thread T3\n"
unfolding generated commands_text digits
least_bundle = refl

most_commands : MOST_COMMANDS ≡ 20000
most_commands = refl
