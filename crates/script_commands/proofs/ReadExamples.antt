-- Commands that read on small inputs.
use Rattle.std.proofs.Common.{◌≡◌, ℕ, List, [], ◌∷◌, ◌++◌, Option, Some, None, Ok, Err, refl}
use Rattle.std.specs.Prelude.{ℤ, pos, negsuc, codes, replicate}
use Rattle.std.specs.List.{flat_map}
use Rattle.lc_base.specs.declared.item.Item.TheVariants as items
use Rattle.lc_base.specs.declared.reason.Reason.{Reason}
use Rattle.lc_base.specs.declared.reason.Reason.TheVariants as reasons
use Rattle.lc_base.specs.declared.reason.LinePart.TheVariants as parts
use Rattle.lc_base.specs.declared.reason.Limit.TheVariants as limits
use Rattle.lc_base.specs.Reading.{Reads}
use Rattle.script_commands.specs.declared.command.Command.{Command}
use Rattle.script_commands.specs.declared.command.Command.TheVariants.{Selected, Read, ReadOf}
use Rattle.script_commands.specs.declared.command.Target.TheVariants as targets
use Rattle.script_commands.specs.declared.command.Read.TheVariants.{Info, Conv, Class, Upper, Lower, Money, Time, Number, Parse}
use Rattle.script_words.specs.Names.{is_thread_name, is_class_name}
use Rattle.script_words.specs.Spans.{whole_line, next_word}
use Rattle.script_words.specs.Tables.{items_table}
use Rattle.lc_base.specs.Cuts.{cut_at}
use Rattle.lc_base.specs.Numbers.{decimal_number, few_digits}
use Rattle.script_words.specs.Words.{text_of_word, quoted_of_word, zone_of_word, behind_front, max_number, variable_of_word, class_of_word, handle_of_word}
use Rattle.script_words.specs.Numbers.{short_number, offset_of_word, three_numbers, amount_of_word, number_of_word}
use Rattle.script_commands.specs.Commands.{argument, read_as, no_more, is_over, target, target_word, read_of_command, max_bytes, format, command_text, amounts, whole_numbers, offset, zone, moment, info_words, conv_words, class_words, lone_value, upper_words, lower_words, money_words, time_words, number_words, parse_words, command, shared_command, catalog_command, own_read_command, handle_read_command}

-- ---- commands, as the second line of a script

abbrev spoken : List ℕ → Reads Command
spoken line = elim (next_word (whole_line 2 line)) [ None ↦ Ok Selected | Some x ↦ command None (codes "A" ∷ []) x.0 x.1 ]

abbrev refused : ℕ → Reason → Reads Command
refused column reason = Err (record { line = 2; column = column }, reason)

abbrev wrong : ℕ → Reads Command
wrong column = refused column (reasons.BadLine parts.Argument)

last_item : spoken (codes "info ERA_D_T_FMT") ≡ Ok (Read (Info items.EraDTFmt))
unfolding command next_word argument no_more read_as is_over text_of_word quoted_of_word zone_of_word decimal_number behind_front max_number variable_of_word class_of_word is_class_name is_thread_name cut_at few_digits short_number offset_of_word three_numbers amount_of_word max_bytes format amounts offset zone moment info_words conv_words class_words lone_value upper_words lower_words money_words time_words shared_command catalog_command own_read_command handle_read_command items_table
last_item = refl

day_8 : spoken (codes "info DAY_8") ≡ wrong 6
unfolding command next_word argument no_more read_as is_over text_of_word quoted_of_word zone_of_word decimal_number behind_front max_number variable_of_word class_of_word is_class_name is_thread_name cut_at few_digits short_number offset_of_word three_numbers amount_of_word max_bytes format amounts offset zone moment info_words conv_words class_words lone_value upper_words lower_words money_words time_words shared_command catalog_command own_read_command handle_read_command items_table
day_8 = refl

conv : spoken (codes "conv ") ≡ Ok (Read Conv)
unfolding command next_word argument no_more read_as is_over text_of_word quoted_of_word zone_of_word decimal_number behind_front max_number variable_of_word class_of_word is_class_name is_thread_name cut_at few_digits short_number offset_of_word three_numbers amount_of_word max_bytes format amounts offset zone moment info_words conv_words class_words lone_value upper_words lower_words money_words time_words shared_command catalog_command own_read_command handle_read_command items_table
conv = refl

conv_and_more : spoken (codes "conv x") ≡ wrong 6
unfolding command next_word argument no_more read_as is_over text_of_word quoted_of_word zone_of_word decimal_number behind_front max_number variable_of_word class_of_word is_class_name is_thread_name cut_at few_digits short_number offset_of_word three_numbers amount_of_word max_bytes format amounts offset zone moment info_words conv_words class_words lone_value upper_words lower_words money_words time_words shared_command catalog_command own_read_command handle_read_command items_table
conv_and_more = refl

class_of_a : spoken (codes "class alpha 0097") ≡ Ok (Read (Class (codes "alpha") 97))
unfolding command next_word argument no_more read_as is_over text_of_word quoted_of_word zone_of_word decimal_number behind_front max_number variable_of_word class_of_word is_class_name is_thread_name cut_at few_digits short_number offset_of_word three_numbers amount_of_word max_bytes format amounts offset zone moment info_words conv_words class_words lone_value upper_words lower_words money_words time_words shared_command catalog_command own_read_command handle_read_command items_table
class_of_a = refl

class_quoted : spoken (codes "class \"alpha\" 97") ≡ wrong 7
unfolding command next_word argument no_more read_as is_over text_of_word quoted_of_word zone_of_word decimal_number behind_front max_number variable_of_word class_of_word is_class_name is_thread_name cut_at few_digits short_number offset_of_word three_numbers amount_of_word max_bytes format amounts offset zone moment info_words conv_words class_words lone_value upper_words lower_words money_words time_words shared_command catalog_command own_read_command handle_read_command items_table
class_quoted = refl

class_without_value : spoken (codes "class alpha") ≡ wrong 12
unfolding command next_word argument no_more read_as is_over text_of_word quoted_of_word zone_of_word decimal_number behind_front max_number variable_of_word class_of_word is_class_name is_thread_name cut_at few_digits short_number offset_of_word three_numbers amount_of_word max_bytes format amounts offset zone moment info_words conv_words class_words lone_value upper_words lower_words money_words time_words shared_command catalog_command own_read_command handle_read_command items_table
class_without_value = refl

class_value_too_large : spoken (codes "class alpha 4294967296") ≡ wrong 13
unfolding command next_word argument no_more read_as is_over text_of_word quoted_of_word zone_of_word decimal_number behind_front max_number variable_of_word class_of_word is_class_name is_thread_name cut_at few_digits short_number offset_of_word three_numbers amount_of_word max_bytes format amounts offset zone moment info_words conv_words class_words lone_value upper_words lower_words money_words time_words shared_command catalog_command own_read_command handle_read_command items_table
class_value_too_large = refl

upper_of_a : spoken (codes "upper 97") ≡ Ok (Read (Upper 97))
unfolding command next_word argument no_more read_as is_over text_of_word quoted_of_word zone_of_word decimal_number behind_front max_number variable_of_word class_of_word is_class_name is_thread_name cut_at few_digits short_number offset_of_word three_numbers amount_of_word max_bytes format amounts offset zone moment info_words conv_words class_words lone_value upper_words lower_words money_words time_words shared_command catalog_command own_read_command handle_read_command items_table
upper_of_a = refl

lower_of_a : spoken (codes "lower 65") ≡ Ok (Read (Lower 65))
unfolding command next_word argument no_more read_as is_over text_of_word quoted_of_word zone_of_word decimal_number behind_front max_number variable_of_word class_of_word is_class_name is_thread_name cut_at few_digits short_number offset_of_word three_numbers amount_of_word max_bytes format amounts offset zone moment info_words conv_words class_words lone_value upper_words lower_words money_words time_words shared_command catalog_command own_read_command handle_read_command items_table
lower_of_a = refl

lower_signed : spoken (codes "lower -1") ≡ wrong 7
unfolding command next_word argument no_more read_as is_over text_of_word quoted_of_word zone_of_word decimal_number behind_front max_number variable_of_word class_of_word is_class_name is_thread_name cut_at few_digits short_number offset_of_word three_numbers amount_of_word max_bytes format amounts offset zone moment info_words conv_words class_words lone_value upper_words lower_words money_words time_words shared_command catalog_command own_read_command handle_read_command items_table
lower_signed = refl

money_plain : spoken (codes "money \"%n\" 5 -0.5") ≡ Ok (Read (Money 1024 (codes "%n") (record { units = pos 5; scale = 0 } ∷ record { units = negsuc 4; scale = 1 } ∷ [])))
unfolding command next_word argument no_more read_as is_over text_of_word quoted_of_word zone_of_word decimal_number behind_front max_number variable_of_word class_of_word is_class_name is_thread_name cut_at few_digits short_number offset_of_word three_numbers amount_of_word max_bytes format amounts offset zone moment info_words conv_words class_words lone_value upper_words lower_words money_words time_words shared_command catalog_command own_read_command handle_read_command items_table
money_plain = refl

money_with_max : spoken (codes "money max=07 \"%n\"") ≡ Ok (Read (Money 7 (codes "%n") []))
unfolding command next_word argument no_more read_as is_over text_of_word quoted_of_word zone_of_word decimal_number behind_front max_number variable_of_word class_of_word is_class_name is_thread_name cut_at few_digits short_number offset_of_word three_numbers amount_of_word max_bytes format amounts offset zone moment info_words conv_words class_words lone_value upper_words lower_words money_words time_words shared_command catalog_command own_read_command handle_read_command items_table
money_with_max = refl

money_max_too_large : spoken (codes "money max=4097 \"%n\" 5") ≡ wrong 7
unfolding command next_word argument no_more read_as is_over text_of_word quoted_of_word zone_of_word decimal_number behind_front max_number variable_of_word class_of_word is_class_name is_thread_name cut_at few_digits short_number offset_of_word three_numbers amount_of_word max_bytes format amounts offset zone moment info_words conv_words class_words lone_value upper_words lower_words money_words time_words shared_command catalog_command own_read_command handle_read_command items_table
money_max_too_large = refl

money_max_twice : spoken (codes "money max=7 max=7 \"%n\" 5") ≡ wrong 13
unfolding command next_word argument no_more read_as is_over text_of_word quoted_of_word zone_of_word decimal_number behind_front max_number variable_of_word class_of_word is_class_name is_thread_name cut_at few_digits short_number offset_of_word three_numbers amount_of_word max_bytes format amounts offset zone moment info_words conv_words class_words lone_value upper_words lower_words money_words time_words shared_command catalog_command own_read_command handle_read_command items_table
money_max_twice = refl

money_without_format : spoken (codes "money max=7") ≡ wrong 12
unfolding command next_word argument no_more read_as is_over text_of_word quoted_of_word zone_of_word decimal_number behind_front max_number variable_of_word class_of_word is_class_name is_thread_name cut_at few_digits short_number offset_of_word three_numbers amount_of_word max_bytes format amounts offset zone moment info_words conv_words class_words lone_value upper_words lower_words money_words time_words shared_command catalog_command own_read_command handle_read_command items_table
money_without_format = refl

money_format_plain : spoken (codes "money %n 5") ≡ wrong 7
unfolding command next_word argument no_more read_as is_over text_of_word quoted_of_word zone_of_word decimal_number behind_front max_number variable_of_word class_of_word is_class_name is_thread_name cut_at few_digits short_number offset_of_word three_numbers amount_of_word max_bytes format amounts offset zone moment info_words conv_words class_words lone_value upper_words lower_words money_words time_words shared_command catalog_command own_read_command handle_read_command items_table
money_format_plain = refl

money_wrong_amount : spoken (codes "money \"%n\" 5 five 6") ≡ wrong 14
unfolding command next_word argument no_more read_as is_over text_of_word quoted_of_word zone_of_word decimal_number behind_front max_number variable_of_word class_of_word is_class_name is_thread_name cut_at few_digits short_number offset_of_word three_numbers amount_of_word max_bytes format amounts offset zone moment info_words conv_words class_words lone_value upper_words lower_words money_words time_words shared_command catalog_command own_read_command handle_read_command items_table
money_wrong_amount = refl

-- so many amounts of 1
abbrev ones : ℕ → List ℕ
ones n = flat_map (λ (k : ℕ). codes " 1") (replicate n 0)

money_many : spoken (codes "money \"%n\"" ++ ones 64) ≡ Ok (Read (Money 1024 (codes "%n") (replicate 64 (record { units = pos 1; scale = 0 }))))
unfolding command next_word argument no_more read_as is_over text_of_word quoted_of_word zone_of_word decimal_number behind_front max_number variable_of_word class_of_word is_class_name is_thread_name cut_at few_digits short_number offset_of_word three_numbers amount_of_word max_bytes format amounts offset zone moment info_words conv_words class_words lone_value upper_words lower_words money_words time_words shared_command catalog_command own_read_command handle_read_command items_table
money_many = refl

money_one_too_many : spoken (codes "money \"%n\"" ++ ones 65 ++ codes " x") ≡ refused 140 (reasons.OverLimit limits.Amounts)
unfolding command next_word argument no_more read_as is_over text_of_word quoted_of_word zone_of_word decimal_number behind_front max_number variable_of_word class_of_word is_class_name is_thread_name cut_at few_digits short_number offset_of_word three_numbers amount_of_word max_bytes format amounts offset zone moment info_words conv_words class_words lone_value upper_words lower_words money_words time_words shared_command catalog_command own_read_command handle_read_command items_table
money_one_too_many = refl

-- a wrong word goes before the limit at its place
money_wrong_one_too_many : spoken (codes "money \"%n\"" ++ ones 64 ++ codes " x") ≡ wrong 140
unfolding command next_word argument no_more read_as is_over text_of_word quoted_of_word zone_of_word decimal_number behind_front max_number variable_of_word class_of_word is_class_name is_thread_name cut_at few_digits short_number offset_of_word three_numbers amount_of_word max_bytes format amounts offset zone moment info_words conv_words class_words lone_value upper_words lower_words money_words time_words shared_command catalog_command own_read_command handle_read_command items_table
money_wrong_one_too_many = refl

format_too_long : spoken (codes "money \"" ++ replicate 1025 65 ++ codes "\" five") ≡ refused 7 (reasons.OverLimit limits.Format)
unfolding command next_word argument no_more read_as is_over text_of_word quoted_of_word zone_of_word decimal_number behind_front max_number variable_of_word class_of_word is_class_name is_thread_name cut_at few_digits short_number offset_of_word three_numbers amount_of_word max_bytes format amounts offset zone moment info_words conv_words class_words lone_value upper_words lower_words money_words time_words shared_command catalog_command own_read_command handle_read_command items_table
format_too_long = refl

abbrev noon : Option ℤ → List ℕ → Reads Command
noon offset zone = Ok (Read (Time 1024 (codes "%c") (record {
  year = pos 2021;
  mon = pos 13;
  mday = pos 3;
  hour = pos 12;
  min = pos 0;
  sec = pos 0;
  wday = pos 0;
  yday = pos 2;
  offset = offset;
  zone = zone;
})))

-- fields out of their range are no wrong words
time_plain : spoken (codes "time \"%c\" 2021-13-03 12:0:00 0 2") ≡ noon None []
unfolding command next_word argument no_more read_as is_over text_of_word quoted_of_word zone_of_word decimal_number behind_front max_number variable_of_word class_of_word is_class_name is_thread_name cut_at few_digits short_number offset_of_word three_numbers amount_of_word max_bytes format amounts offset zone moment info_words conv_words class_words lone_value upper_words lower_words money_words time_words shared_command catalog_command own_read_command handle_read_command items_table
time_plain = refl

time_with_offset : spoken (codes "time \"%c\" 2021-13-03 12:0:00 0 2 -90") ≡ noon (Some (negsuc 89)) []
unfolding command next_word argument no_more read_as is_over text_of_word quoted_of_word zone_of_word decimal_number behind_front max_number variable_of_word class_of_word is_class_name is_thread_name cut_at few_digits short_number offset_of_word three_numbers amount_of_word max_bytes format amounts offset zone moment info_words conv_words class_words lone_value upper_words lower_words money_words time_words shared_command catalog_command own_read_command handle_read_command items_table
time_with_offset = refl

time_with_zone : spoken (codes "time \"%c\" 2021-13-03 12:0:00 0 2 -90 \"a b\"") ≡ noon (Some (negsuc 89)) (codes "a b")
unfolding command next_word argument no_more read_as is_over text_of_word quoted_of_word zone_of_word decimal_number behind_front max_number variable_of_word class_of_word is_class_name is_thread_name cut_at few_digits short_number offset_of_word three_numbers amount_of_word max_bytes format amounts offset zone moment info_words conv_words class_words lone_value upper_words lower_words money_words time_words shared_command catalog_command own_read_command handle_read_command items_table
time_with_zone = refl

time_and_more : spoken (codes "time \"%c\" 2021-13-03 12:0:00 0 2 -90 UTC x") ≡ wrong 42
unfolding command next_word argument no_more read_as is_over text_of_word quoted_of_word zone_of_word decimal_number behind_front max_number variable_of_word class_of_word is_class_name is_thread_name cut_at few_digits short_number offset_of_word three_numbers amount_of_word max_bytes format amounts offset zone moment info_words conv_words class_words lone_value upper_words lower_words money_words time_words shared_command catalog_command own_read_command handle_read_command items_table
time_and_more = refl

-- a zone stands behind an offset
time_zone_for_offset : spoken (codes "time \"%c\" 2021-13-03 12:0:00 0 2 UTC") ≡ wrong 34
unfolding command next_word argument no_more read_as is_over text_of_word quoted_of_word zone_of_word decimal_number behind_front max_number variable_of_word class_of_word is_class_name is_thread_name cut_at few_digits short_number offset_of_word three_numbers amount_of_word max_bytes format amounts offset zone moment info_words conv_words class_words lone_value upper_words lower_words money_words time_words shared_command catalog_command own_read_command handle_read_command items_table
time_zone_for_offset = refl

time_short : spoken (codes "time \"%c\" 2021-13-03 12:0:00 0") ≡ wrong 31
unfolding command next_word argument no_more read_as is_over text_of_word quoted_of_word zone_of_word decimal_number behind_front max_number variable_of_word class_of_word is_class_name is_thread_name cut_at few_digits short_number offset_of_word three_numbers amount_of_word max_bytes format amounts offset zone moment info_words conv_words class_words lone_value upper_words lower_words money_words time_words shared_command catalog_command own_read_command handle_read_command items_table
time_short = refl

-- ---- whole numbers

number_plain : spoken (codes "number \"%d\" 5 -007") ≡ Ok (Read (Number 1024 (codes "%d") (pos 5 ∷ negsuc 6 ∷ [])))
unfolding command next_word argument text_of_word quoted_of_word decimal_number behind_front max_number cut_at number_of_word max_bytes format whole_numbers number_words shared_command catalog_command own_read_command handle_read_command
number_plain = refl

number_with_max : spoken (codes "number max=0 \"%d\"") ≡ Ok (Read (Number 0 (codes "%d") []))
unfolding command next_word argument text_of_word quoted_of_word decimal_number behind_front max_number cut_at number_of_word max_bytes format whole_numbers number_words shared_command catalog_command own_read_command handle_read_command
number_with_max = refl

number_without_format : spoken (codes "number 5") ≡ wrong 8
unfolding command next_word argument text_of_word quoted_of_word decimal_number behind_front max_number cut_at number_of_word max_bytes format whole_numbers number_words shared_command catalog_command own_read_command handle_read_command
number_without_format = refl

number_with_fraction : spoken (codes "number \"%d\" 1 1.5 2") ≡ wrong 15
unfolding command next_word argument text_of_word quoted_of_word decimal_number behind_front max_number cut_at number_of_word max_bytes format whole_numbers number_words shared_command catalog_command own_read_command handle_read_command
number_with_fraction = refl

number_many : spoken (codes "number \"%d\"" ++ ones 64) ≡ Ok (Read (Number 1024 (codes "%d") (replicate 64 (pos 1))))
unfolding command next_word argument text_of_word quoted_of_word decimal_number behind_front max_number cut_at number_of_word max_bytes format whole_numbers number_words shared_command catalog_command own_read_command handle_read_command
number_many = refl

number_one_too_many : spoken (codes "number \"%d\"" ++ ones 65 ++ codes " x") ≡ refused 141 (reasons.OverLimit limits.Numbers)
unfolding command next_word argument text_of_word quoted_of_word decimal_number behind_front max_number cut_at number_of_word max_bytes format whole_numbers number_words shared_command catalog_command own_read_command handle_read_command
number_one_too_many = refl

-- a wrong word goes before the limit at its place
number_wrong_one_too_many : spoken (codes "number \"%d\"" ++ ones 64 ++ codes " x") ≡ wrong 141
unfolding command next_word argument text_of_word quoted_of_word decimal_number behind_front max_number cut_at number_of_word max_bytes format whole_numbers number_words shared_command catalog_command own_read_command handle_read_command
number_wrong_one_too_many = refl

number_of_variable : spoken (codes "number_l x max=7 \"%d\" 1") ≡ Ok (ReadOf (targets.Variable (codes "x")) (Number 7 (codes "%d") (pos 1 ∷ [])))
unfolding command next_word argument text_of_word quoted_of_word decimal_number behind_front max_number cut_at number_of_word max_bytes format whole_numbers number_words shared_command catalog_command own_read_command handle_read_command target target_word read_of_command is_thread_name
number_of_variable = refl

number_max_before_handle : spoken (codes "number_l max=7 x \"%d\" 1") ≡ wrong 10
unfolding command next_word argument text_of_word quoted_of_word decimal_number behind_front max_number cut_at number_of_word max_bytes format whole_numbers number_words shared_command catalog_command own_read_command handle_read_command target target_word read_of_command is_thread_name handle_of_word
number_max_before_handle = refl

-- ---- texts that are scanned

parse_plain : spoken (codes "parse \"%d\" \"7 \\x41\"") ≡ Ok (Read (Parse (codes "%d") (codes "7 A")))
unfolding command next_word argument text_of_word quoted_of_word decimal_number behind_front max_number cut_at no_more format command_text parse_words shared_command catalog_command own_read_command handle_read_command
parse_plain = refl

parse_nothing : spoken (codes "parse \"\" \"\"") ≡ Ok (Read (Parse [] []))
unfolding command next_word argument text_of_word quoted_of_word decimal_number behind_front max_number cut_at no_more format command_text parse_words shared_command catalog_command own_read_command handle_read_command
parse_nothing = refl

parse_one_word : spoken (codes "parse \"%d\"") ≡ wrong 11
unfolding command next_word argument text_of_word quoted_of_word decimal_number behind_front max_number cut_at no_more format command_text parse_words shared_command catalog_command own_read_command handle_read_command
parse_one_word = refl

parse_three_words : spoken (codes "parse \"%d\" \"7\" \"8\"") ≡ wrong 16
unfolding command next_word argument text_of_word quoted_of_word decimal_number behind_front max_number cut_at no_more format command_text parse_words shared_command catalog_command own_read_command handle_read_command
parse_three_words = refl

parse_text_open : spoken (codes "parse \"%d\" \"7") ≡ wrong 12
unfolding command next_word argument text_of_word quoted_of_word decimal_number behind_front max_number cut_at no_more format command_text parse_words shared_command catalog_command own_read_command handle_read_command
parse_text_open = refl

parse_text_without_quotes : spoken (codes "parse \"%d\" 7") ≡ wrong 12
unfolding command next_word argument text_of_word quoted_of_word decimal_number behind_front max_number cut_at no_more format command_text parse_words shared_command catalog_command own_read_command handle_read_command
parse_text_without_quotes = refl

-- no `max=` stands before a text that is scanned
parse_with_max : spoken (codes "parse max=7 \"%d\" \"7\"") ≡ wrong 7
unfolding command next_word argument text_of_word quoted_of_word decimal_number behind_front max_number cut_at no_more format command_text parse_words shared_command catalog_command own_read_command handle_read_command
parse_with_max = refl

parse_longest_text : spoken (codes "parse \"%d\" \"" ++ replicate 1024 65 ++ codes "\"") ≡ Ok (Read (Parse (codes "%d") (replicate 1024 65)))
unfolding command next_word argument text_of_word quoted_of_word decimal_number behind_front max_number cut_at no_more format command_text parse_words shared_command catalog_command own_read_command handle_read_command
parse_longest_text = refl

parse_text_too_long : spoken (codes "parse \"%d\" \"" ++ replicate 1025 65 ++ codes "\" x") ≡ refused 12 (reasons.OverLimit limits.CommandText)
unfolding command next_word argument text_of_word quoted_of_word decimal_number behind_front max_number cut_at no_more format command_text parse_words shared_command catalog_command own_read_command handle_read_command
parse_text_too_long = refl

parse_format_too_long : spoken (codes "parse \"" ++ replicate 1025 65 ++ codes "\" x") ≡ refused 7 (reasons.OverLimit limits.Format)
unfolding command next_word argument text_of_word quoted_of_word decimal_number behind_front max_number cut_at no_more format command_text parse_words shared_command catalog_command own_read_command handle_read_command
parse_format_too_long = refl

parse_of_variable : spoken (codes "parse_l x \"%d\" \"7\"") ≡ Ok (ReadOf (targets.Variable (codes "x")) (Parse (codes "%d") (codes "7")))
unfolding command next_word argument text_of_word quoted_of_word decimal_number behind_front max_number cut_at no_more format command_text parse_words shared_command catalog_command own_read_command handle_read_command target target_word read_of_command is_thread_name
parse_of_variable = refl
