-- Commands that name handles, cells and keys, on small inputs.
use Rattle.std.proofs.Common.{◌≡◌, ℕ, ◌<◌, List, [], ◌∷◌, Option, Some, None, Ok, Err, refl, arith}
use Rattle.std.specs.Prelude.{pos, negsuc, codes}
use Rattle.lc_base.specs.declared.item.Item.TheVariants as items
use Rattle.lc_base.specs.declared.block.Later.{Later}
use Rattle.lc_base.specs.declared.reason.Reason.{Reason}
use Rattle.lc_base.specs.declared.reason.Reason.TheVariants as reasons
use Rattle.lc_base.specs.declared.reason.LinePart.TheVariants as parts
use Rattle.lc_base.specs.Reading.{Reads}
use Rattle.script_commands.specs.declared.command.Command.{Command}
use Rattle.script_commands.specs.declared.command.Command.TheVariants.{Selected, Dup, Hold, Release, Install, Post, Fetch, Pins, ReadOf}
use Rattle.script_commands.specs.declared.command.Read.TheVariants.{Info, Class, Upper, Lower, Money, Time}
use Rattle.script_commands.specs.declared.command.Target.TheVariants as targets
use Rattle.script_commands.specs.declared.known.Known.{Known}
use Rattle.script_words.specs.Names.{is_formed, is_locale_name, is_thread_name, is_class_name}
use Rattle.script_words.specs.Spans.{whole_line, next_word}
use Rattle.script_words.specs.Tables.{items_table}
use Rattle.lc_base.specs.Cuts.{cut_at}
use Rattle.lc_base.specs.Numbers.{decimal_number, few_digits}
use Rattle.script_words.specs.Words.{text_of_word, quoted_of_word, zone_of_word, variable_of_word, class_of_word, key_of_word, cell_number, behind_front, max_number, handle_of_word, cell_of_word}
use Rattle.script_words.specs.Numbers.{short_number, offset_of_word, three_numbers, amount_of_word}
use Rattle.script_commands.specs.Commands.{argument, read_as, no_more, is_over, command, dup_command, lone_target, target_word, target, install_command, key, post_command, fetch_command, cell, read_of_command, info_words, class_words, lone_value, upper_words, lower_words, money_words, time_words, max_bytes, format, amounts, moment, offset, zone, shared_command, catalog_command, own_read_command, handle_read_command}
use Rattle.script_commands.specs.InRange.{IsInRange}

-- ---- as the second line of a script, where no name is looked for

abbrev spoken_by : Option Known → List (List ℕ) → List ℕ → Reads Command
spoken_by known threads line = elim (next_word (whole_line 2 line)) [ None ↦ Ok Selected | Some x ↦ command known threads x.0 x.1 ]

abbrev spoken : List ℕ → Reads Command
spoken line = spoken_by None (codes "A" ∷ []) line

abbrev refused : ℕ → Reason → Reads Command
refused column reason = Err (record { line = 2; column = column }, reason)

abbrev wrong : ℕ → Reads Command
wrong column = refused column (reasons.BadLine parts.Argument)

dup_variable : spoken (codes "dup y x") ≡ Ok (Dup (codes "y") (targets.Variable (codes "x")))
unfolding command dup_command lone_target target_word target install_command key post_command fetch_command cell read_of_command info_words class_words lone_value upper_words lower_words money_words time_words max_bytes format amounts moment offset zone next_word argument no_more read_as is_over text_of_word quoted_of_word zone_of_word variable_of_word class_of_word key_of_word cell_number decimal_number behind_front max_number cut_at handle_of_word cell_of_word few_digits short_number offset_of_word three_numbers amount_of_word is_formed is_locale_name is_thread_name is_class_name shared_command catalog_command own_read_command handle_read_command items_table
dup_variable = refl

-- the global locale may be copied
dup_global : spoken (codes "dup y GLOBAL") ≡ Ok (Dup (codes "y") targets.Global)
unfolding command dup_command lone_target target_word target install_command key post_command fetch_command cell read_of_command info_words class_words lone_value upper_words lower_words money_words time_words max_bytes format amounts moment offset zone next_word argument no_more read_as is_over text_of_word quoted_of_word zone_of_word variable_of_word class_of_word key_of_word cell_number decimal_number behind_front max_number cut_at handle_of_word cell_of_word few_digits short_number offset_of_word three_numbers amount_of_word is_formed is_locale_name is_thread_name is_class_name shared_command catalog_command own_read_command handle_read_command items_table
dup_global = refl

dup_missing : spoken (codes "dup y") ≡ wrong 6
unfolding command dup_command lone_target target_word target install_command key post_command fetch_command cell read_of_command info_words class_words lone_value upper_words lower_words money_words time_words max_bytes format amounts moment offset zone next_word argument no_more read_as is_over text_of_word quoted_of_word zone_of_word variable_of_word class_of_word key_of_word cell_number decimal_number behind_front max_number cut_at handle_of_word cell_of_word few_digits short_number offset_of_word three_numbers amount_of_word is_formed is_locale_name is_thread_name is_class_name shared_command catalog_command own_read_command handle_read_command items_table
dup_missing = refl

dup_and_more : spoken (codes "dup y x z") ≡ wrong 9
unfolding command dup_command lone_target target_word target install_command key post_command fetch_command cell read_of_command info_words class_words lone_value upper_words lower_words money_words time_words max_bytes format amounts moment offset zone next_word argument no_more read_as is_over text_of_word quoted_of_word zone_of_word variable_of_word class_of_word key_of_word cell_number decimal_number behind_front max_number cut_at handle_of_word cell_of_word few_digits short_number offset_of_word three_numbers amount_of_word is_formed is_locale_name is_thread_name is_class_name shared_command catalog_command own_read_command handle_read_command items_table
dup_and_more = refl

-- what is bound is a variable
dup_to_a_handle : spoken (codes "dup A.0.1 x") ≡ wrong 5
unfolding command dup_command lone_target target_word target install_command key post_command fetch_command cell read_of_command info_words class_words lone_value upper_words lower_words money_words time_words max_bytes format amounts moment offset zone next_word argument no_more read_as is_over text_of_word quoted_of_word zone_of_word variable_of_word class_of_word key_of_word cell_number decimal_number behind_front max_number cut_at handle_of_word cell_of_word few_digits short_number offset_of_word three_numbers amount_of_word is_formed is_locale_name is_thread_name is_class_name shared_command catalog_command own_read_command handle_read_command items_table
dup_to_a_handle = refl

hold_handle : spoken (codes "hold A.00.01") ≡ Ok (Hold (targets.Handle (record { owner = 0; row = 0; generation = 1 })))
unfolding command dup_command lone_target target_word target install_command key post_command fetch_command cell read_of_command info_words class_words lone_value upper_words lower_words money_words time_words max_bytes format amounts moment offset zone next_word argument no_more read_as is_over text_of_word quoted_of_word zone_of_word variable_of_word class_of_word key_of_word cell_number decimal_number behind_front max_number cut_at handle_of_word cell_of_word few_digits short_number offset_of_word three_numbers amount_of_word is_formed is_locale_name is_thread_name is_class_name shared_command catalog_command own_read_command handle_read_command items_table
hold_handle = refl

hold_missing : spoken (codes "hold") ≡ wrong 5
unfolding command dup_command lone_target target_word target install_command key post_command fetch_command cell read_of_command info_words class_words lone_value upper_words lower_words money_words time_words max_bytes format amounts moment offset zone next_word argument no_more read_as is_over text_of_word quoted_of_word zone_of_word variable_of_word class_of_word key_of_word cell_number decimal_number behind_front max_number cut_at handle_of_word cell_of_word few_digits short_number offset_of_word three_numbers amount_of_word is_formed is_locale_name is_thread_name is_class_name shared_command catalog_command own_read_command handle_read_command items_table
hold_missing = refl

release_variable : spoken (codes "release x") ≡ Ok (Release (targets.Variable (codes "x")))
unfolding command dup_command lone_target target_word target install_command key post_command fetch_command cell read_of_command info_words class_words lone_value upper_words lower_words money_words time_words max_bytes format amounts moment offset zone next_word argument no_more read_as is_over text_of_word quoted_of_word zone_of_word variable_of_word class_of_word key_of_word cell_number decimal_number behind_front max_number cut_at handle_of_word cell_of_word few_digits short_number offset_of_word three_numbers amount_of_word is_formed is_locale_name is_thread_name is_class_name shared_command catalog_command own_read_command handle_read_command items_table
release_variable = refl

release_asked : spoken (codes "release ?") ≡ wrong 9
unfolding command dup_command lone_target target_word target install_command key post_command fetch_command cell read_of_command info_words class_words lone_value upper_words lower_words money_words time_words max_bytes format amounts moment offset zone next_word argument no_more read_as is_over text_of_word quoted_of_word zone_of_word variable_of_word class_of_word key_of_word cell_number decimal_number behind_front max_number cut_at handle_of_word cell_of_word few_digits short_number offset_of_word three_numbers amount_of_word is_formed is_locale_name is_thread_name is_class_name shared_command catalog_command own_read_command handle_read_command items_table
release_asked = refl

pins_of_global : spoken (codes "pins GLOBAL") ≡ Ok (Pins targets.Global)
unfolding command dup_command lone_target target_word target install_command key post_command fetch_command cell read_of_command info_words class_words lone_value upper_words lower_words money_words time_words max_bytes format amounts moment offset zone next_word argument no_more read_as is_over text_of_word quoted_of_word zone_of_word variable_of_word class_of_word key_of_word cell_number decimal_number behind_front max_number cut_at handle_of_word cell_of_word few_digits short_number offset_of_word three_numbers amount_of_word is_formed is_locale_name is_thread_name is_class_name shared_command catalog_command own_read_command handle_read_command items_table
pins_of_global = refl

install_version : spoken (codes "install fr_FR.UTF-8@b") ≡ Ok (Install (codes "fr_FR.UTF-8@b"))
unfolding command dup_command lone_target target_word target install_command key post_command fetch_command cell read_of_command info_words class_words lone_value upper_words lower_words money_words time_words max_bytes format amounts moment offset zone next_word argument no_more read_as is_over text_of_word quoted_of_word zone_of_word variable_of_word class_of_word key_of_word cell_number decimal_number behind_front max_number cut_at handle_of_word cell_of_word few_digits short_number offset_of_word three_numbers amount_of_word is_formed is_locale_name is_thread_name is_class_name shared_command catalog_command own_read_command handle_read_command items_table
install_version = refl

-- a key is formed as a locale's name
install_posix : spoken (codes "install POSIX") ≡ wrong 9
unfolding command dup_command lone_target target_word target install_command key post_command fetch_command cell read_of_command info_words class_words lone_value upper_words lower_words money_words time_words max_bytes format amounts moment offset zone next_word argument no_more read_as is_over text_of_word quoted_of_word zone_of_word variable_of_word class_of_word key_of_word cell_number decimal_number behind_front max_number cut_at handle_of_word cell_of_word few_digits short_number offset_of_word three_numbers amount_of_word is_formed is_locale_name is_thread_name is_class_name shared_command catalog_command own_read_command handle_read_command items_table
install_posix = refl

install_quoted : spoken (codes "install \"k\"") ≡ wrong 9
unfolding command dup_command lone_target target_word target install_command key post_command fetch_command cell read_of_command info_words class_words lone_value upper_words lower_words money_words time_words max_bytes format amounts moment offset zone next_word argument no_more read_as is_over text_of_word quoted_of_word zone_of_word variable_of_word class_of_word key_of_word cell_number decimal_number behind_front max_number cut_at handle_of_word cell_of_word few_digits short_number offset_of_word three_numbers amount_of_word is_formed is_locale_name is_thread_name is_class_name shared_command catalog_command own_read_command handle_read_command items_table
install_quoted = refl

install_and_more : spoken (codes "install k k") ≡ wrong 11
unfolding command dup_command lone_target target_word target install_command key post_command fetch_command cell read_of_command info_words class_words lone_value upper_words lower_words money_words time_words max_bytes format amounts moment offset zone next_word argument no_more read_as is_over text_of_word quoted_of_word zone_of_word variable_of_word class_of_word key_of_word cell_number decimal_number behind_front max_number cut_at handle_of_word cell_of_word few_digits short_number offset_of_word three_numbers amount_of_word is_formed is_locale_name is_thread_name is_class_name shared_command catalog_command own_read_command handle_read_command items_table
install_and_more = refl

post_variable : spoken (codes "post 007 x") ≡ Ok (Post 7 (targets.Variable (codes "x")))
unfolding command dup_command lone_target target_word target install_command key post_command fetch_command cell read_of_command info_words class_words lone_value upper_words lower_words money_words time_words max_bytes format amounts moment offset zone next_word argument no_more read_as is_over text_of_word quoted_of_word zone_of_word variable_of_word class_of_word key_of_word cell_number decimal_number behind_front max_number cut_at handle_of_word cell_of_word few_digits short_number offset_of_word three_numbers amount_of_word is_formed is_locale_name is_thread_name is_class_name shared_command catalog_command own_read_command handle_read_command items_table
post_variable = refl

post_to_cell_eight : spoken (codes "post 8 x") ≡ wrong 6
unfolding command dup_command lone_target target_word target install_command key post_command fetch_command cell read_of_command info_words class_words lone_value upper_words lower_words money_words time_words max_bytes format amounts moment offset zone next_word argument no_more read_as is_over text_of_word quoted_of_word zone_of_word variable_of_word class_of_word key_of_word cell_number decimal_number behind_front max_number cut_at handle_of_word cell_of_word few_digits short_number offset_of_word three_numbers amount_of_word is_formed is_locale_name is_thread_name is_class_name shared_command catalog_command own_read_command handle_read_command items_table
post_to_cell_eight = refl

post_nothing : spoken (codes "post 0") ≡ wrong 7
unfolding command dup_command lone_target target_word target install_command key post_command fetch_command cell read_of_command info_words class_words lone_value upper_words lower_words money_words time_words max_bytes format amounts moment offset zone next_word argument no_more read_as is_over text_of_word quoted_of_word zone_of_word variable_of_word class_of_word key_of_word cell_number decimal_number behind_front max_number cut_at handle_of_word cell_of_word few_digits short_number offset_of_word three_numbers amount_of_word is_formed is_locale_name is_thread_name is_class_name shared_command catalog_command own_read_command handle_read_command items_table
post_nothing = refl

fetch_cell : spoken (codes "fetch y A.7") ≡ Ok (Fetch (codes "y") 0 7)
unfolding command dup_command lone_target target_word target install_command key post_command fetch_command cell read_of_command info_words class_words lone_value upper_words lower_words money_words time_words max_bytes format amounts moment offset zone next_word argument no_more read_as is_over text_of_word quoted_of_word zone_of_word variable_of_word class_of_word key_of_word cell_number decimal_number behind_front max_number cut_at handle_of_word cell_of_word few_digits short_number offset_of_word three_numbers amount_of_word is_formed is_locale_name is_thread_name is_class_name shared_command catalog_command own_read_command handle_read_command items_table
fetch_cell = refl

fetch_cell_eight : spoken (codes "fetch y A.8") ≡ wrong 9
unfolding command dup_command lone_target target_word target install_command key post_command fetch_command cell read_of_command info_words class_words lone_value upper_words lower_words money_words time_words max_bytes format amounts moment offset zone next_word argument no_more read_as is_over text_of_word quoted_of_word zone_of_word variable_of_word class_of_word key_of_word cell_number decimal_number behind_front max_number cut_at handle_of_word cell_of_word few_digits short_number offset_of_word three_numbers amount_of_word is_formed is_locale_name is_thread_name is_class_name shared_command catalog_command own_read_command handle_read_command items_table
fetch_cell_eight = refl

-- a handle is no cell
fetch_handle : spoken (codes "fetch y A.0.1") ≡ wrong 9
unfolding command dup_command lone_target target_word target install_command key post_command fetch_command cell read_of_command info_words class_words lone_value upper_words lower_words money_words time_words max_bytes format amounts moment offset zone next_word argument no_more read_as is_over text_of_word quoted_of_word zone_of_word variable_of_word class_of_word key_of_word cell_number decimal_number behind_front max_number cut_at handle_of_word cell_of_word few_digits short_number offset_of_word three_numbers amount_of_word is_formed is_locale_name is_thread_name is_class_name shared_command catalog_command own_read_command handle_read_command items_table
fetch_handle = refl

fetch_of_global : spoken (codes "fetch y GLOBAL.0") ≡ wrong 9
unfolding command dup_command lone_target target_word target install_command key post_command fetch_command cell read_of_command info_words class_words lone_value upper_words lower_words money_words time_words max_bytes format amounts moment offset zone next_word argument no_more read_as is_over text_of_word quoted_of_word zone_of_word variable_of_word class_of_word key_of_word cell_number decimal_number behind_front max_number cut_at handle_of_word cell_of_word few_digits short_number offset_of_word three_numbers amount_of_word is_formed is_locale_name is_thread_name is_class_name shared_command catalog_command own_read_command handle_read_command items_table
fetch_of_global = refl

fetch_and_more : spoken (codes "fetch y A.0 x") ≡ wrong 13
unfolding command dup_command lone_target target_word target install_command key post_command fetch_command cell read_of_command info_words class_words lone_value upper_words lower_words money_words time_words max_bytes format amounts moment offset zone next_word argument no_more read_as is_over text_of_word quoted_of_word zone_of_word variable_of_word class_of_word key_of_word cell_number decimal_number behind_front max_number cut_at handle_of_word cell_of_word few_digits short_number offset_of_word three_numbers amount_of_word is_formed is_locale_name is_thread_name is_class_name shared_command catalog_command own_read_command handle_read_command items_table
fetch_and_more = refl

info_of_variable : spoken (codes "info_l x RADIXCHAR") ≡ Ok (ReadOf (targets.Variable (codes "x")) (Info items.Radixchar))
unfolding command dup_command lone_target target_word target install_command key post_command fetch_command cell read_of_command info_words class_words lone_value upper_words lower_words money_words time_words max_bytes format amounts moment offset zone next_word argument no_more read_as is_over text_of_word quoted_of_word zone_of_word variable_of_word class_of_word key_of_word cell_number decimal_number behind_front max_number cut_at handle_of_word cell_of_word few_digits short_number offset_of_word three_numbers amount_of_word is_formed is_locale_name is_thread_name is_class_name shared_command catalog_command own_read_command handle_read_command items_table
info_of_variable = refl

-- the word behind it is the handle
info_without_handle : spoken (codes "info_l RADIXCHAR") ≡ wrong 17
unfolding command dup_command lone_target target_word target install_command key post_command fetch_command cell read_of_command info_words class_words lone_value upper_words lower_words money_words time_words max_bytes format amounts moment offset zone next_word argument no_more read_as is_over text_of_word quoted_of_word zone_of_word variable_of_word class_of_word key_of_word cell_number decimal_number behind_front max_number cut_at handle_of_word cell_of_word few_digits short_number offset_of_word three_numbers amount_of_word is_formed is_locale_name is_thread_name is_class_name shared_command catalog_command own_read_command handle_read_command items_table
info_without_handle = refl

info_of_handle_without_item : spoken (codes "info_l A.0.1") ≡ wrong 13
unfolding command dup_command lone_target target_word target install_command key post_command fetch_command cell read_of_command info_words class_words lone_value upper_words lower_words money_words time_words max_bytes format amounts moment offset zone next_word argument no_more read_as is_over text_of_word quoted_of_word zone_of_word variable_of_word class_of_word key_of_word cell_number decimal_number behind_front max_number cut_at handle_of_word cell_of_word few_digits short_number offset_of_word three_numbers amount_of_word is_formed is_locale_name is_thread_name is_class_name shared_command catalog_command own_read_command handle_read_command items_table
info_of_handle_without_item = refl

class_of_global : spoken (codes "class_l GLOBAL alpha 65") ≡ Ok (ReadOf targets.Global (Class (codes "alpha") 65))
unfolding command dup_command lone_target target_word target install_command key post_command fetch_command cell read_of_command info_words class_words lone_value upper_words lower_words money_words time_words max_bytes format amounts moment offset zone next_word argument no_more read_as is_over text_of_word quoted_of_word zone_of_word variable_of_word class_of_word key_of_word cell_number decimal_number behind_front max_number cut_at handle_of_word cell_of_word few_digits short_number offset_of_word three_numbers amount_of_word is_formed is_locale_name is_thread_name is_class_name shared_command catalog_command own_read_command handle_read_command items_table
class_of_global = refl

upper_of_handle : spoken (codes "upper_l A.2.1 97") ≡ Ok (ReadOf (targets.Handle (record { owner = 0; row = 2; generation = 1 })) (Upper 97))
unfolding command dup_command lone_target target_word target install_command key post_command fetch_command cell read_of_command info_words class_words lone_value upper_words lower_words money_words time_words max_bytes format amounts moment offset zone next_word argument no_more read_as is_over text_of_word quoted_of_word zone_of_word variable_of_word class_of_word key_of_word cell_number decimal_number behind_front max_number cut_at handle_of_word cell_of_word few_digits short_number offset_of_word three_numbers amount_of_word is_formed is_locale_name is_thread_name is_class_name shared_command catalog_command own_read_command handle_read_command items_table
upper_of_handle = refl

lower_of_variable : spoken (codes "lower_l x 65") ≡ Ok (ReadOf (targets.Variable (codes "x")) (Lower 65))
unfolding command dup_command lone_target target_word target install_command key post_command fetch_command cell read_of_command info_words class_words lone_value upper_words lower_words money_words time_words max_bytes format amounts moment offset zone next_word argument no_more read_as is_over text_of_word quoted_of_word zone_of_word variable_of_word class_of_word key_of_word cell_number decimal_number behind_front max_number cut_at handle_of_word cell_of_word few_digits short_number offset_of_word three_numbers amount_of_word is_formed is_locale_name is_thread_name is_class_name shared_command catalog_command own_read_command handle_read_command items_table
lower_of_variable = refl

lower_of_two_values : spoken (codes "lower_l x 65 66") ≡ wrong 14
unfolding command dup_command lone_target target_word target install_command key post_command fetch_command cell read_of_command info_words class_words lone_value upper_words lower_words money_words time_words max_bytes format amounts moment offset zone next_word argument no_more read_as is_over text_of_word quoted_of_word zone_of_word variable_of_word class_of_word key_of_word cell_number decimal_number behind_front max_number cut_at handle_of_word cell_of_word few_digits short_number offset_of_word three_numbers amount_of_word is_formed is_locale_name is_thread_name is_class_name shared_command catalog_command own_read_command handle_read_command items_table
lower_of_two_values = refl

-- localeconv has no form with a handle (XSH localeconv)
conv_of_variable : spoken (codes "conv_l x") ≡ refused 1 (reasons.BadLine parts.Command)
unfolding command dup_command lone_target target_word target install_command key post_command fetch_command cell read_of_command info_words class_words lone_value upper_words lower_words money_words time_words max_bytes format amounts moment offset zone next_word argument no_more read_as is_over text_of_word quoted_of_word zone_of_word variable_of_word class_of_word key_of_word cell_number decimal_number behind_front max_number cut_at handle_of_word cell_of_word few_digits short_number offset_of_word three_numbers amount_of_word is_formed is_locale_name is_thread_name is_class_name shared_command catalog_command own_read_command handle_read_command items_table
conv_of_variable = refl

money_of_variable : spoken (codes "money_l x max=7 \"%n\" -5") ≡ Ok (ReadOf (targets.Variable (codes "x")) (Money 7 (codes "%n") (record { units = negsuc 4; scale = 0 } ∷ [])))
unfolding command dup_command lone_target target_word target install_command key post_command fetch_command cell read_of_command info_words class_words lone_value upper_words lower_words money_words time_words max_bytes format amounts moment offset zone next_word argument no_more read_as is_over text_of_word quoted_of_word zone_of_word variable_of_word class_of_word key_of_word cell_number decimal_number behind_front max_number cut_at handle_of_word cell_of_word few_digits short_number offset_of_word three_numbers amount_of_word is_formed is_locale_name is_thread_name is_class_name shared_command catalog_command own_read_command handle_read_command items_table
money_of_variable = refl

-- the handle stands before MAX
money_max_before_handle : spoken (codes "money_l max=7 x \"%n\" 5") ≡ wrong 9
unfolding command dup_command lone_target target_word target install_command key post_command fetch_command cell read_of_command info_words class_words lone_value upper_words lower_words money_words time_words max_bytes format amounts moment offset zone next_word argument no_more read_as is_over text_of_word quoted_of_word zone_of_word variable_of_word class_of_word key_of_word cell_number decimal_number behind_front max_number cut_at handle_of_word cell_of_word few_digits short_number offset_of_word three_numbers amount_of_word is_formed is_locale_name is_thread_name is_class_name shared_command catalog_command own_read_command handle_read_command items_table
money_max_before_handle = refl

time_of_handle : spoken (codes "time_l A.0.1 \"%c\" 2021-13-03 12:0:00 0 2") ≡ Ok (ReadOf (targets.Handle (record { owner = 0; row = 0; generation = 1 })) (Time 1024 (codes "%c") (record { year = pos 2021; mon = pos 13; mday = pos 3; hour = pos 12; min = pos 0; sec = pos 0; wday = pos 0; yday = pos 2; offset = None; zone = [] })))
unfolding command dup_command lone_target target_word target install_command key post_command fetch_command cell read_of_command info_words class_words lone_value upper_words lower_words money_words time_words max_bytes format amounts moment offset zone next_word argument no_more read_as is_over text_of_word quoted_of_word zone_of_word variable_of_word class_of_word key_of_word cell_number decimal_number behind_front max_number cut_at handle_of_word cell_of_word few_digits short_number offset_of_word three_numbers amount_of_word is_formed is_locale_name is_thread_name is_class_name shared_command catalog_command own_read_command handle_read_command items_table
time_of_handle = refl

-- ---- where the blocks and the threads of the whole bundle are known

abbrev version : List ℕ → Later
version key = record { key = key; block = record { name = codes "fr"; charset = codes "UTF-8"; first_line = 2; text = [] } }

abbrev whole : Option Known
whole = Some (record { charmaps = []; locales = []; later = version (codes "k") ∷ [] })

abbrev looked_for : List ℕ → Reads Command
looked_for line = spoken_by whole (codes "B" ∷ codes "A" ∷ []) line

second_thread : looked_for (codes "pins A.0.1") ≡ Ok (Pins (targets.Handle (record { owner = 1; row = 0; generation = 1 })))
unfolding command dup_command lone_target target_word target install_command key post_command fetch_command cell read_of_command info_words class_words lone_value upper_words lower_words money_words time_words max_bytes format amounts moment offset zone next_word argument no_more read_as is_over text_of_word quoted_of_word zone_of_word variable_of_word class_of_word key_of_word cell_number decimal_number behind_front max_number cut_at handle_of_word cell_of_word few_digits short_number offset_of_word three_numbers amount_of_word is_formed is_locale_name is_thread_name is_class_name shared_command catalog_command own_read_command handle_read_command items_table
second_thread = refl

no_thread : looked_for (codes "pins C.0.1") ≡ refused 6 reasons.NoThread
unfolding command dup_command lone_target target_word target install_command key post_command fetch_command cell read_of_command info_words class_words lone_value upper_words lower_words money_words time_words max_bytes format amounts moment offset zone next_word argument no_more read_as is_over text_of_word quoted_of_word zone_of_word variable_of_word class_of_word key_of_word cell_number decimal_number behind_front max_number cut_at handle_of_word cell_of_word few_digits short_number offset_of_word three_numbers amount_of_word is_formed is_locale_name is_thread_name is_class_name shared_command catalog_command own_read_command handle_read_command items_table
no_thread = refl

-- a variable may have the name of no thread
variable_is_no_thread : looked_for (codes "pins C") ≡ Ok (Pins (targets.Variable (codes "C")))
unfolding command dup_command lone_target target_word target install_command key post_command fetch_command cell read_of_command info_words class_words lone_value upper_words lower_words money_words time_words max_bytes format amounts moment offset zone next_word argument no_more read_as is_over text_of_word quoted_of_word zone_of_word variable_of_word class_of_word key_of_word cell_number decimal_number behind_front max_number cut_at handle_of_word cell_of_word few_digits short_number offset_of_word three_numbers amount_of_word is_formed is_locale_name is_thread_name is_class_name shared_command catalog_command own_read_command handle_read_command items_table
variable_is_no_thread = refl

cell_of_second_thread : looked_for (codes "fetch y A.3") ≡ Ok (Fetch (codes "y") 1 3)
unfolding command dup_command lone_target target_word target install_command key post_command fetch_command cell read_of_command info_words class_words lone_value upper_words lower_words money_words time_words max_bytes format amounts moment offset zone next_word argument no_more read_as is_over text_of_word quoted_of_word zone_of_word variable_of_word class_of_word key_of_word cell_number decimal_number behind_front max_number cut_at handle_of_word cell_of_word few_digits short_number offset_of_word three_numbers amount_of_word is_formed is_locale_name is_thread_name is_class_name shared_command catalog_command own_read_command handle_read_command items_table
cell_of_second_thread = refl

cell_of_no_thread : looked_for (codes "fetch y C.3") ≡ refused 9 reasons.NoThread
unfolding command dup_command lone_target target_word target install_command key post_command fetch_command cell read_of_command info_words class_words lone_value upper_words lower_words money_words time_words max_bytes format amounts moment offset zone next_word argument no_more read_as is_over text_of_word quoted_of_word zone_of_word variable_of_word class_of_word key_of_word cell_number decimal_number behind_front max_number cut_at handle_of_word cell_of_word few_digits short_number offset_of_word three_numbers amount_of_word is_formed is_locale_name is_thread_name is_class_name shared_command catalog_command own_read_command handle_read_command items_table
cell_of_no_thread = refl

known_key : looked_for (codes "install k") ≡ Ok (Install (codes "k"))
unfolding command dup_command lone_target target_word target install_command key post_command fetch_command cell read_of_command info_words class_words lone_value upper_words lower_words money_words time_words max_bytes format amounts moment offset zone next_word argument no_more read_as is_over text_of_word quoted_of_word zone_of_word variable_of_word class_of_word key_of_word cell_number decimal_number behind_front max_number cut_at handle_of_word cell_of_word few_digits short_number offset_of_word three_numbers amount_of_word is_formed is_locale_name is_thread_name is_class_name shared_command catalog_command own_read_command handle_read_command items_table
known_key = refl

-- a version is installed by its key, not by its name
key_of_no_version : looked_for (codes "install fr") ≡ refused 9 reasons.NoLater
unfolding command dup_command lone_target target_word target install_command key post_command fetch_command cell read_of_command info_words class_words lone_value upper_words lower_words money_words time_words max_bytes format amounts moment offset zone next_word argument no_more read_as is_over text_of_word quoted_of_word zone_of_word variable_of_word class_of_word key_of_word cell_number decimal_number behind_front max_number cut_at handle_of_word cell_of_word few_digits short_number offset_of_word three_numbers amount_of_word is_formed is_locale_name is_thread_name is_class_name shared_command catalog_command own_read_command handle_read_command items_table
key_of_no_version = refl

handle_of_no_thread : looked_for (codes "upper_l C.0.1 97") ≡ refused 9 reasons.NoThread
unfolding command dup_command lone_target target_word target install_command key post_command fetch_command cell read_of_command info_words class_words lone_value upper_words lower_words money_words time_words max_bytes format amounts moment offset zone next_word argument no_more read_as is_over text_of_word quoted_of_word zone_of_word variable_of_word class_of_word key_of_word cell_number decimal_number behind_front max_number cut_at handle_of_word cell_of_word few_digits short_number offset_of_word three_numbers amount_of_word is_formed is_locale_name is_thread_name is_class_name shared_command catalog_command own_read_command handle_read_command items_table
handle_of_no_thread = refl

-- ---- numbers in range

fetched_in_range : IsInRange 2 (Fetch (codes "x") 1 7)
fetched_in_range = (omega arith, omega arith)

-- there are eight cells
no_cell_eight : IsInRange 2 (Post 8 targets.Global) → 8 < 8
no_cell_eight h = h.0

-- the second of two threads has the number 1
no_thread_two : IsInRange 2 (Pins (targets.Handle (record { owner = 2; row = 0; generation = 1 }))) → 2 < 2
no_thread_two h = h
