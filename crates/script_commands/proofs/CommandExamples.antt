-- Commands on small inputs.
use Rattle.std.proofs.Common.{◌≡◌, ℕ, List, [], ◌∷◌, Some, None, Ok, Err, refl}
use Rattle.std.specs.Prelude.{codes}
use Rattle.lc_base.specs.declared.category.Category.TheVariants as categories
use Rattle.lc_base.specs.declared.reason.Reason.{Reason}
use Rattle.lc_base.specs.declared.reason.Reason.TheVariants as reasons
use Rattle.lc_base.specs.declared.reason.LinePart.TheVariants as parts
use Rattle.lc_base.specs.Reading.{Reads}
use Rattle.script_words.specs.declared.categories.CategoryArgument.TheVariants as chosen
use Rattle.lc_base.specs.declared.item.Item.TheVariants as items
use Rattle.script_commands.specs.declared.command.Target.TheVariants as targets
use Rattle.script_commands.specs.declared.command.Command.{Command}
use Rattle.script_commands.specs.declared.command.Command.TheVariants.{New, Free, Use, Selected, Setlocale, LocaleName, Read}
use Rattle.script_commands.specs.declared.command.Read.TheVariants.{Info}
use Rattle.script_words.specs.Names.{is_formed, is_locale_name, is_charmap_name, is_thread_name}
use Rattle.script_words.specs.Spans.{whole_line, next_word}
use Rattle.lc_base.specs.Cuts.{cut_at}
use Rattle.lc_base.specs.Numbers.{decimal_number}
use Rattle.script_words.specs.Words.{text_of_word, categories_of_word, mask_of_word, variable_of_word, handle_of_word}
use Rattle.script_words.specs.Tables.{items_table}
use Rattle.script_commands.specs.Commands.{argument, read_as, no_more, is_over, command, target, target_word, lone_target, base, new_command, use_command, setlocale_command, info_words, shared_command, catalog_command, own_read_command, handle_read_command}

-- ---- commands, as the second line of a script, where no name is looked for

abbrev spoken : List ℕ → Reads Command
spoken line = elim (next_word (whole_line 2 line)) [ None ↦ Ok Selected | Some x ↦ command None (codes "A" ∷ []) x.0 x.1 ]

abbrev refused : ℕ → Reason → Reads Command
refused column reason = Err (record { line = 2; column = column }, reason)

new_object : spoken (codes "new x1 LC_TIME \"a b\"") ≡ Ok (New (codes "x1") 8 (codes "a b") None)
unfolding command new_command base lone_target target_word target handle_of_word next_word argument no_more read_as is_over text_of_word mask_of_word categories_of_word variable_of_word decimal_number cut_at is_formed is_locale_name is_charmap_name is_thread_name shared_command catalog_command own_read_command handle_read_command items_table
new_object = refl

new_with_base : spoken (codes "new x2 LC_TIME fr x1") ≡ Ok (New (codes "x2") 8 (codes "fr") (Some (targets.Variable (codes "x1"))))
unfolding command new_command base lone_target target_word target handle_of_word next_word argument no_more read_as is_over text_of_word mask_of_word categories_of_word variable_of_word decimal_number cut_at is_formed is_locale_name is_charmap_name is_thread_name shared_command catalog_command own_read_command handle_read_command items_table
new_with_base = refl

-- that the global locale is no base is found when the command runs
new_with_global_base : spoken (codes "new x LC_TIME fr GLOBAL") ≡ Ok (New (codes "x") 8 (codes "fr") (Some targets.Global))
unfolding command new_command base lone_target target_word target handle_of_word next_word argument no_more read_as is_over text_of_word mask_of_word categories_of_word variable_of_word decimal_number cut_at is_formed is_locale_name is_charmap_name is_thread_name shared_command catalog_command own_read_command handle_read_command items_table
new_with_global_base = refl

new_with_two_bases : spoken (codes "new x LC_TIME fr y z") ≡ refused 20 (reasons.BadLine parts.Argument)
unfolding command new_command base lone_target target_word target handle_of_word next_word argument no_more read_as is_over text_of_word mask_of_word categories_of_word variable_of_word decimal_number cut_at is_formed is_locale_name is_charmap_name is_thread_name shared_command catalog_command own_read_command handle_read_command items_table
new_with_two_bases = refl

new_with_quoted_base : spoken (codes "new x LC_TIME fr \"y\"") ≡ refused 18 (reasons.BadLine parts.Argument)
unfolding command new_command base lone_target target_word target handle_of_word next_word argument no_more read_as is_over text_of_word mask_of_word categories_of_word variable_of_word decimal_number cut_at is_formed is_locale_name is_charmap_name is_thread_name shared_command catalog_command own_read_command handle_read_command items_table
new_with_quoted_base = refl

new_missing : spoken (codes "new x LC_TIME ") ≡ refused 15 (reasons.BadLine parts.Argument)
unfolding command new_command base lone_target target_word target handle_of_word next_word argument no_more read_as is_over text_of_word mask_of_word categories_of_word variable_of_word decimal_number cut_at is_formed is_locale_name is_charmap_name is_thread_name shared_command catalog_command own_read_command handle_read_command items_table
new_missing = refl

new_global : spoken (codes "new GLOBAL LC_TIMES a") ≡ refused 5 (reasons.BadLine parts.Argument)
unfolding command new_command base lone_target target_word target handle_of_word next_word argument no_more read_as is_over text_of_word mask_of_word categories_of_word variable_of_word decimal_number cut_at is_formed is_locale_name is_charmap_name is_thread_name shared_command catalog_command own_read_command handle_read_command items_table
new_global = refl

free_variable : spoken (codes "free x1") ≡ Ok (Free (targets.Variable (codes "x1")))
unfolding command lone_target target_word target next_word argument no_more read_as is_over text_of_word mask_of_word categories_of_word variable_of_word decimal_number cut_at is_formed is_locale_name is_charmap_name is_thread_name shared_command catalog_command own_read_command handle_read_command items_table
free_variable = refl

free_two : spoken (codes "free x1 x2") ≡ refused 9 (reasons.BadLine parts.Argument)
unfolding command lone_target target_word target next_word argument no_more read_as is_over text_of_word mask_of_word categories_of_word variable_of_word decimal_number cut_at is_formed is_locale_name is_charmap_name is_thread_name shared_command catalog_command own_read_command handle_read_command items_table
free_two = refl

use_global : spoken (codes "use GLOBAL") ≡ Ok (Use targets.Global)
unfolding command use_command target next_word argument no_more read_as is_over text_of_word mask_of_word categories_of_word variable_of_word decimal_number cut_at is_formed is_locale_name is_charmap_name is_thread_name shared_command catalog_command own_read_command handle_read_command items_table
use_global = refl

use_asked : spoken (codes "use ? ") ≡ Ok Selected
unfolding command use_command target next_word argument no_more read_as is_over text_of_word mask_of_word categories_of_word variable_of_word decimal_number cut_at is_formed is_locale_name is_charmap_name is_thread_name shared_command catalog_command own_read_command handle_read_command items_table
use_asked = refl

use_handle : spoken (codes "use A.2.1") ≡ Ok (Use (targets.Handle (record { owner = 0; row = 2; generation = 1 })))
unfolding command use_command target handle_of_word next_word argument no_more read_as is_over text_of_word mask_of_word categories_of_word variable_of_word decimal_number cut_at is_formed is_locale_name is_charmap_name is_thread_name shared_command catalog_command own_read_command handle_read_command items_table
use_handle = refl

set_all : spoken (codes "setlocale LC_ALL \"\"") ≡ Ok (Setlocale chosen.All [])
unfolding command setlocale_command next_word argument no_more read_as is_over text_of_word mask_of_word categories_of_word variable_of_word decimal_number cut_at is_formed is_locale_name is_charmap_name is_thread_name shared_command catalog_command own_read_command handle_read_command items_table
set_all = refl

set_asked : spoken (codes "setlocale LC_TIME") ≡ Ok (LocaleName (chosen.One categories.Time))
unfolding command setlocale_command next_word argument no_more read_as is_over text_of_word mask_of_word categories_of_word variable_of_word decimal_number cut_at is_formed is_locale_name is_charmap_name is_thread_name shared_command catalog_command own_read_command handle_read_command items_table
set_asked = refl

set_by_number : spoken (codes "setlocale 31 a") ≡ refused 11 (reasons.BadLine parts.Argument)
unfolding command setlocale_command next_word argument no_more read_as is_over text_of_word mask_of_word categories_of_word variable_of_word decimal_number cut_at is_formed is_locale_name is_charmap_name is_thread_name shared_command catalog_command own_read_command handle_read_command items_table
set_by_number = refl

info_radix : spoken (codes "info RADIXCHAR") ≡ Ok (Read (Info items.Radixchar))
unfolding command info_words next_word argument no_more read_as is_over text_of_word mask_of_word categories_of_word variable_of_word decimal_number cut_at is_formed is_locale_name is_charmap_name is_thread_name shared_command catalog_command own_read_command handle_read_command items_table
info_radix = refl

info_and_more : spoken (codes "info ABMON_12 x") ≡ refused 15 (reasons.BadLine parts.Argument)
unfolding command info_words next_word argument no_more read_as is_over text_of_word mask_of_word categories_of_word variable_of_word decimal_number cut_at is_formed is_locale_name is_charmap_name is_thread_name shared_command catalog_command own_read_command handle_read_command items_table
info_and_more = refl

info_unknown : spoken (codes "info ABMON_13") ≡ refused 6 (reasons.BadLine parts.Argument)
unfolding command info_words next_word argument no_more read_as is_over text_of_word mask_of_word categories_of_word variable_of_word decimal_number cut_at is_formed is_locale_name is_charmap_name is_thread_name shared_command catalog_command own_read_command handle_read_command items_table
info_unknown = refl

no_command : spoken (codes "  holds x") ≡ refused 3 (reasons.BadLine parts.Command)
unfolding command next_word argument no_more read_as is_over text_of_word mask_of_word categories_of_word variable_of_word decimal_number cut_at is_formed is_locale_name is_charmap_name is_thread_name shared_command catalog_command own_read_command handle_read_command items_table
no_command = refl

quoted_command : spoken (codes "\"free\" x") ≡ refused 1 (reasons.BadLine parts.Command)
unfolding command next_word argument no_more read_as is_over text_of_word mask_of_word categories_of_word variable_of_word decimal_number cut_at is_formed is_locale_name is_charmap_name is_thread_name shared_command catalog_command own_read_command handle_read_command items_table
quoted_command = refl
