-- Commands of message catalogs on small inputs.
use Rattle.std.proofs.Common.{◌≡◌, ℕ, ◌<◌, List, [], ◌∷◌, ◌++◌, Option, Some, None, Ok, Err, refl, arith}
use Rattle.std.specs.Prelude.{codes, replicate}
use Rattle.lc_base.specs.declared.reason.Reason.{Reason}
use Rattle.lc_base.specs.declared.reason.Reason.TheVariants as reasons
use Rattle.lc_base.specs.declared.reason.Limit.TheVariants as limits
use Rattle.lc_base.specs.declared.reason.LinePart.TheVariants as parts
use Rattle.lc_base.specs.Reading.{Reads}
use Rattle.script_commands.specs.declared.command.Command.{Command}
use Rattle.script_commands.specs.declared.command.Command.TheVariants.{Selected, CatOpen, CatGets, CatClose}
use Rattle.script_commands.specs.declared.command.OpenCatalog.TheVariants as catalogs
use Rattle.script_commands.specs.declared.known.Known.{Known}
use Rattle.script_words.specs.Names.{is_formed, is_locale_name, is_thread_name}
use Rattle.script_words.specs.Spans.{whole_line, next_word}
use Rattle.lc_base.specs.Cuts.{cut_at}
use Rattle.lc_base.specs.Numbers.{decimal_number}
use Rattle.script_words.specs.Words.{variable_of_word, key_of_word, handle_of_word, quoted_of_word}
use Rattle.script_commands.specs.Commands.{argument, read_as, no_more, command, catalog, catalog_word, command_text, catopen_command, catgets_command, catclose_command, shared_command, catalog_command, own_read_command, handle_read_command}
use Rattle.script_commands.specs.InRange.{IsInRange}

-- ---- as the second line of a script, where no name is looked for

abbrev spoken_by : Option Known → List (List ℕ) → List ℕ → Reads Command
spoken_by known threads line = elim (next_word (whole_line 2 line)) [ None ↦ Ok Selected | Some x ↦ command known threads x.0 x.1 ]

abbrev spoken : List ℕ → Reads Command
spoken line = spoken_by None (codes "A" ∷ []) line

abbrev refused : ℕ → Reason → Reads Command
refused column reason = Err (record { line = 2; column = column }, reason)

abbrev wrong : ℕ → Reads Command
wrong column = refused column (reasons.BadLine parts.Argument)

opened : spoken (codes "catopen c greet") ≡ Ok (CatOpen (codes "c") (codes "greet"))
unfolding command catopen_command catgets_command catclose_command catalog catalog_word command_text argument read_as no_more next_word variable_of_word key_of_word decimal_number handle_of_word quoted_of_word cut_at is_formed is_locale_name is_thread_name shared_command catalog_command own_read_command handle_read_command
opened = refl

opened_to_a_handle : spoken (codes "catopen A.0.1 greet") ≡ wrong 9
unfolding command catopen_command catgets_command catclose_command catalog catalog_word command_text argument read_as no_more next_word variable_of_word key_of_word decimal_number handle_of_word quoted_of_word cut_at is_formed is_locale_name is_thread_name shared_command catalog_command own_read_command handle_read_command
opened_to_a_handle = refl

-- the global locale is no variable
opened_to_global : spoken (codes "catopen GLOBAL greet") ≡ wrong 9
unfolding command catopen_command catgets_command catclose_command catalog catalog_word command_text argument read_as no_more next_word variable_of_word key_of_word decimal_number handle_of_word quoted_of_word cut_at is_formed is_locale_name is_thread_name shared_command catalog_command own_read_command handle_read_command
opened_to_global = refl

-- a catalog's name is formed as a locale's
opened_by_posix : spoken (codes "catopen c POSIX") ≡ wrong 11
unfolding command catopen_command catgets_command catclose_command catalog catalog_word command_text argument read_as no_more next_word variable_of_word key_of_word decimal_number handle_of_word quoted_of_word cut_at is_formed is_locale_name is_thread_name shared_command catalog_command own_read_command handle_read_command
opened_by_posix = refl

opened_by_a_path : spoken (codes "catopen c a/b") ≡ wrong 11
unfolding command catopen_command catgets_command catclose_command catalog catalog_word command_text argument read_as no_more next_word variable_of_word key_of_word decimal_number handle_of_word quoted_of_word cut_at is_formed is_locale_name is_thread_name shared_command catalog_command own_read_command handle_read_command
opened_by_a_path = refl

opened_by_a_quoted_name : spoken (codes "catopen c \"greet\"") ≡ wrong 11
unfolding command catopen_command catgets_command catclose_command catalog catalog_word command_text argument read_as no_more next_word variable_of_word key_of_word decimal_number handle_of_word quoted_of_word cut_at is_formed is_locale_name is_thread_name shared_command catalog_command own_read_command handle_read_command
opened_by_a_quoted_name = refl

opened_by_nothing : spoken (codes "catopen c") ≡ wrong 10
unfolding command catopen_command catgets_command catclose_command catalog catalog_word command_text argument read_as no_more next_word variable_of_word key_of_word decimal_number handle_of_word quoted_of_word cut_at is_formed is_locale_name is_thread_name shared_command catalog_command own_read_command handle_read_command
opened_by_nothing = refl

-- the locale is that of the thread
opened_and_more : spoken (codes "catopen c greet us") ≡ wrong 17
unfolding command catopen_command catgets_command catclose_command catalog catalog_word command_text argument read_as no_more next_word variable_of_word key_of_word decimal_number handle_of_word quoted_of_word cut_at is_formed is_locale_name is_thread_name shared_command catalog_command own_read_command handle_read_command
opened_and_more = refl

-- the set stands in front of the message
message : spoken (codes "catgets c 2 1 \"a\\x41\"") ≡ Ok (CatGets (catalogs.Variable (codes "c")) 2 1 (codes "aA"))
unfolding command catopen_command catgets_command catclose_command catalog catalog_word command_text argument read_as no_more next_word variable_of_word key_of_word decimal_number handle_of_word quoted_of_word cut_at is_formed is_locale_name is_thread_name shared_command catalog_command own_read_command handle_read_command
message = refl

message_of_handle : spoken (codes "catgets A.2.1 0 03 \"\"") ≡ Ok (CatGets (catalogs.Handle (record { owner = 0; row = 2; generation = 1 })) 0 3 [])
unfolding command catopen_command catgets_command catclose_command catalog catalog_word command_text argument read_as no_more next_word variable_of_word key_of_word decimal_number handle_of_word quoted_of_word cut_at is_formed is_locale_name is_thread_name shared_command catalog_command own_read_command handle_read_command
message_of_handle = refl

largest_set : spoken (codes "catgets c 4294967295 1 \"?\"") ≡ Ok (CatGets (catalogs.Variable (codes "c")) 4294967295 1 (codes "?"))
unfolding command catopen_command catgets_command catclose_command catalog catalog_word command_text argument read_as no_more next_word variable_of_word key_of_word decimal_number handle_of_word quoted_of_word cut_at is_formed is_locale_name is_thread_name shared_command catalog_command own_read_command handle_read_command
largest_set = refl

set_too_large : spoken (codes "catgets c 4294967296 1 \"?\"") ≡ wrong 11
unfolding command catopen_command catgets_command catclose_command catalog catalog_word command_text argument read_as no_more next_word variable_of_word key_of_word decimal_number handle_of_word quoted_of_word cut_at is_formed is_locale_name is_thread_name shared_command catalog_command own_read_command handle_read_command
set_too_large = refl

message_too_large : spoken (codes "catgets c 1 4294967296 \"?\"") ≡ wrong 13
unfolding command catopen_command catgets_command catclose_command catalog catalog_word command_text argument read_as no_more next_word variable_of_word key_of_word decimal_number handle_of_word quoted_of_word cut_at is_formed is_locale_name is_thread_name shared_command catalog_command own_read_command handle_read_command
message_too_large = refl

message_below_zero : spoken (codes "catgets c 1 -1 \"?\"") ≡ wrong 13
unfolding command catopen_command catgets_command catclose_command catalog catalog_word command_text argument read_as no_more next_word variable_of_word key_of_word decimal_number handle_of_word quoted_of_word cut_at is_formed is_locale_name is_thread_name shared_command catalog_command own_read_command handle_read_command
message_below_zero = refl

-- the default stands in quotes
default_plain : spoken (codes "catgets c 1 1 x") ≡ wrong 15
unfolding command catopen_command catgets_command catclose_command catalog catalog_word command_text argument read_as no_more next_word variable_of_word key_of_word decimal_number handle_of_word quoted_of_word cut_at is_formed is_locale_name is_thread_name shared_command catalog_command own_read_command handle_read_command
default_plain = refl

default_missing : spoken (codes "catgets c 1 1") ≡ wrong 14
unfolding command catopen_command catgets_command catclose_command catalog catalog_word command_text argument read_as no_more next_word variable_of_word key_of_word decimal_number handle_of_word quoted_of_word cut_at is_formed is_locale_name is_thread_name shared_command catalog_command own_read_command handle_read_command
default_missing = refl

default_and_more : spoken (codes "catgets c 1 1 \"?\" x") ≡ wrong 19
unfolding command catopen_command catgets_command catclose_command catalog catalog_word command_text argument read_as no_more next_word variable_of_word key_of_word decimal_number handle_of_word quoted_of_word cut_at is_formed is_locale_name is_thread_name shared_command catalog_command own_read_command handle_read_command
default_and_more = refl

message_of_global : spoken (codes "catgets GLOBAL 1 1 \"?\"") ≡ wrong 9
unfolding command catopen_command catgets_command catclose_command catalog catalog_word command_text argument read_as no_more next_word variable_of_word key_of_word decimal_number handle_of_word quoted_of_word cut_at is_formed is_locale_name is_thread_name shared_command catalog_command own_read_command handle_read_command
message_of_global = refl

longest_default : spoken (codes "catgets c 1 1 \"" ++ replicate 1024 65 ++ codes "\"") ≡ Ok (CatGets (catalogs.Variable (codes "c")) 1 1 (replicate 1024 65))
unfolding command catopen_command catgets_command catclose_command catalog catalog_word command_text argument read_as no_more next_word variable_of_word key_of_word decimal_number handle_of_word quoted_of_word cut_at is_formed is_locale_name is_thread_name shared_command catalog_command own_read_command handle_read_command
longest_default = refl

-- a text that is too long goes before a word behind it
default_too_long : spoken (codes "catgets c 1 1 \"" ++ replicate 1025 65 ++ codes "\" x") ≡ refused 15 (reasons.OverLimit limits.CommandText)
unfolding command catopen_command catgets_command catclose_command catalog catalog_word command_text argument read_as no_more next_word variable_of_word key_of_word decimal_number handle_of_word quoted_of_word cut_at is_formed is_locale_name is_thread_name shared_command catalog_command own_read_command handle_read_command
default_too_long = refl

closed : spoken (codes "catclose c") ≡ Ok (CatClose (catalogs.Variable (codes "c")))
unfolding command catopen_command catgets_command catclose_command catalog catalog_word command_text argument read_as no_more next_word variable_of_word key_of_word decimal_number handle_of_word quoted_of_word cut_at is_formed is_locale_name is_thread_name shared_command catalog_command own_read_command handle_read_command
closed = refl

closed_nothing : spoken (codes "catclose") ≡ wrong 9
unfolding command catopen_command catgets_command catclose_command catalog catalog_word command_text argument read_as no_more next_word variable_of_word key_of_word decimal_number handle_of_word quoted_of_word cut_at is_formed is_locale_name is_thread_name shared_command catalog_command own_read_command handle_read_command
closed_nothing = refl

closed_and_more : spoken (codes "catclose c c") ≡ wrong 12
unfolding command catopen_command catgets_command catclose_command catalog catalog_word command_text argument read_as no_more next_word variable_of_word key_of_word decimal_number handle_of_word quoted_of_word cut_at is_formed is_locale_name is_thread_name shared_command catalog_command own_read_command handle_read_command
closed_and_more = refl

closed_by_two_numbers : spoken (codes "catclose A.1") ≡ wrong 10
unfolding command catopen_command catgets_command catclose_command catalog catalog_word command_text argument read_as no_more next_word variable_of_word key_of_word decimal_number handle_of_word quoted_of_word cut_at is_formed is_locale_name is_thread_name shared_command catalog_command own_read_command handle_read_command
closed_by_two_numbers = refl

-- ---- where the threads of the whole bundle are known

abbrev looked_for : List ℕ → Reads Command
looked_for line = spoken_by (Some (record { charmaps = []; locales = []; later = [] })) (codes "B" ∷ codes "A" ∷ []) line

closed_of_second_thread : looked_for (codes "catclose A.0.1") ≡ Ok (CatClose (catalogs.Handle (record { owner = 1; row = 0; generation = 1 })))
unfolding command catopen_command catgets_command catclose_command catalog catalog_word command_text argument read_as no_more next_word variable_of_word key_of_word decimal_number handle_of_word quoted_of_word cut_at is_formed is_locale_name is_thread_name shared_command catalog_command own_read_command handle_read_command
closed_of_second_thread = refl

closed_of_no_thread : looked_for (codes "catclose C.0.1") ≡ refused 10 reasons.NoThread
unfolding command catopen_command catgets_command catclose_command catalog catalog_word command_text argument read_as no_more next_word variable_of_word key_of_word decimal_number handle_of_word quoted_of_word cut_at is_formed is_locale_name is_thread_name shared_command catalog_command own_read_command handle_read_command
closed_of_no_thread = refl

-- an unknown thread goes before a number behind it
message_of_no_thread : looked_for (codes "catgets C.0.1 1 1 \"?\"") ≡ refused 9 reasons.NoThread
unfolding command catopen_command catgets_command catclose_command catalog catalog_word command_text argument read_as no_more next_word variable_of_word key_of_word decimal_number handle_of_word quoted_of_word cut_at is_formed is_locale_name is_thread_name shared_command catalog_command own_read_command handle_read_command
message_of_no_thread = refl

-- which catalogs there are is not asked here
opened_of_no_block : looked_for (codes "catopen c greet") ≡ Ok (CatOpen (codes "c") (codes "greet"))
unfolding command catopen_command catgets_command catclose_command catalog catalog_word command_text argument read_as no_more next_word variable_of_word key_of_word decimal_number handle_of_word quoted_of_word cut_at is_formed is_locale_name is_thread_name shared_command catalog_command own_read_command handle_read_command
opened_of_no_block = refl

-- ---- numbers in range

closed_in_range : IsInRange 2 (CatClose (catalogs.Handle (record { owner = 1; row = 0; generation = 1 })))
closed_in_range = omega arith

-- the second of two threads has the number 1
no_thread_two : IsInRange 2 (CatGets (catalogs.Handle (record { owner = 2; row = 0; generation = 1 })) 1 1 []) → 2 < 2
no_thread_two h = h
