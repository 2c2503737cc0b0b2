-- Whole bundles, and their first faults.
use Rattle.std.proofs.Common.{◌≡◌, ℕ, ◌<◌, ◌≤◌, List, [], ◌∷◌, Some, None, Ok, Err, refl, arith}
use Rattle.std.specs.Prelude.{codes, replicate}
use Rattle.lc_base.specs.declared.reason.Reason.{Reason}
use Rattle.lc_base.specs.declared.reason.Reason.TheVariants as reasons
use Rattle.lc_base.specs.declared.reason.LinePart.TheVariants as parts
use Rattle.lc_base.specs.declared.reason.Limit.TheVariants as limits
use Rattle.lc_base.specs.declared.block.Block.{Block}
use Rattle.lc_base.specs.Reading.{Reads}
use Rattle.script_lang.specs.declared.bundle.Bundle.{Bundle}
use Rattle.script_lang.specs.Limits.{CHARMAP_LIMIT, LOCALE_LIMIT, LATER_LIMIT, CATALOG_LIMIT, ROUND_LIMIT, COMMAND_LIMIT}
use Rattle.script_commands.specs.Limits.{THREAD_LIMIT}
use Rattle.script_commands.specs.declared.command.Target.TheVariants as targets
use Rattle.script_commands.specs.declared.command.Command.TheVariants.{Free, Selected, Install, Fetch}
use Rattle.script_lang.specs.declared.reading.BlockKind.TheVariants as kinds
use Rattle.script_lang.specs.declared.reading.Reading.{Reading}
use Rattle.script_words.specs.Names.{is_formed, is_locale_name, is_part_name, is_charmap_name, is_thread_name}
use Rattle.script_words.specs.Spans.{whole_line, next_word}
use Rattle.script_words.specs.Tables.{directives_table}
use Rattle.lc_base.specs.Cuts.{cut_at}
use Rattle.lc_base.specs.Numbers.{decimal_number}
use Rattle.script_words.specs.Words.{text_of_word, mask_of_word, variable_of_word, key_of_word, cell_number, handle_of_word, cell_of_word}
use Rattle.script_commands.specs.Commands.{argument, read_as, no_more, is_over, command, target, target_word, lone_target, cell, key, base, new_command, use_command, install_command, fetch_command, shared_command, catalog_command, own_read_command, handle_read_command}
use Rattle.script_lang.specs.Reading.{at_first, with_open, new_thread, one_word, two_words, three_words, charmap_line, locale_line, later_line, catalog_line, native_line, thread_line, round_line, directive_line, command_line, outside, line_read}
use Rattle.script_lang.specs.Accepted.{bundle_with, bundle_of, IsPlaced, IsAccepted}

-- ---- limits

most_charmaps : CHARMAP_LIMIT ≡ 16
most_charmaps = refl

most_locales : LOCALE_LIMIT ≡ 64
most_locales = refl

most_later : LATER_LIMIT ≡ 64
most_later = refl

most_catalogs : CATALOG_LIMIT ≡ 64
most_catalogs = refl

most_threads : THREAD_LIMIT ≡ 16
most_threads = refl

most_rounds : ROUND_LIMIT ≡ 64
most_rounds = refl

most_commands : COMMAND_LIMIT ≡ 20000
most_commands = refl

-- a seventeenth thread is one too many
too_many_threads : new_thread (at_first (replicate 16 (codes "A"))) 7 (codes "B") ≡ Err (record { line = 7; column = 1 }, reasons.OverLimit limits.Threads)
too_many_threads = refl

-- so many rounds have begun
abbrev in_round : ℕ → Reading
in_round n = record { bundle = record { charmaps = []; locales = []; later = []; catalogs = []; native = None; threads = []; rounds = n; commands = [] }; current = None; begun = None }

last_round : round_line (in_round 63) 7 (whole_line 7 []) ≡ Ok (in_round 64)
unfolding round_line is_over next_word
last_round = refl

too_many_rounds : round_line (in_round 64) 7 (whole_line 7 []) ≡ Err (record { line = 7; column = 1 }, reasons.OverLimit limits.Rounds)
unfolding round_line is_over next_word
too_many_rounds = refl

abbrev block : List ℕ → List ℕ → ℕ → List ℕ → Block
block name charset first text = record { name = name; charset = charset; first_line = first; text = text }

-- so many blocks of each kind stand before
abbrev with_blocks : ℕ → Reading
with_blocks n = record {
  bundle = record {
    charmaps = replicate n (block (codes "m") [] 2 []);
    locales = replicate n (block (codes "a") (codes "m") 2 []);
    later = replicate n (record { key = codes "k"; block = block (codes "a") (codes "m") 2 [] });
    catalogs = replicate n (block (codes "g") (codes "a") 2 []);
    native = None;
    threads = [];
    rounds = 1;
    commands = [];
  };
  current = None;
  begun = None;
}

last_charmap : charmap_line None (with_blocks 15) 7 (whole_line 7 (codes "m")) ≡ Ok (with_open (with_blocks 15) kinds.Charmap (codes "m") [] 7)
unfolding charmap_line one_word is_over next_word is_charmap_name is_formed
last_charmap = refl

too_many_charmaps : charmap_line None (with_blocks 16) 7 (whole_line 7 (codes "m")) ≡ Err (record { line = 7; column = 1 }, reasons.OverLimit limits.Charmaps)
unfolding charmap_line one_word is_over next_word is_charmap_name is_formed
too_many_charmaps = refl

last_locale : locale_line None (with_blocks 63) 7 (whole_line 7 (codes "a m")) ≡ Ok (with_open (with_blocks 63) kinds.Locale (codes "a") (codes "m") 7)
unfolding locale_line two_words one_word is_over next_word is_locale_name is_formed
last_locale = refl

too_many_locales : locale_line None (with_blocks 64) 7 (whole_line 7 (codes "a m")) ≡ Err (record { line = 7; column = 1 }, reasons.OverLimit limits.Locales)
unfolding locale_line two_words one_word is_over next_word is_locale_name is_formed
too_many_locales = refl

-- a wrong word goes before the limit
wrong_locale : locale_line None (with_blocks 64) 7 (whole_line 7 (codes "C m")) ≡ Err (record { line = 7; column = 1 }, reasons.BadLine parts.Directive)
unfolding locale_line two_words one_word is_over next_word is_locale_name is_formed
wrong_locale = refl

last_version : later_line None (with_blocks 63) 7 (whole_line 7 (codes "k a m")) ≡ Ok (with_open (with_blocks 63) (kinds.Later (codes "k")) (codes "a") (codes "m") 7)
unfolding later_line three_words two_words one_word is_over next_word is_locale_name is_formed
last_version = refl

too_many_versions : later_line None (with_blocks 64) 7 (whole_line 7 (codes "k a m")) ≡ Err (record { line = 7; column = 1 }, reasons.OverLimit limits.Later)
unfolding later_line three_words two_words one_word is_over next_word is_locale_name is_formed
too_many_versions = refl

-- neither a key nor a name of a later version is `C`
wrong_key : later_line None (with_blocks 0) 7 (whole_line 7 (codes "C a m")) ≡ Err (record { line = 7; column = 1 }, reasons.BadLine parts.Directive)
unfolding later_line three_words two_words one_word is_over next_word is_locale_name is_formed
wrong_key = refl

last_catalog : catalog_line None (with_blocks 63) 7 (whole_line 7 (codes "g a")) ≡ Ok (with_open (with_blocks 63) kinds.Catalog (codes "g") (codes "a") 7)
unfolding catalog_line two_words one_word is_over next_word is_locale_name is_part_name is_formed
last_catalog = refl

too_many_catalogs : catalog_line None (with_blocks 64) 7 (whole_line 7 (codes "g a")) ≡ Err (record { line = 7; column = 1 }, reasons.OverLimit limits.Catalogs)
unfolding catalog_line two_words one_word is_over next_word is_locale_name is_part_name is_formed
too_many_catalogs = refl

-- a catalog of the POSIX locale is one of `C`
catalog_of_the_posix_locale : catalog_line None (with_blocks 0) 7 (whole_line 7 (codes "g C")) ≡ Ok (with_open (with_blocks 0) kinds.Catalog (codes "g") (codes "C") 7)
unfolding catalog_line two_words one_word is_over next_word is_locale_name is_part_name is_formed
catalog_of_the_posix_locale = refl

-- and not of `POSIX`, which is the name of no category
wrong_catalog_locale : catalog_line None (with_blocks 64) 7 (whole_line 7 (codes "g POSIX")) ≡ Err (record { line = 7; column = 1 }, reasons.BadLine parts.Directive)
unfolding catalog_line two_words one_word is_over next_word is_locale_name is_part_name is_formed
wrong_catalog_locale = refl

wrong_catalog_name : catalog_line None (with_blocks 0) 7 (whole_line 7 (codes "C a")) ≡ Err (record { line = 7; column = 1 }, reasons.BadLine parts.Directive)
unfolding catalog_line two_words one_word is_over next_word is_locale_name is_part_name is_formed
wrong_catalog_name = refl

catalog_without_locale : catalog_line None (with_blocks 0) 7 (whole_line 7 (codes "g")) ≡ Err (record { line = 7; column = 1 }, reasons.BadLine parts.Directive)
unfolding catalog_line two_words one_word is_over next_word is_locale_name is_part_name is_formed
catalog_without_locale = refl

catalog_and_more : catalog_line None (with_blocks 0) 7 (whole_line 7 (codes "g a a")) ≡ Err (record { line = 7; column = 1 }, reasons.BadLine parts.Directive)
unfolding catalog_line two_words one_word is_over next_word is_locale_name is_part_name is_formed
catalog_and_more = refl

-- ---- what holds of each accepted bundle

-- the last command of the second of two threads in the last of three rounds
is_placed : IsPlaced 2 3 (record { round = 3; thread = 1; command = Selected })
is_placed = record { thread = omega arith; round = (omega arith, omega arith); in_range = tt }

no_round_zero : IsPlaced 2 3 (record { round = 0; thread = 1; command = Selected }) → 0 < 0
no_round_zero h = h.round.0

no_fourth_round : IsPlaced 2 3 (record { round = 4; thread = 1; command = Selected }) → 4 ≤ 3
no_fourth_round h = h.round.1

no_third_thread : IsPlaced 2 3 (record { round = 3; thread = 2; command = Selected }) → 2 < 2
no_third_thread h = h.thread

no_handle_of_a_third_thread : IsPlaced 2 3 (record { round = 3; thread = 1; command = Free (targets.Handle (record { owner = 2; row = 0; generation = 1 })) }) → 2 < 2
no_handle_of_a_third_thread h = h.in_range

-- a bundle has a round
some_round : IsAccepted (in_round 0).bundle → 0 < 0
some_round h = h.some_round

no_more_rounds : IsAccepted (in_round 65).bundle → 65 ≤ 64
no_more_rounds h = h.few_rounds

-- ---- bundles

-- a block keeps its lines as they are, and the thread goes on behind it
whole : bundle_of (codes ".thread A\n.locale a c\n#y\n\n .end\n.end\nfree A.0.1\n.native a\n.charmap c\nx\n.end\n.later k b POSIX\n.end") ≡ Ok (record {
  charmaps = block (codes "c") [] 10 (codes "x\n") ∷ [];
  locales = block (codes "a") (codes "c") 3 (codes "#y\n\n .end\n") ∷ [];
  later = record { key = codes "k"; block = block (codes "b") (codes "POSIX") 13 [] } ∷ [];
  catalogs = [];
  native = Some (codes "a");
  threads = codes "A" ∷ [];
  rounds = 1;
  commands = record { round = 1; thread = 0; command = Free (targets.Handle (record { owner = 0; row = 0; generation = 1 })) } ∷ [];
})
unfolding bundle_of bundle_with line_read outside directive_line command_line charmap_line locale_line later_line native_line thread_line round_line one_word two_words three_words command new_command base use_command install_command fetch_command lone_target target_word target cell key next_word argument no_more read_as is_over text_of_word variable_of_word key_of_word cell_number decimal_number cut_at handle_of_word cell_of_word is_formed is_locale_name is_charmap_name is_thread_name directives_table shared_command catalog_command own_read_command handle_read_command
whole = refl

empty : bundle_of [] ≡ Ok (record { charmaps = []; locales = []; later = []; catalogs = []; native = None; threads = []; rounds = 1; commands = [] })
unfolding bundle_of bundle_with line_read outside directive_line command_line charmap_line locale_line later_line native_line thread_line round_line one_word two_words three_words command new_command base use_command install_command fetch_command lone_target target_word target cell key next_word argument no_more read_as is_over text_of_word variable_of_word key_of_word cell_number decimal_number cut_at handle_of_word cell_of_word is_formed is_locale_name is_charmap_name is_thread_name directives_table shared_command catalog_command own_read_command handle_read_command
empty = refl

-- ---- first faults

abbrev refused : ℕ → ℕ → Reason → Reads Bundle
refused line column reason = Err (record { line = line; column = column }, reason)

-- a block without an end, behind which no line is read
not_closed : bundle_of (codes ".charmap a\n.end x\n") ≡ refused 1 1 reasons.NoEnd
unfolding bundle_of bundle_with line_read outside directive_line command_line charmap_line locale_line later_line native_line thread_line round_line one_word two_words three_words command new_command base use_command install_command fetch_command lone_target target_word target cell key next_word argument no_more read_as is_over text_of_word variable_of_word key_of_word cell_number decimal_number cut_at handle_of_word cell_of_word is_formed is_locale_name is_charmap_name is_thread_name directives_table shared_command catalog_command own_read_command handle_read_command
not_closed = refl

-- a fault of a line goes before one of a name, wherever it stands
line_first : bundle_of (codes ".charmap a\n.end\n.charmap a\n.end\nfree x\n") ≡ refused 5 1 (reasons.BadLine parts.Thread)
unfolding bundle_of bundle_with line_read outside directive_line command_line charmap_line locale_line later_line native_line thread_line round_line one_word two_words three_words command new_command base use_command install_command fetch_command lone_target target_word target cell key next_word argument no_more read_as is_over text_of_word variable_of_word key_of_word cell_number decimal_number cut_at handle_of_word cell_of_word is_formed is_locale_name is_charmap_name is_thread_name directives_table shared_command catalog_command own_read_command handle_read_command
line_first = refl

-- a name that was given before
name_twice : bundle_of (codes ".charmap a\n.end\n.charmap  a\n.end\n") ≡ refused 3 11 reasons.NameTwice
unfolding bundle_of bundle_with line_read outside directive_line command_line charmap_line locale_line later_line native_line thread_line round_line one_word two_words three_words command new_command base use_command install_command fetch_command lone_target target_word target cell key next_word argument no_more read_as is_over text_of_word variable_of_word key_of_word cell_number decimal_number cut_at handle_of_word cell_of_word is_formed is_locale_name is_charmap_name is_thread_name directives_table shared_command catalog_command own_read_command handle_read_command
name_twice = refl

-- a key that was given before; the names of later versions may be given twice
key_twice : bundle_of (codes ".later k a UTF-8\n.end\n.later k a cs\n.end\n") ≡ refused 3 8 reasons.NameTwice
unfolding bundle_of bundle_with line_read outside directive_line command_line charmap_line locale_line later_line native_line thread_line round_line one_word two_words three_words command new_command base use_command install_command fetch_command lone_target target_word target cell key next_word argument no_more read_as is_over text_of_word variable_of_word key_of_word cell_number decimal_number cut_at handle_of_word cell_of_word is_formed is_locale_name is_charmap_name is_thread_name directives_table shared_command catalog_command own_read_command handle_read_command
key_twice = refl

-- a charset that no charmap has
no_charmap : bundle_of (codes ".locale a cs\n.end\n.native b\n") ≡ refused 1 11 reasons.NoCharmap
unfolding bundle_of bundle_with line_read outside directive_line command_line charmap_line locale_line later_line native_line thread_line round_line one_word two_words three_words command new_command base use_command install_command fetch_command lone_target target_word target cell key next_word argument no_more read_as is_over text_of_word variable_of_word key_of_word cell_number decimal_number cut_at handle_of_word cell_of_word is_formed is_locale_name is_charmap_name is_thread_name directives_table shared_command catalog_command own_read_command handle_read_command
no_charmap = refl

-- a native locale that only a later version has
no_native : bundle_of (codes ".later k a POSIX\n.end\n.native a\n") ≡ refused 3 9 reasons.NoNative
unfolding bundle_of bundle_with line_read outside directive_line command_line charmap_line locale_line later_line native_line thread_line round_line one_word two_words three_words command new_command base use_command install_command fetch_command lone_target target_word target cell key next_word argument no_more read_as is_over text_of_word variable_of_word key_of_word cell_number decimal_number cut_at handle_of_word cell_of_word is_formed is_locale_name is_charmap_name is_thread_name directives_table shared_command catalog_command own_read_command handle_read_command
no_native = refl

-- a thread that is not named goes before a charset behind it
no_thread : bundle_of (codes ".thread A\nuse B.0.1\n.locale a b\n.end\n") ≡ refused 2 5 reasons.NoThread
unfolding bundle_of bundle_with line_read outside directive_line command_line charmap_line locale_line later_line native_line thread_line round_line one_word two_words three_words command new_command base use_command install_command fetch_command lone_target target_word target cell key next_word argument no_more read_as is_over text_of_word variable_of_word key_of_word cell_number decimal_number cut_at handle_of_word cell_of_word is_formed is_locale_name is_charmap_name is_thread_name directives_table shared_command catalog_command own_read_command handle_read_command
no_thread = refl

-- a second native locale
second_native : bundle_of (codes ".native C\n.native C\n") ≡ refused 2 1 (reasons.BadLine parts.Directive)
unfolding bundle_of bundle_with line_read outside directive_line command_line charmap_line locale_line later_line native_line thread_line round_line one_word two_words three_words command new_command base use_command install_command fetch_command lone_target target_word target cell key next_word argument no_more read_as is_over text_of_word variable_of_word key_of_word cell_number decimal_number cut_at handle_of_word cell_of_word is_formed is_locale_name is_charmap_name is_thread_name directives_table shared_command catalog_command own_read_command handle_read_command
second_native = refl

-- an end outside of blocks
end_outside : bundle_of (codes ".end\n") ≡ refused 1 1 (reasons.BadLine parts.Directive)
unfolding bundle_of bundle_with line_read outside directive_line command_line charmap_line locale_line later_line native_line thread_line round_line one_word two_words three_words command new_command base use_command install_command fetch_command lone_target target_word target cell key next_word argument no_more read_as is_over text_of_word variable_of_word key_of_word cell_number decimal_number cut_at handle_of_word cell_of_word is_formed is_locale_name is_charmap_name is_thread_name directives_table shared_command catalog_command own_read_command handle_read_command
end_outside = refl

-- a directive behind blanks is a command
directive_behind_blanks : bundle_of (codes ".thread A\n .thread A\n") ≡ refused 2 2 (reasons.BadLine parts.Command)
unfolding bundle_of bundle_with line_read outside directive_line command_line charmap_line locale_line later_line native_line thread_line round_line one_word two_words three_words command new_command base use_command install_command fetch_command lone_target target_word target cell key next_word argument no_more read_as is_over text_of_word variable_of_word key_of_word cell_number decimal_number cut_at handle_of_word cell_of_word is_formed is_locale_name is_charmap_name is_thread_name directives_table shared_command catalog_command own_read_command handle_read_command
directive_behind_blanks = refl

-- threads are numbered as they are first named, and may be named again, in any round
interleaved : bundle_of (codes ".thread B\nfree A.0.1\n.round\n.thread A\nfree x\n.thread B\nfree y\n") ≡ Ok (record {
  charmaps = [];
  locales = [];
  later = [];
  catalogs = [];
  native = None;
  threads = codes "B" ∷ codes "A" ∷ [];
  rounds = 2;
  commands =
      record { round = 1; thread = 0; command = Free (targets.Handle (record { owner = 1; row = 0; generation = 1 })) } ∷
      record { round = 2; thread = 1; command = Free (targets.Variable (codes "x")) } ∷
      record { round = 2; thread = 0; command = Free (targets.Variable (codes "y")) } ∷
      [];
})
unfolding bundle_of bundle_with line_read outside directive_line command_line charmap_line locale_line later_line native_line thread_line round_line one_word two_words three_words command new_command base use_command install_command fetch_command lone_target target_word target cell key next_word argument no_more read_as is_over text_of_word variable_of_word key_of_word cell_number decimal_number cut_at handle_of_word cell_of_word is_formed is_locale_name is_charmap_name is_thread_name directives_table shared_command catalog_command own_read_command handle_read_command
interleaved = refl

-- no thread is current behind `.round`
round_ends_thread : bundle_of (codes ".thread A\nfree x\n.round\nfree x\n") ≡ refused 4 1 (reasons.BadLine parts.Thread)
unfolding bundle_of bundle_with line_read outside directive_line command_line charmap_line locale_line later_line native_line thread_line round_line one_word two_words three_words command new_command base use_command install_command fetch_command lone_target target_word target cell key next_word argument no_more read_as is_over text_of_word variable_of_word key_of_word cell_number decimal_number cut_at handle_of_word cell_of_word is_formed is_locale_name is_charmap_name is_thread_name directives_table shared_command catalog_command own_read_command handle_read_command
round_ends_thread = refl

-- a later version may stand behind the command that installs it
installed : bundle_of (codes ".thread A\ninstall k\nfetch x A.7\n.later k a POSIX\n.end\n") ≡ Ok (record {
  charmaps = [];
  locales = [];
  later = record { key = codes "k"; block = block (codes "a") (codes "POSIX") 5 [] } ∷ [];
  catalogs = [];
  native = None;
  threads = codes "A" ∷ [];
  rounds = 1;
  commands =
      record { round = 1; thread = 0; command = Install (codes "k") } ∷
      record { round = 1; thread = 0; command = Fetch (codes "x") 0 7 } ∷
      [];
})
unfolding bundle_of bundle_with line_read outside directive_line command_line charmap_line locale_line later_line native_line thread_line round_line one_word two_words three_words command new_command base use_command install_command fetch_command lone_target target_word target cell key next_word argument no_more read_as is_over text_of_word variable_of_word key_of_word cell_number decimal_number cut_at handle_of_word cell_of_word is_formed is_locale_name is_charmap_name is_thread_name directives_table shared_command catalog_command own_read_command handle_read_command
installed = refl

-- a key that no later version has, although a locale has the name; it goes before a thread behind it
no_later : bundle_of (codes ".thread A\ninstall a\n.locale a POSIX\n.end\nuse B.0.1\n") ≡ refused 2 9 reasons.NoLater
unfolding bundle_of bundle_with line_read outside directive_line command_line charmap_line locale_line later_line native_line thread_line round_line one_word two_words three_words command new_command base use_command install_command fetch_command lone_target target_word target cell key next_word argument no_more read_as is_over text_of_word variable_of_word key_of_word cell_number decimal_number cut_at handle_of_word cell_of_word is_formed is_locale_name is_charmap_name is_thread_name directives_table shared_command catalog_command own_read_command handle_read_command
no_later = refl

-- a cell of a thread that is not named
no_thread_of_cell : bundle_of (codes ".thread A\nfetch x B.0\n") ≡ refused 2 9 reasons.NoThread
unfolding bundle_of bundle_with line_read outside directive_line command_line charmap_line locale_line later_line native_line thread_line round_line one_word two_words three_words command new_command base use_command install_command fetch_command lone_target target_word target cell key next_word argument no_more read_as is_over text_of_word variable_of_word key_of_word cell_number decimal_number cut_at handle_of_word cell_of_word is_formed is_locale_name is_charmap_name is_thread_name directives_table shared_command catalog_command own_read_command handle_read_command
no_thread_of_cell = refl

-- nor may a base be of one
no_thread_of_base : bundle_of (codes ".thread A\nnew x 1 C B.0.1\n") ≡ refused 2 11 reasons.NoThread
unfolding bundle_of bundle_with line_read outside directive_line command_line charmap_line locale_line later_line native_line thread_line round_line one_word two_words three_words command new_command base use_command install_command fetch_command lone_target target_word target cell key next_word argument no_more read_as is_over text_of_word mask_of_word variable_of_word key_of_word cell_number decimal_number cut_at handle_of_word cell_of_word is_formed is_locale_name is_charmap_name is_thread_name directives_table shared_command catalog_command own_read_command handle_read_command
no_thread_of_base = refl

-- comments and lines of blanks are skipped
comments : bundle_of (codes "# a\n\t#b\n \t\n\nx") ≡ refused 5 1 (reasons.BadLine parts.Thread)
unfolding bundle_of bundle_with line_read outside directive_line command_line charmap_line locale_line later_line native_line thread_line round_line one_word two_words three_words command new_command base use_command install_command fetch_command lone_target target_word target cell key next_word argument no_more read_as is_over text_of_word variable_of_word key_of_word cell_number decimal_number cut_at handle_of_word cell_of_word is_formed is_locale_name is_charmap_name is_thread_name directives_table shared_command catalog_command own_read_command handle_read_command
comments = refl

-- ---- message catalogs

-- one name in two locales, of which no block need be there, and two names in one
catalogs_apart : bundle_of (codes ".catalog g us\n$set 2\n1 a\n.end\n.catalog g C\n.end\n.catalog us g\n.end\n") ≡ Ok (record {
  charmaps = [];
  locales = [];
  later = [];
  catalogs = block (codes "g") (codes "us") 2 (codes "$set 2\n1 a\n") ∷ block (codes "g") (codes "C") 6 [] ∷ block (codes "us") (codes "g") 8 [] ∷ [];
  native = None;
  threads = [];
  rounds = 1;
  commands = [];
})
unfolding bundle_of bundle_with line_read outside directive_line command_line charmap_line catalog_line thread_line two_words one_word command lone_target target_word target next_word argument no_more read_as is_over decimal_number cut_at handle_of_word is_formed is_locale_name is_part_name is_charmap_name is_thread_name directives_table shared_command catalog_command own_read_command handle_read_command
catalogs_apart = refl

-- a pair that was given before; it goes before a thread behind it
pair_twice : bundle_of (codes ".catalog g us\n.end\n.catalog  g us\n.end\n.thread A\nfree B.0.1\n") ≡ refused 3 11 reasons.NameTwice
unfolding bundle_of bundle_with line_read outside directive_line command_line charmap_line catalog_line thread_line two_words one_word command lone_target target_word target next_word argument no_more read_as is_over decimal_number cut_at handle_of_word is_formed is_locale_name is_part_name is_charmap_name is_thread_name directives_table shared_command catalog_command own_read_command handle_read_command
pair_twice = refl

-- a catalog may have the name of another block
named_as_a_charmap : bundle_of (codes ".charmap g\n.end\n.catalog g g\n.end\n.catalog h g\n") ≡ refused 5 1 reasons.NoEnd
unfolding bundle_of bundle_with line_read outside directive_line command_line charmap_line catalog_line thread_line two_words one_word command lone_target target_word target next_word argument no_more read_as is_over decimal_number cut_at handle_of_word is_formed is_locale_name is_part_name is_charmap_name is_thread_name directives_table shared_command catalog_command own_read_command handle_read_command
named_as_a_charmap = refl

-- the pair is looked for once all lines are right
line_before_pair : bundle_of (codes ".catalog g us\n.end\n.catalog g us\n.end\n.end\n") ≡ refused 5 1 (reasons.BadLine parts.Directive)
unfolding bundle_of bundle_with line_read outside directive_line command_line charmap_line catalog_line thread_line two_words one_word command lone_target target_word target next_word argument no_more read_as is_over decimal_number cut_at handle_of_word is_formed is_locale_name is_part_name is_charmap_name is_thread_name directives_table shared_command catalog_command own_read_command handle_read_command
line_before_pair = refl
