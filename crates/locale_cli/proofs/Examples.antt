-- The definitions on small inputs.
use Rattle.std.proofs.Common.{◌≡◌, ℕ, length, List, [], ◌∷◌, None, Some, Ok, refl, sym, lit<}
use Rattle.std.specs.Prelude.{codes}
use Rattle.std.specs.Fmt.{decimal}
use Rattle.std.proofs.lemmas.Fmt.{decimal_digit}
use Rattle.locale_cli.specs.Limits.{DEFAULT_ROWS, MOST_ROWS, DEFAULT_GENERATIONS, MOST_GENERATIONS}
use Rattle.locale_cli.specs.declared.answer.Status.TheVariants.{Done, TooLarge}
use Rattle.locale_cli.specs.declared.words.Mode.TheVariants.{Check, Serial, Run}
use Rattle.locale_cli.specs.Limits.{INPUT_LIMIT}
use Rattle.locale_cli.specs.Answer.{counts_line, answer_for, IsAnswer}
use Rattle.locale_cli.specs.Status.{status_of, due_status}
use Rattle.locale_cli.specs.Words.{mode_of, with_option, number_up_to}
use Rattle.script_lang.specs.Accepted.{bundle_of, bundle_with}
use Rattle.lc_base.specs.Numbers.{decimal_number}
use Rattle.script_words.specs.Words.{behind_front}
use Rattle.script_plan.specs.Plan.{plan_of}

digit0 : decimal 0 ≡ codes "0"
digit0 = decimal_digit 0 (lit< tt)

digit1 : decimal 1 ≡ codes "1"
digit1 = decimal_digit 1 (lit< tt)

digit2 : decimal 2 ≡ codes "2"
digit2 = decimal_digit 2 (lit< tt)

digit3 : decimal 3 ≡ codes "3"
digit3 = decimal_digit 3 (lit< tt)

digit4 : decimal 4 ≡ codes "4"
digit4 = decimal_digit 4 (lit< tt)

digit5 : decimal 5 ≡ codes "5"
digit5 = decimal_digit 5 (lit< tt)

digit6 : decimal 6 ≡ codes "6"
digit6 = decimal_digit 6 (lit< tt)

digit7 : decimal 7 ≡ codes "7"
digit7 = decimal_digit 7 (lit< tt)

digit8 : decimal 8 ≡ codes "8"
digit8 = decimal_digit 8 (lit< tt)

digit9 : decimal 9 ≡ codes "9"
digit9 = decimal_digit 9 (lit< tt)

ruleset digits = (digit0, digit1, digit2, digit3, digit4, digit5, digit6, digit7, digit8, digit9)

-- ---- words

no_words : mode_of [] ≡ None
no_words = refl

serial_word : mode_of (codes "serial" ∷ []) ≡ Some (Serial 16 65535)
serial_word = refl

check_word : mode_of (codes "check" ∷ []) ≡ Some Check
check_word = refl

run_word : mode_of (codes "run" ∷ []) ≡ Some (Run 16 65535)
run_word = refl

run_with_options : mode_of (codes "run" ∷ codes "generations=3" ∷ codes "rows=2" ∷ []) ≡ Some (Run 2 3)
unfolding with_option number_up_to behind_front decimal_number
run_with_options = refl

run_without_rows : mode_of (codes "run" ∷ codes "rows=0" ∷ []) ≡ None
unfolding with_option number_up_to behind_front decimal_number
run_without_rows = refl

unknown_word : mode_of (codes "runs" ∷ []) ≡ None
unknown_word = refl

two_modes : mode_of (codes "serial" ∷ codes "check" ∷ []) ≡ None
unfolding with_option number_up_to behind_front decimal_number
two_modes = refl

check_with_an_option : mode_of (codes "check" ∷ codes "rows=1" ∷ []) ≡ None
check_with_an_option = refl

check_twice : mode_of (codes "check" ∷ codes "check" ∷ []) ≡ None
check_twice = refl

each_option : mode_of (codes "serial" ∷ codes "generations=2147483647" ∷ codes "rows=64" ∷ []) ≡ Some (Serial 64 2147483647)
unfolding with_option number_up_to behind_front decimal_number
each_option = refl

the_other_order : mode_of (codes "serial" ∷ codes "rows=64" ∷ codes "generations=2147483647" ∷ []) ≡ Some (Serial 64 2147483647)
unfolding with_option number_up_to behind_front decimal_number
the_other_order = refl

rows_alone : mode_of (codes "serial" ∷ codes "rows=1" ∷ []) ≡ Some (Serial 1 65535)
unfolding with_option number_up_to behind_front decimal_number
rows_alone = refl

generations_alone : mode_of (codes "serial" ∷ codes "generations=1" ∷ []) ≡ Some (Serial 16 1)
unfolding with_option number_up_to behind_front decimal_number
generations_alone = refl

rows_twice : mode_of (codes "serial" ∷ codes "rows=2" ∷ codes "rows=2" ∷ []) ≡ None
unfolding with_option number_up_to behind_front decimal_number
rows_twice = refl

generations_twice : mode_of (codes "serial" ∷ codes "generations=2" ∷ codes "rows=2" ∷ codes "generations=3" ∷ []) ≡ None
unfolding with_option number_up_to behind_front decimal_number
generations_twice = refl

no_rows : mode_of (codes "serial" ∷ codes "rows=0" ∷ []) ≡ None
unfolding with_option number_up_to behind_front decimal_number
no_rows = refl

no_generations : mode_of (codes "serial" ∷ codes "generations=0" ∷ []) ≡ None
unfolding with_option number_up_to behind_front decimal_number
no_generations = refl

rows_past_the_limit : mode_of (codes "serial" ∷ codes "rows=65" ∷ []) ≡ None
unfolding with_option number_up_to behind_front decimal_number
rows_past_the_limit = refl

generations_past_the_limit : mode_of (codes "serial" ∷ codes "generations=2147483648" ∷ []) ≡ None
unfolding with_option number_up_to behind_front decimal_number
generations_past_the_limit = refl

generations_of_thirty_digits : mode_of (codes "serial" ∷ codes "generations=100000000000000000000000000000" ∷ []) ≡ None
unfolding with_option number_up_to behind_front decimal_number
generations_of_thirty_digits = refl

padded_rows : mode_of (codes "serial" ∷ codes "rows=01" ∷ []) ≡ None
unfolding with_option number_up_to behind_front decimal_number
padded_rows = refl

padded_generations : mode_of (codes "serial" ∷ codes "generations=065535" ∷ []) ≡ None
unfolding with_option number_up_to behind_front decimal_number
padded_generations = refl

empty_rows : mode_of (codes "serial" ∷ codes "rows=" ∷ []) ≡ None
unfolding with_option number_up_to behind_front decimal_number
empty_rows = refl

signed_rows : mode_of (codes "serial" ∷ codes "rows=+1" ∷ []) ≡ None
unfolding with_option number_up_to behind_front decimal_number
signed_rows = refl

letter_behind_rows : mode_of (codes "serial" ∷ codes "rows=1x" ∷ []) ≡ None
unfolding with_option number_up_to behind_front decimal_number
letter_behind_rows = refl

blank_behind_rows : mode_of (codes "serial" ∷ codes "rows=1 " ∷ []) ≡ None
unfolding with_option number_up_to behind_front decimal_number
blank_behind_rows = refl

unknown_option : mode_of (codes "serial" ∷ codes "seed=0" ∷ []) ≡ None
unfolding with_option number_up_to behind_front decimal_number
unknown_option = refl

empty_option : mode_of (codes "serial" ∷ codes "" ∷ []) ≡ None
unfolding with_option number_up_to behind_front decimal_number
empty_option = refl

option_before_the_mode : mode_of (codes "rows=1" ∷ codes "serial" ∷ []) ≡ None
option_before_the_mode = refl

word_behind_the_options : mode_of (codes "serial" ∷ codes "rows=1" ∷ codes "generations=1" ∷ codes "x" ∷ []) ≡ None
unfolding with_option number_up_to behind_front decimal_number
word_behind_the_options = refl

-- ---- answers

some_counts : counts_line (record { locales = 3; charmaps = 1; threads = 2; rounds = 4; commands = 7 }) ≡ codes "ok: locales 3 charmaps 1 threads 2 rounds 4 commands 7\n"
some_counts = simp digits

-- the empty input is a bundle without threads, which has one round
empty_input : IsAnswer (Serial 16 65535) [] (answer_for (Ok []))
unfolding bundle_of bundle_with
empty_input = (Ok [], refl, refl)

empty_input_counted : IsAnswer Check [] (answer_for (Ok (codes "ok: locales 0 charmaps 0 threads 0 rounds 1 commands 0\n")))
unfolding bundle_of bundle_with
empty_input_counted =
    let line : counts_line (record { locales = 0; charmaps = 0; threads = 0; rounds = 1; commands = 0 }) ≡ codes "ok: locales 0 charmaps 0 threads 0 rounds 1 commands 0\n" = simp digits in
    (Ok (codes "ok: locales 0 charmaps 0 threads 0 rounds 1 commands 0\n"), sym line, refl)

done_without_a_fault : (text : List ℕ) → (answer_for (Ok text)).status ≡ Done
done_without_a_fault text = refl

default_rows : DEFAULT_ROWS ≡ 16
default_rows = refl

default_generations : DEFAULT_GENERATIONS ≡ 65535
default_generations = refl

most_rows : MOST_ROWS ≡ 64
most_rows = refl

most_generations : MOST_GENERATIONS ≡ 2147483647
most_generations = refl

-- ---- the input's limit

most_bytes : INPUT_LIMIT ≡ 16777216
most_bytes = refl

due_at_the_limit : (input : List ℕ) → length input ≡ 16777216 → due_status input ≡ status_of (plan_of input)
due_at_the_limit input many = rw many refl

due_past_the_limit : (input : List ℕ) → length input ≡ 16777217 → due_status input ≡ TooLarge
due_past_the_limit input many = rw many refl
