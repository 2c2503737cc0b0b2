-- What words ask for.
use Rattle.std.proofs.Common.{◌≡◌, [], ◌∷◌, Some, None, refl}
use Rattle.std.specs.Prelude.{codes}
use Rattle.lc_base.specs.Numbers.{decimal_number}
use Rattle.script_words.specs.Words.{behind_front}
use Rattle.locale_cli.specs.declared.request.Request.TheVariants.{Read, Make}
use Rattle.locale_cli.specs.declared.words.Mode.TheVariants.{Check, Serial}
use Rattle.locale_cli.specs.Request.{wide_number, with_part, request_of}
use Rattle.locale_cli.specs.Words.{number_up_to}

no_words : request_of [] ≡ None
no_words = refl

check_word : request_of (codes "check" ∷ []) ≡ Some (Read Check)
check_word = refl

serial_word : request_of (codes "serial" ∷ []) ≡ Some (Read (Serial 16 65535))
serial_word = refl

unknown_word : request_of (codes "makes" ∷ codes "seed=0" ∷ codes "commands=1" ∷ []) ≡ None
unknown_word = refl

least : request_of (codes "make" ∷ codes "seed=0" ∷ codes "commands=1" ∷ []) ≡ Some (Make 0 1)
unfolding with_part wide_number number_up_to behind_front decimal_number
least = refl

greatest_in_the_other_order : request_of (codes "make" ∷ codes "commands=20000" ∷ codes "seed=18446744073709551615" ∷ []) ≡ Some (Make 18446744073709551615 20000)
unfolding with_part wide_number number_up_to behind_front decimal_number
greatest_in_the_other_order = refl

seed_past_the_limit : request_of (codes "make" ∷ codes "seed=18446744073709551616" ∷ codes "commands=1" ∷ []) ≡ None
unfolding with_part wide_number number_up_to behind_front decimal_number
seed_past_the_limit = refl

commands_past_the_limit : request_of (codes "make" ∷ codes "seed=0" ∷ codes "commands=20001" ∷ []) ≡ None
unfolding with_part wide_number number_up_to behind_front decimal_number
commands_past_the_limit = refl

no_commands : request_of (codes "make" ∷ codes "seed=0" ∷ codes "commands=0" ∷ []) ≡ None
unfolding with_part wide_number number_up_to behind_front decimal_number
no_commands = refl

seed_alone : request_of (codes "make" ∷ codes "seed=0" ∷ []) ≡ None
unfolding with_part wide_number number_up_to behind_front decimal_number
seed_alone = refl

commands_alone : request_of (codes "make" ∷ codes "commands=1" ∷ []) ≡ None
unfolding with_part wide_number number_up_to behind_front decimal_number
commands_alone = refl

seed_twice : request_of (codes "make" ∷ codes "seed=0" ∷ codes "commands=1" ∷ codes "seed=0" ∷ []) ≡ None
unfolding with_part wide_number number_up_to behind_front decimal_number
seed_twice = refl

padded_seed : request_of (codes "make" ∷ codes "seed=00" ∷ codes "commands=1" ∷ []) ≡ None
unfolding with_part wide_number number_up_to behind_front decimal_number
padded_seed = refl

empty_seed : request_of (codes "make" ∷ codes "seed=" ∷ codes "commands=1" ∷ []) ≡ None
unfolding with_part wide_number number_up_to behind_front decimal_number
empty_seed = refl

signed_seed : request_of (codes "make" ∷ codes "seed=-1" ∷ codes "commands=1" ∷ []) ≡ None
unfolding with_part wide_number number_up_to behind_front decimal_number
signed_seed = refl

rows_of_a_made_bundle : request_of (codes "make" ∷ codes "seed=0" ∷ codes "commands=1" ∷ codes "rows=16" ∷ []) ≡ None
unfolding with_part wide_number number_up_to behind_front decimal_number
rows_of_a_made_bundle = refl
