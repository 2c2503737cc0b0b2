-- Whole numbers, and the commands that format and scan them, on small inputs.
use Rattle.std.proofs.Common.{◌≡◌, [], Some, None, refl}
use Rattle.std.specs.Prelude.{pos, negsuc, codes}
use Rattle.script_words.specs.Numbers.{number_of_word}

largest : number_of_word (codes "18446744073709551615") ≡ Some (pos 18446744073709551615)
unfolding number_of_word
largest = refl

too_large : number_of_word (codes "18446744073709551616") ≡ None
unfolding number_of_word
too_large = refl

least : number_of_word (codes "-9223372036854775808") ≡ Some (negsuc 9223372036854775807)
unfolding number_of_word
least = refl

too_small : number_of_word (codes "-9223372036854775809") ≡ None
unfolding number_of_word
too_small = refl

leading_zeros : number_of_word (codes "-00000000000000000042") ≡ Some (negsuc 41)
unfolding number_of_word
leading_zeros = refl

twenty_one_digits : number_of_word (codes "000000000000000000042") ≡ None
unfolding number_of_word
twenty_one_digits = refl

nothing_below_zero : number_of_word (codes "-0") ≡ Some (pos 0)
unfolding number_of_word
nothing_below_zero = refl

sign_alone : number_of_word (codes "-") ≡ None
unfolding number_of_word
sign_alone = refl

two_signs : number_of_word (codes "--1") ≡ None
unfolding number_of_word
two_signs = refl

plus : number_of_word (codes "+1") ≡ None
unfolding number_of_word
plus = refl

fraction : number_of_word (codes "1.5") ≡ None
unfolding number_of_word
fraction = refl

empty : number_of_word [] ≡ None
unfolding number_of_word
empty = refl
