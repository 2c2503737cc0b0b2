-- Examples of texts in buffers.
use Rattle.std.proofs.Common.{◌≡◌, [], Ok, Err, refl}
use Rattle.std.specs.Prelude.{codes}
use Rattle.lc_base.specs.declared.refusal.FormatRefusal.TheVariants.{BadFormat}
use Rattle.text_buffer.specs.declared.unwritten.Unwritten.TheVariants.{Refused, TooSmall}
use Rattle.text_buffer.specs.Written.{over, told, held}

in_the_middle : over (codes "abcdef") 2 (codes "XY") ≡ codes "abXYef"
in_the_middle = refl

at_the_end : over (codes "abcdef") 4 (codes "XY") ≡ codes "abcdXY"
at_the_end = refl

nothing : over (codes "abc") 1 [] ≡ codes "abc"
nothing = refl

shorter_is_told : told 5 (Ok (codes "1,5")) ≡ Ok 3
shorter_is_told = refl

shorter_is_held : held (codes "-----") (Ok (codes "1,5")) ≡ codes "1,5--"
shorter_is_held = refl

-- a text may fill the buffer
just_fits : told 3 (Ok (codes "1,5")) ≡ Ok 3
just_fits = refl

just_held : held (codes "---") (Ok (codes "1,5")) ≡ codes "1,5"
just_held = refl

longer_is_told : told 2 (Ok (codes "1,5")) ≡ Err (TooSmall 3)
longer_is_told = refl

-- nothing of a text that is too long is written
longer_is_held : held (codes "--") (Ok (codes "1,5")) ≡ codes "--"
longer_is_held = refl

empty_is_told : told 0 (Ok []) ≡ Ok 0
empty_is_told = refl

refused_is_told : told 5 (Err (BadFormat 7)) ≡ Err (Refused (BadFormat 7))
refused_is_told = refl

refused_is_held : held (codes "--") (Err (BadFormat 7)) ≡ codes "--"
refused_is_held = refl
