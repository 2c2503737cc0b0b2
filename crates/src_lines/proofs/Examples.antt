-- The definitions on worked examples.
use Rattle.std.proofs.Common.{◌≡◌, ℕ, true, false, List, [], ◌∷◌, Option, Some, None, Ok, Err, refl}
use Rattle.std.specs.Prelude.{codes, map}
use Rattle.lc_base.specs.declared.place.Place.{Place}
use Rattle.lc_base.specs.declared.reason.Reason.{Reason}
use Rattle.lc_base.specs.declared.reason.Reason.TheVariants.{WrongOperand, BadHeader}
use Rattle.lc_base.specs.Reading.{Reads, ◌>>=◌}
use Rattle.src_lines.specs.declared.signs.Kind.{Kind}
use Rattle.src_lines.specs.declared.signs.Kind.TheVariants.{Locale, Charmap}
use Rattle.src_lines.specs.Places.{Logical, fresh, extended, place_at, start}
use Rattle.src_lines.specs.Logical.{front, front_from, logical}
use Rattle.src_lines.specs.Words.{next_word, first_word, second_word, closes}

abbrev at : ℕ → ℕ → Place
at line column = record { line = line; column = column }

-- the logical lines of a text, each with its first byte's place
abbrev lines_of_text : Kind → List ℕ → Reads (List (Place × List ℕ))
lines_of_text kind bytes = logical bytes 1 kind >>= λ ls. Ok (map (λ (l : Logical). (place_at l 0, l.bytes)) ls)

-- the logical lines before the first bad head line, each with its first byte's place, and that line's fault
abbrev lines_before_fault : Kind → List ℕ → List (Place × List ℕ) × Option (Place × Reason)
lines_before_fault kind bytes = (map (λ (l : Logical). (place_at l 0, l.bytes)) (front bytes 1 kind).lines, (front bytes 1 kind).fault)

-- comments and blank lines are dropped, after joining
comments : lines_of_text Locale (codes "# a\\\nb\n \nk a\\\n# b\n") ≡ Ok ((at 4 1, codes "k a# b") ∷ [])
unfolding logical front front_from
comments = refl

ends_in_escape : (logical (codes "k\\\n") 7 Locale >>= λ ls. Ok (map {B = List ℕ × Place × Place} (λ (l : Logical). (l.bytes, place_at l 0, place_at l 1)) ls)) ≡ Ok ((codes "k", at 7 1, at 8 1) ∷ [])
unfolding logical front front_from
ends_in_escape = refl

signs : lines_of_text Locale (codes "escape_char /\ncomment_char %\n# a/\nb\n") ≡ Ok ((at 3 1, codes "# ab") ∷ [])
unfolding logical front front_from
signs = refl

same_sign : lines_of_text Locale (codes "escape_char  #\n") ≡ Err (at 1 14, WrongOperand)
unfolding logical front front_from
same_sign = refl

bad_header : lines_of_text Charmap (codes " <comment_char> ab\n") ≡ Err (at 1 2, BadHeader)
unfolding logical front front_from
bad_header = refl

-- after the first section a head line is a line like others
section : lines_of_text Locale (codes "LC_TIME\nescape_char /") ≡ Ok ((at 1 1, codes "LC_TIME") ∷ (at 2 1, codes "escape_char /") ∷ [])
unfolding logical front front_from
section = refl

-- what stands before a bad head line is kept, and what stands behind it is not read
before_bad_header : lines_before_fault Charmap (codes "a b\n# c\n <comment_char> ab\nd\n") ≡ ((at 1 1, codes "a b") ∷ [], Some (at 3 2, BadHeader))
unfolding front front_from
before_bad_header = refl

no_bad_header : lines_before_fault Charmap (codes "a\\\nb\nCHARMAP\n<comment_char> ab") ≡ ((at 1 1, codes "ab") ∷ (at 3 1, codes "CHARMAP") ∷ (at 4 1, codes "<comment_char> ab") ∷ [], None)
unfolding front front_from
no_bad_header = refl

-- also a head line that ends the text
last_bad_header : lines_before_fault Locale (codes "a\nescape_char  #") ≡ ((at 1 1, codes "a") ∷ [], Some (at 2 14, WrongOperand))
unfolding front front_from
last_bad_header = refl

-- ---- words

words : next_word (codes "  ab\tc") ≡ record { skipped = 2; text = codes "ab"; rest = codes "\tc" }
words = refl

no_word : next_word (codes " ") ≡ record { skipped = 1; text = []; rest = [] }
no_word = refl

first : first_word (codes " LC_TIME\tx y") ≡ codes "LC_TIME"
first = refl

second : second_word (codes " LC_TIME\tx y") ≡ codes "x"
second = refl

line_start : start (extended (fresh (record { escape = 92; comment = 35 }) 1) (codes "\t k")) ≡ at 1 3
line_start = refl

-- ---- the end of a part

closing_line : closes (codes "LC_TIME") (codes " END\tLC_TIME ") ≡ true
closing_line = refl

other_name : closes (codes "LC_TIME") (codes "END LC_TIM") ≡ false
other_name = refl

word_behind : closes (codes "LC_TIME") (codes "END LC_TIME x") ≡ false
word_behind = refl

other_word : closes (codes "LC_TIME") (codes "END_ LC_TIME") ≡ false
other_word = refl
