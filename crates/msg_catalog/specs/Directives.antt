-- The directives of a source (XCU gencat).
use Rattle.std.specs.Prelude.{ℕ, List, [], ◌∷◌, Option, Some, None, codes, option_map, if◌then◌else◌}
use Rattle.lc_base.specs.Lines.{◌>>=◌}
use Rattle.msg_catalog.specs.declared.cursor.Spot.{Spot}
use Rattle.msg_catalog.specs.declared.directive.Directive.{Directive}
use Rattle.msg_catalog.specs.declared.directive.Directive.TheVariants.{Comment, Set, DeleteSet, Quote}
use Rattle.msg_catalog.specs.Words.{after_word, past_blanks, ends_word}
use Rattle.lc_base.specs.Blanks.{is_blank}
use Rattle.msg_catalog.specs.Numbers.{number}

-- a number, where the line ends behind it or a blank follows
abbrev pub whole_number : ℕ × List Spot → Option ℕ
whole_number x = if ends_word x.1 then Some x.0 else None

-- the number of a set, from 1 to 255, behind one blank or more; behind it stands the line's end, or a blank and any bytes
abbrev pub set_number : List Spot → Option ℕ
set_number [] = None
set_number (s ∷ ss) = if is_blank s.byte then number 255 (past_blanks ss) >>= whole_number else None

-- one byte, and nothing behind it; there is no quote character where it is lacking
abbrev pub one_byte : List Spot → Option (Option ℕ)
one_byte [] = Some None
one_byte (s ∷ []) = Some (Some s.byte)
one_byte (s ∷ t ∷ ss) = None

-- the quote character, one byte behind one blank or more; there is none where nothing or blanks alone stand here
abbrev pub quote_sign : List Spot → Option (Option ℕ)
quote_sign [] = Some None
quote_sign (s ∷ ss) = if is_blank s.byte then one_byte (past_blanks ss) else None

-- the words of directives, and what each of them says with what follows it
abbrev pub directives : List (List ℕ × (List Spot → Option Directive))
directives =
    (codes "set", λ ss. option_map (λ n. Set n) (set_number ss))
    ∷ (codes "delset", λ ss. option_map (λ n. DeleteSet n) (set_number ss))
    ∷ (codes "quote", λ ss. option_map (λ c. Quote c) (quote_sign ss))
    ∷ []

-- what the first of these words that a line begins with says
abbrev pub first_said : List (List ℕ × (List Spot → Option Directive)) → List Spot → Option Directive
first_said [] ss = None
first_said (d ∷ ds) ss = elim (after_word d.0 ss) [
  | Some rest ↦ d.1 rest
  | None ↦ first_said ds ss
]

-- what a line says behind its $
abbrev pub directive_of : List Spot → Option Directive
directive_of ss = if ends_word ss then Some Comment else first_said directives ss
