-- Keyword lists of LC_MESSAGES, and what they define.
use Rattle.std.proofs.Common.{◌≡◌, ℕ, List, [], ◌∷◌, Ok, refl}
use Rattle.std.specs.Prelude.{codes}
use Rattle.lc_base.specs.declared.place.Place.{Place}
use Rattle.keywords.specs.declared.source.Value.TheVariants.{Text}
use Rattle.keywords.specs.declared.source.Entry.{Entry}
use Rattle.messages_cat.specs.Messages.{messages_values, posix_values}

abbrev at : ℕ → ℕ → Place
at line column = record { line = line; column = column }

-- a keyword at the first column of a line, with its text behind it
abbrev line : ℕ → List ℕ → List ℕ → Entry
line number keyword text = record { place = at number 1; keyword = keyword; values = (at number 9, Text text) ∷ [] }

abbrev yes : ℕ → List ℕ → Entry
yes number text = line number (codes "yesexpr") text

abbrev no : ℕ → List ℕ → Entry
no number text = line number (codes "noexpr") text

-- both keywords, in either order
both : messages_values (no 2 (codes "^[nN].*") ∷ yes 3 (codes "^[oO].*") ∷ []) ≡ Ok (record { yesexpr = codes "^[oO].*"; noexpr = codes "^[nN].*" })
both = refl

-- a keyword that is absent has its POSIX value
no_yes : messages_values (no 2 (codes "^[nN].*") ∷ []) ≡ Ok (record { yesexpr = codes "^[yY]"; noexpr = codes "^[nN].*" })
no_yes = refl

no_no : messages_values (yes 2 (codes "^[jJ]") ∷ []) ≡ Ok (record { yesexpr = codes "^[jJ]"; noexpr = codes "^[nN]" })
no_no = refl

posix : posix_values ≡ record { yesexpr = codes "^[yY]"; noexpr = codes "^[nN]" }
posix = refl

no_keywords : messages_values [] ≡ Ok posix_values
no_keywords = refl

-- an empty text is a value like others
empty : messages_values (yes 2 [] ∷ no 3 [] ∷ []) ≡ Ok (record { yesexpr = []; noexpr = [] })
empty = refl

-- the first line of a keyword counts
first_line_counts : messages_values (yes 2 (codes "^[oO]") ∷ yes 3 (codes "^[sS]") ∷ []) ≡ Ok (record { yesexpr = codes "^[oO]"; noexpr = codes "^[nN]" })
first_line_counts = refl
