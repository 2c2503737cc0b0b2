-- What a line of a charmap's body speaks of (XBD 6.4): a name, or a range of names.
use Rattle.std.specs.Prelude.{ℕ, ◌-◌, ◌==◌, ◌||◌, not, nat_lt, List, [], ◌∷◌, length, Option, Some, None, if◌then◌else◌}
use Rattle.std.specs.Str.{bytes_eq}
use Rattle.src_lines.specs.declared.line.OperandPiece.TheVariants.{Name as Named}
use Rattle.src_lines.specs.declared.atom.Atom.{Atom}
use Rattle.src_lines.specs.declared.atom.Atom.TheVariants.{Made}
use Rattle.src_lines.specs.Shapes.{is_dots}
use Rattle.charset.specs.Portable.{Name}
use Rattle.charset.specs.Numbering.{stem, digits, number, name_after}

-- a name, or the first name of a range with its last one
pub record Subject : Type 0 where
  pub first : Name
  pub last : Option Name

-- a character's name, if an atom is one
abbrev pub atom_name : Atom → Option Name
atom_name (Made (Named name)) = Some name
atom_name _ = None

-- a subject, if its first name is there
abbrev pub one_name : Option Name → Option Subject
one_name None = None
one_name (Some name) = Some (record { first = name; last = None })

-- a range, if both of its ends are there
abbrev pub two_names : Option Name → Option Name → Option Subject
two_names (Some first) (Some last) = Some (record { first = first; last = Some last })
two_names _ _ = None

-- the subject that a whole field is: a name, or two names with three dots between them
abbrev pub subject : List Atom → Option Subject
subject (a ∷ []) = one_name (atom_name a)
subject (a ∷ b ∷ c ∷ d ∷ e ∷ []) = if is_dots (b ∷ c ∷ d ∷ []) then two_names (atom_name a) (atom_name e) else None
subject _ = None

-- how many names follow the first one of a range. None where an end has no digits, where the parts before them differ, or
-- where the range runs backward
abbrev pub more_between : Name → Name → Option ℕ
more_between first last =
    if length (digits first) == 0 || length (digits last) == 0 || not (bytes_eq (stem first) (stem last)) || nat_lt (number last) (number first)
    then None else Some (number last - number first)

-- how many names follow the first one of a subject
abbrev pub more_names : Subject → Option ℕ
more_names s = elim s.last [
  | None ↦ Some 0
  | Some last ↦ more_between s.first last
]

-- the names of a subject by their places; one name has just the place 0
abbrev pub name_at : Subject → ℕ → Name
name_at s k = elim s.last [
  | None ↦ s.first
  | Some last ↦ name_after s.first k
]
