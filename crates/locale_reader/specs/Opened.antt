-- What the lines of a section gave so far.
use Rattle.std.specs.Prelude.{ℕ, Bool, false, ◌||◌, ◌&&◌, nat_lt, List, [], ◌∷◌, ◌++◌, length, codes, Option, Some, None, is_some}
use Rattle.std.specs.List.{list_any}
use Rattle.std.specs.Str.{bytes_eq}
use Rattle.lc_base.specs.declared.place.Place.{Place}
use Rattle.src_lines.specs.declared.line.Line.{Line}
use Rattle.charset.specs.Portable.{Name}
use Rattle.keywords.specs.declared.source.Value.{Value}
use Rattle.keywords.specs.declared.source.Value.TheVariants.{Text, Number, Chars, Pair}
use Rattle.keywords.specs.declared.source.Entry.{Entry}
use Rattle.keywords.specs.declared.source.Body.{Body}
use Rattle.keywords.specs.declared.source.Body.TheVariants.{Copy, Entries}

-- what the lines of a section gave so far: the copied name with its place, and the keyword lines
pub record Opened : Type 0 where
  pub copy : Option (Place × List ℕ)
  pub entries : List Entry

-- nothing yet
abbrev pub nothing : Opened
nothing = record { copy = None; entries = [] }

abbrev pub is_copy : Name → Bool
is_copy name = bytes_eq name (codes "copy")

abbrev pub is_charclass : Name → Bool
is_charclass name = bytes_eq name (codes "charclass")

-- whether a line with this keyword was given
abbrev pub is_given : Opened → Name → Bool
is_given s name = list_any (λ (e : Entry). bytes_eq e.keyword name) s.entries || (is_some s.copy && is_copy name)

-- whether any line was given
abbrev pub is_begun : Opened → Bool
is_begun s = nat_lt 0 (length s.entries) || is_some s.copy

-- whether a value is this text
abbrev pub is_text : Name → Value → Bool
is_text name (Text bs) = bytes_eq bs name
is_text name (Number n) = false
is_text name (Chars a b) = false
is_text name (Pair a b) = false

-- whether a line declares a class of this name
abbrev pub declares : Name → Entry → Bool
declares name e = is_charclass e.keyword && list_any (λ (v : Place × Value). is_text name v.1) e.values

-- whether an earlier line did
abbrev pub is_declared : Opened → Name → Bool
is_declared s name = list_any (declares name) s.entries

-- with one more keyword line
abbrev pub with_entry : Opened → Line → List (Place × Value) → Opened
with_entry s line values = record s { entries = s.entries ++ (record { place = line.place; keyword = line.keyword; values = values }) ∷ [] }

-- a copy, or the keyword lines
abbrev pub body_of : Opened → Body
body_of s = elim s.copy [
  | None ↦ Entries s.entries
  | Some name ↦ Copy name.0 name.1
]
