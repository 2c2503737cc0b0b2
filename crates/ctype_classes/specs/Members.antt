-- Membership in a class, value by value: the table of classes with their automatic members (XBD 7.3.1).
use Rattle.std.specs.Prelude.{ℕ, Bool, false, ◌||◌, ◌&&◌, List, [], ◌∷◌, ◌++◌, map, Option, Some, unwrap_or}
use Rattle.lc_base.specs.declared.place.Place.{Place}
use Rattle.class_ranges.specs.Ranges.{covers}
use Rattle.lc_base.specs.Tables.{first_named}
use Rattle.charset.specs.Portable.{Name}
use Rattle.charset.specs.CodedSet.{CodedSet, has}
use Rattle.keywords.specs.declared.source.Value.{Value}
use Rattle.keywords.specs.declared.source.Entry.{Entry}
use Rattle.keywords.specs.declared.row.Rule.{Rule}
use Rattle.keywords.specs.declared.row.Rule.TheVariants.{ClassNames}
use Rattle.keywords.specs.Keywords.{operands, texts}
use Rattle.ctype_classes.specs.Lines.{rule_of_line}
use Rattle.lc_base.specs.Named.{with_named}
use Rattle.ctype_classes.specs.Table.{ClassRow, class_table, declared_row}
use Rattle.ctype_classes.specs.Classes.{listed_members}

-- the names of the classes that the operands of a line with this rule declare
abbrev pub declared_in : Option Rule → List (Place × Value) → List Name
declared_in (Some ClassNames) vs = texts vs
declared_in _ vs = []

-- the names of the classes that lines declare, in order
abbrev pub declared_names : List Entry → List Name
declared_names [] = []
declared_names (e ∷ es) = declared_in (rule_of_line e) e.values ++ declared_names es

-- the classes of a locale: the twelve, and the declared ones, which have their listed members alone
abbrev pub rows_of : List Entry → List ClassRow
rows_of entries = class_table ++ map declared_row (declared_names entries)

-- whether a value is in one of the classes with these names, of those given
abbrev pub is_in_any : List (Name × Bool) → List Name → Bool
is_in_any given [] = false
is_in_any given (name ∷ names) = unwrap_or (first_named given name) false || is_in_any given names

-- whether a value is in the class of a row: a character of the charset that is listed or an automatic member
abbrev pub is_member : CodedSet → List Entry → ℕ → List (Name × Bool) → ClassRow → Bool
is_member set entries w given r =
    has set w && (covers (listed_members r.absent (operands entries r.name)) w || (covers r.always w || is_in_any given r.parts))

-- for the classes given and then those of rows, whether a value is in each
abbrev pub memberships : CodedSet → List Entry → ℕ → List (Name × Bool) → List ClassRow → List (Name × Bool)
memberships set entries w given [] = given
memberships set entries w given (r ∷ rs) = memberships set entries w (with_named given r.name (is_member set entries w given r)) rs

-- whether a value is in a class; none where the locale has no such class
unfoldable pub membership : CodedSet → List Entry → Name → ℕ → Option Bool
membership set entries name w = first_named (memberships set entries w [] (rows_of entries)) name
