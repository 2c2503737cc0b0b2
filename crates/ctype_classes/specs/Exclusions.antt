-- Classes that exclude one another (XBD 7.3.1).
use Rattle.std.specs.Prelude.{ℕ, List, [], ◌∷◌, codes, Option, Some, None, Ok, Err, if◌then◌else◌}
use Rattle.lc_base.specs.declared.place.Place.{Place}
use Rattle.lc_base.specs.Classes.{class_name}
use Rattle.lc_base.specs.declared.reason.Class.{Class}
use Rattle.lc_base.specs.declared.reason.Class.TheVariants.{Upper, Lower, Alpha, Digit, Space, Cntrl, Punct, Graph, Print, Xdigit}
use Rattle.lc_base.specs.declared.reason.Reason.TheVariants.{Excluded}
use Rattle.lc_base.specs.Reading.{Reads, ◌>>=◌}
use Rattle.class_ranges.specs.Ranges.{covers, first_common}
use Rattle.charset.specs.Portable.{Name}
use Rattle.ctype_classes.specs.Classes.{Classes, members_of}

-- the pairs of classes that have no common member, in the order in which they are tested (our own order)
abbrev pub exclusions : List (Class × Class)
exclusions =
    (Upper, Cntrl) ∷ (Upper, Digit) ∷ (Upper, Punct) ∷ (Upper, Space) ∷
    (Lower, Cntrl) ∷ (Lower, Digit) ∷ (Lower, Punct) ∷ (Lower, Space) ∷
    (Alpha, Cntrl) ∷ (Alpha, Digit) ∷ (Alpha, Punct) ∷ (Alpha, Space) ∷
    (Cntrl, Digit) ∷ (Cntrl, Punct) ∷ (Cntrl, Graph) ∷ (Cntrl, Print) ∷ (Cntrl, Xdigit) ∷
    (Space, Graph) ∷ (Space, Xdigit) ∷
    (Punct, Digit) ∷ (Punct, Xdigit) ∷ []

-- the least common member of two classes
abbrev pub common_member : Classes → Class × Class → Option ℕ
common_member classes pair = first_common (members_of classes (class_name pair.0)) (members_of classes (class_name pair.1))

-- two classes without a common member
abbrev pub excluding : Place → Class × Class → Option ℕ → Reads (Unit {0})
excluding section pair None = Ok tt
excluding section pair (Some w) = Err (section, Excluded pair.0 pair.1 w)

-- classes that keep to pairs, up to the first with a common member
abbrev pub kept_apart : Place → Classes → List (Class × Class) → Reads (Unit {0})
kept_apart section classes [] = Ok tt
kept_apart section classes (pair ∷ pairs) = excluding section pair (common_member classes pair) >>= λ _. kept_apart section classes pairs

-- the space character is not in punct
abbrev pub without_space : Place → Classes → Reads (Unit {0})
without_space section classes = if covers (members_of classes (codes "punct")) 32 then Err (section, Excluded Punct Space 32) else Ok tt

-- classes that keep to all the pairs, and then to the rule on the space character
unfoldable pub all_kept_apart : Place → Classes → Reads (Unit {0})
all_kept_apart section classes = kept_apart section classes exclusions >>= λ _. without_space section classes
