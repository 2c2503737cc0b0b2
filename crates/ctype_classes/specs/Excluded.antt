-- What a refusal of classes with a common member names, by membership value by value (XBD 7.3.1).
use Rattle.std.specs.Prelude.{◌≡◌, ℕ, Bool, true, false, ◌&&◌, List, [], ◌∷◌, Some, None, Result, Err, unwrap_or, ◌⊎◌}
use Rattle.lc_base.specs.declared.place.Place.{Place}
use Rattle.lc_base.specs.declared.fault.TextFault.{TextFault}
use Rattle.lc_base.specs.declared.fault.TextFault.TheVariants.{At}
use Rattle.lc_base.specs.declared.reason.Class.{Class}
use Rattle.lc_base.specs.declared.reason.Class.TheVariants.{Space, Punct}
use Rattle.lc_base.specs.declared.reason.Reason.TheVariants.{Excluded}
use Rattle.class_ranges.specs.Ranges.{IsLeast, covers}
use Rattle.charset.specs.CodedSet.{CodedSet}
use Rattle.keywords.specs.declared.source.Entry.{Entry}
use Rattle.ctype_classes.specs.Classes.{Classes, members_of}
use Rattle.lc_base.specs.Classes.{class_name}
use Rattle.ctype_classes.specs.Exclusions.{exclusions}
use Rattle.ctype_classes.specs.Members.{membership}

-- whether a value is in a class of a keyword list
abbrev pub is_in : CodedSet → List Entry → Class → ℕ → Bool
is_in set entries class w = unwrap_or (membership set entries (class_name class) w) false

-- whether a value is in a class as it is kept
abbrev pub is_kept_in : Classes → Class → ℕ → Bool
is_kept_in classes class w = covers (members_of classes (class_name class)) w

-- whether a value is in both classes of a pair
abbrev pub in_both : (Class → ℕ → Bool) → Class × Class → ℕ → Bool
in_both member pair w = member pair.0 w && member pair.1 w

-- the first of these pairs that has a common member, with the least one; or where none has one, punct and space with the space
-- character, which is in punct
abbrev pub IsExcluded : (Class → ℕ → Bool) → List (Class × Class) → Class → Class → ℕ → Type 0
IsExcluded member [] a b w = (a ≡ Punct) × (b ≡ Space) × (w ≡ 32) × (member Punct 32 ≡ true)
IsExcluded member (pair ∷ pairs) a b w =
    ((pair ≡ (a, b)) × IsLeast (in_both member pair) (Some w))
    ⊎ (IsLeast (in_both member pair) None × IsExcluded member pairs a b w)

-- none of these pairs has a common member, and the space character is not in punct
abbrev pub AreApart : (Class → ℕ → Bool) → List (Class × Class) → Type 0
AreApart member [] = member Punct 32 ≡ false
AreApart member (pair ∷ pairs) = IsLeast (in_both member pair) None × AreApart member pairs

-- the same of all pairs of the table
unfoldable pub IsFirstExcluded : (Class → ℕ → Bool) → Class → Class → ℕ → Type 0
IsFirstExcluded member a b w = IsExcluded member exclusions a b w

unfoldable pub AreAllApart : (Class → ℕ → Bool) → Type 0
AreAllApart member = AreApart member exclusions

-- a refusal for a common member stands at the header of the section, and what it names is the one that is meant
abbrev pub Names : {A : Type 0} → (Class → Class → ℕ → Type 0) → Place → Result A TextFault → Type 0
Names IsMeant section result = (place : Place) (a b : Class) (w : ℕ) → result ≡ Err (At place (Excluded a b w)) → (place ≡ section) × IsMeant a b w
