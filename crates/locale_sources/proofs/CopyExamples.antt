-- Worked examples of copies.
use Rattle.std.specs.Prelude.{◌≡◌, ℕ, ◌+◌, List, [], ◌∷◌, codes, Some, None, refl}
use Rattle.lc_base.specs.declared.place.Place.{Place}
use Rattle.lc_base.specs.declared.category.Category.{Category}
use Rattle.lc_base.specs.declared.category.Category.TheVariants.{Numeric, Time}
use Rattle.lc_base.specs.declared.reason.Reason.TheVariants.{CopyMissing, CopyCycle}
use Rattle.charset.specs.CodedSet.{utf8}
use Rattle.keywords.specs.declared.source.Value.TheVariants.{Text}
use Rattle.keywords.specs.declared.source.Section.{Section}
use Rattle.keywords.specs.declared.source.Body.TheVariants.{Copy, Entries}
use Rattle.locale_sources.specs.Sources.{Source}
use Rattle.locale_sources.specs.Copies.{copy_fault, end_of}
use Rattle.locale_sources.specs.Rows.{available}

at : ℕ → ℕ → Place
at line column = record { line = line; column = column }

-- LC_NUMERIC at a line, with this decimal_point
numeric : ℕ → List ℕ → Section
numeric line radix = record {
  category = Numeric;
  place = at line 1;
  body = Entries (record { place = at (line + 1) 1; keyword = codes "decimal_point"; values = (at (line + 1) 15, Text radix) ∷ [] } ∷ []);
}

-- a section at a line that has no keyword
bare : Category → ℕ → Section
bare category line = record { category = category; place = at line 1; body = Entries [] }

-- a section at a line that copies
copies : Category → ℕ → List ℕ → Section
copies category line name = record { category = category; place = at line 1; body = Copy (at (line + 1) 6) name }

locale : List ℕ → List Section → Source
locale name sections = record { key = None; name = name; charset = utf8; sections = sections }

version : List ℕ → List ℕ → List Section → Source
version key name sections = record { key = Some key; name = name; charset = utf8; sections = sections }

-- ---- copies

-- the locale is not there
missing : copy_fault (locale (codes "a") (copies Numeric 2 (codes "b") ∷ []) ∷ []) ≡ Some (at 3 6, CopyMissing)
unfolding at copies locale
missing = refl

-- it is there and lacks the category
lacking : copy_fault (locale (codes "a") (copies Numeric 2 (codes "b") ∷ []) ∷ locale (codes "b") (bare Time 9 ∷ []) ∷ []) ≡ Some (at 3 6, CopyMissing)
unfolding at copies bare locale
lacking = refl

-- a copy whose own target is there has no fault: the next one has
later_one_missing : copy_fault (locale (codes "a") (copies Numeric 2 (codes "b") ∷ []) ∷ locale (codes "b") (copies Numeric 9 (codes "c") ∷ []) ∷ []) ≡ Some (at 10 6, CopyMissing)
unfolding at copies locale
later_one_missing = refl

-- a copy of itself
itself : copy_fault (locale (codes "a") (copies Numeric 2 (codes "a") ∷ []) ∷ []) ≡ Some (at 3 6, CopyCycle)
unfolding at copies locale
itself = refl

-- two that copy each other: the first one is named
each_other : copy_fault (locale (codes "a") (copies Time 2 (codes "b") ∷ []) ∷ locale (codes "b") (copies Time 9 (codes "a") ∷ []) ∷ []) ≡ Some (at 3 6, CopyCycle)
unfolding at copies locale
each_other = refl

-- a cycle that is entered from outside
entered : copy_fault (locale (codes "a") (copies Numeric 2 (codes "b") ∷ []) ∷ locale (codes "b") (copies Numeric 9 (codes "c") ∷ []) ∷ locale (codes "c") (copies Numeric 16 (codes "b") ∷ []) ∷ []) ≡ Some (at 3 6, CopyCycle)
unfolding at copies locale
entered = refl

-- the other categories of two locales that copy each other are no cycle
crosswise : copy_fault (locale (codes "a") (copies Numeric 2 (codes "b") ∷ numeric 5 [] ∷ []) ∷ locale (codes "b") (numeric 9 (codes ",") ∷ copies Time 12 (codes "C") ∷ []) ∷ []) ≡ None
unfolding at copies numeric locale
crosswise = refl

abbrev chain : List Source
chain =
    locale (codes "a") (copies Numeric 2 (codes "b") ∷ []) ∷ locale (codes "b") (copies Numeric 9 (codes "c") ∷ []) ∷
    locale (codes "c") (copies Numeric 16 (codes "d") ∷ []) ∷ locale (codes "d") (numeric 23 (codes ",") ∷ []) ∷ []

-- a chain that needs as many steps as it has copies
chain-ends : copy_fault chain ≡ None
unfolding at copies numeric locale
chain-ends = refl

end_of-chain : end_of chain Numeric 1 ∷ end_of chain Numeric 3 ∷ end_of chain Numeric 4 ∷ end_of chain Time 1 ∷ [] ≡ 4 ∷ 4 ∷ 4 ∷ 0 ∷ []
unfolding at copies numeric locale
end_of-chain = refl

-- C and POSIX are the POSIX locale
of_posix : copy_fault (locale (codes "a") (copies Numeric 2 (codes "C") ∷ copies Time 5 (codes "POSIX") ∷ []) ∷ []) ≡ None
unfolding at copies locale
of_posix = refl

-- a later version copies a locale, also one of its own name
own_name : end_of (version (codes "k") (codes "a") (copies Numeric 2 (codes "a") ∷ []) ∷ locale (codes "a") (numeric 9 (codes ",") ∷ []) ∷ []) Numeric 1 ≡ 2
unfolding at copies numeric locale version
own_name = refl

-- no copy takes a later version
of_later : copy_fault (locale (codes "a") (copies Numeric 2 (codes "b") ∷ []) ∷ version (codes "k") (codes "b") (numeric 9 (codes ",") ∷ []) ∷ []) ≡ Some (at 3 6, CopyMissing)
unfolding at copies numeric locale version
of_later = refl

-- ---- categories of a source

available-two : available (locale (codes "a") (numeric 2 (codes ",") ∷ copies Time 5 (codes "C") ∷ []) ∷ []) 1 ≡ 10
unfolding at copies numeric locale
available-two = refl
