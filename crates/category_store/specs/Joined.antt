-- Two libraries as one: the locales of the later behind those of the earlier, and what the names then mean (our own).
use Rattle.std.specs.Prelude.{◌≡◌, ℕ, zero, suc, ◌+◌, ◌≤◌, List, [], ◌∷◌, ◌++◌, length, map, slice_get, Option, Some, None, unwrap_or, option_map}
use Rattle.std.specs.Option.{option_or}
use Rattle.lc_base.specs.Tables.{first_named}
use Rattle.lc_base.specs.Named.{with_named}
use Rattle.charset.specs.Portable.{Name}
use Rattle.category_store.specs.Locale.{Locale}
use Rattle.category_store.specs.LibraryData.{LibraryData}
use Rattle.category_store.specs.Library.{locale_at}

-- ---- names

-- names and behind them the new ones among others, each new one with one more than the last
abbrev pub numbered_after : List (Name × ℕ) → List (Name × ℕ) → List (Name × ℕ)
numbered_after named [] = named
numbered_after named (e ∷ es) = numbered_after (with_named named e.0 (length named + 1)) es

-- the names of both, in one numbering
abbrev pub names_of_both : List (Name × ℕ) → List (Name × ℕ) → List (Name × ℕ)
names_of_both earlier later = numbered_after (numbered_after [] earlier) later

-- names with what they mean, and behind them others: a name that is there keeps what it means
abbrev pub with_others : List (Name × ℕ) → List (Name × ℕ) → List (Name × ℕ)
with_others named [] = named
with_others named (e ∷ es) = with_others (with_named named e.0 e.1) es

-- names with the numbers of locales that stand behind so many others
abbrev pub moved : ℕ → List (Name × ℕ) → List (Name × ℕ)
moved count named = map (λ (e : Name × ℕ). (e.0, count + e.1)) named

-- names whose meaning is the later one's, whose locales stand behind so many others, and else the earlier one's
abbrev pub later_else : ℕ → List (Name × ℕ) → List (Name × ℕ) → List (Name × ℕ)
later_else count later earlier = with_others (with_others [] (moved count later)) earlier

-- the entry with a place, from 0
abbrev pub entry_at : List (Name × ℕ) → ℕ → Name × ℕ
entry_at named i = unwrap_or (slice_get named i) ([], 0)

-- the number that a name with this number has among other names; 0 is the POSIX locale's
abbrev pub number_among : List (Name × ℕ) → List (Name × ℕ) → ℕ → ℕ
number_among names own zero = 0
number_among names own (suc k) = unwrap_or (first_named names (entry_at own k).0) 0

-- the number of the native locale among the names of both: the later one's, if it names one, and else the earlier one's
abbrev pub native_of_both : List (Name × ℕ) → (earlier : List (Name × ℕ)) → Option ℕ → (later : List (Name × ℕ)) → Option ℕ → Option ℕ
native_of_both names earlier first later second = option_or (option_map (number_among names later) second) (option_map (number_among names earlier) first)

-- ---- libraries

-- a library, and behind it another, whose meaning of a name of both holds
abbrev pub joined : LibraryData → LibraryData → LibraryData
joined earlier later = record {
  locales = earlier.locales ++ later.locales;
  names = names_of_both earlier.names later.names;
  first = later_else (length earlier.locales) later.first earlier.first;
  keys = later_else (length earlier.locales) later.keys earlier.keys;
  native = native_of_both (names_of_both earlier.names later.names) earlier.names earlier.native later.names later.native;
}

-- ---- laws

-- the locale that a name has at first
abbrev pub locale_named : LibraryData → Name → Option Locale
locale_named c name = option_map (locale_at c) (first_named c.first name)

-- the version that a key installs
abbrev pub version_keyed : LibraryData → Name → Option Locale
version_keyed c key = option_map (locale_at c) (first_named c.keys key)

-- the locales of the earlier library keep their numbers
abbrev pub KeepsNumbers : LibraryData → LibraryData → Type 0
KeepsNumbers earlier c = (n : ℕ) → n ≤ length earlier.locales → locale_at c n ≡ locale_at earlier n

-- the locales of the later library stand behind so many others
abbrev pub StandsBehind : ℕ → LibraryData → LibraryData → Type 0
StandsBehind count later c = (n : ℕ) → 1 ≤ n → locale_at c (count + n) ≡ locale_at later n

-- the native locale is the later library's, whichever it names, the POSIX locale too; where it names none, it is the earlier
-- library's
abbrev pub NativeLater : LibraryData → LibraryData → LibraryData → Type 0
NativeLater earlier later c =
    ((n : ℕ) → later.native ≡ Some n → c.native ≡ Some (number_among c.names later.names n))
    × (later.native ≡ None → c.native ≡ option_map (number_among c.names earlier.names) earlier.native)

-- a name means what it means in the later library, and else what it means in the earlier one
abbrev pub NamesLater : LibraryData → LibraryData → LibraryData → Type 0
NamesLater earlier later c = (name : Name) → locale_named c name ≡ option_or (locale_named later name) (locale_named earlier name)

-- so does a key
abbrev pub InstallsLater : LibraryData → LibraryData → LibraryData → Type 0
InstallsLater earlier later c = (key : Name) → version_keyed c key ≡ option_or (version_keyed later key) (version_keyed earlier key)
