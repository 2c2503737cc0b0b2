-- The names of sources have numbers of their locales.
use Rattle.std.proofs.Common.{◌≡◌, ℕ, ◌+◌, ◌≤◌, true, false, cond, List, [], ◌∷◌, length, Ok, sym, subst, arith}
use Rattle.std.specs.Prelude.{is_none}
use Rattle.std.proofs.lemmas.List.Elements.{All-from_recursion}
use Rattle.charset.specs.Portable.{Name}
use Rattle.lc_base.specs.Named.{with_named}
use Rattle.locale_sources.specs.Sources.{Source}
use Rattle.locale_sources.specs.Copies.{numbered_from, locale_numbers, copy_fault}
use Rattle.category_store.specs.Locale.{Locale}
use Rattle.category_store.specs.Compiled.{locales_of}
use Rattle.category_store.specs.declared.names.Names.{Names}
use Rattle.category_store.specs.Library.{names_after, names_of, keys_of, unless_fault}
use Rattle.category_store.specs.Within.{AreWithin, IsWithin}
use Rattle.category_store.proofs.LibraryLemmas.{with_named-few}
use Rattle.category_store.proofs.Installable.{AreWithin as Within, with_either, within_one_more, keys_within, locales_counted, unless_is}

-- there are no more names than sources
names_few : (named : List (Name × ℕ)) (ss : List Source) → length (names_after named ss) ≤ length named + length ss
names_few named [] = omega arith
names_few named (s ∷ ss) =
    let one = with_named-few named s.name (length named + 1) in
    let rest = names_few (with_named named s.name (length named + 1)) ss in
    omega arith

-- a locale's number is that of its source
numbers_within : (most n : ℕ) (named : List (Name × ℕ)) (ss : List Source) → 1 ≤ n → n + length ss ≤ most + 1 → Within most named → Within most (numbered_from named n ss)
numbers_within most n named [] least le within = within
numbers_within most n named (s ∷ ss) least le within =
    numbers_within most (n + 1) (cond (is_none s.key) (with_named named s.name n) named) ss (omega arith) (omega (arith, le))
    (elim (is_none s.key) as (λ b. Within most (cond b (with_named named s.name n) named)) [
      | true ↦ with_either (Within most) named s.name n within (within_one_more most n s.name named least (omega (arith, le)) within)
      | false ↦ within
    ])

named_within : (sources : List Source) → AreWithin (length sources) (locale_numbers sources)
named_within sources = All-from_recursion _ (locale_numbers sources) (numbers_within (length sources) 1 [] sources (omega arith) (omega arith) tt)

keyed_within : (sources : List Source) → AreWithin (length sources) (keys_of sources)
keyed_within sources = All-from_recursion _ (keys_of sources) (keys_within (length sources) 1 [] sources (omega arith) (omega arith) tt)

sources_within : (sources : List Source) (n : Names) → n.names ≡ names_of sources → n.first ≡ locale_numbers sources → n.keys ≡ keys_of sources → IsWithin (length sources) n
sources_within sources n names first keys =
    let few = names_few [] sources in
    let up : length (names_of sources) ≤ length sources = omega (arith, few) in
    record {
      names = subst (λ (es : List (Name × ℕ)). length es ≤ length sources) (sym names) up;
      first = subst (AreWithin (length sources)) (sym first) (named_within sources);
      keys = subst (AreWithin (length sources)) (sym keys) (keyed_within sources);
    }

-- the names of a library of sources
pub library_within : (sources : List Source) (locales : List Locale) (n : Names) → unless_fault (copy_fault sources) (locales_of sources) ≡ Ok locales
    → n.names ≡ names_of sources → n.first ≡ locale_numbers sources → n.keys ≡ keys_of sources → IsWithin (length locales) n
library_within sources locales n made names first keys =
    subst (λ (count : ℕ). IsWithin count n) (sym (locales_counted sources locales (unless_is (copy_fault sources) (locales_of sources) locales made))) (sources_within sources n names first keys)
