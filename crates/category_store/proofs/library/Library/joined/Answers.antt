use Rattle.std.proofs.Common.{◌∙◌, ℕ, length, ap, subst, sym, arith, length-append}
use Rattle.category_store.specs.Joined.{later_else, KeepsNumbers, StandsBehind, NamesLater, InstallsLater, NativeLater}
use Rattle.category_store.specs.LibraryData.{LibraryData}
use Rattle.category_store.specs.Shelf.{IsNumbered}
use Rattle.category_store.specs.Within.{AreWithin, IsWithin}
use Rattle.category_store.proofs.JoinedLemmas.{joined_sound, keeps_numbers, stands_behind, names_later, installs_later, native_later}
use Rattle.category_store.proofs.JoinedNumbered.{joined_numbered}
use Rattle.category_store.proofs.library.Library.joined.Goals as goal

pub invariant_of-result : goal.invariant_of-result
invariant_of-result c =
    let earlier = c.earlier.inside in
    let later = c.later.inside in
    let names = c.in_ok-names.names in
    let many = ap length c.in_ok-locales.ensures ∙ length-append earlier.locales later.locales in
    subst (λ (n : ℕ). IsWithin n names) (sym many)
    (joined_sound (length earlier.locales) (length later.locales) earlier.names later.names names c.earlier.invariant c.later.invariant c.in_ok-names.ensures.few
    (c.in_ok-names.ensures.first ∙ ap (λ (n : ℕ). later_else n later.names.first earlier.names.first) c.len-count.ensures)
    (c.in_ok-names.ensures.keys ∙ ap (λ (n : ℕ). later_else n later.names.keys earlier.names.keys) c.len-count.ensures))

pub returns-clause-library : goal.returns-clause-library
returns-clause-library c = grind arith

pub returns-clause-kept : goal.returns-clause-kept
returns-clause-kept c = subst (KeepsNumbers c.args.earlier.now) (sym (returns-clause-library c)) (keeps_numbers c.args.earlier.now c.args.later.now)

pub returns-clause-behind : goal.returns-clause-behind
returns-clause-behind c = subst (StandsBehind (length c.args.earlier.now.locales) c.args.later.now) (sym (returns-clause-library c)) (stands_behind c.args.earlier.now c.args.later.now)

pub returns-clause-named : goal.returns-clause-named
returns-clause-named c =
    let first = λ (l : LibraryData). AreWithin (length l.locales) l.first in
    subst (NamesLater c.args.earlier.now c.args.later.now) (sym (returns-clause-library c))
    (names_later c.args.earlier.now c.args.later.now (subst first c.earlier.view_is c.earlier.invariant.first) (subst first c.later.view_is c.later.invariant.first))

pub returns-clause-keyed : goal.returns-clause-keyed
returns-clause-keyed c =
    let keys = λ (l : LibraryData). AreWithin (length l.locales) l.keys in
    subst (InstallsLater c.args.earlier.now c.args.later.now) (sym (returns-clause-library c))
    (installs_later c.args.earlier.now c.args.later.now (subst keys c.earlier.view_is c.earlier.invariant.keys) (subst keys c.later.view_is c.later.invariant.keys))

pub returns-clause-numbered : goal.returns-clause-numbered
returns-clause-numbered c = subst IsNumbered (sym (returns-clause-library c)) (joined_numbered c.args.earlier.now c.args.later.now)

pub returns-clause-native : goal.returns-clause-native
returns-clause-native c = subst (NativeLater c.args.earlier.now c.args.later.now) (sym (returns-clause-library c)) (native_later c.args.earlier.now c.args.later.now)
