-- The names of two libraries as those of one.
use Rattle.std.proofs.Common.{◌≡◌, ℕ, zero, suc, ◌+◌, ◌<◌, ◌≤◌, true, false, cond, List, [], ◌∷◌, ◌++◌, length, drop, Option, Some, None, unwrap_or, refl, sym, ◌∙◌, ap, subst, arith, is_some}
use Rattle.std.specs.Prelude.{option_map, IfSome, slice_get}
use Rattle.std.specs.Option.{option_or}
use Rattle.std.specs.List.{All, AllByRecursion}
use Rattle.std.specs.Str.{bytes_eq}
use Rattle.std.proofs.lemmas.List.Elements.{All-from_recursion, recursion_from_All}
use Rattle.std.proofs.lemmas.Slice.Eq.{bytes_eq-Decides}
use Rattle.lc_base.specs.Tables.{first_named}
use Rattle.lc_base.specs.Named.{with_named}
use Rattle.charset.specs.Portable.{Name}
use Rattle.category_store.specs.Locale.{Locale, posix_locale, locale_among}
use Rattle.category_store.specs.LibraryData.{LibraryData}
use Rattle.category_store.proofs.Installable.{with_either, found_as}
use Rattle.category_store.specs.Joined.{numbered_after, with_others, moved, later_else, entry_at, joined, KeepsNumbers, StandsBehind, NamesLater, InstallsLater, NativeLater, number_among, names_of_both}
use Rattle.category_store.specs.declared.names.Names.{Names}
use Rattle.category_store.specs.Within.{AreWithin, IsWithin}

-- ---- entries by their places

pub drop_entry : (es : List (Name × ℕ)) (i : ℕ) → i < length es → drop i es ≡ entry_at es i ∷ drop (i + 1) es
drop_entry [] i h = absurd (omega (arith, h))
drop_entry (e ∷ es) zero h = refl
drop_entry (e ∷ es) (suc i) h =
    let more : suc i + 1 ≡ suc (i + 1) = omega arith in
    drop_entry es i (omega (arith, h)) ∙ ap (λ (n : ℕ). entry_at es i ∷ drop n (e ∷ es)) (sym more)

pub drop_all : (es : List (Name × ℕ)) (i : ℕ) → length es ≤ i → drop i es ≡ []
drop_all [] zero h = refl
drop_all [] (suc i) h = refl
drop_all (e ∷ es) zero h = absurd (omega (arith, h))
drop_all (e ∷ es) (suc i) h = drop_all es i (omega (arith, h))

entry_within : (P : Name × ℕ → Type 0) (es : List (Name × ℕ)) (i : ℕ) → AllByRecursion P es → i < length es → P (entry_at es i)
entry_within P [] i all h = absurd (omega (arith, h))
entry_within P (e ∷ es) zero all h = all.0
entry_within P (e ∷ es) (suc i) all h = entry_within P es i all.1 (omega (arith, h))

-- the number of an entry is as small as those of all
pub small_entry : (most : ℕ) (es : List (Name × ℕ)) (i : ℕ) → All (λ (e : Name × ℕ). e.1 < most) es → i < length es → (entry_at es i).1 < most
small_entry most es i all h = entry_within (λ (e : Name × ℕ). e.1 < most) es i (recursion_from_All _ es all) h

-- ---- one name after another

-- one name more
pub numbered_more : (named es : List (Name × ℕ)) (i : ℕ) → i < length es → numbered_after named (drop i es) ≡ numbered_after (with_named named (entry_at es i).0 (length named + 1)) (drop (i + 1) es)
numbered_more named es i h = ap (numbered_after named) (drop_entry es i h)

pub others_more : (count : ℕ) (named es : List (Name × ℕ)) (i : ℕ) → i < length es → with_others named (moved count (drop i es)) ≡ with_others (with_named named (entry_at es i).0 (count + (entry_at es i).1)) (moved count (drop (i + 1) es))
others_more count named es i h = ap (λ (ds : List (Name × ℕ)). with_others named (moved count ds)) (drop_entry es i h)

pub moved_none : (es : List (Name × ℕ)) → moved 0 es ≡ es
moved_none [] = refl
moved_none (e ∷ es) =
    let none : 0 + e.1 ≡ e.1 = omega arith in
    ap (λ (n : ℕ). (e.0, n) ∷ moved 0 es) none ∙ ap (λ (rest : List (Name × ℕ)). (e.0, e.1) ∷ rest) (moved_none es)

-- ---- numbers stay within those of the locales

one_more : (P : Name × ℕ → Type 0) (named : List (Name × ℕ)) (e : Name × ℕ) → P e → AllByRecursion P named → AllByRecursion P (named ++ (e.0, e.1) ∷ [])
one_more P [] e h all = (h, tt)
one_more P (x ∷ xs) e h all = (all.0, one_more P xs e h all.1)

others_all : (P : Name × ℕ → Type 0) (named es : List (Name × ℕ)) → AllByRecursion P named → AllByRecursion P es → AllByRecursion P (with_others named es)
others_all P named [] all more = all
others_all P named (e ∷ es) all more =
    others_all P (with_named named e.0 e.1) es (with_either (AllByRecursion P) named e.0 e.1 all (one_more P named e more.0 all)) more.1

abbrev Within : ℕ → Name × ℕ → Type 0
Within count e = (1 ≤ e.1) × (e.1 ≤ count)

moved_within : (count more : ℕ) (es : List (Name × ℕ)) → AllByRecursion (Within more) es → AllByRecursion (Within (count + more)) (moved count es)
moved_within count more [] all = tt
moved_within count more (e ∷ es) all = ((let least = all.0.0 in omega (arith, least), let most = all.0.1 in omega (arith, most)), moved_within count more es all.1)

more_within : (count more : ℕ) (es : List (Name × ℕ)) → AllByRecursion (Within count) es → AllByRecursion (Within (count + more)) es
more_within count more [] all = tt
more_within count more (e ∷ es) all = ((all.0.0, let most = all.0.1 in omega (arith, most)), more_within count more es all.1)

-- so they do where two libraries are joined
pub joined_within : (count more : ℕ) (earlier later : List (Name × ℕ)) → AreWithin count earlier → AreWithin more later → AreWithin (count + more) (later_else count later earlier)
joined_within count more earlier later h k =
    All-from_recursion _ (later_else count later earlier)
    (others_all (Within (count + more)) (with_others [] (moved count later)) earlier
    (others_all (Within (count + more)) [] (moved count later) tt (moved_within count more later (recursion_from_All _ later k)))
    (more_within count more earlier (recursion_from_All _ earlier h)))

-- the names of both have numbers of the locales of both
pub joined_sound : (count more : ℕ) (earlier later n : Names) → IsWithin count earlier → IsWithin more later → length n.names ≤ length earlier.names + length later.names
    → n.first ≡ later_else count later.first earlier.first → n.keys ≡ later_else count later.keys earlier.keys → IsWithin (count + more) n
joined_sound count more earlier later n h k few first keys =
    let a = h.names in
    let b = k.names in
    record {
      names = omega (arith, few, a, b);
      first = subst (AreWithin (count + more)) (sym first) (joined_within count more earlier.first later.first h.first k.first);
      keys = subst (AreWithin (count + more)) (sym keys) (joined_within count more earlier.keys later.keys h.keys k.keys);
    }

small_recursion : (count most : ℕ) (es : List (Name × ℕ)) → count < most → AllByRecursion (Within count) es → AllByRecursion (λ (e : Name × ℕ). e.1 < most) es
small_recursion count most [] h all = tt
small_recursion count most (e ∷ es) h all = ((let up = all.0.1 in omega (arith, up, h)), small_recursion count most es h all.1)

pub small_within : (count most : ℕ) (es : List (Name × ℕ)) → count < most → AreWithin count es → All (λ (e : Name × ℕ). e.1 < most) es
small_within count most es h all = All-from_recursion _ es (small_recursion count most es h (recursion_from_All _ es all))

-- ---- what names mean

or_none : {A : Type 0} (o : Option A) → o ≡ option_or o None
or_none None = refl
or_none (Some x) = refl

or_some : {A : Type 0} (o p : Option A) → is_some o ≡ true → o ≡ option_or o p
or_some None p there = absurd (cc there)
or_some (Some x) p there = refl

or_or : {A : Type 0} (o p q : Option A) → option_or (option_or o p) q ≡ option_or o (option_or p q)
or_or None p q = refl
or_or (Some x) p q = refl

-- what a name that is there already means
kept_meaning : (named : List (Name × ℕ)) (other : Name) (n : ℕ) (name : Name) → is_some (first_named named other) ≡ true → first_named named name ≡ option_or (first_named named name) (first_named ((other, n) ∷ []) name)
kept_meaning named other n name there =
    (elim (bytes_eq other name) as (λ b. bytes_eq other name ≡ b → first_named named name ≡ option_or (first_named named name) (cond b (Some n) None)) [
      | true ↦ λ same. or_some (first_named named name) (Some n) (subst (λ (x : Name). is_some (first_named named x) ≡ true) ((bytes_eq-Decides other name).0 same) there)
      | false ↦ λ other_one. or_none (first_named named name)
    ]) refl

-- what a name behind the others means
last_meaning : (named : List (Name × ℕ)) (other : Name) (n : ℕ) (name : Name) → first_named (named ++ (other, n) ∷ []) name ≡ option_or (first_named named name) (first_named ((other, n) ∷ []) name)
last_meaning [] other n name = refl
last_meaning (e ∷ es) other n name =
    elim (bytes_eq e.0 name) as (λ b. cond b (Some e.1) (first_named (es ++ (other, n) ∷ []) name) ≡ option_or (cond b (Some e.1) (first_named es name)) (first_named ((other, n) ∷ []) name)) [
      | true ↦ refl
      | false ↦ last_meaning es other n name
    ]

-- what one more name means
with_meaning : (named : List (Name × ℕ)) (other : Name) (n : ℕ) (name : Name) → first_named (with_named named other n) name ≡ option_or (first_named named name) (first_named ((other, n) ∷ []) name)
with_meaning named other n name =
    (elim (is_some (first_named named other)) as (λ b. is_some (first_named named other) ≡ b → first_named (cond b named (named ++ (other, n) ∷ [])) name ≡ option_or (first_named named name) (first_named ((other, n) ∷ []) name)) [
      | true ↦ λ there. kept_meaning named other n name there
      | false ↦ λ gone. last_meaning named other n name
    ]) refl

one_and_rest : (e : Name × ℕ) (es : List (Name × ℕ)) (name : Name) → option_or (first_named ((e.0, e.1) ∷ []) name) (first_named es name) ≡ first_named (e ∷ es) name
one_and_rest e es name =
    elim (bytes_eq e.0 name) as (λ b. option_or (cond b (Some e.1) None) (first_named es name) ≡ cond b (Some e.1) (first_named es name)) [ true ↦ refl | false ↦ refl ]

others_meaning : (named es : List (Name × ℕ)) (name : Name) → first_named (with_others named es) name ≡ option_or (first_named named name) (first_named es name)
others_meaning named [] name = or_none (first_named named name)
others_meaning named (e ∷ es) name =
    others_meaning (with_named named e.0 e.1) es name
    ∙ (ap (λ (m : Option ℕ). option_or m (first_named es name)) (with_meaning named e.0 e.1 name)
    ∙ (or_or (first_named named name) (first_named ((e.0, e.1) ∷ []) name) (first_named es name)
    ∙ ap (option_or (first_named named name)) (one_and_rest e es name)))

moved_meaning : (count : ℕ) (es : List (Name × ℕ)) (name : Name) → first_named (moved count es) name ≡ option_map (λ n. count + n) (first_named es name)
moved_meaning count [] name = refl
moved_meaning count (e ∷ es) name =
    elim (bytes_eq e.0 name) as (λ b. cond b (Some (count + e.1)) (first_named (moved count es) name) ≡ option_map (λ n. count + n) (cond b (Some e.1) (first_named es name))) [
      | true ↦ refl
      | false ↦ moved_meaning count es name
    ]

-- a name has the later number, behind the earlier locales, or else the earlier one
later_else_meaning : (count : ℕ) (later earlier : List (Name × ℕ)) (name : Name) → first_named (later_else count later earlier) name ≡ option_or (option_map (λ n. count + n) (first_named later name)) (first_named earlier name)
later_else_meaning count later earlier name =
    others_meaning (with_others [] (moved count later)) earlier name
    ∙ ap (λ (m : Option ℕ). option_or m (first_named earlier name)) (others_meaning [] (moved count later) name ∙ moved_meaning count later name)

-- ---- locales

get_first : (xs ys : List Locale) (k : ℕ) → k < length xs → slice_get (xs ++ ys) k ≡ slice_get xs k
get_first [] ys k h = absurd (omega (arith, h))
get_first (x ∷ xs) ys zero h = refl
get_first (x ∷ xs) ys (suc k) h = get_first xs ys k (omega (arith, h))

get_behind : (xs ys : List Locale) (j k : ℕ) → j ≡ length xs + k → slice_get (xs ++ ys) j ≡ slice_get ys k
get_behind [] ys j k e = let same : j ≡ k = omega (arith, e) in ap (slice_get ys) same
get_behind (x ∷ xs) ys zero k e = absurd (omega (arith, e))
get_behind (x ∷ xs) ys (suc j) k e = get_behind xs ys j k (omega (arith, e))

first_locale : (xs ys : List Locale) (n : ℕ) → n ≤ length xs → locale_among (xs ++ ys) n ≡ locale_among xs n
first_locale xs ys zero h = refl
first_locale xs ys (suc k) h = ap (λ (o : Option Locale). unwrap_or o posix_locale) (get_first xs ys k (omega (arith, h)))

locale_behind : (xs ys : List Locale) (n m : ℕ) → 1 ≤ n → m ≡ length xs + n → locale_among (xs ++ ys) m ≡ locale_among ys n
locale_behind xs ys zero m h e = absurd (omega (arith, h))
locale_behind xs ys (suc k) zero h e = absurd (omega (arith, e))
locale_behind xs ys (suc k) (suc j) h e = ap (λ (o : Option Locale). unwrap_or o posix_locale) (get_behind xs ys j k (omega (arith, e)))

pub keeps_numbers : (earlier later : LibraryData) → KeepsNumbers earlier (joined earlier later)
keeps_numbers earlier later n h = first_locale earlier.locales later.locales n h

pub stands_behind : (earlier later : LibraryData) → StandsBehind (length earlier.locales) later (joined earlier later)
stands_behind earlier later n h = locale_behind earlier.locales later.locales n (length earlier.locales + n) h refl

meant : (xs ys : List Locale) (o p : Option ℕ) → IfSome o (λ n. (1 ≤ n) × (n ≤ length ys)) → IfSome p (λ n. (1 ≤ n) × (n ≤ length xs))
    → option_map (locale_among (xs ++ ys)) (option_or (option_map (λ n. length xs + n) o) p) ≡ option_or (option_map (locale_among ys) o) (option_map (locale_among xs) p)
meant xs ys None None h k = refl
meant xs ys None (Some m) h k = ap Some (first_locale xs ys m k.1)
meant xs ys (Some n) p h k = ap Some (locale_behind xs ys n (length xs + n) h.0 refl)

-- names or keys with numbers of locales mean the later ones, or else the earlier ones
later_means : (xs ys : List Locale) (earlier later : List (Name × ℕ)) (name : Name) → AreWithin (length xs) earlier → AreWithin (length ys) later
    → option_map (locale_among (xs ++ ys)) (first_named (later_else (length xs) later earlier) name) ≡ option_or (option_map (locale_among ys) (first_named later name)) (option_map (locale_among xs) (first_named earlier name))
later_means xs ys earlier later name h k =
    ap (option_map (locale_among (xs ++ ys))) (later_else_meaning (length xs) later earlier name)
    ∙ meant xs ys (first_named later name) (first_named earlier name)
    (found_as (λ (n : ℕ). (1 ≤ n) × (n ≤ length ys)) later name (recursion_from_All _ later k))
    (found_as (λ (n : ℕ). (1 ≤ n) × (n ≤ length xs)) earlier name (recursion_from_All _ earlier h))

pub names_later : (earlier later : LibraryData) → AreWithin (length earlier.locales) earlier.first → AreWithin (length later.locales) later.first → NamesLater earlier later (joined earlier later)
names_later earlier later h k name = later_means earlier.locales later.locales earlier.first later.first name h k

pub installs_later : (earlier later : LibraryData) → AreWithin (length earlier.locales) earlier.keys → AreWithin (length later.locales) later.keys → InstallsLater earlier later (joined earlier later)
installs_later earlier later h k key = later_means earlier.locales later.locales earlier.keys later.keys key h k

-- ---- the native locale

native_is : (earlier later : LibraryData) (first second : Option ℕ) → NativeLater (record earlier { native = first }) (record later { native = second }) (joined (record earlier { native = first }) (record later { native = second }))
native_is earlier later first None = (λ n e. absurd cc, λ e. refl)
native_is earlier later first (Some m) = (λ n e. let same : m ≡ n = cc in ap (λ (k : ℕ). Some (number_among (names_of_both earlier.names later.names) later.names k)) same, λ e. absurd cc)

pub native_later : (earlier later : LibraryData) → NativeLater earlier later (joined earlier later)
native_later earlier later = native_is earlier later earlier.native later.native
