-- What the places of parts and the keys of catalogs keep apart.
use Rattle.std.specs.Prelude.{◌↔◌, nat_lt, nat_le, ◌==◌, not, ◌&&◌, ◌||◌, codes, if◌then◌else◌}
use Rattle.std.specs.List.{list_all, list_any}
use Rattle.std.specs.Str.{bytes_eq}
use Rattle.std.proofs.Common.{◌≡◌, ℕ, ◌+◌, ◌-◌, ◌<◌, ◌≤◌, Bool, true, false, cond, List, [], ◌∷◌, ◌++◌, length, refl, sym, ◌∙◌, ap, subst, arith}
use Rattle.std.proofs.lemmas.Bool.Decides.{nat_tests}
use Rattle.library_parts.specs.declared.part.LibraryPart.{LibraryPart}
use Rattle.library_parts.specs.declared.part.PartKind.{PartKind}
use Rattle.library_parts.specs.declared.part.PartKind.TheVariants.{Charmap, Source, Catalog}
use Rattle.lc_base.specs.BuiltIn.{is_posix_locale}
use Rattle.script_words.specs.Limits.{LOCALE_NAME_LIMIT}
use Rattle.script_words.specs.Names.{is_name_byte, is_formed, is_locale_name, is_part_name}
use Rattle.library_parts.specs.Laws.{LinesAreOwn, HaveOneName, KeysAreOwn}
use Rattle.library_parts.specs.Lines.{line_count}
use Rattle.library_parts.specs.Parts.{catalog_key, is_named, key}
use Rattle.library_parts.specs.Places.{befores, behind_part, found_line, lines_behind}

abbrev pair : ℕ → ℕ → ℕ × ℕ
pair a b = (a, b)

-- ---- places

-- a part stands behind more lines than those before it
befores_rise : (before : ℕ) (p : LibraryPart) → before < behind_part before p
befores_rise before p = omega arith

-- a part behind as many lines or more has no such line
stays : (best : ℕ × ℕ) (n line before : ℕ) (ps : List LibraryPart) → line ≤ before → found_line best n line (befores before ps) ≡ best
stays best n line before [] h = refl
stays best n line before (p ∷ ps) h =
    let no : nat_lt before line ≡ false = grind (arith, nat_tests) in
    let P : Bool → Type 0 = λ t. found_line (cond t (n, line - before) best) (n + 1) line (befores (behind_part before p) ps) ≡ best in
    subst P (sym no) (stays best (n + 1) line (behind_part before p) ps (omega arith))

found_back : (best : ℕ × ℕ) (n before k : ℕ) (ps : List LibraryPart) (p : LibraryPart) (qs : List LibraryPart) → 0 < k → k ≤ line_count p.text + 1
    → found_line best n (lines_behind before ps + k) (befores before (ps ++ p ∷ qs)) ≡ pair (n + length ps) k
found_back best n before k [] p qs some within =
    let yes : nat_lt before (before + k) ≡ true = grind (arith, nat_tests) in
    let own : (before + k) - before ≡ k = omega arith in
    let first : n ≡ n + 0 = omega arith in
    let P : Bool → Type 0 = λ t. found_line (cond t (n, (before + k) - before) best) (n + 1) (before + k) (befores (behind_part before p) qs) ≡ pair (n + 0) k in
    subst P (sym yes) (stays (n, (before + k) - before) (n + 1) (before + k) (behind_part before p) qs (omega arith) ∙ (ap (λ (m : ℕ). pair n m) own ∙ ap (λ (m : ℕ). pair m k) first))
found_back best n before k (x ∷ ps) p qs some within =
    let line : ℕ = lines_behind (behind_part before x) ps + k in
    let count : (n + 1) + length ps ≡ n + length (x ∷ ps) = omega arith in
    found_back (if nat_lt before line then (n, line - before) else best) (n + 1) (behind_part before x) k ps p qs some within ∙ ap (λ (m : ℕ). pair m k) count

pub lines_are_own : LinesAreOwn
lines_are_own ps p qs k some within =
    let line : ℕ = lines_behind 0 ps + k in
    let count : 0 + length ps ≡ length ps = omega arith in
    found_back (0, line) 0 0 k ps p qs some within ∙ ap (λ (m : ℕ). pair m k) count

-- ---- keys

abbrev is_slash : ℕ → Bool
is_slash c = c == 47

key_slash : (name locale : List ℕ) → list_any is_slash (catalog_key name locale) ≡ true
key_slash [] locale = refl
key_slash (c ∷ name) locale = elim (is_slash c) as (λ b. (b || list_any is_slash (catalog_key name locale)) ≡ true) [ true ↦ refl | false ↦ key_slash name locale ]

both_false : (x y : Bool) → (x || y) ≡ false → (x ≡ false) × (y ≡ false)
both_false true y e = absurd cc
both_false false y e = (refl, e)

-- where a name and a locale have no `/`, only they have their key
catalog_key-apart : (name locale other place : List ℕ) → list_any is_slash other ≡ false → list_any is_slash place ≡ false → catalog_key name locale ≡ catalog_key other place → (name ≡ other) × (locale ≡ place)
catalog_key-apart [] locale [] place h k e = (refl, cc)
catalog_key-apart [] locale (c ∷ other) place h k e =
    let same : 47 ≡ c = cc in
    let slash : is_slash c ≡ true = subst (λ (d : ℕ). is_slash d ≡ true) same refl in
    let none = both_false (is_slash c) (list_any is_slash other) h in
    absurd (cc)
catalog_key-apart (c ∷ name) locale [] place h k e =
    let rest : catalog_key name locale ≡ place = cc in
    let slash : list_any is_slash place ≡ true = subst (λ (xs : List ℕ). list_any is_slash xs ≡ true) rest (key_slash name locale) in
    absurd (cc)
catalog_key-apart (c ∷ name) locale (d ∷ other) place h k e =
    let first : c ≡ d = cc in
    let rest : catalog_key name locale ≡ catalog_key other place = cc in
    let none = both_false (is_slash d) (list_any is_slash other) h in
    let more = catalog_key-apart name locale other place none.1 k rest in
    (cc, more.1)

both_true : (x y : Bool) → (x && y) ≡ true → (x ≡ true) × (y ≡ true)
both_true true y e = (refl, e)
both_true false y e = absurd cc

no_slash_byte : (c : ℕ) → is_name_byte c ≡ true → is_slash c ≡ false
no_slash_byte c h = grind (arith, nat_tests)

no_slash_in : (name : List ℕ) → list_all is_name_byte name ≡ true → list_any is_slash name ≡ false
no_slash_in [] h = refl
no_slash_in (c ∷ name) h =
    let parted = both_true (is_name_byte c) (list_all is_name_byte name) h in
    cc (no_slash_byte c parted.0, no_slash_in name parted.1)

formed_apart : (name : List ℕ) → is_formed name ≡ true → list_any is_slash name ≡ false
unfolding is_formed
formed_apart name h = no_slash_in name (both_true (nat_lt 0 (length name) && nat_le (length name) LOCALE_NAME_LIMIT) (list_all is_name_byte name) h).1

locale_apart : (name : List ℕ) → is_locale_name name ≡ true → list_any is_slash name ≡ false
unfolding is_locale_name
locale_apart name h = formed_apart name (both_true (is_formed name) (not (is_posix_locale name)) h).0

place_apart : (name : List ℕ) → is_part_name name ≡ true → list_any is_slash name ≡ false
unfolding is_part_name
place_apart name h = formed_apart name (both_true (is_formed name) (not (bytes_eq name (codes "POSIX"))) h).0

abbrev part : PartKind → List ℕ → List ℕ → List ℕ → LibraryPart
part kind name label text = record { kind = kind; name = name; label = label; text = text }

key_told : (k m : PartKind) (name label text other place words : List ℕ) → k ≡ m → is_named (part k name label text) ≡ true → is_named (part m other place words) ≡ true
    → (key (part k name label text) ≡ key (part m other place words)) ↔ HaveOneName (part k name label text) (part m other place words)
key_told Charmap Charmap name label text other place words same h g = (λ e. (e, λ c. absurd cc), λ one. one.0)
key_told Source Source name label text other place words same h g = (λ e. (e, λ c. absurd cc), λ one. one.0)
key_told Catalog Catalog name label text other place words same h g =
    let formed = both_true (is_locale_name other) (is_part_name place) g in
    (λ e. let apart = catalog_key-apart name label other place (locale_apart other formed.0) (place_apart place formed.1) e in (apart.0, λ c. apart.1), λ one. cc (one.0, one.1 refl))
key_told Charmap Source name label text other place words same h g = absurd cc
key_told Charmap Catalog name label text other place words same h g = absurd cc
key_told Source Charmap name label text other place words same h g = absurd cc
key_told Source Catalog name label text other place words same h g = absurd cc
key_told Catalog Charmap name label text other place words same h g = absurd cc
key_told Catalog Source name label text other place words same h g = absurd cc

pub keys_are_own : KeysAreOwn
keys_are_own p q same h g = key_told p.kind q.kind p.name p.label p.text q.name q.label q.text same h g
