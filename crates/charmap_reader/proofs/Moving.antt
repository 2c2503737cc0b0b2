-- Portable names with another encoding than their own.
use Rattle.std.proofs.Math.Bool.{or-false}
use Rattle.std.proofs.Common.{◌≡◌, ℕ, zero, suc, ◌+◌, ◌<◌, ◌≤◌, Bool, true, false, not, cond, eqb, List, [], ◌∷◌, ◌++◌, length, map, Option, Some, None, refl, sym, ap, ◌∙◌, inl, inr, arith}
use Rattle.std.specs.Option.{option_or}
use Rattle.std.specs.List.{list_all, list_any, range_with_len}
use Rattle.std.specs.Char.{is_ascii_digit}
use Rattle.std.specs.Str.{bytes_eq}
use Rattle.std.proofs.lemmas.Bool.{cases_eq, eq-eqb, false_from_ne_true}
use Rattle.std.proofs.lemmas.Bool.Decides.{nat_tests}
use Rattle.std.proofs.lemmas.Grind.{common_steps}
use Rattle.std.proofs.lemmas.Slice.Eq.{bytes_eq-Decides}
use Rattle.lc_base.specs.Tables.{first_named}
use Rattle.charset.specs.Portable.{Name, letter_code, portable_names, portable_code}
use Rattle.charset.specs.CodedSet.{big_endian}
use Rattle.charset.specs.Numbering.{stem, digits, number, name_after}
use Rattle.charmap_reader.specs.Subject.{Subject, more_names, more_between, name_at}
use Rattle.std.specs.Int.{bytes_high_first}
use Rattle.charset.specs.Entries.{Entry}
use Rattle.charmap_reader.specs.Charmap.{moved_from, is_moved, entries}
use Rattle.charset.proofs.Padding.{padded_ends}
use Rattle.charset.proofs.BlockLemmas.{name_after_first}

-- whether a name ends in a digit
abbrev ends_in_digit : Name → Bool
ends_in_digit [] = false
ends_in_digit (c ∷ []) = is_ascii_digit c
ends_in_digit (c ∷ d ∷ cs) = ends_in_digit (d ∷ cs)

-- the last byte tells
ends-push : (front : Name) (c : ℕ) → ends_in_digit (front ++ c ∷ []) ≡ is_ascii_digit c
ends-push [] c = refl
ends-push (a ∷ []) c = refl
ends-push (a ∷ b ∷ front) c = ends-push (b ∷ front) c

-- no letter does
letter_code-digit : (name : Name) → ends_in_digit name ≡ true → letter_code name ≡ None
letter_code-digit [] h = refl
letter_code-digit (c ∷ []) h = grind (arith, nat_tests)
letter_code-digit (c ∷ d ∷ cs) h = refl

-- a list whose names fail a test has no name that passes it
first_named-none : (p : Name → Bool) (es : List (Name × ℕ)) (name : Name) → list_all (λ (e : Name × ℕ). not (p e.0)) es ≡ true → p name ≡ true → first_named es name ≡ None
first_named-none p [] name all h = refl
first_named-none p (e ∷ es) name all h =
    let P : Bool → Type 0 = λ b. bytes_eq e.0 name ≡ b → cond b (Some e.1) (first_named es name) ≡ None in
    (
    elim (bytes_eq e.0 name) as P [
      | true ↦ λ own.
          let same : e.0 ≡ name = (bytes_eq-Decides e.0 name).0 own in
          let passes : p e.0 ≡ true = ap p same ∙ h in
          absurd (grind (arith, common_steps))
      | false ↦ λ own. first_named-none p es name (grind (arith, common_steps)) h
    ]
    )
    refl

-- no portable name ends in a digit
pub portable_code-digit : (name : Name) → ends_in_digit name ≡ true → portable_code name ≡ None
unfolding portable_code
portable_code-digit name h = ap (λ (o : Option ℕ). option_or o (first_named portable_names name)) (letter_code-digit name h) ∙ first_named-none ends_in_digit portable_names name refl h

-- the last byte of two parts tells
append-digit : (front more : Name) (c : ℕ) → ends_in_digit (front ++ (more ++ c ∷ [])) ≡ is_ascii_digit c
append-digit [] more c = ends-push more c
append-digit (a ∷ []) [] c = refl
append-digit (a ∷ []) (b ∷ more) c = append-digit [] (b ∷ more) c
append-digit (a ∷ b ∷ front) more c = append-digit (b ∷ front) more c

-- a name of a range ends in a digit
name_after-digit : (first : Name) (k : ℕ) → 0 < length (digits first) → ends_in_digit (name_after first k) ≡ true
name_after-digit first k some =
    let written = padded_ends (length (digits first)) (number first + k) some in
    ap (λ (ds : List ℕ). ends_in_digit (stem first ++ ds)) written.2 ∙ append-digit (stem first) written.0 written.1 ∙ written.3

-- an entry without a portable name is not moved
not_moved : (e : Entry) → portable_code e.0 ≡ None → is_moved e ≡ false
not_moved e h = ap (λ (o : Option ℕ). moved_from o e.1) h

-- where no entry is moved, none of a range of them is
none_moved : (f : ℕ → Entry) → ((k : ℕ) → is_moved (f k) ≡ false) → (start n : ℕ) → list_any is_moved (map f (range_with_len start n)) ≡ false
none_moved f each start zero = refl
none_moved f each start (suc n) = rw (each start) (none_moved f each (start + 1) n)

-- a name of a range
pub at_range : (s : Subject) (last : List ℕ) (k : ℕ) → s.last ≡ Some last → name_at s k ≡ name_after s.first k
at_range s last k h = rw h refl

-- the ends of a range have digits
between_digits : (first last : Name) (more : ℕ) → more_between first last ≡ Some more → 0 < length (digits first)
between_digits first last more h =
    elim (cases_eq (length (digits first)) 0) [
      | inl none ↦ let e : more_between first last ≡ None = rw (eq-eqb (length (digits first)) 0 none) refl in absurd (cc)
      | inr some ↦ omega arith
    ]

-- the first name of a range ends in digits
pub range_digits : (s : Subject) (last : Name) (more : ℕ) → s.last ≡ Some last → more_names s ≡ Some more → 0 < length (digits s.first)
range_digits s last more is h = let between : more_between s.first last ≡ Some more = rw is at h in between_digits s.first last more between

-- no name of a range is moved
pub range_not_moved : (s : Subject) (last code : List ℕ) (more : ℕ) → s.last ≡ Some last → 0 < length (digits s.first) → list_any is_moved (entries s code more) ≡ false
range_not_moved s last code more is some =
    none_moved (λ k. (name_at s k, bytes_high_first (length code) (big_endian code + k)))
    (λ k. not_moved (name_at s k, bytes_high_first (length code) (big_endian code + k)) (ap portable_code (at_range s last k is) ∙ portable_code-digit (name_after s.first k) (name_after-digit s.first k some)))
    0 (more + 1)

-- one name has one entry
pub single_more : (s : Subject) (more : ℕ) → s.last ≡ None → more_names s ≡ Some more → more ≡ 0
single_more s more is h = let none : Some 0 ≡ Some more = rw is at h in cc

-- one name is at the place 0
pub single_name : (s : Subject) → s.last ≡ None → name_at s 0 ≡ s.first
single_name s is = rw is refl

-- its one entry tells whether it is moved
pub single_moved : (s : Subject) (code : List ℕ) (more : ℕ) → s.last ≡ None → more_names s ≡ Some more → bytes_high_first (length code) (big_endian code) ≡ code → list_any is_moved (entries s code more) ≡ is_moved (s.first, code)
single_moved s code more is h back =
    let none = single_more s more is h in
    let first : big_endian code + 0 ≡ big_endian code = omega arith in
    let same : bytes_high_first (length code) (big_endian code + 0) ≡ code = ap (bytes_high_first (length code)) first ∙ back in
    let entry : (name_at s 0, bytes_high_first (length code) (big_endian code + 0)) ≡ (s.first, code) = ap {B = Entry} (λ (n : Name). (n, bytes_high_first (length code) (big_endian code + 0))) (single_name s is) ∙ ap {B = Entry} (λ (bs : List ℕ). (s.first, bs)) same in
    ap (λ (m : ℕ). list_any is_moved (entries s code m)) none ∙ or-false (is_moved (name_at s 0, bytes_high_first (length code) (big_endian code + 0))) ∙ ap is_moved entry

-- a portable name is moved where its bytes are not just its code
moved_is : (e : Entry) (own : ℕ) → portable_code e.0 ≡ Some own → is_moved e ≡ not (bytes_eq e.1 (own ∷ []))
moved_is e own h = ap (λ (o : Option ℕ). moved_from o e.1) h

-- several bytes are no code
moved_long : (code : List ℕ) (own : ℕ) → 1 < length code → bytes_eq code (own ∷ []) ≡ false
moved_long [] own h = absurd (omega arith)
moved_long (a ∷ []) own h = absurd (omega arith)
moved_long (a ∷ b ∷ code) own h = false_from_ne_true _ (λ e. let same = (bytes_eq-Decides (a ∷ b ∷ code) (own ∷ [])).0 e in absurd (omega (arith, ap length same)))

-- one byte is a code where it has its value
moved_one : (code : List ℕ) (own : ℕ) → length code ≡ 1 → bytes_eq code (own ∷ []) ≡ eqb (big_endian code) own
moved_one [] own h = absurd (omega arith)
moved_one (a ∷ []) own h =
    let value : big_endian (a ∷ []) ≡ a = omega arith in
    rw value (grind (arith, nat_tests, common_steps))
moved_one (a ∷ b ∷ code) own h = absurd (omega arith)

-- whether the one name of a subject is moved, by its bytes
pub single_long : (s : Subject) (code : List ℕ) (more own : ℕ) → s.last ≡ None → more_names s ≡ Some more → bytes_high_first (length code) (big_endian code) ≡ code → portable_code s.first ≡ Some own → 1 < length code
    → list_any is_moved (entries s code more) ≡ true
single_long s code more own is h back named long = single_moved s code more is h back ∙ moved_is (s.first, code) own named ∙ ap not (moved_long code own long)

-- the same for one byte
pub single_one : (s : Subject) (code : List ℕ) (more own : ℕ) → s.last ≡ None → more_names s ≡ Some more → bytes_high_first (length code) (big_endian code) ≡ code → portable_code s.first ≡ Some own → length code ≡ 1
    → list_any is_moved (entries s code more) ≡ not (eqb (big_endian code) own)
single_one s code more own is h back named one = single_moved s code more is h back ∙ moved_is (s.first, code) own named ∙ ap not (moved_one code own one)

-- the names of a subject are those of a range from its first name on
pub name_at_after : (s : Subject) (more k : ℕ) → more_names s ≡ Some more → k ≤ more → name_at s k ≡ name_after s.first k
name_at_after s more k is within =
    let P : Option Name → Type 0 = λ o. s.last ≡ o → name_at s k ≡ name_after s.first k in
    (
    elim (s.last) as P [
      | None ↦ λ own.
          let none : more ≡ 0 = single_more s more own is in
          let place : k ≡ 0 = omega arith in
          ap (name_at s) place ∙ single_name s own ∙ sym (name_after_first s.first) ∙ ap (name_after s.first) (sym place)
      | Some last ↦ λ own. at_range s last k own
    ]
    )
    refl
