-- The fields of a time, each up to a space.
use Rattle.std.proofs.Common.{◌≡◌, ℕ, ℤ, pos, negsuc, suc, length, drop, ◌^◌, ◌<◌, List, [], ◌∷◌, ◌++◌, Option, Some, None, refl, ap, sym, ◌∙◌, arith, lit<}
use Rattle.std.specs.Prelude.{codes, IfSome}
use Rattle.std.specs.Fmt.{decimal, signed_decimal}
use Rattle.std.specs.Int.{w32}
use Rattle.std.specs.Int.RustNames.{FitsSigned}
use Rattle.std.specs.Int.Signed.{mag}
use Rattle.std.proofs.lemmas.Fmt.{decimal_nonempty}
use Rattle.std.proofs.lemmas.Int.{ints}
use Rattle.std.proofs.lemmas.List.{append_assoc, append_cancel_left}
use Rattle.time_cat.specs.declared.parsed.Parsed.{Parsed}
use Rattle.script_out.specs.declared.output.Said.TheVariants as said
use Rattle.script_out.specs.Output.{space, known_text, year_text, fields_text, fields_behind_year, parsed_text}
use Rattle.output_reader.specs.Reading.{Lacks}
use Rattle.output_reader.proofs.HandleTexts.{no_number}
use Rattle.output_reader.proofs.Lacking.{decimal_lacks}

pub field_lacks : (v : Option ℕ) → IfSome v (λ n. n < 2 ^ 8) → Lacks (known_text v) 32
field_lacks None fits = refl
field_lacks (Some n) fits = decimal_lacks n 32 (omega (arith, fits)) (lit< tt)

pub day_lacks : (v : Option ℕ) → IfSome v (λ n. n < 2 ^ 16) → Lacks (known_text v) 32
day_lacks None fits = refl
day_lacks (Some n) fits = decimal_lacks n 32 (omega (arith, fits)) (lit< tt)

-- a dash says that a field is not known
pub is_absent : (v : Option ℕ) → known_text v ≡ codes "-" → ((n : ℕ) → v ≡ Some n → n < 2 ^ 64) → None ≡ v
is_absent None is small = refl
is_absent (Some n) is small = absurd (no_number n (small n refl) is)

pub no_dash : (v : Option ℕ) → (known_text v ≡ codes "-" → ⊥) → (n : ℕ) × (v ≡ Some n)
no_dash None not = absurd (not refl)
no_dash (Some n) not = (n, refl)

pub year_small : (z : ℤ) → FitsSigned w32 z → mag z < 2 ^ 63
year_small (pos n) fits = omega (arith, ints)
year_small (negsuc n) fits = omega (arith, ints)

signed_lacks : (z : ℤ) → mag z < 2 ^ 63 → Lacks (signed_decimal z) 32
signed_lacks (pos n) small = decimal_lacks n 32 (omega arith) (lit< tt)
signed_lacks (negsuc n) small = decimal_lacks (suc n) 32 (omega arith) (lit< tt)

pub year_lacks : (v : Option ℤ) → IfSome v (λ y. FitsSigned w32 y) → Lacks (year_text v) 32
year_lacks None fits = refl
year_lacks (Some z) fits = signed_lacks z (year_small z fits)

no_dash_alone : (z : ℤ) → mag z < 2 ^ 63 → signed_decimal z ≡ codes "-" → ⊥
no_dash_alone (pos n) small is = no_number n (omega arith) is
no_dash_alone (negsuc n) small is =
    let some : 0 < length (decimal (suc n)) = decimal_nonempty (suc n) (omega arith) in
    let none : decimal (suc n) ≡ [] = ap (λ l. drop 1 l) is in
    let empty : length (decimal (suc n)) ≡ 0 = ap (λ l. length l) none in
    absurd (omega arith)

pub year_absent : (v : Option ℤ) → IfSome v (λ y. FitsSigned w32 y) → year_text v ≡ codes "-" → None ≡ v
year_absent None fits is = refl
year_absent (Some z) fits is = absurd (no_dash_alone z (year_small z fits) is)

pub year_there : (v : Option ℤ) → (year_text v ≡ codes "-" → ⊥) → (z : ℤ) × (v ≡ Some z)
year_there None not = absurd (not refl)
year_there (Some z) not = (z, refl)

-- the fields up to a space each, and the index
abbrev pub fields_and_index : Parsed → ℕ → List ℕ
fields_and_index p at = year_text p.year ++ 32 ∷ (known_text p.mon ++ 32 ∷ (known_text p.mday ++ 32 ∷ (known_text p.hour ++ 32 ∷ (known_text p.min ++ 32 ∷ (known_text p.sec ++ 32 ∷ (known_text p.wday ++ 32 ∷ (known_text p.yday ++ 32 ∷ decimal at)))))))

-- fields, each behind a space, and what follows them
abbrev spread : List (Option ℕ) → List ℕ → List ℕ
spread [] tail = tail
spread (v ∷ vs) tail = 32 ∷ (known_text v ++ spread vs tail)

spread_is : (vs : List (Option ℕ)) (tail : List ℕ) → fields_text vs ++ tail ≡ spread vs tail
spread_is [] tail = refl
spread_is (v ∷ vs) tail = append_assoc (space ++ known_text v) (fields_text vs) tail ∙ ap (λ t. 32 ∷ (known_text v ++ t)) (spread_is vs tail)

regrouped : (p : Parsed) (at : ℕ) → year_text p.year ++ fields_text (fields_behind_year p) ++ space ++ decimal at ≡ fields_and_index p at
regrouped p at =
    append_assoc (year_text p.year ++ fields_text (fields_behind_year p)) space (decimal at)
    ∙ append_assoc (year_text p.year) (fields_text (fields_behind_year p)) (space ++ decimal at)
    ∙ ap (λ t. year_text p.year ++ t) (spread_is (fields_behind_year p) (space ++ decimal at))

pub parsed_parts : (p : Parsed) (at : ℕ) (bytes : List ℕ) → parsed_text p at ≡ codes "parsed " ++ bytes → bytes ≡ fields_and_index p at
parsed_parts p at bytes is = append_cancel_left (codes "parsed ") bytes (year_text p.year ++ fields_text (fields_behind_year p) ++ space ++ decimal at) (sym is) ∙ regrouped p at

pub parsed_same : (p : Parsed) (year : Option ℤ) (mon mday hour min sec wday yday : Option ℕ) (at index : ℕ) → year ≡ p.year → mon ≡ p.mon → mday ≡ p.mday → hour ≡ p.hour → min ≡ p.min → sec ≡ p.sec → wday ≡ p.wday → yday ≡ p.yday → index ≡ at → said.Parsed (record { year = year; mon = mon; mday = mday; hour = hour; min = min; sec = sec; wday = wday; yday = yday }) index ≡ said.Parsed p at
parsed_same p year mon mday hour min sec wday yday at index a b c d e f g h i = rw (a, b, c, d, e, f, g, h, i) refl
