-- What calls answer by their arguments: the mask of newlocale, texts of localeconv, amounts and numbers.
use Rattle.std.proofs.Common.{◌≡◌, ℕ, ◌<◌, Bool, List, length, take, map, Some, sym, ap, ◌∙◌}
use Rattle.std.specs.Prelude.{min, slice_get, option_map, if◌then◌else◌}
use Rattle.std.proofs.lemmas.Bool.{lt-ltb}
use Rattle.std.proofs.lemmas.List.{take_min}
use Rattle.std.proofs.lemmas.Option.{slice_get-map}
use Rattle.std.proofs.Math.Nat.{min_comm}
use Rattle.shared_objects.specs.declared.locale.LocaleParts.{LocaleParts}
use Rattle.shared_objects.specs.Shared.{MarkedLibraryData}
use Rattle.shared_objects.specs.Locales.{new_locale}
use Rattle.c_values.specs.declared.answer.LobjAnswer.{LobjAnswer}
use Rattle.c_values.specs.Codes.{BAD_MASK}
use Rattle.c_values.specs.Answers.{answered, locale_told, new_told, most}

-- newlocale by a mask whose bits are known
pub new_known : (old : LocaleParts) (marked : MarkedLibraryData) (bits mask : ℕ) (name : List ℕ) (base : LocaleParts) → bits < 32 → mask ≡ bits → locale_told old (new_locale marked mask name base) ≡ new_told old marked bits name base
new_known old marked bits mask name base few same =
    let wanted : Bool → LobjAnswer × LocaleParts = λ b. if b then locale_told old (new_locale marked bits name base) else (answered BAD_MASK 0, old) in
    ap (λ (m : ℕ). locale_told old (new_locale marked m name base)) same ∙ sym (ap wanted (lt-ltb bits 32 few))

-- the element of a list by what lends it
pub lent_element : {A : Type 0} (value : A → List ℕ) (lent : List A) (xs : List (List ℕ)) (k : ℕ) (x : A) → map value lent ≡ xs → slice_get lent k ≡ Some x → slice_get xs k ≡ Some (value x)
lent_element value lent xs k x same found =
    ap (λ l. slice_get l k) (sym same) ∙ slice_get-map value lent k ∙ ap (option_map value) found

-- the first of a list
pub first_most : {A : Type 0} (xs : List A) (n : ℕ) → n ≡ min (length xs) most → take n xs ≡ take most xs
first_most xs n size = ap (λ k. take k xs) (size ∙ min_comm (length xs) most) ∙ take_min most xs
