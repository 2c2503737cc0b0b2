-- Fields by their numbers.
use Rattle.std.proofs.Common.{◌≡◌, ℕ, ◌≤◌, List, Some, None, ap, ◌∙◌}
use Rattle.std.specs.Prelude.{slice_get, option_map}
use Rattle.std.proofs.lemmas.Option.{slice_get-map, slice_get_past}
use Rattle.numeric_cat.specs.NumericValues.{NumericValues}
use Rattle.monetary_cat.specs.Monetary.{MonetaryValues}
use Rattle.langinfo.specs.declared.field.ConvText.{ConvText}
use Rattle.langinfo.specs.Conv.{chars_of, bare_texts, conv}

-- the text of a field without its name
pub text_alone : (fields : List (List ℕ × ConvText)) (number : ℕ) (name : List ℕ) (text : ConvText) → slice_get fields number ≡ Some (name, text) → slice_get (bare_texts fields) number ≡ Some (chars_of text)
text_alone fields number name text is =
    slice_get-map (λ (f : List ℕ × ConvText). chars_of f.1) fields number ∙ ap (option_map (λ (f : List ℕ × ConvText). chars_of f.1)) is

-- no field has a number behind the last one
pub no_text : (numeric : NumericValues) (monetary : MonetaryValues) (number : ℕ) → 10 ≤ number → slice_get (bare_texts (conv numeric monetary).texts) number ≡ None
no_text numeric monetary number behind = slice_get_past (bare_texts (conv numeric monetary).texts) number behind
