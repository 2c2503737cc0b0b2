use Rattle.std.proofs.Common.{◌≡◌, ◌∷◌, drop, List, Result, ℕ, ap, sym, subst, ◌∙◌}
use Rattle.std.proofs.lemmas.List.{drop_more}
use Rattle.lc_base.specs.declared.refusal.FormatRefusal.{FormatRefusal}
use Rattle.text_buffer.specs.Written.{Written}
use Rattle.digit_groups.specs.Formats.{result_of}
use Rattle.digit_groups.proofs.TextLemmas.{one_formatted}
use Rattle.digit_groups.proofs.text.write_text.Goals as goal

pub returns-in-Some-len1-up : goal.returns-in-Some-len1-up
returns-in-Some-len1-up g c =
    let value = c.value-item.result in
    let some : c.args.values.now ≡ value ∷ drop 1 c.args.values.now = drop_more c.args.values.now 0 value c.in-Some-len1-up.len_at_least ∙ ap (λ x. x ∷ drop 1 c.args.values.now) (sym c.value-item.is) in
    let P : Result (List ℕ) FormatRefusal → Type 0 = λ a. Written c.args.buffer.now c.write_value.new.buffer (result_of g.C.FormatConversion.lacks c.write_value.result) a in
    subst P (sym (one_formatted g.C.FormatConversion.conversion (g.C.FormatConversion.text c.args.category.now) g.C.FormatConversion.lacks c.args.format.now c.args.values.now c.in-Some-len1-up.c value (drop 1 c.args.values.now) c.in-Some-len1-up.ensures some)) c.write_value.ensures
