use Rattle.std.proofs.Common.{◌≡◌, ℕ, Bool, true, false, List, sym, ap, ◌∙◌}
use Rattle.std.specs.Prelude.{codes, if◌then◌else◌}
use Rattle.std.specs.Str.{bytes_eq, is_utf8}
use Rattle.std.specs.Str.Lossy.{utf8_valid_len}
use Rattle.std.proofs.lemmas.Str.{is_utf8-from_IsUtf8}
use Rattle.shared_objects.specs.Objects.{ctype_in}
use Rattle.c_values.specs.Codes.{NOT_UTF8, BAD_CHARACTER}
use Rattle.c_values.specs.Answers.{refused, told}
use Rattle.c_values.specs.Cased.{pairs_of, cased_text, utf8_told}
use Rattle.c_values.proofs.CasedLemmas.{not_utf8}
use Rattle.c_values.proofs.cased.put_cased.Goals as goal

pub returns-in-Ok : goal.returns-in-Ok
returns-in-Ok c =
    let old : List ℕ = c.args.buffer.now in
    let text : List ℕ = c.args.text.now in
    let pairs : List (ℕ × ℕ) = pairs_of c.args.view.now c.args.case in
    let has : bytes_eq (ctype_in c.args.view.now).codeset (codes "UTF-8") ≡ true = cc (c.if-is_utf8_view.true, c.is_utf8_view.ensures) in
    let good : is_utf8 text ≡ true = is_utf8-from_IsUtf8 text c.in-Ok.ensures.cases.1 in
    c.put_mapped.ensures
    ∙ ap (λ t. told old (cased_text pairs t)) c.in-Ok.ensures.cases.0
    ∙ sym (ap (λ (b : Bool). if b then told old (cased_text pairs text) else refused old BAD_CHARACTER (utf8_valid_len text)) good)
    ∙ sym (ap (λ (b : Bool). if b then utf8_told old c.args.view.now c.args.case text else refused old NOT_UTF8 0) has)

pub returns-in-Err : goal.returns-in-Err
returns-in-Err c =
    let old : List ℕ = c.args.buffer.now in
    let text : List ℕ = c.args.text.now in
    let pairs : List (ℕ × ℕ) = pairs_of c.args.view.now c.args.case in
    let has : bytes_eq (ctype_in c.args.view.now).codeset (codes "UTF-8") ≡ true = cc (c.if-is_utf8_view.true, c.is_utf8_view.ensures) in
    let bad : is_utf8 text ≡ false = not_utf8 text c.in-Err.ensures.cases.0 in
    ap (λ a. (a, old)) c.answered.ensures
    ∙ ap (λ n. refused old BAD_CHARACTER n) (c.valid_up_to.ensures ∙ c.in-Err.ensures.valid_len)
    ∙ sym (ap (λ (b : Bool). if b then told old (cased_text pairs text) else refused old BAD_CHARACTER (utf8_valid_len text)) bad)
    ∙ sym (ap (λ (b : Bool). if b then utf8_told old c.args.view.now c.args.case text else refused old NOT_UTF8 0) has)
