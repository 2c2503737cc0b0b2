use Rattle.std.proofs.Common.{rules, ◌≡◌, ℕ, List, [], ◌∷◌, ◌++◌, length, ap, ◌∙◌}
use Rattle.charset.specs.ByteStrings.{strings_in}
use Rattle.charset.proofs.ByteStringLemmas.{strings_stay, strings_push}
use Rattle.charset.proofs.byte_strings.ByteStrings.push.Goals as goal

pub returns-in_err-end-clause-err : goal.returns-in_err-end-clause-err
returns-in_err-end-clause-err c =
    let back : strings_in c.extend_from_slice.new.self.items c.self.inside.parts.items ≡ c.args.self.now =
    ap (λ (bs : List ℕ). strings_in bs c.self.inside.parts.items) c.in_ok-extend_from_slice.ensures.items ∙ strings_stay c.self.inside.bytes.items c.args.string.now c.self.inside.parts.items c.self.invariant ∙ c.self.view_is in
    search rules

pub returns-in_err-push-clause-err : goal.returns-in_err-push-clause-err
returns-in_err-push-clause-err c =
    let back : strings_in c.extend_from_slice.new.self.items c.push.new.self.items ≡ c.args.self.now =
    ap (λ (bs : List ℕ). strings_in bs c.push.new.self.items) c.in_ok-extend_from_slice.ensures.items
    ∙ ap (λ (ps : List (ℕ × ℕ)). strings_in (c.self.inside.bytes.items ++ c.args.string.now) ps) c.in_err-push.ensures.items
    ∙ strings_stay c.self.inside.bytes.items c.args.string.now c.self.inside.parts.items c.self.invariant ∙ c.self.view_is in
    search rules

pub returns-clause-ok : goal.returns-clause-ok
returns-clause-ok c =
    let first : c.in_ok-start.start ≡ length c.self.inside.bytes.items = search rules in
    let end : c.in_ok-end.end ≡ length c.extend_from_slice.new.self.items = search rules in
    let last : c.in_ok-end.end ≡ length (c.self.inside.bytes.items ++ c.args.string.now) = end ∙ ap (λ (bs : List ℕ). length bs) c.in_ok-extend_from_slice.ensures.items in
    rw (c.in_ok-push.ensures.items, c.in_ok-extend_from_slice.ensures.items)
    (strings_push c.self.inside.bytes.items c.args.string.now c.self.inside.parts.items c.in_ok-start.start c.in_ok-end.end c.self.invariant first last ∙ ap (λ (ts : List (List ℕ)). ts ++ c.args.string.now ∷ []) c.self.view_is)
