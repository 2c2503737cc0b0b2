use Rattle.std.proofs.Common.{rules, ◌≡◌, ◌+◌, ◌++◌, length, take, drop, sym, ap, ◌∙◌, arith}
use Rattle.std.proofs.lemmas.List.{length-take, take-append-le}
use Rattle.std.proofs.Math.Seq.{take-append-add}
use Rattle.text_buffer.specs.Written.{over}
use Rattle.strftime_fields.proofs.lent.PlaceOutput.put_front.Goals as goal

-- the bytes of the name are among those of its front
pub returns-clause-text : goal.returns-clause-text
returns-clause-text c =
    let at = c.args.self.now.at in
    let old = c.args.lent.now in
    let front = c.args.front.now in
    let rest = drop (at + length front) old in
    let wide : length front ≡ 16 = search rules in
    let here : length (take at old) ≡ at = omega (arith, length-take at old, c.requires.room) in
    ap (take (at + c.args.len)) c.put_array-end.ensures.written ∙
    (ap (λ k. take (k + c.args.len) (over old at front)) (sym here) ∙
    (take-append-add (take at old) (front ++ rest) c.args.len ∙
    ap (λ x. take at old ++ x) (take-append-le c.args.len front rest (omega (arith, wide, c.requires.few)))))
