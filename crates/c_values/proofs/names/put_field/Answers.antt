use Rattle.std.proofs.Common.{◌≡◌, ℕ, ◌+◌, ◌≤◌, List, [], ◌∷◌, ◌++◌, length, ap, ◌∙◌, arith}
use Rattle.std.proofs.lemmas.List.{append_assoc}
use Rattle.text_buffer.specs.Written.{over}
use Rattle.c_values.proofs.NameLemmas.{then_ends, then_written}
use Rattle.c_values.proofs.names.put_field.Goals as goal

pub returns-clause-written : goal.returns-clause-written
returns-clause-written c =
    let old : List ℕ = c.args.buffer.now in
    let at : ℕ = c.args.at in
    let name : List ℕ = c.name.result.now in
    let part : List ℕ = c.args.part.now in
    let fits : at ≤ length old = omega (arith, c.requires) in
    let equals : List ℕ = 61 ∷ [] in
    let named : c.put_byte-equals.new.target ≡ over old at (name ++ equals) =
    then_written old c.put_at-named.new.target c.put_byte-equals.new.target at c.put_at-named.result name equals fits c.put_at-named.ensures.ends c.put_at-named.ensures.written c.put_byte-equals.ensures.written in
    let ends : c.put_byte-equals.result ≡ at + length (name ++ equals) = then_ends at c.put_at-named.result c.put_byte-equals.result name equals c.put_at-named.ensures.ends c.put_byte-equals.ensures.ends in
    then_written old c.put_byte-equals.new.target c.put_at.new.target at c.put_byte-equals.result (name ++ equals) part fits ends named c.put_at.ensures.written
    ∙ ap (λ t. over old at t) (append_assoc name equals part)
    ∙ ap (λ n. over old at (n ++ 61 ∷ part)) c.name.ensures
