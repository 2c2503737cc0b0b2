use Rattle.std.proofs.Common.{◌≡◌, length, arith, ap, ◌∙◌}
use Rattle.std.specs.Prelude.{not}
use Rattle.strfmon.specs.Looks.{Look, look_of, parts_text}
use Rattle.strfmon.proofs.layout.other_sign_pads.Goals as goal

pub returns-clause-before : goal.returns-clause-before
returns-clause-before c =
    let other : Look = look_of c.args.m.now c.args.c.now (not c.args.negative) in
    let wide : c.width-before.result ≡ length (parts_text other other.before) = c.width-before.ensures.is ∙ ap (λ (l : Look). length (parts_text l l.before)) c.look_of-other.ensures.is in
    omega (arith, wide)

pub returns-clause-after : goal.returns-clause-after
returns-clause-after c =
    let other : Look = look_of c.args.m.now c.args.c.now (not c.args.negative) in
    let wide : c.width-after.result ≡ length (parts_text other other.after) = c.width-after.ensures.is ∙ ap (λ (l : Look). length (parts_text l l.after)) c.look_of-other.ensures.is in
    omega (arith, wide)
