use Rattle.std.proofs.Common.{rules, arith, ◌≡◌, sym, true}
use Rattle.std.specs.Char.{is_ascii_digit}
use Rattle.msg_catalog.proofs.Reading.{digits_over}
use Rattle.msg_catalog.proofs.number.digits.Goals as goal

pub returns-then-value-most : goal.returns-then-value-most
returns-then-value-most c =
    let digit : is_ascii_digit c.in-Some.spot.byte ≡ true = search rules in
    rw (← c.loop-spot.invariant.is) (sym (digits_over c.args.most c.loop-spot.value c.in-Some.spot _ _ c.in-Some.ensures.line digit (omega arith)))
