use Rattle.std.proofs.Common.{ℕ, List, sym, subst, ◌∙◌, arith}
use Rattle.output_reader.proofs.Giving.{some_none}
use Rattle.output_reader.proofs.Quotes.{IsTextLeft, text_step, text_over}
use Rattle.output_reader.proofs.texts.unquoted.Goals as goal

pub loop-c-preserved : goal.loop-c-preserved
loop-c-preserved c = record {
  on = λ text rest is.
      let before = c.loop-c.invariant.on text rest is in
      subst (λ (items : List ℕ). (more : List ℕ) × IsTextLeft text items c.in-Some.rest.now rest more) (sym c.in_ok-push.ensures.items)
      (text_step text c.loop-c.text.items c.loop-c.left.now rest before.0 c.in-Some.c c.in-Some.rest.now before.1 (λ d r e. c.in-Some.ensures.back d r e) (λ r e. some_none _ (c.in-Some.ensures.quote r e)));
  within = omega (arith, c.in-Some.ensures.shorter, c.loop-c.invariant.within);
}

pub returns-in-Some-behind-clause-back : goal.returns-in-Some-behind-clause-back
returns-in-Some-behind-clause-back c = λ text rest is.
    let before = c.loop-c.invariant.on text rest is in
    let over = text_over text c.loop-c.text.items c.loop-c.left.now rest before.0 before.1 (λ d r e. c.in_default.ensures.back d r e) in
    (c.from_vec.ensures ∙ over.0, c.in-Some-behind.ensures.back rest over.1)

pub returns-clause-back : goal.returns-clause-back
returns-clause-back c = λ text rest is.
    let before = c.loop-c.invariant.on text rest is in
    let over = text_over text c.loop-c.text.items c.loop-c.left.now rest before.0 before.1 (λ d r e. c.in_default.ensures.back d r e) in
    absurd (c.in-None.ensures.back rest over.1)
