use Rattle.std.proofs.Common.{◌++◌, ap, sym, ◌∙◌}
use Rattle.std.proofs.lemmas.Result.{err_from_is_err_and}
use Rattle.script_out.specs.Output.{texts_text}
use Rattle.output_reader.proofs.Quotes.{text_there, texts_over, push_later}
use Rattle.output_reader.proofs.texts.texts.Goals as goal

pub returns-in_err-text : goal.returns-in_err-text
returns-in_err-text c = λ all rest ends is.
    let before = c.loop-body.invariant all rest ends is in
    let there = text_there all c.loop-body.found c.loop-body.left.now rest c.in-Some.body.now before.0 ends before.1 c.in-Some.ensures.read in
    let p = err_from_is_err_and c.from_residual.result c.from_residual.ensures.1 in
    rw (p.1, p.2) (c.in_err-text.ensures.back there.0 (texts_text there.1 ++ rest) there.3)

pub loop-body-preserved : goal.loop-body-preserved
loop-body-preserved c = λ all rest ends is.
    let before = c.loop-body.invariant all rest ends is in
    let there = text_there all c.loop-body.found c.loop-body.left.now rest c.in-Some.body.now before.0 ends before.1 c.in-Some.ensures.read in
    let read = c.in_ok-text.ensures.back there.0 (texts_text there.1 ++ rest) there.3 in
    (there.1, (push_later all c.loop-body.found there.0 c.as_bytes.result.now there.1 there.2 (c.as_bytes.ensures ∙ read.0) ∙ ap (λ k. k ++ there.1) (sym c.in_ok-push.ensures.added), read.1))

pub returns : goal.returns
returns c = λ all rest ends is.
    let before = c.loop-body.invariant all rest ends is in
    let over = texts_over all c.loop-body.found c.loop-body.left.now rest before.0 before.1 (λ r e. c.in_default.ensures.back r e) in
    (over.0, over.1)
