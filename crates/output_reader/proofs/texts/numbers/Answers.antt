use Rattle.std.proofs.Common.{ℕ, ◌^◌, ◌<◌, List, ◌++◌, ap, sym, subst, ◌∙◌, arith, lit<}
use Rattle.std.specs.Fmt.{decimal}
use Rattle.std.specs.List.{AllByRecursion}
use Rattle.std.proofs.lemmas.Result.{err_from_is_err_and}
use Rattle.script_out.specs.Output.{numbers_text}
use Rattle.output_reader.proofs.Lacking.{decimal_lacks}
use Rattle.output_reader.proofs.Quotes.{number_there, numbers_over, numbers_behind, push_later, all_push}
use Rattle.output_reader.proofs.texts.numbers.Goals as goal

pub returns-in_err-n-clause-back : goal.returns-in_err-n-clause-back
returns-in_err-n-clause-back c = λ all fit is.
    let before = c.loop-more.invariant.on all fit is in
    let there = number_there all c.loop-more.found.items c.loop-more.left.now c.in-Some.more.now before.0 before.1 c.in-Some.ensures.read in
    let word = c.first_word.ensures.back (decimal there.0) (numbers_text there.1) (decimal_lacks there.0 32 (omega (arith, there.4)) (lit< tt)) (numbers_behind there.1) there.3 in
    let p = err_from_is_err_and c.from_residual.result c.from_residual.ensures.1 in
    rw (p.1, p.2) (c.in_err-n.ensures.back there.0 there.4 (sym word.0))

pub loop-more-preserved : goal.loop-more-preserved
loop-more-preserved c = record {
  on = λ all fit is.
      let before = c.loop-more.invariant.on all fit is in
      let there = number_there all c.loop-more.found.items c.loop-more.left.now c.in-Some.more.now before.0 before.1 c.in-Some.ensures.read in
      let word = c.first_word.ensures.back (decimal there.0) (numbers_text there.1) (decimal_lacks there.0 32 (omega (arith, there.4)) (lit< tt)) (numbers_behind there.1) there.3 in
      let read = c.in_ok-n.ensures.back there.0 there.4 (sym word.0) in
      (there.1, (push_later all c.loop-more.found.items there.0 c.in_ok-n.n there.1 there.2 read ∙ ap (λ k. k ++ there.1) (sym c.in_ok-push.ensures.items), word.1, there.5));
  fit = subst (λ (items : List ℕ). AllByRecursion (λ n. n < 2 ^ 8) items) (sym c.in_ok-push.ensures.items) (all_push c.loop-more.found.items c.in_ok-n.n c.loop-more.invariant.fit c.in_ok-n.ensures.fits);
}

pub returns-clause-back : goal.returns-clause-back
returns-clause-back c = λ all fit is.
    let before = c.loop-more.invariant.on all fit is in
    c.of.ensures ∙ numbers_over all c.loop-more.found.items c.loop-more.left.now before.0 before.1 (λ r e. c.in_default.ensures.back r e)
