use Rattle.std.proofs.Common.{◌≡◌, suc, ◌+◌, ◌-◌, ◌<◌, ◌∷◌, ◌++◌, length, drop, replicate, arith, ap, ◌∙◌}
use Rattle.std.proofs.lemmas.List.{drop-set, length-set}
use Rattle.digit_groups.proofs.write_repeated.Goals as goal

pub loop-preserved : goal.loop-preserved
loop-preserved c =
    let less : c.loop.at - 1 < length c.loop.target = omega (arith, c.loop.invariant.within) in
    let same : c.loop.at - 1 + 1 ≡ c.loop.at = omega arith in
    let more : suc c.loop.counter ≡ c.loop.counter + 1 = omega arith in
    record {
      written = drop-set c.loop.target (c.loop.at - 1) c.args.byte less
          ∙ ap (λ n. c.args.byte ∷ drop n c.loop.target) same
          ∙ ap (λ t. c.args.byte ∷ t) c.loop.invariant.written
          ∙ ap (λ n. replicate n c.args.byte ++ drop c.args.end c.args.target.now) more;
      place = omega arith;
      within = omega (arith, c.loop.invariant.within, length-set c.loop.target (c.loop.at - 1) c.args.byte);
    }
