use Rattle.std.proofs.Common.{◌≡◌, ℕ, ◌+◌, ◌≤◌, Bool, sym, subst, ◌∙◌, arith}
use Rattle.class_ranges.specs.Ranges.{covers}
use Rattle.class_ranges.specs.declared.alike.Stretch.{Stretch}
use Rattle.class_ranges.proofs.Words.{IsWordTo, with_bit, without_bit}
use Rattle.class_ranges.proofs.page.word_from.Goals as goal
use Rattle.class_ranges.proofs.page.word_from.Goals.{then-first-k, else-first-k, then-stretch, else-stretch}

pub loop-k-preserved : goal.loop-k-preserved
loop-k-preserved c =
    let test : ℕ → Bool = λ j. covers c.args.ranges.now (c.args.first + j) in
    let Alike : Stretch → Type 0 = λ s. (c.args.first + c.loop-k.k ≤ s.last) × ((v : ℕ) → c.args.first + c.loop-k.k ≤ v → v ≤ s.last → covers c.args.ranges.now v ≡ s.is_in) in
    let alike : Alike c.if-first-k.stretch = elim c.if-first-k.branch [
      | then-first-k w ↦ subst Alike (sym w.stretch-is) (w.stretch_from-stretch-then-first-k.ensures.reaches, w.stretch_from-stretch-then-first-k.ensures.alike)
      | else-first-k w ↦ subst Alike (sym w.stretch-is) (omega (arith, w.if-first-k.false), c.loop-k.invariant.alike)
    ] in
    let here : test c.loop-k.k ≡ c.if-first-k.stretch.is_in = alike.1 (c.args.first + c.loop-k.k) (omega arith) alike.0 in
    let done : IsWordTo test c.loop-k.word c.loop-k.k = record { done = c.loop-k.invariant.done; empty = c.loop-k.invariant.empty } in
    let more : IsWordTo test c.if-stretch.word (c.loop-k.k + 1) = elim c.if-stretch.branch [
      | then-stretch w ↦ subst (λ n. IsWordTo test n (c.loop-k.k + 1)) (sym w.word-is) (with_bit test c.loop-k.word c.loop-k.k c.loop-k-test.true (here ∙ w.if-stretch.true) done)
      | else-stretch w ↦ subst (λ n. IsWordTo test n (c.loop-k.k + 1)) (sym w.word-is) (without_bit test c.loop-k.word c.loop-k.k (here ∙ w.if-stretch.false) done)
    ] in
    record { done = more.done; empty = more.empty; alike = λ v above below. alike.1 v (omega arith) below }
