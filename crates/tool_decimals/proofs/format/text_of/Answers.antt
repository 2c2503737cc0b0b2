use Rattle.std.proofs.Common.{◌+◌, Ok, Result, map, subst, sym, ap, ◌∙◌, drop, List, ℕ}
use Rattle.tool_decimals.specs.Formats.{Refusal, Refuses, part_text, text_behind, with_text}
use Rattle.tool_decimals.proofs.FormatLemmas.{one_more_part, no_part, no_text, all_parts}
use Rattle.tool_decimals.proofs.format.text_of.Goals as goal

pub loop-at-preserved : goal.loop-at-preserved
loop-at-preserved c = record {
  so_far = ap (λ (ws : List (List ℕ)). text_behind c.args.numeric.now c.push_part.new.out.items 0 (c.loop-at.at + (1 + c.in-Some.used)) (drop (c.loop-at.at + (1 + c.in-Some.used)) c.args.format.now) ws) c.words_behind-left.ensures
      ∙ one_more_part c.args.numeric.now c.loop-at.out.items c.push_part.new.out.items c.args.format.now c.loop-at.at c.in-Some.used c.in-Some.part (map (λ w. w.now) c.loop-at.left.now) c.loop-at-test.true c.in-Some.ensures.is
      (ap (λ (bs : List ℕ). with_text c.loop-at.out.items (part_text c.args.numeric.now c.in-Some.part c.loop-at.at bs (map (λ w. w.now) c.loop-at.left.now))) (sym c.bytes_of-bytes.ensures) ∙ c.in_default-push_part.ensures.added)
      ∙ c.loop-at.invariant.so_far;
  within = c.in-Some.ensures.within;
}

pub returns-in_default : goal.returns-in_default
returns-in_default c = sym c.loop-at.invariant.so_far ∙ no_part c.args.numeric.now c.loop-at.out.items c.args.format.now c.loop-at.at (map (λ w. w.now) c.loop-at.left.now) c.loop-at-test.true (sym c.in_default.is ∙ c.part_at.ensures.is)

pub returns-in-Err : goal.returns-in-Err
returns-in-Err c =
    subst (λ (t : Result (List ℕ) Refusal). Refuses c.in-Err.fault t) c.loop-at.invariant.so_far
    (no_text c.in-Err.fault c.args.numeric.now c.loop-at.out.items c.args.format.now c.loop-at.at c.in-Some.used c.in-Some.part (map (λ w. w.now) c.loop-at.left.now) c.loop-at-test.true c.in-Some.ensures.is
    (subst (λ (bs : List ℕ). Refuses c.in-Err.fault (with_text c.loop-at.out.items (part_text c.args.numeric.now c.in-Some.part c.loop-at.at bs (map (λ w. w.now) c.loop-at.left.now)))) c.bytes_of-bytes.ensures c.in-Err.ensures.refused))

pub returns : goal.returns
returns c = sym c.loop-at.invariant.so_far ∙ all_parts c.args.numeric.now c.loop-at.out.items c.args.format.now c.loop-at.at (map (λ w. w.now) c.loop-at.left.now) c.loop-at-test.false ∙ ap {B = Result (List ℕ) Refusal} (λ (t : List ℕ). Ok t) (sym c.from_vec.ensures)
