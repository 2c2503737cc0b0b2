use Rattle.std.proofs.Common.{◌≡◌, ◌-◌, ◌++◌, List, ℕ, length, take, drop, arith, ap, sym, ◌∙◌}
use Rattle.std.proofs.lemmas.List.{append_assoc, length-append}
use Rattle.strfmon.specs.Looks.{parts_text}
use Rattle.strfmon.specs.Seen.{seen}
use Rattle.strfmon.proofs.PartLemmas.{last_part}
use Rattle.strfmon.proofs.look.Look.write.Goals as goal

pub write_before-at-requires-clause-room : goal.write_before-at-requires-clause-room
write_before-at-requires-clause-room c =
    let front : List ℕ = parts_text (seen c.args.self.now) (take (c.loop-left.left - 1) c.args.parts.now) in
    let last : parts_text (seen c.args.self.now) (take c.loop-left.left c.args.parts.now) ≡ front ++ c.part.result.now = last_part (seen c.args.self.now) c.args.parts.now c.loop-left.left _ (omega arith) c.loop-left.invariant.few ∙ ap (λ t. front ++ t) (sym c.part.ensures) in
    omega (arith, ap length last, length-append front c.part.result.now, c.loop-left.invariant.place, c.requires.room)

pub loop-left-preserved : goal.loop-left-preserved
loop-left-preserved c =
    let front : List ℕ = parts_text (seen c.args.self.now) (take (c.loop-left.left - 1) c.args.parts.now) in
    let last : parts_text (seen c.args.self.now) (take c.loop-left.left c.args.parts.now) ≡ front ++ c.part.result.now = last_part (seen c.args.self.now) c.args.parts.now c.loop-left.left _ (omega arith) c.loop-left.invariant.few ∙ ap (λ t. front ++ t) (sym c.part.ensures) in
    record {
      written = c.loop-left.invariant.written
          ∙ ap (λ t. t ++ drop c.loop-left.at c.loop-left.target) last
          ∙ append_assoc front c.part.result.now (drop c.loop-left.at c.loop-left.target)
          ∙ ap (λ t. front ++ t) (sym c.write_before-at.ensures.written);
      place = omega (arith, ap length last, length-append front c.part.result.now, c.loop-left.invariant.place, c.write_before-at.ensures.begins);
      few = omega (arith, c.loop-left.invariant.few);
      within = omega (arith, c.loop-left.invariant.within, c.write_before-at.ensures.begins);
    }
