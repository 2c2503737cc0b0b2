use Rattle.std.proofs.Common.{ℕ, List, ◌++◌, refl, sym, ap, ◌∙◌, append_assoc}
use Rattle.std.proofs.lemmas.List.{append-nil}
use Rattle.bundle_maker.specs.Generated.{next_number, own_line, commands_text}
use Rattle.bundle_maker.proofs.Numbers.{number_more, commands_none, commands_more}
use Rattle.bundle_maker.proofs.text.push_commands.Goals as goal

pub loop-i-init : goal.loop-i-init
loop-i-init c = record {
  number = refl;
  text = sym (ap (λ (xs : List ℕ). c.args.text.now.items ++ xs) (commands_none c.args.seed c.args.thread) ∙ append-nil c.args.text.now.items);
}

pub loop-i-preserved : goal.loop-i-preserved
loop-i-preserved c =
    let number = c.next_number-number.ensures ∙ ap next_number c.loop-i.invariant.number ∙ sym (number_more c.args.seed c.loop-i.i) in
    let so_far : List ℕ = commands_text c.args.seed c.loop-i.i c.args.thread in
    record {
      number = number;
      text = c.in_ok-push_own.ensures
          ∙ ap (λ (xs : List ℕ). xs ++ own_line c.args.thread c.loop-i.i c.next_number-number.result) c.loop-i.invariant.text
          ∙ append_assoc c.args.text.now.items so_far (own_line c.args.thread c.loop-i.i c.next_number-number.result)
          ∙ ap (λ (xs : List ℕ). c.args.text.now.items ++ xs) (ap (λ (n : ℕ). so_far ++ own_line c.args.thread c.loop-i.i n) number ∙ sym (commands_more c.args.seed c.args.thread c.loop-i.i));
    }
