use Rattle.std.proofs.Common.{◌≡◌, ◌+◌, ◌-◌, ◌++◌, List, ℕ, length, replicate, refl, sym, ap, ◌∙◌, arith}
use Rattle.charset.specs.Blocks.{block_from}
use Rattle.charset.specs.CharacterNames.{block_entries, IsAdded}
use Rattle.charset.specs.Numbering.{stem, digits, number, padded}
use Rattle.charset.specs.Portable.{Name}
use Rattle.charset.specs.Tails.{front, tail, tail_width}
use Rattle.charset.proofs.BlockLemmas.{next_formed, upto_last, block_refused, block_last, block_step, block_count, block_carried, padded-all_digits}
use Rattle.charset.proofs.Padding.{padded_own}
use Rattle.charset.proofs.DigitLemmas.{digits-all_digits, front_digits}
use Rattle.charset.proofs.counting.add_names.Goals as goal

pub loop-digits-init : goal.loop-digits-init
loop-digits-init c =
    let name : Name = c.args.first.now in
    let own : c.in_ok-digits.digits.items ≡ digits name = c.in_ok-digits.ensures.items ∙ c.split_number.ensures.digits in
    let first : number name + 0 ≡ number name = omega arith in
    record {
      upto = omega arith;
      stem = c.split_number.ensures.stem;
      digits = own ∙ sym (padded_own (digits name) (digits-all_digits name)) ∙ ap (padded (length (digits name))) (sym first);
      all = rw own (digits-all_digits name);
      added = refl;
      count = omega arith;
    }

pub add-requires-clause-formed : goal.add-requires-clause-formed
add-requires-clause-formed c =
    let name : Name = c.args.first.now in
    let ds : List ℕ = c.loop-digits.digits.items in
    let tail_is : c.split_tail.result.1.now ≡ tail ds = c.split_tail.ensures.tail ∙ ap tail c.deref.ensures.value in
    let head_is : c.split_tail.result.0.now ≡ front ds = c.split_tail.ensures.front ∙ ap front c.deref.ensures.value in
    let is : c.block_from-block.result ≡ block_from (tail ds) (c.args.more - c.loop-digits.done) (c.args.value + c.loop-digits.done) = c.block_from-block.ensures ∙ ap (λ (t : List ℕ). block_from t (c.args.more - c.loop-digits.done) (c.args.value + c.loop-digits.done)) tail_is in
    let begins : c.deref-in-loop-digits.result.now ≡ stem name ++ front ds = c.deref-in-loop-digits.ensures.value ∙ c.in_ok-front.ensures ∙ ap (λ (bs : Name). bs ++ c.split_tail.result.0.now) c.loop-digits.invariant.stem ∙ ap (λ (bs : Name). stem name ++ bs) head_is in
    rw (begins, is) (next_formed name c.args.value c.loop-digits.done ds c.loop-digits.invariant.digits c.loop-digits.invariant.all (c.args.more - c.loop-digits.done) c.args.more (omega (arith, c.loop-digits.invariant.upto)) (omega arith))

pub returns-then-not-branch : goal.returns-then-not-branch
returns-then-not-branch c =
    let name : Name = c.args.first.now in
    let ds : List ℕ = c.loop-digits.digits.items in
    let tail_is : c.split_tail.result.1.now ≡ tail ds = c.split_tail.ensures.tail ∙ ap tail c.deref.ensures.value in
    let head_is : c.split_tail.result.0.now ≡ front ds = c.split_tail.ensures.front ∙ ap front c.deref.ensures.value in
    let is : c.block_from-block.result ≡ block_from (tail ds) (c.args.more - c.loop-digits.done) (c.args.value + c.loop-digits.done) = c.block_from-block.ensures ∙ ap (λ (t : List ℕ). block_from t (c.args.more - c.loop-digits.done) (c.args.value + c.loop-digits.done)) tail_is in
    let begins : c.deref-in-loop-digits.result.now ≡ stem name ++ front ds = c.deref-in-loop-digits.ensures.value ∙ c.in_ok-front.ensures ∙ ap (λ (bs : Name). bs ++ c.split_tail.result.0.now) c.loop-digits.invariant.stem ∙ ap (λ (bs : Name). stem name ++ bs) head_is in
    let within : c.loop-digits.done + (c.args.more - c.loop-digits.done) ≡ c.args.more = omega (arith, c.loop-digits.invariant.upto) in
    let adds : IsAdded c.loop-digits.names (block_entries c.deref-in-loop-digits.result.now c.block_from-block.result) c.add.new.self c.in_ok-add.field-0 = c.in_ok-add.ensures in
    block_refused name c.args.value c.loop-digits.done (c.args.more - c.loop-digits.done) c.args.more ds c.loop-digits.invariant.digits c.loop-digits.invariant.all c.deref-in-loop-digits.result.now c.block_from-block.result begins is within c.args.names.now c.loop-digits.names c.add.new.self c.loop-digits.invariant.added (rw (c.if-not-branch.true) at adds)

pub returns-then-done-block : goal.returns-then-done-block
returns-then-done-block c =
    let name : Name = c.args.first.now in
    let ds : List ℕ = c.loop-digits.digits.items in
    let tail_is : c.split_tail.result.1.now ≡ tail ds = c.split_tail.ensures.tail ∙ ap tail c.deref.ensures.value in
    let head_is : c.split_tail.result.0.now ≡ front ds = c.split_tail.ensures.front ∙ ap front c.deref.ensures.value in
    let is : c.block_from-block.result ≡ block_from (tail ds) (c.args.more - c.loop-digits.done) (c.args.value + c.loop-digits.done) = c.block_from-block.ensures ∙ ap (λ (t : List ℕ). block_from t (c.args.more - c.loop-digits.done) (c.args.value + c.loop-digits.done)) tail_is in
    let begins : c.deref-in-loop-digits.result.now ≡ stem name ++ front ds = c.deref-in-loop-digits.ensures.value ∙ c.in_ok-front.ensures ∙ ap (λ (bs : Name). bs ++ c.split_tail.result.0.now) c.loop-digits.invariant.stem ∙ ap (λ (bs : Name). stem name ++ bs) head_is in
    let within : c.loop-digits.done + (c.args.more - c.loop-digits.done) ≡ c.args.more = omega (arith, c.loop-digits.invariant.upto) in
    let adds : IsAdded c.loop-digits.names (block_entries c.deref-in-loop-digits.result.now c.block_from-block.result) c.add.new.self c.in_ok-add.field-0 = c.in_ok-add.ensures in
    block_last name c.args.value c.loop-digits.done (c.args.more - c.loop-digits.done) c.args.more ds c.loop-digits.invariant.digits c.loop-digits.invariant.all c.deref-in-loop-digits.result.now c.block_from-block.result begins is within c.args.names.now c.loop-digits.names c.add.new.self c.loop-digits.invariant.added (rw (c.if-not-branch.false) at adds) c.if-done-block.true

pub next_block-requires : goal.next_block-requires
next_block-requires c = rw (c.split_tail.ensures.front, c.deref.ensures.value) (front_digits c.loop-digits.digits.items (length c.loop-digits.digits.items - tail_width c.loop-digits.digits.items) c.loop-digits.invariant.all)

pub loop-digits-preserved : goal.loop-digits-preserved
loop-digits-preserved c =
    let name : Name = c.args.first.now in
    let ds : List ℕ = c.loop-digits.digits.items in
    let tail_is : c.split_tail.result.1.now ≡ tail ds = c.split_tail.ensures.tail ∙ ap tail c.deref.ensures.value in
    let head_is : c.split_tail.result.0.now ≡ front ds = c.split_tail.ensures.front ∙ ap front c.deref.ensures.value in
    let is : c.block_from-block.result ≡ block_from (tail ds) (c.args.more - c.loop-digits.done) (c.args.value + c.loop-digits.done) = c.block_from-block.ensures ∙ ap (λ (t : List ℕ). block_from t (c.args.more - c.loop-digits.done) (c.args.value + c.loop-digits.done)) tail_is in
    let begins : c.deref-in-loop-digits.result.now ≡ stem name ++ front ds = c.deref-in-loop-digits.ensures.value ∙ c.in_ok-front.ensures ∙ ap (λ (bs : Name). bs ++ c.split_tail.result.0.now) c.loop-digits.invariant.stem ∙ ap (λ (bs : Name). stem name ++ bs) head_is in
    let within : c.loop-digits.done + (c.args.more - c.loop-digits.done) ≡ c.args.more = omega (arith, c.loop-digits.invariant.upto) in
    let adds : IsAdded c.loop-digits.names (block_entries c.deref-in-loop-digits.result.now c.block_from-block.result) c.add.new.self c.in_ok-add.field-0 = c.in_ok-add.ensures in
    let grown = rw (c.if-not-branch.false) at adds in
    let zeros : length c.split_tail.result.1.now ≡ length (tail ds) = ap (λ (t : List ℕ). length t) tail_is in
    let carried = block_carried name c.args.value c.loop-digits.done (c.args.more - c.loop-digits.done) c.args.more ds c.loop-digits.invariant.digits c.loop-digits.invariant.all c.deref-in-loop-digits.result.now c.block_from-block.result begins is within c.args.names.now c.loop-digits.names c.add.new.self c.loop-digits.invariant.added c.if-done-block.false in
    let nines : padded (length (digits name)) (number name + (c.loop-digits.done + c.block_from-block.result.more)) ≡ c.split_tail.result.0.now ++ replicate (length c.split_tail.result.1.now) 57 =
    carried ∙ ap (λ (bs : List ℕ). bs ++ replicate (length (tail ds)) 57) (sym head_is) ∙ ap (λ k. c.split_tail.result.0.now ++ replicate k 57) (sym zeros) in
    let place : number name + (c.loop-digits.done + c.block_from-block.result.more) + 1 ≡ number name + (c.loop-digits.done + (c.block_from-block.result.more + 1)) = omega arith in
    let next : c.in_ok-digits-2.digits.items ≡ padded (length (digits name)) (number name + (c.loop-digits.done + (c.block_from-block.result.more + 1))) =
    c.in_ok-digits-2.ensures (length (digits name)) (number name + (c.loop-digits.done + c.block_from-block.result.more)) nines ∙ ap (padded (length (digits name))) place in
    record {
      upto = omega (arith, upto_last name c.args.value c.loop-digits.done (c.args.more - c.loop-digits.done) c.args.more ds c.loop-digits.invariant.digits c.loop-digits.invariant.all c.deref-in-loop-digits.result.now c.block_from-block.result begins is within c.args.names.now c.loop-digits.names c.add.new.self c.loop-digits.invariant.added, c.if-done-block.false);
      stem = c.split_number.ensures.stem;
      digits = next;
      all = rw next (padded-all_digits (length (digits name)) (number name + (c.loop-digits.done + (c.block_from-block.result.more + 1))));
      added = block_step name c.args.value c.loop-digits.done (c.args.more - c.loop-digits.done) c.args.more ds c.loop-digits.invariant.digits c.loop-digits.invariant.all c.deref-in-loop-digits.result.now c.block_from-block.result begins is within c.args.names.now c.loop-digits.names c.add.new.self c.loop-digits.invariant.added grown;
      count = omega (arith, c.loop-digits.invariant.count, block_count name c.args.value c.loop-digits.done (c.args.more - c.loop-digits.done) c.args.more ds c.loop-digits.invariant.digits c.loop-digits.invariant.all c.deref-in-loop-digits.result.now c.block_from-block.result begins is within c.args.names.now c.loop-digits.names c.add.new.self c.loop-digits.invariant.added grown);
    }
