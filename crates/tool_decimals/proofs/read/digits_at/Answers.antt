use Rattle.std.proofs.Common.{◌≡◌, ◌+◌, ◌-◌, ◌++◌, ℕ, List, [], ◌∷◌, length, drop, rules, arith, sym, subst, length-append}
use Rattle.tool_decimals.specs.Limits.{DIGITS_OF_A_NUMBER}
use Rattle.tool_decimals.specs.Scans.{behind_digits, digits_at}
use Rattle.tool_decimals.proofs.ReadingLaws.{read_end, read_full, read_more}
use Rattle.tool_decimals.proofs.read.digits_at.Goals as goal

pub returns-then-len-ge-MOST_DIGITS-clause-is : goal.returns-then-len-ge-MOST_DIGITS-clause-is
returns-then-len-ge-MOST_DIGITS-clause-is c =
    let is = c.fault_at.ensures in
    rw is (read_full c.args.separator.now c.args.text.now c.loop-digit.digits.items c.loop-digit.at c.in-Some.digit c.in-Some.before _ c.in-Some.ensures.is c.in-Some.ensures.within (omega arith) c.loop-digit.invariant.so_far)

pub loop-digit-preserved : goal.loop-digit-preserved
loop-digit-preserved c =
    let items : c.push.new.self.items ≡ c.loop-digit.digits.items ++ c.in-Some.digit ∷ [] = search rules in
    let longer : length c.push.new.self.items ≡ length c.loop-digit.digits.items + 1 = rw items (omega (arith, length-append c.loop-digit.digits.items (c.in-Some.digit ∷ []))) in
    record {
      so_far = subst (λ (ds : List ℕ). behind_digits ds (digits_at c.args.separator.now (DIGITS_OF_A_NUMBER - length ds) 0 (c.loop-digit.at + c.in-Some.before + 1) (drop (c.loop-digit.at + c.in-Some.before + 1) c.args.text.now)) ≡ digits_at c.args.separator.now DIGITS_OF_A_NUMBER 0 c.args.start (drop c.args.start c.args.text.now)) (sym items)
          (read_more c.args.separator.now c.args.text.now c.loop-digit.digits.items c.loop-digit.at c.in-Some.digit c.in-Some.before _ c.in-Some.ensures.is c.in-Some.ensures.within (omega arith) c.loop-digit.invariant.so_far);
      few = omega arith;
      behind = omega arith;
      within = omega (arith, c.in-Some.ensures.within);
    }

pub returns-clause-is : goal.returns-clause-is
returns-clause-is c = read_end c.args.separator.now c.args.text.now c.loop-digit.digits.items (DIGITS_OF_A_NUMBER - length c.loop-digit.digits.items) c.loop-digit.at _ (search rules) c.loop-digit.invariant.so_far
