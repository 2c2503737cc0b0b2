use Rattle.std.proofs.Common.{◌≡◌, ◌+◌, List, [], ◌∷◌, ◌++◌, length, map, refl, ap, sym, subst, ◌∙◌, arith, length-append}
use Rattle.std.specs.List.{AllByRecursion}
use Rattle.script_out.specs.declared.output.OutLine.{OutLine}
use Rattle.script_out.specs.Output.{line_text, printed}
use Rattle.output_reader.specs.Lines.{whole_lines}
use Rattle.output_reader.specs.Ranges.{IsLine}
use Rattle.output_reader.proofs.Outputs.{fault_found, not_empty, is_empty_list, all_lines, map_more, printed_more, next_line, line_read, all_read, fault_memory}
use Rattle.output_reader.proofs.output.read_output.Goals as goal

pub loop-rest-init : goal.loop-rest-init
loop-rest-init c = rw c.new-lines.ensures.items (record {
  are = tt;
  lines = refl;
  parts = refl;
  number = omega arith;
  on = λ all apart is. (all, (refl, is, apart.1));
  short = omega arith;
})

pub loop-rest-preserved : goal.loop-rest-preserved
loop-rest-preserved c =
    let N = c.args.threads.now in
    let some = not_empty c.loop-rest.rest.now c.is_empty.result c.is_empty.ensures c.loop-rest-test.true in
    let pushed : c.push.new.self.items ≡ c.loop-rest.lines.items ++ c.in-Ok.found ∷ [] = c.in_ok-push-in-Ok.ensures.items in
    let read = c.in-Ok.ensures.read in
    let kept = c.loop-rest.invariant in
    let longer : length c.push.new.self.items ≡ length c.loop-rest.lines.items + 1 = ap (λ k. length k) pushed ∙ length-append c.loop-rest.lines.items (c.in-Ok.found ∷ []) in
    record {
      are = subst (λ (k : List OutLine). AllByRecursion (IsLine N) k) (sym pushed) (all_lines N c.loop-rest.lines.items c.in-Ok.found kept.are read.is);
      lines = kept.lines ∙ ap (λ k. map (line_text N) c.loop-rest.lines.items ++ k) read.lines ∙ sym (map_more N c.loop-rest.lines.items c.in-Ok.found (whole_lines c.in-Ok.behind.now)) ∙ ap (λ k. map (line_text N) k ++ whole_lines c.in-Ok.behind.now) (sym pushed);
      parts = kept.parts ∙ ap (λ k. printed c.loop-rest.lines.items N ++ k) read.parts ∙ sym (printed_more N c.loop-rest.lines.items c.in-Ok.found c.in-Ok.behind.now) ∙ ap (λ k. printed k N ++ c.in-Ok.behind.now) (sym pushed);
      number = omega (arith, longer, kept.number);
      on = λ all apart is.
          let left = kept.on all apart is in
          let next = next_line N all c.loop-rest.lines.items c.loop-rest.rest.now left.0 left.1 some in
          let found = c.in-Ok.ensures.back next.line (printed next.more N) apart.0 next.is next.one next.text in
          line_read N all c.loop-rest.lines.items c.push.new.self.items c.loop-rest.rest.now c.in-Ok.behind.now c.in-Ok.found next pushed found.0 found.1;
      short = omega (arith, kept.short, c.in-Ok.ensures.shorter);
    }

pub returns-in-Err-clause-fault : goal.returns-in-Err-clause-fault
returns-in-Err-clause-fault c =
    fault_found c.args.threads.now c.args.text.now c.loop-rest.rest.now c.loop-rest.lines.items c.in-Err.why c.loop-rest.number c.fault_of.result c.fault_of.ensures c.loop-rest.invariant.number c.loop-rest.invariant.are c.loop-rest.invariant.lines (λ e. c.in-Err.ensures.unprinted e (not_empty c.loop-rest.rest.now c.is_empty.result c.is_empty.ensures c.loop-rest-test.true))

pub returns-in-Err-clause-back : goal.returns-in-Err-clause-back
returns-in-Err-clause-back c = λ all apart is.
    let left = c.loop-rest.invariant.on all apart is in
    let next = next_line c.args.threads.now all c.loop-rest.lines.items c.loop-rest.rest.now left.0 left.1 (not_empty c.loop-rest.rest.now c.is_empty.result c.is_empty.ensures c.loop-rest-test.true) in
    fault_memory c.in-Err.why c.loop-rest.number c.fault_of.result c.fault_of.ensures (c.in-Err.ensures.back next.line (printed next.more c.args.threads.now) apart.0 next.is next.one next.text)

pub returns-clause-back : goal.returns-clause-back
returns-clause-back c = λ all apart is.
    let left = c.loop-rest.invariant.on all apart is in
    c.of.ensures ∙ all_read c.args.threads.now all c.loop-rest.lines.items c.loop-rest.rest.now left.0 left.1 (is_empty_list c.loop-rest.rest.now c.is_empty.result c.is_empty.ensures c.loop-rest-test.false)
