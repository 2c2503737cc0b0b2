use Rattle.std.proofs.Common.{sym, subst, List, ℕ}
use Rattle.tool_reads.specs.Answers.{Answers}
use Rattle.tool_reads.specs.Printed.{info_lines, text_in}
use Rattle.tool_reads.proofs.AnswerLemmas.{none_left}
use Rattle.tool_reads.proofs.info.info_lines.Goals as goal

pub returns-in-empty : goal.returns-in-empty
returns-in-empty c =
    subst (λ (ns : List (List ℕ)). Answers (λ lines. lines) c.all_named.result (info_lines (text_in c.args.locale.now) ns))
    (sym (none_left (λ w. w.now) c.args.names.now c.in-empty.len_below))
    c.all_named.ensures
