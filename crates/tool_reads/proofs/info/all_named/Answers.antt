use Rattle.std.proofs.Common.{List, ℕ, subst}
use Rattle.script_words.specs.Tables.{items_table}
use Rattle.tool_reads.specs.Answers.{Answers, each_of}
use Rattle.tool_reads.specs.Printed.{named_line, text_in}
use Rattle.tool_reads.proofs.AnswerLemmas.{names_of_rows}
use Rattle.tool_reads.proofs.info.all_named.Goals as goal

pub returns : goal.returns
returns c =
    subst (λ (ns : List (List ℕ)). Answers (λ lines. lines) c.named_lines.result (each_of (named_line (text_in c.args.locale.now)) ns))
    (names_of_rows (λ w. w.now) c.item_rows.result.now items_table c.item_rows.ensures)
    c.named_lines.ensures
