use Rattle.std.proofs.Common.{◌≡◌, ℕ, List, ◌++◌, ap, ◌∙◌}
use Rattle.reason_rules.specs.Words.{reason_text}
use Rattle.script_out.specs.Refusal.{refusal_line}
use Rattle.tool_files.proofs.ToldLemmas.{placeless}
use Rattle.tool_files.proofs.file_fault.reason_words.Goals as goal

pub returns : goal.returns
returns c =
    let reason = c.args.reason in
    let line = c.as_slice.ensures.value ∙ c.in_ok-push_refusal.ensures ∙ ap (λ (xs : List ℕ). xs ++ refusal_line (record { line = 0; column = 0 }) reason) c.new-line.ensures.items ∙ placeless reason in
    let is : c.words_of.result.now ≡ reason_text reason = c.words_of.ensures (reason_text reason) line in
    rw (← is) c.of.ensures
