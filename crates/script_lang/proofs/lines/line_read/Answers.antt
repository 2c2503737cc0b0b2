use Rattle.script_lang.proofs.lines.line_read.Goals as goal

pub returns-in_ok-close_block-in-Some-clause-kept : goal.returns-in_ok-close_block-in-Some-clause-kept
returns-in_ok-close_block-in-Some-clause-kept c = c.in_ok-close_block-in-Some.ensures.kept _
