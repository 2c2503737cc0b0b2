use Rattle.tool_script.specs.Explained.{reason_words}
use Rattle.tool_script.proofs.explained.push_all_counts.Goals as goal

pub returns : goal.returns
unfolding reason_words
returns c = c.push_counts.ensures
