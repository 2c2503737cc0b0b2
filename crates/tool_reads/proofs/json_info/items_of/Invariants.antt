use Rattle.std.proofs.Common.{◌≡◌, drop, map}
use Rattle.lc_base.specs.Tables.{first_named}
use Rattle.script_words.specs.Tables.{items_table}
use Rattle.tool_reads.specs.Answers.{all_of, beside}
use Rattle.tool_reads.proofs.json_info.items_of.Given as goal

-- the items so far, and those of the words that are left
abbrev pub invariant-loop-name : goal.invariant-loop-name
invariant-loop-name l = beside l.items.items (all_of (first_named items_table) (map (λ name. name.now) (drop l.name-index l.names))) ≡ all_of (first_named items_table) (map (λ name. name.now) l.names)
