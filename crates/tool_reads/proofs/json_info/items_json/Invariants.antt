use Rattle.std.proofs.Common.{◌≡◌, [], ◌∷◌, drop, map}
use Rattle.json.specs.Token.{begin_object}
use Rattle.tool_reads.specs.Printed.{text_in}
use Rattle.tool_reads.specs.Answers.{beside}
use Rattle.tool_reads.specs.JsonReads.{item_members}
use Rattle.tool_reads.proofs.json_info.items_json.Given as goal

-- the members so far, and those of the rows that are left
abbrev pub invariant-loop-row : goal.invariant-loop-row
invariant-loop-row l = record {
  before : l.json.before ≡ [];
  tokens : beside l.json.tokens (item_members (text_in l.locale) (map (λ name. name.now) l.asked) (map (λ row. row.0.now) (drop l.row-index l.rows))) ≡ beside (begin_object ∷ []) (item_members (text_in l.locale) (map (λ name. name.now) l.asked) (map (λ row. row.0.now) l.rows));
}
