use Rattle.std.proofs.Common.{List, ℕ, map, subst, sym}
use Rattle.lc_base.specs.declared.item.Item.{Item}
use Rattle.script_words.specs.Tables.{items_table}
use Rattle.tool_reads.specs.Answers.{Answers, Defined, and_then}
use Rattle.tool_reads.specs.JsonReads.{item_members, members_json}
use Rattle.tool_reads.specs.Printed.{item_names, text_in}
use Rattle.tool_reads.proofs.AnswerLemmas.{names_of_rows}
use Rattle.tool_reads.proofs.json_info.info_json.Goals as goal

pub returns : goal.returns
returns c =
    let asked = map (λ name. name.now) c.args.names.now in
    let told = subst (λ (ns : List (List ℕ)). Answers (λ line. line) c.items_json.result (members_json (item_members (text_in c.args.locale.now) asked ns)))
    (names_of_rows (λ w. w.now) c.item_rows.result.now items_table c.item_rows.ensures)
    c.items_json.ensures in
    subst (λ (d : Defined (List Item)). Answers (λ line. line) c.items_json.result (and_then d (λ items. members_json (item_members (text_in c.args.locale.now) asked item_names))))
    (sym c.in_ok-_named.ensures) told
