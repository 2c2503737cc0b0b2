use Rattle.std.proofs.Common.{◌≡◌, drop, map}
use Rattle.lc_base.specs.Tables.{first_named}
use Rattle.script_words.proofs.table.item_in.Given as goal

-- no row so far has the name
abbrev pub invariant-loop-name : goal.invariant-loop-name
invariant-loop-name l =
    first_named (map (λ row. (row.0.now, row.1)) (drop l.name-index l.rows)) l.word ≡ first_named (map (λ row. (row.0.now, row.1)) l.rows) l.word
