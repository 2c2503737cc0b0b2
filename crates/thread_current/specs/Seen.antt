-- What a seat at the table has seen, as a history of the table: the same calls in the same order, the newest first.
use Rattle.std.specs.Prelude.{ℕ, ◌<◌, map}
use Rattle.mask_compose.specs.Parts.{Parts}
use Rattle.turn_gate.specs.declared.entry.Entry as calls
use Rattle.turn_gate.specs.History as turns
use Rattle.handle_table.specs.declared.op.Op.{Op}
use Rattle.handle_table.specs.declared.op.Reply.{Reply}
use Rattle.handle_table.specs.Entry.{Entry, History, Setting}
use Rattle.handle_table.specs.History.{sets, global_at}
use Rattle.handle_table.specs.Seen.{op_of, reply_of}
use Rattle.handle_table.specs.Table.{Fits}

-- a call on the turns as an entry of the table
abbrev pub entry_of : {P : _} → calls.Entry (Op P) (Reply P) → Entry
entry_of e = record { who = e.who; op = op_of e.op; reply = reply_of e.reply }

-- the calls on the turns as a history of the table
abbrev pub entries_of : {P : _} → turns.History (Op P) (Reply P) → History
entries_of H = map entry_of H

-- the version of the global locale after the calls
abbrev pub version_after : {P : _} → turns.History (Op P) (Reply P) → ℕ
version_after H = sets (entries_of H)

-- the global object of that version
abbrev pub newest_object : {P : _} → Setting → turns.History (Op P) (Reply P) → Parts
newest_object c H = global_at c (entries_of H) (version_after H)

-- the caller is a thread of the table, and the numbers that the op gives are of the table
abbrev pub May : {P : _} → Setting → ℕ → Op P → Type 0
May c who op = (who < c.threads) × Fits c (op_of op)
