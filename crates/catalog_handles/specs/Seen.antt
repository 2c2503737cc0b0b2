-- The plain data that the code's ops, replies and entries stand for.
use Rattle.std.specs.Prelude.{ℕ, ◌<◌, map}
use Rattle.turn_gate.specs.declared.entry.Entry as calls
use Rattle.turn_gate.specs.History as turns
use Rattle.catalog_handles.specs.declared.setting.CatalogSetting.{CatalogSetting}
use Rattle.catalog_handles.specs.declared.op.CatalogOp.{CatalogOp}
use Rattle.catalog_handles.specs.declared.op.CatalogOp.TheVariants as ops
use Rattle.catalog_handles.specs.declared.op.CatalogReply.{CatalogReply}
use Rattle.catalog_handles.specs.declared.op.CatalogReply.TheVariants as replies
use Rattle.catalog_handles.specs.declared.stamped.StampedOp.{StampedOp}
use Rattle.catalog_handles.specs.declared.stamped.StampedReply.{StampedReply}
use Rattle.catalog_handles.specs.Entry.{Op, Open, Get, Close, Reply, Opened, Book, Closed, Refused, Entry, History}

-- an op as data, by the numbers of catalogs
abbrev pub op_of : {B : Type 0} → (B → ℕ) → CatalogOp B → Op
op_of number (ops.Open book) = Open (number book)
op_of number (ops.Get h) = Get h
op_of number (ops.Close h) = Close h

-- a reply as data
abbrev pub reply_of : {B : Type 0} → (B → ℕ) → CatalogReply B → Reply
reply_of number (replies.Opened h) = Opened h
reply_of number (replies.Book book) = Book (number book)
reply_of number replies.Closed = Closed
reply_of number (replies.Refused refusal) = Refused refusal

-- a call on the turns as an entry
abbrev pub entry_of : {B : Type 0} → (B → ℕ) → calls.Entry (StampedOp B) (StampedReply B) → Entry
entry_of number e = record { who = e.who; op = op_of number e.op.op; reply = reply_of number e.reply.reply; stamp = e.reply.stamp }

-- the calls on the turns as a history
abbrev pub entries_of : {B : Type 0} → (B → ℕ) → turns.History (StampedOp B) (StampedReply B) → History
entries_of number H = map (entry_of number) H

-- the caller is one of the setting's threads
abbrev pub IsCaller : {B : Type 0} → CatalogSetting → ℕ → StampedOp B → Type 0
IsCaller c who op = who < c.threads
