-- The plain data that the code's ops, replies and entries stand for.
use Rattle.std.specs.Prelude.{Option, Some, None, Result, Ok, Err}
use Rattle.handle_table.specs.Entry as data_of
use Rattle.handle_table.specs.declared.op.Op.{Op}
use Rattle.handle_table.specs.declared.op.Op.TheVariants.{New, Dup, Free, Use, Hold, Release, SetGlobal, Install, Post, Fetch, Pins, End}
use Rattle.handle_table.specs.declared.op.Reply.{Reply}
use Rattle.handle_table.specs.declared.op.Reply.TheVariants as replies
use Rattle.handle_table.specs.declared.op.Refusal.{Refusal}

-- an op as data
abbrev pub op_of : {P : _} → Op P → data_of.Op
op_of (New mask names base) = data_of.New mask names base
op_of (Dup from) = data_of.Dup from
op_of (Free h) = data_of.Free h
op_of (Use to) = data_of.Use to
op_of (Hold h) = data_of.Hold h
op_of (Release h) = data_of.Release h
op_of (SetGlobal mask names) = data_of.SetGlobal mask names
op_of (Install name offer) = data_of.Install name offer
op_of (Post cell h) = data_of.Post cell h
op_of (Fetch owner cell) = data_of.Fetch owner cell
op_of (Pins h) = data_of.Pins h
op_of End = data_of.End

-- a reply as data
abbrev pub reply_of : {P : _} → Reply P → data_of.Reply
reply_of (replies.Made h) = data_of.Made h
reply_of replies.Freed = data_of.Freed
reply_of (replies.Was former now) = data_of.Was former now
reply_of (replies.Held object) = data_of.Held object
reply_of replies.Released = data_of.Released
reply_of (replies.Set version object) = data_of.Set version object
reply_of (replies.Installed count) = data_of.Installed count
reply_of replies.Posted = data_of.Posted
reply_of (replies.Got h) = data_of.Got h
reply_of (replies.Pins count) = data_of.Pinned count
reply_of replies.Ended = data_of.Ended
reply_of (replies.Refused refusal) = data_of.Refused refusal

-- the reason that a check gives as its error
abbrev pub reason_of : {X : Type 0} → Result X Refusal → Option Refusal
reason_of (Ok x) = None
reason_of (Err refusal) = Some refusal
