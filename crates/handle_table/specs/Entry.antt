-- One entry of a history: who called, what was asked and what was replied, as plain data.
use Rattle.std.specs.Prelude.{ℕ, List, Option, Bool, true, false}
use Rattle.generations.specs.Kind as generations
use Rattle.mask_compose.specs.Parts.{Parts}
use Rattle.mask_compose.specs.Offer.{Offered}
use Rattle.lc_base.specs.declared.handle.Handle.{Handle}
use Rattle.lc_base.specs.declared.handle.Named.{Named}
use Rattle.lc_base.specs.declared.handle.Named.TheVariants.{Global, Of}
use Rattle.handle_table.specs.Numbers.{object_handles}
use Rattle.handle_table.specs.declared.op.Refusal.{Refusal}

-- what a thread asks of the table; masks are bits, and the five numbers of a New or a SetGlobal are
-- those of locale names, one for each category in their order
pub data Op : Type 0 where
  New : ℕ → List ℕ → Option Named → Op
  Dup : Named → Op
  Free : Named → Op
  Use : Named → Op
  Hold : Named → Op
  Release : Named → Op
  SetGlobal : ℕ → List ℕ → Op
  Install : ℕ → Offered → Op
  Post : ℕ → Named → Op
  Fetch : ℕ → ℕ → Op
  Pins : Named → Op
  End : Op

-- what the table replies
pub data Reply : Type 0 where
  Made : Handle → Reply
  Freed : Reply
  Was : Named → Option Parts → Reply
  Held : Parts → Reply
  Released : Reply
  Set : ℕ → Parts → Reply
  Installed : ℕ → Reply
  Posted : Reply
  Got : Handle → Reply
  Pinned : ℕ → Reply
  Ended : Reply
  Refused : Refusal → Reply

-- one call of a thread, with its reply
pub record Entry : Type 0 where
  pub who : ℕ
  pub op : Op
  pub reply : Reply

-- all entries, the newest first, so that each search goes from the end of the history to its begin;
-- an entry's place is the number of entries below it
abbrev pub History : Type 0
History = List Entry

-- what a table is made for: threads, rows a thread, generations a row, and the offers of the locale
-- names before any Install, of which the first is the POSIX locale's
pub record Setting : Type 0 where
  pub threads : ℕ
  pub rows : ℕ
  pub generations : ℕ
  pub opening : List Offered

-- whether two handles are one
abbrev pub same_handle : Handle → Handle → Bool
same_handle g h = generations.same_handle object_handles g h

-- whether a name is that of the handle
abbrev pub names : Named → Handle → Bool
names Global h = false
names (Of g) h = same_handle g h

-- an entry is accepted where its reply is not a refusal
abbrev pub is_accepted : Reply → Bool
is_accepted (Refused refusal) = false
is_accepted _ = true
