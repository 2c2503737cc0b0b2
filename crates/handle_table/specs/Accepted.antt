-- What a call with nothing against it gives and leaves, whatever history the table stands for.
use Rattle.std.specs.Prelude.{◌≡◌, ℕ, ◌+◌, ◌≤◌, ◌∷◌, length, None}
use Rattle.handle_table.specs.Entry.{Op, Reply, History, Setting}
use Rattle.handle_table.specs.Answer.{first_reason, reasons, reply_to, entry}
use Rattle.handle_table.specs.Kept.{KeptData, Keeps}

-- the op was accepted: the reply is what it asks for, and what is kept is what the longer history says
pub record Accepts (c : Setting) (w : ℕ) (op : Op) (before after : KeptData) (reply : Reply) : Type 0 where
  pub replies : (H : History) → Keeps c H before → first_reason (reasons c H w op) ≡ None → reply ≡ reply_to c H w op
  pub keeps : (H : History) → Keeps c H before → first_reason (reasons c H w op) ≡ None → Keeps c (entry c H w op ∷ H) after

-- what is kept has its lines and places as before, and its counts are one more at most
pub record SameShape (before after : KeptData) : Type 0 where
  pub lines : after.rows.lines ≡ before.rows.lines
  pub width : after.rows.width ≡ before.rows.width
  pub installed : length after.installed ≡ length before.installed
  pub installs : after.installs ≤ before.installs + 1
  pub version : after.global.version ≤ before.global.version + 1
