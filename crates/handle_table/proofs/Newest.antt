-- Of a row's handles only the newest is live or held on to.
use Rattle.std.proofs.Common.{◌≡◌, ℕ, ◌&&◌, not, [], ◌∷◌}
use Rattle.std.specs.Prelude.{nat_lt}
use Rattle.generations.specs.Store.{NoneComesBack, IsInOrder}
use Rattle.generations.proofs.Newest as rows
use Rattle.handle_table.specs.Entry.{History, Setting}
use Rattle.handle_table.specs.History.{makes, is_kept, objects, is_free}
use Rattle.handle_table.specs.Answer.{IsLegal}
use Rattle.handle_table.specs.Kept.{newest}
use Rattle.handle_table.proofs.Numbering.{all_new}
use Rattle.handle_table.proofs.Gone.{gone_stays, unmade_gone}
use Rattle.handle_table.proofs.Pinned.{gone_unkept, unkept_gone}

none_back : (c : Setting) (H : History) → IsLegal c H → NoneComesBack (objects c) H
none_back c [] legal = tt
none_back c (e ∷ H) legal = (
  λ h before un. gone_unkept c (e ∷ H) h (gone_stays c e H h legal before (unkept_gone c H h un)),
  none_back c H legal.1,
)

-- a legal history is one that rows have
pub in_order : (c : Setting) (H : History) → IsLegal c H → IsInOrder (objects c) H
in_order c H legal = record {
  new = all_new c H legal;
  gone = none_back c H legal;
  known = λ h un. gone_unkept c H h (unmade_gone c H h legal un);
}

-- a row is free where its newest handle is not kept, and it has generations left
pub free_newest : (c : Setting) (H : History) (t r : ℕ) → IsLegal c H
    → is_free c H t r ≡ (not (is_kept c H (newest H t r)) && nat_lt (makes H t r) c.generations)
free_newest c H t r legal = rows.free_newest (objects c) H t r (in_order c H legal)
