use Rattle.std.proofs.Common.{◌+◌, arith}
use Rattle.class_ranges.proofs.Pages.{kept, added}
use Rattle.class_ranges.proofs.page.page_number.Goals as goal

pub returns-clause-says : goal.returns-clause-says
returns-clause-says c = λ k within.
    rw (c.in_ok-push.ensures.items) (added c.args.pages.now.items c.page_from.result (c.len.result + 2) k _ (omega arith) (c.page_from.ensures k within))

pub returns-clause-kept : goal.returns-clause-kept
returns-clause-kept c = λ n k b is. rw (c.in_ok-push.ensures.items) (kept c.args.pages.now.items c.page_from.result n k b is)
