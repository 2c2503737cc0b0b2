use Rattle.std.proofs.Common.{arith}
use Rattle.class_ranges.proofs.Pages.{bits_say}
use Rattle.class_ranges.proofs.page.page_says.Goals as goal

pub returns : goal.returns
returns c =
    bits_say c.args.pages.now c.in_ok-page.page.now c.args.number c.args.k (omega arith) c.in_ok-page.ensures.lookup.3.0 c.in_ok-page.ensures.lookup.1
