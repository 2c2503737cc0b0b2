use Rattle.std.proofs.Common.{◌≡◌, ◌*◌, ◌≤◌, length}
use Rattle.class_ranges.specs.Ranges.{covers}
use Rattle.class_ranges.specs.Pages.{IsAlike, IsPaged}
use Rattle.class_ranges.proofs.paged_ranges.PagedRanges.of.Given as goal

abbrev pub invariant-loop-page : goal.invariant-loop-page
invariant-loop-page l = record {
  right : IsPaged l.numbers.items l.pages.items (covers l.ranges);
  count : length l.numbers.items ≡ l.page;
  few : length l.pages.items ≤ l.page;
  alike : IsAlike (covers l.ranges) (l.page * 256) l.stretch.last l.stretch.is_in;
}
