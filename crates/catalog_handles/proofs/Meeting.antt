-- Threads of shared catalogs that have seen more.
use Rattle.std.proofs.Common.{◌≡◌, ◌+◌, ◌≤◌, ◌++◌, [], length, refl, sym, ap, ◌∙◌, arith, append_assoc, length-append}
use Rattle.catalog_handles.specs.Entry.{History}
use Rattle.catalog_handles.specs.Reader.{ReaderData, GoesOnFrom, SawMore}

pub goes_on : (W S T : History) → GoesOnFrom T W → GoesOnFrom W S → GoesOnFrom T S
goes_on W S T after before =
    (after.0 ++ before.0, after.1 ∙ ap (λ (H : History). after.0 ++ H) before.1 ∙ sym (append_assoc after.0 before.0 S))

pub goes_same : (W : History) → GoesOnFrom W W
goes_same W = ([], refl)

pub as_long : (W S : History) → GoesOnFrom W S → length S ≤ length W
as_long W S later =
    let long : length W ≡ length (later.0 ++ S) = ap (λ (H : History). length H) later.1 in
    let both : length (later.0 ++ S) ≡ length later.0 + length S = length-append later.0 S in
    omega (arith, long, both)

pub saw_again : (t u v : ReaderData) → SawMore t u → SawMore u v → SawMore t v
saw_again t u v first then = record {
  same = record {
    table = then.same.table ∙ first.same.table;
    terms = then.same.terms ∙ first.same.terms;
    number = then.same.number ∙ first.same.number;
  };
  later = goes_on u.seen t.seen v.seen then.later first.later;
  calls = then.calls ∙ first.calls;
}

pub saw_same : (r : ReaderData) → SawMore r r
saw_same r = record { same = record { table = refl; terms = refl; number = refl }; later = goes_same r.seen; calls = refl }
