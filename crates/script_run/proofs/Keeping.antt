-- A worker that has seen more.
use Rattle.std.proofs.Common.{◌≡◌, List, length, map, refl, sym, ap, ◌∙◌, arith}
use Rattle.handle_table.specs.Entry.{History}
use Rattle.thread_current.specs.Thread.{Thread, IsInOrder, SawMore}
use Rattle.catalog_handles.specs.Reader as readers
use Rattle.catalog_handles.specs.Reader.{ReaderData}
use Rattle.script_wishes.specs.declared.holds.OpenHold.{OpenHold}
use Rattle.script_lines.specs.declared.thread.Thread.{Thread as ScriptThread}
use Rattle.script_wishes.specs.Holds.{open_holds}
use Rattle.script_plan.specs.Plan.{PlanData}
use Rattle.script_seats.specs.declared.seated.Seated.{Seated}
use Rattle.script_seats.specs.Seated.{held_data, Gates}
use Rattle.script_run.specs.Timed.{Timed}
use Rattle.script_run.specs.Beside.{IsWorker}
use Rattle.script_run.proofs.AskedSeen.{asked_kept}
use Rattle.script_run.proofs.Seeing.{made_kept, holds_kept}

-- the same thread of the script with what it is at the table and at the catalogs
abbrev pub thread_both : ScriptThread Seated → Thread → ReaderData → ScriptThread Seated
thread_both t mine reader = record t { side = record t.side { mine = mine; reader = reader } }

pub worker_kept : (gate : Gates) (plan : PlanData) (t : ScriptThread Seated) (mine : Thread) (reader : ReaderData) (made : List Timed) → IsWorker gate plan t made → SawMore t.side.mine mine
    → IsInOrder gate.locales.terms mine → readers.SawMore t.side.reader reader → readers.IsInOrder gate.catalogs.terms reader → IsWorker gate plan (thread_both t mine reader) made
worker_kept gate plan t mine reader made was saw order asked_saw asked_order =
    let same : open_holds mine.seen t.side.number ≡ open_holds t.side.mine.seen t.side.number =
    holds_kept gate.locales.terms t.side.mine mine t.side.number was.seated.knows.number was.made.in_order order saw
    in
    let calls : length mine.calls ≡ length t.side.mine.calls = ap (λ (H : History). length H) saw.calls in
    let holds : length (open_holds mine.seen t.side.number) ≡ length (open_holds t.side.mine.seen t.side.number) = ap (λ (os : List OpenHold). length os) same in
    let few = was.few in
    record {
      seated = record {
        thread = (saw.same.table ∙ was.seated.thread.0, saw.same.terms ∙ was.seated.thread.1);
        in_order = order;
        knows = record {
          seen = refl;
          number = saw.same.number ∙ was.seated.knows.number;
          holds = was.seated.knows.holds ∙ ap (λ (os : List OpenHold). map held_data os) (sym same);
        };
      };
      asking = record {
        thread = (asked_saw.same.table ∙ was.asking.thread.0, asked_saw.same.terms ∙ was.asking.thread.1);
        in_order = asked_order;
        seen = refl;
        number = asked_saw.same.number ∙ was.asking.number;
      };
      asked = asked_kept gate.catalogs.terms t.side.reader reader made was.asked asked_saw asked_order;
      agree = was.agree;
      made = made_kept gate.locales.terms plan t.side.mine mine made was.made saw order;
      few = omega (arith, calls, holds, few);
      variables = was.variables;
      lines = was.lines;
    }
