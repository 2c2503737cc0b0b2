use Rattle.std.proofs.Common.{◌≡◌, ◌∷◌, List, length, ap, ◌∙◌, arith, subst}
use Rattle.std.specs.Vec.Iter.{into_iter_items}
use Rattle.thread_current.specs.Thread.{Thread}
use Rattle.catalog_handles.specs.Reader.{ReaderData}
use Rattle.script_run.proofs.Beginning.{FirstSoFar, first_next, reader_left}
use Rattle.script_run.proofs.rounds.new_workers.Goals as goal

pub overflow_cast-number : goal.overflow_cast-number
overflow_cast-number c =
    let long = c.len-number.ensures in
    let count = c.loop-mine.invariant.so_far.count in
    let few = c.requires.few in
    let items = c.loop-mine.workers.ok.0 in
    omega (arith, long, count, few, items)

pub unreachable-requires : goal.unreachable-requires
unreachable-requires c =
    let steps : into_iter_items c.loop-mine.mine-iterator ≡ c.in-Some.mine ∷ into_iter_items c.next.new.self = c.in-Some.ensures.steps.0 in
    let none = c.in_default.ensures.cases.0 in
    let long = c.loop-mine.invariant.readers_left in
    reader_left c.args.all c.args.readers c.loop-mine.workers.items c.in-Some.mine (into_iter_items c.next.new.self) (into_iter_items c.loop-mine.left)
    (subst (λ (ts : List Thread). FirstSoFar c.args.all c.args.readers c.loop-mine.workers.items ts (into_iter_items c.loop-mine.left)) steps c.loop-mine.invariant.so_far)
    c.requires.many (omega (arith, none, long))

pub loop-mine-preserved : goal.loop-mine-preserved
loop-mine-preserved c =
    let steps : into_iter_items c.loop-mine.mine-iterator ≡ c.in-Some.mine ∷ into_iter_items c.next.new.self = c.in-Some.ensures.steps.0 in
    let reads : into_iter_items c.loop-mine.left ≡ c.in-Some-next.reader ∷ into_iter_items c.next-in-loop-mine.new.self = c.in-Some-next.ensures.cases.0 in
    record {
      so_far = first_next c.args.all c.args.readers c.loop-mine.workers.items c.push.new.self.items c.in-Some.mine (into_iter_items c.next.new.self) c.in-Some-next.reader (into_iter_items c.next-in-loop-mine.new.self)
          c.new-in-loop-mine.result c.new.result
          (subst (FirstSoFar c.args.all c.args.readers c.loop-mine.workers.items (c.in-Some.mine ∷ into_iter_items c.next.new.self)) reads
          (subst (λ (ts : List Thread). FirstSoFar c.args.all c.args.readers c.loop-mine.workers.items ts (into_iter_items c.loop-mine.left)) steps c.loop-mine.invariant.so_far))
          c.in_ok-push.ensures.items
          c.new-in-loop-mine.ensures.0 (c.new.ensures.0 ∙ c.len-number.ensures ∙ c.loop-mine.workers.ok.0) c.new.ensures.1 c.new.ensures.2 c.new.ensures.3 c.new-in-loop-mine.ensures.3 c.new-in-loop-mine.ensures.1 c.new-in-loop-mine.ensures.2;
      left =
          let was = c.loop-mine.invariant.left in
          let gone = c.in-Some.ensures.steps.1 in
          let short = ap (λ (ts : List Thread). length ts) steps in
          omega (arith, was, gone, short);
      readers_left =
          let was = c.loop-mine.invariant.readers_left in
          let gone = c.in-Some-next.ensures.cases.1 in
          let short = ap (λ (rs : List ReaderData). length rs) reads in
          omega (arith, was, gone, short);
    }
