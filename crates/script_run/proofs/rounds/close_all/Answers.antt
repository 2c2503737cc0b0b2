use Rattle.std.proofs.Common.{◌≡◌, ◌∷◌, [], ◌++◌, List, length, take, drop, ◌+◌, sym, ap, subst, ◌∙◌, arith, rules}
use Rattle.std.specs.Vec.Iter.{into_iter_items}
use Rattle.script_plan.specs.Plan.{PlanData}
use Rattle.script_run.specs.declared.worker.Worker.{Worker}
use Rattle.script_seats.specs.Seated.{Gates, gates}
use Rattle.script_run.specs.Beside.{LibraryAndBooks, library_and_books_of, CanClose}
use Rattle.script_run.specs.Rounds.{Each, EachTwo, plan_made, SeatData, SeatSeesMore, AreClosing}
use Rattle.thread_current.specs.Thread.{GoesOnFrom, thread_of}
use Rattle.script_run.proofs.Closing.{closing_begun, closing_step, can_close}
use Rattle.script_run.proofs.Running.{library_and_books_made}
use Rattle.script_run.proofs.Stacking.{written}
use Rattle.script_run.proofs.rounds.close_all.Goals as goal

pub loop-worker-init : goal.loop-worker-init
loop-worker-init g c =
    let plan : PlanData = plan_made c.args.bundle.now c.args.common.now.library.now c.args.common.now.books.now in
    let gate : Gates = gates c.args.common.now.shared.now c.args.common.now.catalogs.now in
    record {
      closing =
          subst (λ (ss : List SeatData). AreClosing gate plan ss (into_iter_items c.into_iter-worker-iterator.result) c.args.lines.now.items) (sym c.new-seats.ensures.items)
          (subst (λ (ws : List Worker). AreClosing gate plan [] ws c.args.lines.now.items) (sym c.into_iter-worker-iterator.ensures.into_iter_gives.0)
          (closing_begun gate plan c.args.lines.now.items c.args.workers.items c.requires.between));
      left = search rules;
    }

pub close-requires : goal.close-requires
close-requires g c =
    let plan : PlanData = plan_made c.args.bundle.now c.args.common.now.library.now c.args.common.now.books.now in
    let gate : Gates = gates c.args.common.now.shared.now c.args.common.now.catalogs.now in
    let steps : into_iter_items c.loop-worker.worker-iterator ≡ c.in-Some.worker ∷ into_iter_items c.next.new.self = c.in-Some.ensures.steps.0 in
    let was : AreClosing gate plan c.loop-worker.seats.items (c.in-Some.worker ∷ into_iter_items c.next.new.self) c.loop-worker.lines.items =
    subst (λ (ws : List Worker). AreClosing gate plan c.loop-worker.seats.items ws c.loop-worker.lines.items) steps c.loop-worker.invariant.closing
    in
    record {
      can = subst (λ (x : LibraryAndBooks). CanClose gate x c.meet_last.new.thread) (library_and_books_made c.args.bundle.now c.args.common.now.library.now c.args.common.now.books.now c.requires.catalogs)
          (subst (CanClose gate (library_and_books_of plan)) (sym c.meet_last.ensures.thread)
          (can_close gate plan c.loop-worker.seats.items c.in-Some.worker (into_iter_items c.next.new.self) c.meet_last.new.thread.side.mine c.loop-worker.lines.items was c.requires.sound c.requires.terms c.requires.asked c.meet_last.ensures.saw c.meet_last.ensures.in_order));
    }

pub loop-worker-preserved : goal.loop-worker-preserved
loop-worker-preserved g c =
    let plan : PlanData = plan_made c.args.bundle.now c.args.common.now.library.now c.args.common.now.books.now in
    let gate : Gates = gates c.args.common.now.shared.now c.args.common.now.catalogs.now in
    let seats : List SeatData = c.loop-worker.seats.items in
    let others : List SeatData = c.meet_last.new.seats in
    let n = c.loop-worker.seats.len in
    let steps : into_iter_items c.loop-worker.worker-iterator ≡ c.in-Some.worker ∷ into_iter_items c.next.new.self = c.in-Some.ensures.steps.0 in
    let was : AreClosing gate plan seats (c.in-Some.worker ∷ into_iter_items c.next.new.self) c.loop-worker.lines.items =
    subst (λ (ws : List Worker). AreClosing gate plan seats ws c.loop-worker.lines.items) steps c.loop-worker.invariant.closing
    in
    let slice : c.as_mut_slice.result.now ≡ seats = c.as_mut_slice.ensures.value in
    let slice_long = ap (λ (ss : List SeatData). length ss) slice in
    let items_long : n ≡ length seats = c.loop-worker.seats.ok.0 in
    let long : length others ≡ length seats = omega (arith, c.meet_last.auto.seats, slice_long) in
    let back : take n (others ++ drop (length others) seats) ≡ others = written n others (drop (length others) seats) (omega (arith, long, items_long)) in
    let more : EachTwo seats others (λ i old new. SeatSeesMore gate.locales old new) = subst (λ (ss : List SeatData). EachTwo ss others (λ i old new. SeatSeesMore gate.locales old new)) slice c.meet_last.ensures.seats in
    let last : Each seats (λ i s. i + 1 ≡ length seats → GoesOnFrom c.meet_last.new.thread.side.mine.seen (thread_of 0 s).seen) =
    subst (λ (ss : List SeatData). Each ss (λ i s. i + 1 ≡ length ss → GoesOnFrom c.meet_last.new.thread.side.mine.seen (thread_of 0 s).seen)) slice c.meet_last.ensures.last
    in
    record {
      closing = closing_step gate plan seats others c.push.new.self.items c.in-Some.worker (into_iter_items c.next.new.self) c.meet_last.new.thread c.loop-worker.lines.items c.in_ok-closing.closing.items c.append.new.self.items c.in_ok-closing.seat
          was c.meet_last.ensures.thread c.meet_last.ensures.saw c.meet_last.ensures.in_order long more last
          (λ made worker. c.in_ok-closing.ensures.closes plan made (library_and_books_made c.args.bundle.now c.args.common.now.library.now c.args.common.now.books.now c.requires.catalogs) worker) c.in_ok-closing.ensures.seat.0 c.in_ok-closing.ensures.seat.1
          (c.in_ok-push.ensures.items ∙ ap (λ (ss : List SeatData). ss ++ c.in_ok-closing.seat ∷ []) back) c.in_ok-append.ensures.items;
      left =
          let had = c.loop-worker.invariant.left in
          let gone = c.in-Some.ensures.steps.1 in
          let short = ap (λ (ws : List Worker). length ws) steps in
          omega (arith, had, gone, short);
    }
