use Rattle.std.proofs.Common.{◌≡◌, ◌+◌, ◌++◌, List, length, map, take, drop, sym, ap, subst, ◌∙◌, arith}
use Rattle.std.specs.Prelude.{flat_map}
use Rattle.script_wishes.specs.Seen.{turn_seen}
use Rattle.script_wishes.specs.Turns.{Turn, round_turns}
use Rattle.script_wishes.specs.declared.turns.Turn.{Turn as LentTurn}
use Rattle.script_plan.specs.Plan.{PlanData}
use Rattle.script_run.specs.declared.worker.Worker.{Worker}
use Rattle.script_seats.specs.Seated.{Gates, gates}
use Rattle.script_run.specs.Beside.{LibraryAndBooks, library_and_books, library_and_books_of}
use Rattle.script_run.specs.Workers.{MayWork}
use Rattle.script_run.specs.Rounds.{Each, EachTwo, plan_made, IsOfBoth, IsOrderly, HasWorked, HasGiven, AllMet}
use Rattle.script_run.proofs.Rounding.{between_next, in_order_at}
use Rattle.script_run.proofs.Running.{library_and_books_made}
use Rattle.script_run.proofs.Stacking.{written}
use Rattle.script_run.proofs.Taking.{may_work}
use Rattle.script_run.proofs.rounds.all_rounds.Goals as goal

pub side_by_side-requires-after_bounds : goal.side_by_side-requires-after_bounds
side_by_side-requires-after_bounds g c κs within =
    let plan : PlanData = plan_made c.args.bundle.now c.args.common.now.library.now c.args.common.now.books.now in
    let gate : Gates = gates c.args.common.now.shared.now c.args.common.now.catalogs.now in
    let with_books : LibraryAndBooks = library_and_books c.args.common.now.library.now c.args.common.now.books.now in
    let same : library_and_books_of plan ≡ with_books = library_and_books_made c.args.bundle.now c.args.common.now.library.now c.args.common.now.books.now c.requires.catalogs in
    let turns : List Turn = map turn_seen c.as_slice.result.now in
    let turns_are : turns ≡ round_turns (length plan.bundle.threads) plan.bundle.commands (c.loop-i.i + 1) = ap (λ (ts : List LentTurn). map turn_seen ts) c.as_slice.ensures.value ∙ c.in_ok-turns.ensures in
    subst (λ (ws : List Worker). Each ws (λ i w. MayWork gate with_books turns w)) (sym c.as_mut_slice.ensures.value)
    (subst (λ (x : LibraryAndBooks). Each c.loop-i.workers.items (λ i w. MayWork gate x turns w)) same (may_work gate plan c.loop-i.i c.loop-i.lines.items c.loop-i.workers.items turns c.loop-i.invariant c.requires.sound c.requires.terms c.requires.asked turns_are))

pub meet_all-requires-clause-threads : goal.meet_all-requires-clause-threads
meet_all-requires-clause-threads g c =
    let plan : PlanData = plan_made c.args.bundle.now c.args.common.now.library.now c.args.common.now.books.now in
    let gate : Gates = gates c.args.common.now.shared.now c.args.common.now.catalogs.now in
    let with_books : LibraryAndBooks = library_and_books c.args.common.now.library.now c.args.common.now.books.now in
    let same : library_and_books_of plan ≡ with_books = library_and_books_made c.args.bundle.now c.args.common.now.library.now c.args.common.now.books.now c.requires.catalogs in
    let turns : List Turn = map turn_seen c.as_slice.result.now in
    let turns_are : turns ≡ round_turns (length plan.bundle.threads) plan.bundle.commands (c.loop-i.i + 1) = ap (λ (ts : List LentTurn). map turn_seen ts) c.as_slice.ensures.value ∙ c.in_ok-turns.ensures in
    let n = c.loop-i.workers.len in
    let items0 : List Worker = c.loop-i.workers.items in
    let worked : List Worker = c.side_by_side.new.workers in
    let given : List Worker = c.gather.new.workers in
    let items0_long : n ≡ length items0 = c.loop-i.workers.ok.0 in
    let slice0 : c.as_mut_slice.result.now ≡ items0 = c.as_mut_slice.ensures.value in
    let slice0_long = ap (λ (ws : List Worker). length ws) slice0 in
    let long1 : length worked ≡ n = omega (arith, c.side_by_side.auto.workers, slice0_long, items0_long) in
    let items1 : take n (worked ++ drop (length worked) items0) ≡ worked = written n worked (drop (length worked) items0) long1 in
    let slice1 : c.as_mut_slice-in-loop-i.result.now ≡ worked = c.as_mut_slice-in-loop-i.ensures.value ∙ items1 in
    let slice1_long = ap (λ (ws : List Worker). length ws) slice1 in
    let long2 : length given ≡ n = omega (arith, c.gather.auto.workers, slice1_long, long1) in
    let items2 : take n (given ++ drop (length given) (take n (worked ++ drop (length worked) items0))) ≡ given = written n given (drop (length given) (take n (worked ++ drop (length worked) items0))) long2 in
    let work : EachTwo items0 worked (λ i old new. HasWorked gate (library_and_books_of plan) turns old new) =
    subst (λ (x : LibraryAndBooks). EachTwo items0 worked (λ i old new. HasWorked gate x turns old new)) (sym same)
    (subst (λ (ws : List Worker). EachTwo ws worked (λ i old new. HasWorked gate with_books turns old new)) slice0 c.side_by_side.ensures)
    in
    let give : EachTwo worked given (λ i old new. HasGiven old new) = subst (λ (ws : List Worker). EachTwo ws given (λ i old new. HasGiven old new)) slice1 c.in_ok-gather.ensures.given in
    let ordered : Each given (λ i w. IsOfBoth gate w × IsOrderly gate w) =
    in_order_at gate plan c.loop-i.i c.loop-i.lines.items turns items0 worked given c.loop-i.invariant (omega (arith, long1, items0_long)) (omega (arith, long2, items0_long)) work give
    in
    subst (λ (ws : List Worker). Each ws (λ i w. IsOfBoth gate w)) (sym items2) (λ i d lt. (ordered i d lt).0)

pub meet_all-requires-clause-in_order : goal.meet_all-requires-clause-in_order
meet_all-requires-clause-in_order g c =
    let plan : PlanData = plan_made c.args.bundle.now c.args.common.now.library.now c.args.common.now.books.now in
    let gate : Gates = gates c.args.common.now.shared.now c.args.common.now.catalogs.now in
    let with_books : LibraryAndBooks = library_and_books c.args.common.now.library.now c.args.common.now.books.now in
    let same : library_and_books_of plan ≡ with_books = library_and_books_made c.args.bundle.now c.args.common.now.library.now c.args.common.now.books.now c.requires.catalogs in
    let turns : List Turn = map turn_seen c.as_slice.result.now in
    let turns_are : turns ≡ round_turns (length plan.bundle.threads) plan.bundle.commands (c.loop-i.i + 1) = ap (λ (ts : List LentTurn). map turn_seen ts) c.as_slice.ensures.value ∙ c.in_ok-turns.ensures in
    let n = c.loop-i.workers.len in
    let items0 : List Worker = c.loop-i.workers.items in
    let worked : List Worker = c.side_by_side.new.workers in
    let given : List Worker = c.gather.new.workers in
    let items0_long : n ≡ length items0 = c.loop-i.workers.ok.0 in
    let slice0 : c.as_mut_slice.result.now ≡ items0 = c.as_mut_slice.ensures.value in
    let slice0_long = ap (λ (ws : List Worker). length ws) slice0 in
    let long1 : length worked ≡ n = omega (arith, c.side_by_side.auto.workers, slice0_long, items0_long) in
    let items1 : take n (worked ++ drop (length worked) items0) ≡ worked = written n worked (drop (length worked) items0) long1 in
    let slice1 : c.as_mut_slice-in-loop-i.result.now ≡ worked = c.as_mut_slice-in-loop-i.ensures.value ∙ items1 in
    let slice1_long = ap (λ (ws : List Worker). length ws) slice1 in
    let long2 : length given ≡ n = omega (arith, c.gather.auto.workers, slice1_long, long1) in
    let items2 : take n (given ++ drop (length given) (take n (worked ++ drop (length worked) items0))) ≡ given = written n given (drop (length given) (take n (worked ++ drop (length worked) items0))) long2 in
    let work : EachTwo items0 worked (λ i old new. HasWorked gate (library_and_books_of plan) turns old new) =
    subst (λ (x : LibraryAndBooks). EachTwo items0 worked (λ i old new. HasWorked gate x turns old new)) (sym same)
    (subst (λ (ws : List Worker). EachTwo ws worked (λ i old new. HasWorked gate with_books turns old new)) slice0 c.side_by_side.ensures)
    in
    let give : EachTwo worked given (λ i old new. HasGiven old new) = subst (λ (ws : List Worker). EachTwo ws given (λ i old new. HasGiven old new)) slice1 c.in_ok-gather.ensures.given in
    let ordered : Each given (λ i w. IsOfBoth gate w × IsOrderly gate w) =
    in_order_at gate plan c.loop-i.i c.loop-i.lines.items turns items0 worked given c.loop-i.invariant (omega (arith, long1, items0_long)) (omega (arith, long2, items0_long)) work give
    in
    subst (λ (ws : List Worker). Each ws (λ i w. IsOrderly gate w)) (sym items2) (λ i d lt. (ordered i d lt).1)

pub loop-i-preserved : goal.loop-i-preserved
loop-i-preserved g c =
    let plan : PlanData = plan_made c.args.bundle.now c.args.common.now.library.now c.args.common.now.books.now in
    let gate : Gates = gates c.args.common.now.shared.now c.args.common.now.catalogs.now in
    let with_books : LibraryAndBooks = library_and_books c.args.common.now.library.now c.args.common.now.books.now in
    let same : library_and_books_of plan ≡ with_books = library_and_books_made c.args.bundle.now c.args.common.now.library.now c.args.common.now.books.now c.requires.catalogs in
    let turns : List Turn = map turn_seen c.as_slice.result.now in
    let turns_are : turns ≡ round_turns (length plan.bundle.threads) plan.bundle.commands (c.loop-i.i + 1) = ap (λ (ts : List LentTurn). map turn_seen ts) c.as_slice.ensures.value ∙ c.in_ok-turns.ensures in
    let n = c.loop-i.workers.len in
    let items0 : List Worker = c.loop-i.workers.items in
    let worked : List Worker = c.side_by_side.new.workers in
    let given : List Worker = c.gather.new.workers in
    let items0_long : n ≡ length items0 = c.loop-i.workers.ok.0 in
    let slice0 : c.as_mut_slice.result.now ≡ items0 = c.as_mut_slice.ensures.value in
    let slice0_long = ap (λ (ws : List Worker). length ws) slice0 in
    let long1 : length worked ≡ n = omega (arith, c.side_by_side.auto.workers, slice0_long, items0_long) in
    let items1 : take n (worked ++ drop (length worked) items0) ≡ worked = written n worked (drop (length worked) items0) long1 in
    let slice1 : c.as_mut_slice-in-loop-i.result.now ≡ worked = c.as_mut_slice-in-loop-i.ensures.value ∙ items1 in
    let slice1_long = ap (λ (ws : List Worker). length ws) slice1 in
    let long2 : length given ≡ n = omega (arith, c.gather.auto.workers, slice1_long, long1) in
    let items2 : take n (given ++ drop (length given) (take n (worked ++ drop (length worked) items0))) ≡ given = written n given (drop (length given) (take n (worked ++ drop (length worked) items0))) long2 in
    let work : EachTwo items0 worked (λ i old new. HasWorked gate (library_and_books_of plan) turns old new) =
    subst (λ (x : LibraryAndBooks). EachTwo items0 worked (λ i old new. HasWorked gate x turns old new)) (sym same)
    (subst (λ (ws : List Worker). EachTwo ws worked (λ i old new. HasWorked gate with_books turns old new)) slice0 c.side_by_side.ensures)
    in
    let give : EachTwo worked given (λ i old new. HasGiven old new) = subst (λ (ws : List Worker). EachTwo ws given (λ i old new. HasGiven old new)) slice1 c.in_ok-gather.ensures.given in
    let ordered : Each given (λ i w. IsOfBoth gate w × IsOrderly gate w) =
    in_order_at gate plan c.loop-i.i c.loop-i.lines.items turns items0 worked given c.loop-i.invariant (omega (arith, long1, items0_long)) (omega (arith, long2, items0_long)) work give
    in
    let met : List Worker = c.meet_all.new.workers.items in
    let items2_long = ap (λ (ws : List Worker). length ws) items2 in
    let met_long : length met ≡ length items0 = omega (arith, c.meet_all.ensures.length, items2_long, long2, items0_long) in
    let printed : c.gather.new.lines.items ≡ c.loop-i.lines.items ++ flat_map (λ (w : Worker). w.lines.items) worked =
    c.in_ok-gather.ensures.lines ∙ ap (λ (ws : List Worker). c.loop-i.lines.items ++ flat_map (λ (w : Worker). w.lines.items) ws) slice1
    in
    between_next gate plan c.loop-i.i c.loop-i.lines.items c.gather.new.lines.items turns items0 worked given met c.loop-i.invariant c.requires.terms c.requires.asked turns_are
    (omega (arith, long1, items0_long)) (omega (arith, long2, items0_long)) met_long work printed give
    (subst (λ (ws : List Worker). AllMet gate ws met) items2 c.meet_all.ensures.met)
