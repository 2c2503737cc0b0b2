use Rattle.std.proofs.Common.{◌≡◌, ◌++◌, ◌∷◌, [], List, length, take, drop, sym, ap, subst, ◌∙◌, arith}
use Rattle.script_run.specs.declared.worker.Worker.{Worker}
use Rattle.script_seats.specs.Seated.{Gates, gates}
use Rattle.script_run.specs.Rounds.{Each, EachTwo, mine_of, reader_at, IsOfBoth, IsOrderly, HasSeenOf, HasMet, AllMet}
use Rattle.script_run.proofs.Meeting.{all_met, last_is, met_threads, others_of}
use Rattle.script_run.proofs.Stacking.{written}
use Rattle.script_run.proofs.rounds.meet_all.Goals as goal

pub returns-in-Some-clause-met : goal.returns-in-Some-clause-met
returns-in-Some-clause-met c =
    let gate : Gates = gates c.args.shared.now c.args.catalogs.now in
    let one : Worker = c.in-Some.one in
    let os0 : List Worker = c.pop.new.self.items in
    let one1 : Worker = c.meet_each.new.first in
    let os1 : List Worker = c.meet_each.new.others in
    let one2 : Worker = c.meet_each-in-Some.new.first in
    let os2 : List Worker = c.meet_each-in-Some.new.others in
    let n = c.pop.new.self.len in
    let all : c.args.workers.now.items ≡ os0 ++ one ∷ [] = c.in-Some.ensures.items in
    let slice0 : c.as_mut_slice.result.now ≡ os0 = c.as_mut_slice.ensures.value in
    let long0 : n ≡ length os0 = c.pop.new.self.ok.0 in
    let slice0_long = ap (λ (ws : List Worker). length ws) slice0 in
    let long1 : length os1 ≡ n = omega (arith, c.meet_each.auto.others, slice0_long, long0) in
    let items1 : take n (os1 ++ drop (length os1) os0) ≡ os1 = written n os1 (drop (length os1) os0) long1 in
    let slice1 : c.as_mut_slice-in-Some.result.now ≡ os1 = c.as_mut_slice-in-Some.ensures.value ∙ items1 in
    let slice1_long = ap (λ (ws : List Worker). length ws) slice1 in
    let long2 : length os2 ≡ n = omega (arith, c.meet_each-in-Some.auto.others, slice1_long, long1) in
    let items2 : take n (os2 ++ drop (length os2) (take n (os1 ++ drop (length os1) os0))) ≡ os2 = written n os2 (drop (length os2) (take n (os1 ++ drop (length os1) os0))) long2 in
    let new : c.push_reserved.new.self.items ≡ os2 ++ one2 ∷ [] = c.push_reserved.ensures.items ∙ ap (λ (ws : List Worker). ws ++ one2 ∷ []) items2 in
    let met1 : EachTwo os0 os1 (λ i old new. HasMet gate (mine_of one).seen (reader_at one).seen old new) = subst (λ (ws : List Worker). EachTwo ws os1 (λ i old new. HasMet gate (mine_of one).seen (reader_at one).seen old new)) slice0 c.meet_each.ensures.others in
    let met2 : EachTwo os1 os2 (λ i old new. HasMet gate (mine_of one1).seen (reader_at one1).seen old new) = subst (λ (ws : List Worker). EachTwo ws os2 (λ i old new. HasMet gate (mine_of one1).seen (reader_at one1).seen old new)) slice1 c.meet_each-in-Some.ensures.others in
    let seen : Each os0 (λ i w. HasSeenOf w one1) = subst (λ (ws : List Worker). Each ws (λ i w. HasSeenOf w one1)) slice0 c.meet_each.ensures.seen in
    subst (λ (ws : List Worker). AllMet gate ws c.push_reserved.new.self.items) (sym all)
    (subst (AllMet gate (os0 ++ one ∷ [])) (sym new)
    (all_met gate one one1 one2 os0 os1 os2 c.meet_each.ensures.first c.meet_each-in-Some.ensures.first met1 met2 seen (omega (arith, long0, long1)) (omega (arith, long1, long2))
    (last_is (IsOrderly gate) c.args.workers.now.items os0 one all c.requires.in_order)))

pub meet_each-requires-in-Some-clause-threads : goal.meet_each-requires-in-Some-clause-threads
meet_each-requires-in-Some-clause-threads c =
    let gate : Gates = gates c.args.shared.now c.args.catalogs.now in
    let one : Worker = c.in-Some.one in
    let os0 : List Worker = c.pop.new.self.items in
    let os1 : List Worker = c.meet_each.new.others in
    let n = c.pop.new.self.len in
    let all : c.args.workers.now.items ≡ os0 ++ one ∷ [] = c.in-Some.ensures.items in
    let slice0 : c.as_mut_slice.result.now ≡ os0 = c.as_mut_slice.ensures.value in
    let long0 : n ≡ length os0 = c.pop.new.self.ok.0 in
    let slice0_long = ap (λ (ws : List Worker). length ws) slice0 in
    let long1 : length os1 ≡ n = omega (arith, c.meet_each.auto.others, slice0_long, long0) in
    let items1 : take n (os1 ++ drop (length os1) os0) ≡ os1 = written n os1 (drop (length os1) os0) long1 in
    let slice1 : c.as_mut_slice-in-Some.result.now ≡ os1 = c.as_mut_slice-in-Some.ensures.value ∙ items1 in
    let met1 : EachTwo os0 os1 (λ i old new. HasMet gate (mine_of one).seen (reader_at one).seen old new) =
    subst (λ (ws : List Worker). EachTwo ws os1 (λ i old new. HasMet gate (mine_of one).seen (reader_at one).seen old new)) slice0 c.meet_each.ensures.others
    in
    subst (λ (ws : List Worker). Each ws (λ i w. IsOfBoth gate w)) (sym slice1)
    (met_threads gate (mine_of one).seen (reader_at one).seen os0 os1 (omega (arith, long0, long1)) met1 (others_of (IsOfBoth gate) c.args.workers.now.items os0 one all c.requires.threads))
