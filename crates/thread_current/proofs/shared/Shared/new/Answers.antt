use Rattle.std.proofs.Common.{List, [], ◌++◌, map, sym, ap, ◌∙◌}
use Rattle.thread_current.specs.Thread.{Thread, thread_of}
use Rattle.thread_current.proofs.Calls.{all_unused, first_threads}
use Rattle.thread_current.proofs.shared.Shared.new.Goals as goal
use Rattle.handle_table.specs.History.{global_at}

pub seat_all-requires : goal.seat_all-requires
seat_all-requires g c =
    let gate = c.in_ok-turns.turns in
    all_unused gate c.share-posix.result c.args.threads c.into_vec-seats.result.items
    (c.share-posix.ensures ∙ c.peek.ensures ∙ c.global.ensures.object [] c.in_ok-table.ensures.stands ∙ ap (λ x. global_at x.setting [] 0) (sym c.in_ok-turns.ensures.terms))
    (sym (ap (λ x. x.seats) c.in_ok-turns.ensures.terms))
    (c.into_vec-seats.ensures ∙ c.in_ok-turns.ensures.seats)

pub returns-clause-threads : goal.returns-clause-threads
returns-clause-threads g c =
    c.of.ensures
    ∙ c.in_ok-seat_all.ensures
    ∙ ap (λ (xs : List Thread). xs ++ map (thread_of 0) c.into_vec-seats.result.items) c.in_ok-all.ensures.items
    ∙ first_threads c.in_ok-turns.turns c.args.threads c.into_vec-seats.result.items (c.into_vec-seats.ensures ∙ c.in_ok-turns.ensures.seats)
