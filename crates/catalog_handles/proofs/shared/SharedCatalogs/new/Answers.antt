use Rattle.std.proofs.Common.{List, ◌++◌, map, sym, ap, ◌∙◌}
use Rattle.catalog_handles.specs.Reader.{ReaderData, reader_of}
use Rattle.catalog_handles.proofs.Calls.{all_unused, first_readers}
use Rattle.catalog_handles.proofs.shared.SharedCatalogs.new.Goals as goal

pub seat_all-requires : goal.seat_all-requires
seat_all-requires g c =
    all_unused g.B.Part.number c.in_ok-turns.turns c.args.threads c.into_vec-seats.result.items
    (sym (ap (λ x. x.seats) c.in_ok-turns.ensures.terms))
    (c.into_vec-seats.ensures ∙ c.in_ok-turns.ensures.seats)

pub returns-clause-threads : goal.returns-clause-threads
returns-clause-threads g c =
    c.of.ensures
    ∙ c.in_ok-seat_all.ensures
    ∙ ap (λ (xs : List ReaderData). xs ++ map (reader_of g.B.Part.number) c.into_vec-seats.result.items) c.in_ok-all.ensures.items
    ∙ first_readers g.B.Part.number c.in_ok-turns.turns c.args.threads c.into_vec-seats.result.items (c.into_vec-seats.ensures ∙ c.in_ok-turns.ensures.seats)
