use Rattle.std.proofs.Common.{◌≡◌, Some, None, [], refl, ap, sym, ◌∙◌}
use Rattle.std.specs.Prelude.{slice_get, unwrap_or, option_map}
use Rattle.std.proofs.lemmas.Option.{slice_get-map, slice_get_read, slice_get_past}
use Rattle.strfmon.proofs.cells.cell_at.Goals as goal

pub returns-in-Some : goal.returns-in-Some
returns-in-Some c =
    let is : slice_get c.args.cells.now c.args.index ≡ Some c.in-Some.cell.now = slice_get_read c.args.cells.now _ c.args.index c.in-Some.cell.now refl c.in-Some.ensures.lookup.3.0 c.in-Some.ensures.lookup.1 in
    sym (ap (λ o. unwrap_or o ([], [])) (slice_get-map (λ e. (e.0.now, e.1.now)) c.args.cells.now c.args.index ∙ ap (λ o. option_map (λ e. (e.0.now, e.1.now)) o) is))

pub returns-in-None : goal.returns-in-None
returns-in-None c =
    let is : slice_get c.args.cells.now c.args.index ≡ None = slice_get_past c.args.cells.now c.args.index c.in-None.ensures.lookup.3 in
    sym (ap (λ o. unwrap_or o ([], [])) (slice_get-map (λ e. (e.0.now, e.1.now)) c.args.cells.now c.args.index ∙ ap (λ o. option_map (λ e. (e.0.now, e.1.now)) o) is))
