use Rattle.std.proofs.Common.{Option, Some, None, List, ap, ◌∙◌}
use Rattle.std.specs.Prelude.{find, option_map}
use Rattle.mask_compose.specs.Parts.{Parts}
use Rattle.thread_current.specs.Mine.{HeldData}
use Rattle.script_seats.specs.Seated.{is_held}
use Rattle.script_seats.proofs.SeatLemmas.{held_known}
use Rattle.script_seats.proofs.seated.SeatedSide.held_as.Goals as goal

pub returns-in-Some : goal.returns-in-Some
returns-in-Some c =
    held_known c.args.self.now c.args.named (Some c.object.result.now)
    (ap (λ (o : Parts). Some o) c.object.ensures
    ∙ ap (λ (h : Option HeldData). option_map (λ (x : HeldData). x.object) h) c.in-Some.ensures
    ∙ ap (λ (hs : List HeldData). option_map (λ (x : HeldData). x.object) (find (is_held c.args.named) hs)) c.as_slice.ensures.value)

pub returns-in-None : goal.returns-in-None
returns-in-None c =
    held_known c.args.self.now c.args.named None
    (ap (λ (h : Option HeldData). option_map (λ (x : HeldData). x.object) h) c.in-None.ensures
    ∙ ap (λ (hs : List HeldData). option_map (λ (x : HeldData). x.object) (find (is_held c.args.named) hs)) c.as_slice.ensures.value)
