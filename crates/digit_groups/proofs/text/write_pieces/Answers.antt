use Rattle.std.proofs.Common.{arith, ap, refl, sym, ◌∙◌}
use Rattle.std.specs.List.{list_all}
use Rattle.digit_groups.proofs.FormatLemmas.{values_stay}
use Rattle.digit_groups.proofs.TextLemmas.{none_put, piece_room, more_put, all_put}
use Rattle.digit_groups.proofs.text.write_pieces.Goals as goal

pub loop-at-init : goal.loop-at-init
loop-at-init g c = record {
  good = c.requires.good;
  put = none_put _ _ _ _ _ _;
  within = omega arith;
}

pub unreachable-requires : goal.unreachable-requires
unreachable-requires g c = c.in_default.ensures.none refl (sym c.loop-at.invariant.put.written.same ∙ c.requires.accepted)

pub write_piece-end-requires : goal.write_piece-end-requires
write_piece-end-requires g c = record {
  good = c.loop-at.invariant.good;
  room = piece_room _ _ _ _ _ _ _ _ _ _ _ c.in-Some.piece c.loop-at.invariant.put c.in-Some.ensures.pieces c.requires.accepted (omega (arith, c.requires.room, c.loop-at.auto.buffer));
}

pub loop-at-preserved : goal.loop-at-preserved
loop-at-preserved g c = record {
  good = ap (λ l. list_all g.C.FormatConversion.is_value l) c.in-Some.ensures.behind ∙ values_stay g.C.FormatConversion.is_value c.in-Some.piece c.loop-at.left.now c.loop-at.invariant.good;
  put = more_put _ _ _ _ _ _ _ _ _ _ _ c.in-Some.piece c.loop-at.invariant.put c.in-Some.ensures.pieces _ _ _
      (piece_room _ _ _ _ _ _ _ _ _ _ _ c.in-Some.piece c.loop-at.invariant.put c.in-Some.ensures.pieces c.requires.accepted (omega (arith, c.requires.room, c.loop-at.auto.buffer)))
      c.in-Some.ensures.same c.in-Some.ensures.behind c.write_piece-end.ensures.ends c.write_piece-end.ensures.written;
  within = c.in-Some.ensures.within;
}

pub returns : goal.returns
returns g c = all_put _ _ _ _ _ _ _ _ _ _ c.loop-at.invariant.put c.loop-at-test.false
