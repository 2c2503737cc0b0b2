use Rattle.std.proofs.Common.{vec_len}
use Rattle.catalog_handles.proofs.shared.+seat_all.Given as goal

abbrev pub decreases-seat_all : goal.decreases-seat_all
decreases-seat_all g l = vec_len l.seats.now
