use Rattle.std.proofs.Common.{ℕ, sym, ◌∙◌, subst, arith}
use Rattle.script_wishes.specs.Turns.{Releases, closing_turn}
use Rattle.script_run.specs.Beside.{CanAdd, Adds, library_and_books}
use Rattle.script_run.proofs.WorkLemmas.{releasing_none, can_release, one_less, releasing_on, gives_up}
use Rattle.script_seats.specs.Seated.{gates}
use Rattle.script_run.proofs.worker.Worker.release_all.Goals as goal

pub loop-handle-init : goal.loop-handle-init
loop-handle-init g c = releasing_none (gates c.args.common.now.shared.now c.args.common.now.catalogs.now) (library_and_books c.args.common.now.library.now c.args.common.now.books.now) c.args.round c.args.self.now.thread c.args.self.now.lines.items c.requires

pub add-requires : goal.add-requires
add-requires g c =
    subst (λ (k : ℕ). CanAdd (gates c.args.common.now.shared.now c.args.common.now.catalogs.now) (library_and_books c.args.common.now.library.now c.args.common.now.books.now) c.loop-handle.self.thread (closing_turn c.args.round k (Releases c.in-Some.handle))) (c.loop-handle.invariant.number ∙ sym c.number-thread.ensures)
    (can_release (gates c.args.common.now.shared.now c.args.common.now.catalogs.now) (library_and_books c.args.common.now.library.now c.args.common.now.books.now) c.args.round c.loop-handle.self.thread c.in-Some.handle c.loop-handle.invariant.can c.in-Some.ensures)

pub loop-handle-smaller : goal.loop-handle-smaller
loop-handle-smaller g c =
    let adds = subst (λ (k : ℕ). Adds (gates c.args.common.now.shared.now c.args.common.now.catalogs.now) (library_and_books c.args.common.now.library.now c.args.common.now.books.now) (closing_turn c.args.round k (Releases c.in-Some.handle)) c.loop-handle.self.thread c.add.new.self.thread c.loop-handle.self.lines.items c.add.new.self.lines.items)
    (c.number-thread.ensures ∙ sym c.loop-handle.invariant.number) c.in_ok-add.ensures in
    let less = one_less (gates c.args.common.now.shared.now c.args.common.now.catalogs.now) (library_and_books c.args.common.now.library.now c.args.common.now.books.now) c.args.round c.args.self.now.thread c.loop-handle.self.thread c.add.new.self.thread c.args.self.now.lines.items c.loop-handle.self.lines.items c.add.new.self.lines.items c.in-Some.handle c.in-Some.ensures c.loop-handle.invariant adds in
    omega arith

pub loop-handle-preserved : goal.loop-handle-preserved
loop-handle-preserved g c =
    let adds = subst (λ (k : ℕ). Adds (gates c.args.common.now.shared.now c.args.common.now.catalogs.now) (library_and_books c.args.common.now.library.now c.args.common.now.books.now) (closing_turn c.args.round k (Releases c.in-Some.handle)) c.loop-handle.self.thread c.add.new.self.thread c.loop-handle.self.lines.items c.add.new.self.lines.items)
    (c.number-thread.ensures ∙ sym c.loop-handle.invariant.number) c.in_ok-add.ensures in
    releasing_on (gates c.args.common.now.shared.now c.args.common.now.catalogs.now) (library_and_books c.args.common.now.library.now c.args.common.now.books.now) c.args.round c.args.self.now.thread c.loop-handle.self.thread c.add.new.self.thread c.args.self.now.lines.items c.loop-handle.self.lines.items c.add.new.self.lines.items c.in-Some.handle c.in-Some.ensures c.loop-handle.invariant adds

pub returns : goal.returns
returns g c = gives_up (gates c.args.common.now.shared.now c.args.common.now.catalogs.now) (library_and_books c.args.common.now.library.now c.args.common.now.books.now) c.args.round c.args.self.now.thread c.loop-handle.self.thread c.args.self.now.lines.items c.loop-handle.self.lines.items c.in_default.ensures c.loop-handle.invariant
