use Rattle.std.proofs.Common.{◌+◌, arith}
use Rattle.thread_tests.proofs.Rounds.{makes_fewer}
use Rattle.thread_tests.proofs.threads.round.Goals as goal

pub select-selected-requires : goal.select-selected-requires
select-selected-requires g c =
    makes_fewer c.args.shared.now c.make-made.new.mine 3 1 (omega arith) (c.make-made.ensures.may 3 c.requires.may)

pub free-freed-requires : goal.free-freed-requires
free-freed-requires g c =
    let made = c.make-made.ensures.may 3 c.requires.may in
    makes_fewer c.args.shared.now c.select-selected.new.mine 2 1 (omega arith) (c.select-selected.ensures.may 2 made)

pub select-back-requires : goal.select-back-requires
select-back-requires g c =
    let made = c.make-made.ensures.may 3 c.requires.may in
    c.free-freed.ensures.may 1 (c.select-selected.ensures.may 2 made)

pub returns-then-read-clause-may : goal.returns-then-read-clause-may
returns-then-read-clause-may g c = λ n may.
    let gate = c.args.shared.now in
    let made = c.make-made.ensures.may (n + 3) (makes_fewer gate c.args.mine.now (n + 4) (n + 3 + 1) (omega arith) may) in
    let selected = c.select-selected.ensures.may (n + 2) (makes_fewer gate c.make-made.new.mine (n + 3) (n + 2 + 1) (omega arith) made) in
    let freed = c.free-freed.ensures.may (n + 1) (makes_fewer gate c.select-selected.new.mine (n + 2) (n + 1 + 1) (omega arith) selected) in
    c.select-back.ensures.may n freed

pub returns-else-read-clause-may : goal.returns-else-read-clause-may
returns-else-read-clause-may g c = λ n may.
    let gate = c.args.shared.now in
    let made = c.make-made.ensures.may (n + 3) (makes_fewer gate c.args.mine.now (n + 4) (n + 3 + 1) (omega arith) may) in
    let selected = c.select-selected.ensures.may (n + 2) (makes_fewer gate c.make-made.new.mine (n + 3) (n + 2 + 1) (omega arith) made) in
    let freed = c.free-freed.ensures.may (n + 1) (makes_fewer gate c.select-selected.new.mine (n + 2) (n + 1 + 1) (omega arith) selected) in
    c.select-back.ensures.may n freed
