use Rattle.std.proofs.Common.{◌+◌, ◌<◌}
use Rattle.charset.specs.Limits.{NAME_LIMIT}
use Rattle.charset.specs.declared.spans.Span.{Span}
use Rattle.charset.specs.Spans.{Adds}
use Rattle.charset.proofs.NameLemmas.{kept_more, kept_push, block_formed, added_none, added_some}
use Rattle.charset.proofs.names.CharacterNames.add.Goals as goal

pub invariant_of-self : goal.invariant_of-self
invariant_of-self c = kept_more c.self.inside.fronts c.number.new.self c.self.inside.spans c.self.inside.len c.number.ensures.keeps c.self.invariant

pub invariant_of-self-in_err-is_new : goal.invariant_of-self-in_err-is_new
invariant_of-self-in_err-is_new c =
    rw (c.in_err-is_new.ensures.err) (kept_more c.self.inside.fronts c.number.new.self c.self.inside.spans c.self.inside.len c.number.ensures.keeps c.self.invariant)

pub invariant_of-self-then-is_new : goal.invariant_of-self-then-is_new
invariant_of-self-then-is_new c =
    let span : Span = record { front = c.in_ok-front.front; block = c.args.block } in
    let adds : Adds c.self.inside.spans span c.add.new.self c.in_ok-is_new.is_new = c.in_ok-is_new.ensures.adds in
    let room : c.self.inside.len + c.args.block.more < NAME_LIMIT = rw (c.self.invariant.counted, c.self.view_is) c.requires.few in
    rw ((rw (c.if-is_new.true) at adds).0) (kept_push c.number.new.self c.self.inside.spans span c.self.inside.len
    (kept_more c.self.inside.fronts c.number.new.self c.self.inside.spans c.self.inside.len c.number.ensures.keeps c.self.invariant)
    (block_formed c.number.new.self c.args.front.now c.args.block c.in_ok-front.front c.in_ok-front.ensures.number c.requires.formed) room)

pub invariant_of-self-else-is_new : goal.invariant_of-self-else-is_new
invariant_of-self-else-is_new c =
    let span : Span = record { front = c.in_ok-front.front; block = c.args.block } in
    let adds : Adds c.self.inside.spans span c.add.new.self c.in_ok-is_new.is_new = c.in_ok-is_new.ensures.adds in
    rw ((rw (c.if-is_new.false) at adds).0) (kept_more c.self.inside.fronts c.number.new.self c.self.inside.spans c.self.inside.len c.number.ensures.keeps c.self.invariant)

pub returns-then-is_new : goal.returns-then-is_new
returns-then-is_new c =
    let span : Span = record { front = c.in_ok-front.front; block = c.args.block } in
    let adds : Adds c.self.inside.spans span c.add.new.self c.in_ok-is_new.is_new = c.in_ok-is_new.ensures.adds in
    let both = rw (c.if-is_new.true) at adds in
    rw (c.if-is_new.true)
    (added_some c.self.inside.fronts c.number.new.self c.self.inside.spans c.add.new.self c.args.front.now c.args.block c.in_ok-front.front c.args.self.now c.number.ensures.keeps c.self.invariant.formed c.requires.formed c.in_ok-front.ensures.number c.self.view_is both.0 both.1)

pub returns-else-is_new : goal.returns-else-is_new
returns-else-is_new c =
    let span : Span = record { front = c.in_ok-front.front; block = c.args.block } in
    let adds : Adds c.self.inside.spans span c.add.new.self c.in_ok-is_new.is_new = c.in_ok-is_new.ensures.adds in
    let both = rw (c.if-is_new.false) at adds in
    rw (c.if-is_new.false)
    (added_none c.self.inside.fronts c.number.new.self c.self.inside.spans c.args.front.now c.args.block c.in_ok-front.front c.args.self.now c.number.ensures.keeps c.self.invariant.formed c.requires.formed c.in_ok-front.ensures.number c.self.view_is both.1)
