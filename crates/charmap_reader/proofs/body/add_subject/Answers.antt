use Rattle.std.proofs.Common.{sym, ◌∙◌}
use Rattle.charmap_reader.specs.Seen.{seen}
use Rattle.charset.specs.Code.{code_bytes}
use Rattle.charmap_reader.specs.Charmap.{entries}
use Rattle.charmap_reader.proofs.EncodingLemmas.{entries_valued}
use Rattle.charmap_reader.proofs.Adding.{listed_twice, listed_moved, listed_all}
use Rattle.charmap_reader.proofs.body.add_subject.Goals as goal

pub returns-then-not-branch : goal.returns-then-not-branch
returns-then-not-branch c =
    let same = entries_valued (seen c.args.subject.now) (code_bytes c.args.code.now) c.args.more c.requires.names c.requires.encoding c.requires.fits in
    let added = rw (c.if-not-branch.true, c.value.ensures.is, ← same) at c.in_ok-add_names.ensures in
    listed_twice c.args.place c.args.names.now (entries (seen c.args.subject.now) (code_bytes c.args.code.now) c.args.more) c.add_names.new.names added

pub returns-then-is_moved : goal.returns-then-is_moved
returns-then-is_moved c =
    let same = entries_valued (seen c.args.subject.now) (code_bytes c.args.code.now) c.args.more c.requires.names c.requires.encoding c.requires.fits in
    let added = rw (c.if-not-branch.false, c.value.ensures.is, ← same) at c.in_ok-add_names.ensures in
    listed_moved c.args.place c.args.names.now (entries (seen c.args.subject.now) (code_bytes c.args.code.now) c.args.more) c.add_names.new.names added (sym (c.is_moved.ensures c.args.more c.requires.names) ∙ c.if-is_moved.true)

pub returns : goal.returns
returns c =
    let same = entries_valued (seen c.args.subject.now) (code_bytes c.args.code.now) c.args.more c.requires.names c.requires.encoding c.requires.fits in
    let added = rw (c.if-not-branch.false, c.value.ensures.is, ← same) at c.in_ok-add_names.ensures in
    listed_all c.args.place c.args.names.now (entries (seen c.args.subject.now) (code_bytes c.args.code.now) c.args.more) c.add_names.new.names added (sym (c.is_moved.ensures c.args.more c.requires.names) ∙ c.if-is_moved.false)
