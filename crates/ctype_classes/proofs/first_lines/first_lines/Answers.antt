use Rattle.std.proofs.Common.{◌≡◌, ◌+◌, ◌++◌, [], ◌∷◌, take, ap, ◌∙◌, sym, refl}
use Rattle.std.proofs.lemmas.List.{take_more}
use Rattle.keywords.specs.declared.source.Entry.{Entry}
use Rattle.ctype_classes.proofs.LineLemmas.{first_lines_more}
use Rattle.ctype_classes.proofs.first_lines.first_lines.Goals as goal

pub loop-entry-preserved : goal.loop-entry-preserved
loop-entry-preserved c = λ keyword.
    let entry = c.entry-item.result in
    let cut : take (c.loop-entry.entry-index + 1) c.args.entries.now ≡ take c.loop-entry.entry-index c.args.entries.now ++ entry ∷ [] =
    take_more c.args.entries.now c.loop-entry.entry-index entry c.loop-entry-test.true ∙ ap (λ (e : Entry). take c.loop-entry.entry-index c.args.entries.now ++ e ∷ []) (sym c.entry-item.is) in
    rw (c.in_ok-add.ensures, c.as_bytes.ensures, cut) (first_lines_more (take c.loop-entry.entry-index c.args.entries.now) c.loop-entry.lines entry _ refl c.loop-entry.invariant keyword)
