use Rattle.std.proofs.Common.{[], ◌∷◌, refl}
use Rattle.std.proofs.lemmas.Result.{on_ok_weaker}
use Rattle.src_lines.specs.declared.cells.CellMark.TheVariants.{AsItself, AsNumber, AsEscaped}
use Rattle.src_lines.proofs.Celling.{appended, stays_whole, name_appended, name_stays_whole}
use Rattle.src_lines.proofs.cells.push_atom.Goals as goal

pub returns-in-Bare-clause-is : goal.returns-in-Bare-clause-is
returns-in-Bare-clause-is c =
    let old = appended c.args.marks.now.items (AsItself ∷ []) c.args.bytes.now.items (c.in-Bare.byte ∷ []) c.requires in
    on_ok_weaker c.push_cell.result (λ p. rw (p.0, p.1, c.in-Bare.is) old) c.push_cell.ensures

pub returns-in-Bare-clause-whole : goal.returns-in-Bare-clause-whole
returns-in-Bare-clause-whole c =
    let old = stays_whole c.args.marks.now.items (AsItself ∷ []) c.args.bytes.now.items (c.in-Bare.byte ∷ []) c.requires (record { same = refl; ended = refl }) in
    on_ok_weaker c.push_cell.result (λ p. rw (p.0, p.1) old) c.push_cell.ensures

pub returns-in-Number-clause-is : goal.returns-in-Number-clause-is
returns-in-Number-clause-is c =
    let old = appended c.args.marks.now.items (AsNumber ∷ []) c.args.bytes.now.items (c.in-Number.byte ∷ []) c.requires in
    on_ok_weaker c.push_cell-in-Number.result (λ p. rw (p.0, p.1, c.in-Number.is) old) c.push_cell-in-Number.ensures

pub returns-in-Number-clause-whole : goal.returns-in-Number-clause-whole
returns-in-Number-clause-whole c =
    let old = stays_whole c.args.marks.now.items (AsNumber ∷ []) c.args.bytes.now.items (c.in-Number.byte ∷ []) c.requires (record { same = refl; ended = refl }) in
    on_ok_weaker c.push_cell-in-Number.result (λ p. rw (p.0, p.1) old) c.push_cell-in-Number.ensures

pub returns-in-Made-Byte-clause-is : goal.returns-in-Made-Byte-clause-is
returns-in-Made-Byte-clause-is c =
    let old = appended c.args.marks.now.items (AsEscaped ∷ []) c.args.bytes.now.items (c.in-Made-Byte.byte ∷ []) c.requires in
    on_ok_weaker c.push_cell-in-Made-Byte.result (λ p. rw (p.0, p.1, c.in-Made-Byte.is, c.in-Made-Byte.field-0-is) old) c.push_cell-in-Made-Byte.ensures

pub returns-in-Made-Byte-clause-whole : goal.returns-in-Made-Byte-clause-whole
returns-in-Made-Byte-clause-whole c =
    let old = stays_whole c.args.marks.now.items (AsEscaped ∷ []) c.args.bytes.now.items (c.in-Made-Byte.byte ∷ []) c.requires (record { same = refl; ended = refl }) in
    on_ok_weaker c.push_cell-in-Made-Byte.result (λ p. rw (p.0, p.1) old) c.push_cell-in-Made-Byte.ensures

pub returns-in-Made-Name-clause-is : goal.returns-in-Made-Name-clause-is
returns-in-Made-Name-clause-is c =
    let old = name_appended c.args.marks.now.items c.args.bytes.now.items c.as_bytes.result.now c.requires in
    on_ok_weaker c.push_name.result (λ p. rw (p.0, p.1, c.in-Made-Name.is, c.in-Made-Name.field-0-is, ← c.as_bytes.ensures) old) c.push_name.ensures

pub returns-in-Made-Name-clause-whole : goal.returns-in-Made-Name-clause-whole
returns-in-Made-Name-clause-whole c =
    let old = name_stays_whole c.args.marks.now.items c.args.bytes.now.items c.as_bytes.result.now c.requires in
    on_ok_weaker c.push_name.result (λ p. rw (p.0, p.1) old) c.push_name.ensures
