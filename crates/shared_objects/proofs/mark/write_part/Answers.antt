use Rattle.std.proofs.Common.{List, ℕ, [], ◌∷◌, ◌++◌, ap, ◌∙◌}
use Rattle.shared_objects.specs.Marks.{fed, kind_number, sized}
use Rattle.shared_objects.proofs.MarkLaws.{fed_behind}
use Rattle.shared_objects.proofs.mark.write_part.Goals as goal

pub returns : goal.returns
returns c =
    let p = c.args.part.now in
    let kind = c.write.ensures ∙ ap (λ (k : ℕ). fed c.args.hasher.now (k ∷ [])) c.kind_number.ensures in
    let name = c.write_sized.ensures ∙ ap (λ (text : List ℕ). fed c.write.new.self (sized text)) c.as_bytes.ensures in
    let label = c.write_sized-2.ensures ∙ ap (λ (text : List ℕ). fed c.write_sized.new.hasher (sized text)) c.as_bytes-2.ensures in
    let text = c.write_sized-3.ensures ∙ ap (λ (text : List ℕ). fed c.write_sized-2.new.hasher (sized text)) c.as_bytes-3.ensures in
    let behind = fed_behind c.write_sized.new.hasher c.write_sized-2.new.hasher c.write_sized-3.new.hasher (sized p.label) (sized p.text) label text in
    let named = fed_behind c.write.new.self c.write_sized.new.hasher c.write_sized-3.new.hasher (sized p.name) (sized p.label ++ sized p.text) name behind in
    fed_behind c.args.hasher.now c.write.new.self c.write_sized-3.new.hasher (kind_number p.kind ∷ []) (sized p.name ++ (sized p.label ++ sized p.text)) kind named
