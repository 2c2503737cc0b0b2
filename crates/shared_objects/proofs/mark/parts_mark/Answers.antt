use Rattle.std.proofs.Common.{◌≡◌, ◌+◌, List, [], ◌∷◌, drop, refl, ap, sym, ◌∙◌, arith}
use Rattle.std.proofs.lemmas.Grind.{common_steps}
use Rattle.std.specs.Hash.DefaultHasher as sip
use Rattle.std.specs.declared.hash.DefaultHasher.{DefaultHasher}
use Rattle.library_parts.specs.declared.part.LibraryPart.{LibraryPart}
use Rattle.shared_objects.specs.Marks.{fed, mark_of, part_bytes, parts_bytes}
use Rattle.shared_objects.proofs.MarkLaws.{fed_both, fed_behind, fed_nothing}
use Rattle.shared_objects.proofs.mark.parts_mark.Goals as goal

pub loop-part-init : goal.loop-part-init
loop-part-init c =
    ap (λ (s : DefaultHasher). fed s (parts_bytes c.args.parts.now)) (c.write.ensures ∙ ap (λ (s : DefaultHasher). fed s (1 ∷ [])) c.new-hasher.ensures)
    ∙ sym (fed_both sip.initial (1 ∷ []) (parts_bytes c.args.parts.now))

pub loop-part-preserved : goal.loop-part-preserved
loop-part-preserved c =
    let rest = drop (c.loop-part.part-index + 1) c.args.parts.now in
    let next : drop c.loop-part.part-index c.args.parts.now ≡ c.part-item.result ∷ rest = grind (arith, common_steps) in
    let on = fed_behind c.loop-part.hasher c.write_part.new.hasher (fed c.write_part.new.hasher (parts_bytes rest)) (part_bytes c.part-item.result) (parts_bytes rest) c.write_part.ensures refl in
    on ∙ (sym (ap (λ (ps : List LibraryPart). fed c.loop-part.hasher (parts_bytes ps)) next) ∙ c.loop-part.invariant)

pub returns : goal.returns
unfolding mark_of
returns c =
    let none : drop c.loop-part.part-index c.args.parts.now ≡ [] = grind (arith, common_steps) in
    let all = sym (ap (λ (ps : List LibraryPart). fed c.loop-part.hasher (parts_bytes ps)) none) ∙ c.loop-part.invariant in
    c.finish.ensures ∙ ap sip.finish (sym (fed_nothing c.loop-part.hasher) ∙ all)
