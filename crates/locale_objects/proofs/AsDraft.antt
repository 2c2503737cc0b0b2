-- The builder and its parts own what a box at the same types owns.
use mir.Syntax.{impl, tnil, dnil}
use mathlib.Core.List.{[]}
use denote.Signature.{Slot, plain}
use Rattle.std_alloc.proofs.BoxSteps.Form.{Bx}
use Rattle.std_heap.specs.contracts.Global as Heap
use Rattle.std_heap.specs.contracts.GlobalAllocator.TheImpl.{ghosts, dict}
use Rattle.std_heap.proofs.Global.TheLaws as heap
use Rattle.shared_objects.specs.contracts.draft.Draft as Object
use Rattle.shared_objects.proofs.draft.Draft.TheLaws as object
use Rattle.locale_objects.specs.contracts.parts.Parts as Parts
use Rattle.locale_objects.specs.contracts.builder.Builder as Builder
use Rattle.locale_objects.specs.contracts.builder_or_null.BuilderOrNull as BuilderOrNull

abbrev pub E : Bx
E = record { row = Object.the_row; laws = object.the_row_laws; al = record { row = Heap.the_row; laws = heap.the_row_laws; g = ghosts; d = dict; drops = impl [] tnil dnil } }

abbrev pub FromParts : Slot 0
FromParts = plain (λ _. Parts.the_row Object.the_row Heap.the_row ghosts)

abbrev pub FromBuilder : Slot 0
FromBuilder = plain (λ _. Builder.the_row)

abbrev pub FromBuilderOrNull : Slot 0
FromBuilderOrNull = plain (λ _. BuilderOrNull.the_row)

abbrev pub FromHandle : Slot 0
FromHandle = plain (λ _. Heap.the_row)
