-- The lines of parts as the lines of one text, in which one line more stands behind each part: no two parts share a line (our
-- own).
use Rattle.std.specs.Prelude.{ℕ, ◌+◌, ◌-◌, ◌^◌, ◌<◌, nat_lt, Bool, true, false, List, [], ◌∷◌, ◌++◌, length, Ok, Err, if◌then◌else◌}
use Rattle.lc_base.specs.declared.block.Block.{Block}
use Rattle.lc_base.specs.declared.place.Place.{Place}
use Rattle.lc_base.specs.declared.reason.Reason.{Reason}
use Rattle.lc_base.specs.declared.fault.TextFault.{TextFault}
use Rattle.lc_base.specs.declared.fault.TextFault.TheVariants as texts
use Rattle.lc_base.specs.Reading.{Reads}
use Rattle.library_parts.specs.declared.part.LibraryPart.{LibraryPart}
use Rattle.library_parts.specs.declared.part.PartKind.{PartKind}
use Rattle.library_parts.specs.declared.part.PartKind.TheVariants.{Charmap, Source, Catalog}
use Rattle.library_parts.specs.declared.fault.Wrong.{Wrong}
use Rattle.library_parts.specs.declared.fault.Wrong.TheVariants.{Text}
use Rattle.library_parts.specs.declared.fault.PartFault.{PartFault}
use Rattle.library_parts.specs.declared.fault.PartFault.TheVariants.{At, Memory}
use Rattle.library_parts.specs.Lines.{line_count}
use Rattle.library_parts.specs.declared.blocks.Blocks.{Blocks}
use Rattle.library_parts.specs.Told.{Tells}

-- ---- blocks

-- how many lines stand before what follows a part
abbrev pub behind_part : ℕ → LibraryPart → ℕ
behind_part before p = before + (line_count p.text + 1)

-- how many lines stand before each of parts, if so many stand before the first
abbrev pub befores : ℕ → List LibraryPart → List ℕ
befores before [] = []
befores before (p ∷ ps) = before ∷ befores (behind_part before p) ps

-- a part behind so many lines as a block
abbrev pub block : ℕ → LibraryPart → Block
block before p = record { name = p.name; charset = p.label; first_line = before + 1; text = p.text }

abbrev pub same_kind : PartKind → PartKind → Bool
same_kind Charmap Charmap = true
same_kind Charmap Source = false
same_kind Charmap Catalog = false
same_kind Source Charmap = false
same_kind Source Source = true
same_kind Source Catalog = false
same_kind Catalog Charmap = false
same_kind Catalog Source = false
same_kind Catalog Catalog = true

-- the blocks of a kind, in order, behind so many lines
abbrev pub blocks_of : PartKind → ℕ → List LibraryPart → List Block
blocks_of kind before [] = []
blocks_of kind before (p ∷ ps) = if same_kind kind p.kind then block before p ∷ blocks_of kind (behind_part before p) ps else blocks_of kind (behind_part before p) ps

-- what parts give
abbrev pub blocks_of_parts : List LibraryPart → Blocks
blocks_of_parts ps = record { charmaps = blocks_of Charmap 0 ps; sources = blocks_of Source 0 ps; catalogs = blocks_of Catalog 0 ps; befores = befores 0 ps }

abbrev pub no_blocks : Blocks
no_blocks = record { charmaps = []; sources = []; catalogs = []; befores = [] }

-- with a block of this kind behind so many lines
abbrev pub more_blocks : Blocks → PartKind → Block → ℕ → Blocks
more_blocks s Charmap block before = record s { charmaps = s.charmaps ++ block ∷ []; befores = s.befores ++ before ∷ [] }
more_blocks s Source block before = record s { sources = s.sources ++ block ∷ []; befores = s.befores ++ before ∷ [] }
more_blocks s Catalog block before = record s { catalogs = s.catalogs ++ block ∷ []; befores = s.befores ++ before ∷ [] }

-- one part more, behind so many lines
abbrev pub with_block : Blocks → ℕ → LibraryPart → Blocks
with_block s before p = more_blocks s p.kind (block before p) before

-- parts behind so many lines have the sizes that readers of texts take
abbrev pub AreSized : ℕ → List LibraryPart → Type 0
AreSized before [] = Unit {0}
AreSized before (p ∷ ps) = (length p.text < 2 ^ 31) × (before + 1 < 2 ^ 31) × AreSized (behind_part before p) ps

-- ---- faults

-- the part in which a line of all parts stands, and which of its lines it is: the last part before which fewer lines stand. The
-- first of the parts to come has the number n, and best is the last before it
abbrev pub found_line : ℕ × ℕ → ℕ → ℕ → List ℕ → ℕ × ℕ
found_line best n line [] = best
found_line best n line (b ∷ bs) = found_line (if nat_lt b line then (n, line - b) else best) (n + 1) line bs

abbrev pub own_line : List ℕ → ℕ → ℕ × ℕ
own_line bs line = found_line (0, line) 0 line bs

-- a place of a part
abbrev pub in_part : ℕ × ℕ → ℕ → Reason → ℕ × Wrong
in_part own column reason = (own.0, Text (record { line = own.1; column = column }) reason)

-- a fault at a place of all parts, as one of the part that has the place
abbrev pub told : List ℕ → Place × Reason → ℕ × Wrong
told bs fault = in_part (own_line bs fault.0.line) fault.0.column fault.1

-- what a reader of all parts gives, its fault told of a part
abbrev pub told_of : {A : Type 0} → List ℕ → Reads A → Tells A
told_of bs (Ok x) = Ok x
told_of bs (Err fault) = Err (told bs fault)

-- a reader's refusal as one of a part
abbrev pub part_fault : List ℕ → TextFault → PartFault
part_fault bs texts.Memory = Memory
part_fault bs (texts.At place reason) = let t = told bs (place, reason) in At t.0 t.1

-- ---- what the laws speak of

-- how many lines stand before what follows parts, if so many stand before them
abbrev pub lines_behind : ℕ → List LibraryPart → ℕ
lines_behind before [] = before
lines_behind before (p ∷ ps) = lines_behind (behind_part before p) ps
