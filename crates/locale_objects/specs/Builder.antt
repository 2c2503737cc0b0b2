-- What a builder owns: the box of its parts, if it has one.
use Rattle.std.specs.Prelude.{Option, Some, None}
use base.Fml.{Fml, ftrue, feq}
use base.Stored.{Coded}
use denote.RawPtr.{Ptr, null_ptr}
use Rattle.std.specs.Coded.{coded_option}
use Rattle.std.specs.Box.Ownership.{box_owns}
use Rattle.std.specs.Global.{Global}
use Rattle.std_heap.specs.contracts.GlobalAllocator.TheImpl.{ghosts}
use Rattle.shared_objects.specs.contracts.draft.Draft.{the_row}

abbrev pub builder_owns : Global → Ptr → Option the_row.Denot → Fml
builder_owns alloc at None = ftrue
builder_owns alloc at (Some parts) = box_owns (ghosts.dealloc_token alloc) the_row at parts

abbrev pub parts_coded : Coded (Option the_row.Denot)
parts_coded = coded_option the_row.coded

-- the same of a pointer that is handed over to be freed: it is null where there is no box
abbrev pub builder_or_null_owns : Global → Ptr → Option the_row.Denot → Fml
builder_or_null_owns alloc at None = feq Ptr at null_ptr
builder_or_null_owns alloc at (Some parts) = builder_owns alloc at (Some parts)
