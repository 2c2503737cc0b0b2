-- What the pointer of a library owns: its box, if there is one.
use Rattle.std.specs.Prelude.{Option, Some, None}
use base.Fml.{Fml, ftrue, feq}
use base.Stored.{Coded}
use denote.RawPtr.{Ptr, null_ptr}
use Rattle.std.specs.Coded.{coded_option}
use Rattle.std.specs.Box.Ownership.{box_owns}
use Rattle.std.specs.Global.{Global}
use Rattle.std_heap.specs.contracts.GlobalAllocator.TheImpl.{ghosts}
use Rattle.shared_objects.specs.contracts.marked_library.MarkedLibrary.{the_row}

abbrev pub library_box_owns : Global → Ptr → Option the_row.Denot → Fml
library_box_owns alloc at None = ftrue
library_box_owns alloc at (Some library) = box_owns (ghosts.dealloc_token alloc) the_row at library

abbrev pub library_coded : Coded (Option the_row.Denot)
library_coded = coded_option the_row.coded

-- the same of a pointer that is handed over to be freed: it is null where there is no box
abbrev pub library_or_null_owns : Global → Ptr → Option the_row.Denot → Fml
library_or_null_owns alloc at None = feq Ptr at null_ptr
library_or_null_owns alloc at (Some library) = library_box_owns alloc at (Some library)
