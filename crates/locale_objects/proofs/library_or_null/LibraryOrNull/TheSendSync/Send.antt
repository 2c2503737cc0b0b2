-- A boxed library or a null goes to another thread with what it owns.
use mir.Raw.{raw}
use base.Shift.{Keyless}
use denote.Memory.{lone}
use denote.RawPtr.{Ptr}
use denote.Struct.Struct.{exits_of}
use denote.Struct.Owning.{shape, fields, to}
use denote.Param.Send.{IsSend, AllSend, owning_send, struct_send, sendable}
use Rattle.std.specs.Prelude.{Option, None, Some}
use Rattle.std.specs.Global.{Global}
use Rattle.std.proofs.Crossing as heap
use Rattle.std_alloc.proofs.SendSync.{quiet, lies}
use Rattle.std_heap.proofs.Global.TheSendSync as handle
use Rattle.shared_objects.specs.contracts.marked_library.MarkedLibrary as Object
use Rattle.shared_objects.proofs.marked_library.MarkedLibrary.TheSendSync.{the_send as object}
use Rattle.locale_objects.specs.LibraryBox.{library_or_null_owns}
use Rattle.locale_objects.specs.contracts.library_or_null.LibraryOrNull.{the_row, the_type}

keyless : (alloc : Global) (at : Ptr) (o : Option Object.the_row.Denot) → Keyless (library_or_null_owns alloc at o)
keyless alloc at None = tt
keyless alloc at (Some o) = (lies Object.the_row object at o, heap.frees.frees alloc (raw (lone Object.the_row.mir)) at)

pub send : IsSend the_row
send =
    let all : AllSend (fields the_type) = (search sendable, (handle.the_field_send, tt)) in
    owning_send the_type all (λ d. keyless d.alloc d.at d.library)
    (λ k. quiet (to the_type) (exits_of k (fields the_type)) ((struct_send (shape the_type) all).leaving k))
