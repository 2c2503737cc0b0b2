-- The numbers of handles.
use Rattle.std.specs.Prelude.{refl}
use Rattle.generations.specs.Kind.{Kind}
use Rattle.lc_base.specs.declared.handle.Handle.{Handle}

-- handles of locale objects by their numbers
abbrev pub object_handles : Kind Handle
object_handles = record {
  numbers = λ h. record { owner = h.owner; row = h.row; generation = h.generation };
  handle_of = λ n. record { owner = n.owner; row = n.row; generation = n.generation };
  same_handle = λ h. refl;
  same_numbers = λ n. refl;
}
