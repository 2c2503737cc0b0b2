-- One entry of a history: who called, what was asked and what was replied, as plain data.
use Rattle.std.specs.Prelude.{ℕ, List, Option, Some, None, Bool, true, false, refl}
use Rattle.generations.specs.Kind.{Kind}
use Rattle.generations.specs.Kind as generations
use Rattle.catalog_handles.specs.declared.handle.CatalogHandle.{CatalogHandle}
use Rattle.catalog_handles.specs.declared.op.CatalogRefusal.{CatalogRefusal}

-- what a thread asks: to open the catalog of a number, to read by a handle, or to close it (XSH catopen, catgets, catclose)
pub data Op : Type 0 where
  Open : ℕ → Op
  Get : CatalogHandle → Op
  Close : CatalogHandle → Op

-- what is replied; a catalog is its number
pub data Reply : Type 0 where
  Opened : CatalogHandle → Reply
  Book : ℕ → Reply
  Closed : Reply
  Refused : CatalogRefusal → Reply

-- one call of a thread, with its reply and its stamp: a number by which this history is put in order with another one
pub record Entry : Type 0 where
  pub who : ℕ
  pub op : Op
  pub reply : Reply
  pub stamp : ℕ

-- all entries, the newest first, so that each search goes from the end of the history to its begin;
-- an entry's place is the number of entries below it
abbrev pub History : Type 0
History = List Entry

-- catalog handles by their numbers
abbrev pub catalog_handles : Kind CatalogHandle
catalog_handles = record {
  numbers = λ h. record { owner = h.owner; row = h.row; generation = h.generation };
  handle_of = λ n. record { owner = n.owner; row = n.row; generation = n.generation };
  same_handle = λ h. refl;
  same_numbers = λ n. refl;
}

-- whether two handles are one
abbrev pub same_handle : CatalogHandle → CatalogHandle → Bool
same_handle g h = generations.same_handle catalog_handles g h

-- the handle that an op names, or none
abbrev pub named_by : Op → Option CatalogHandle
named_by (Open book) = None
named_by (Get h) = Some h
named_by (Close h) = Some h

-- an entry is accepted where its reply is not a refusal
abbrev pub is_accepted : Reply → Bool
is_accepted (Refused refusal) = false
is_accepted _ = true
