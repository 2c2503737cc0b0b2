-- What each accepted op changes of what a table keeps.
use Rattle.std.specs.Prelude.{ℕ, ◌+◌, Some, slice_set, slice_index_or}
use Rattle.mask_compose.specs.Parts.{Parts, composed}
use Rattle.mask_compose.specs.Offer.{Offered}
use Rattle.lc_base.specs.declared.handle.Handle.{Handle}
use Rattle.lc_base.specs.declared.handle.Named.{Named}
use Rattle.lc_base.specs.declared.handle.Named.TheVariants.{Global}
use Rattle.generations.specs.Grid.{with_cell}
use Rattle.handle_table.specs.History.{handle_named}
use Rattle.handle_table.specs.Row.{pinned, unpinned, opened, closed, freed, with_next}
use Rattle.handle_table.specs.Rows.{row_at, changed, all_let_go}
use Rattle.handle_table.specs.Kept.{KeptData}

-- what the thread selects
abbrev pub selected : ℕ → KeptData → Named
selected w kept = slice_index_or kept.selections w Global

-- a new object in a row of the thread
abbrev pub after_make : ℕ → ℕ → Parts → KeptData → KeptData
after_make w r object kept = record kept {
  rows = with_cell kept.rows w r (with_next (row_at kept.rows w r));
  objects = with_cell kept.objects w r object;
}

-- another object for a handle
abbrev pub after_rebuild : Handle → Parts → KeptData → KeptData
after_rebuild h object kept = record kept { objects = with_cell kept.objects h.owner h.row object }

abbrev pub after_free : Named → KeptData → KeptData
after_free n kept = record kept { rows = changed freed kept.rows n }

abbrev pub after_use : ℕ → Named → KeptData → KeptData
after_use w n kept = record kept {
  rows = changed pinned (changed unpinned kept.rows (selected w kept)) n;
  selections = slice_set kept.selections w n;
}

abbrev pub after_hold : ℕ → Named → KeptData → KeptData
after_hold w n kept = record kept { rows = changed (opened w) kept.rows n }

abbrev pub after_release : ℕ → Named → KeptData → KeptData
after_release w n kept = record kept { rows = changed (closed w) kept.rows n }

-- the global locale with the parts of picks in the categories of the mask
abbrev pub after_set : ℕ → Parts → KeptData → KeptData
after_set mask picks kept = record kept {
  global = record { version = kept.global.version + 1; object = composed mask picks kept.global.object };
}

abbrev pub after_install : ℕ → Offered → KeptData → KeptData
after_install m offer kept = record kept {
  installed = slice_set kept.installed m (Some offer);
  installs = kept.installs + 1;
}

abbrev pub after_post : ℕ → ℕ → Named → KeptData → KeptData
after_post w k n kept = record kept { cells = with_cell kept.cells w k (handle_named n) }

abbrev pub after_end : ℕ → KeptData → KeptData
after_end w kept = record kept {
  rows = all_let_go w (changed unpinned kept.rows (selected w kept));
  selections = slice_set kept.selections w Global;
}
