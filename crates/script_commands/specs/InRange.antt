-- Numbers of a command that are in range (our own).
use Rattle.std.specs.Prelude.{ℕ, ◌<◌, Option, Some, None}
use Rattle.lc_base.specs.Cells.{CELLS}
use Rattle.script_commands.specs.declared.command.Command.{Command}
use Rattle.script_commands.specs.declared.command.Command.TheVariants.{New, Dup, Free, Use, Selected, Hold, Release, Setlocale, LocaleName, Install, Post, Fetch, Pins, Read, ReadOf, CatOpen, CatGets, CatClose}
use Rattle.script_commands.specs.declared.command.OpenCatalog.{OpenCatalog}
use Rattle.script_commands.specs.declared.command.OpenCatalog.TheVariants as catalogs
use Rattle.script_commands.specs.declared.command.Target.{Target}
use Rattle.script_commands.specs.declared.command.Target.TheVariants.{Global, Variable, Handle}

-- a handle is of one of so many threads
abbrev pub IsOwned : ℕ → Target → Type 0
IsOwned threads Global = Unit {0}
IsOwned threads (Variable name) = Unit {0}
IsOwned threads (Handle h) = h.owner < threads

-- a base is, where there is one
abbrev pub IsBaseOwned : ℕ → Option Target → Type 0
IsBaseOwned threads None = Unit {0}
IsBaseOwned threads (Some base) = IsOwned threads base

-- so is the handle of a catalog
abbrev pub IsCatalogOwned : ℕ → OpenCatalog → Type 0
IsCatalogOwned threads (catalogs.Variable name) = Unit {0}
IsCatalogOwned threads (catalogs.Handle h) = h.owner < threads

-- the numbers of a command are in range: it names threads among so many, and cells that each thread has
abbrev pub IsInRange : ℕ → Command → Type 0
IsInRange threads (New variable mask locale base) = IsBaseOwned threads base
IsInRange threads (Dup variable original) = IsOwned threads original
IsInRange threads (Free named) = IsOwned threads named
IsInRange threads (Use named) = IsOwned threads named
IsInRange threads Selected = Unit {0}
IsInRange threads (Hold named) = IsOwned threads named
IsInRange threads (Release named) = IsOwned threads named
IsInRange threads (Setlocale categories locale) = Unit {0}
IsInRange threads (LocaleName categories) = Unit {0}
IsInRange threads (Install key) = Unit {0}
IsInRange threads (Post cell named) = (cell < CELLS) × IsOwned threads named
IsInRange threads (Fetch variable owner cell) = (owner < threads) × (cell < CELLS)
IsInRange threads (Pins named) = IsOwned threads named
IsInRange threads (Read read) = Unit {0}
IsInRange threads (ReadOf object read) = IsOwned threads object
IsInRange threads (CatOpen variable name) = Unit {0}
IsInRange threads (CatGets catalog set message default) = IsCatalogOwned threads catalog
IsInRange threads (CatClose catalog) = IsCatalogOwned threads catalog
