-- The values of a printed line: each number fits its type, and each thread is one of those that are named.
use Rattle.std.specs.Prelude.{ℕ, ◌<◌, ◌^◌, List, length, Option, IfSome}
use Rattle.std.specs.Int.{w32}
use Rattle.std.specs.Int.RustNames.{FitsSigned}
use Rattle.std.specs.List.{AllByRecursion}
use Rattle.lc_base.specs.declared.handle.Handle.{Handle}
use Rattle.lc_base.specs.declared.handle.Named.{Named}
use Rattle.lc_base.specs.declared.handle.Named.TheVariants.{Global, Of}
use Rattle.time_cat.specs.declared.parsed.Parsed.{Parsed}
use Rattle.script_out.specs.declared.output.OutLine.{OutLine}
use Rattle.script_out.specs.declared.output.Places.{Places}
use Rattle.script_out.specs.declared.output.Places.TheVariants as places
use Rattle.script_out.specs.declared.output.Said.{Said}
use Rattle.script_out.specs.declared.output.Said.TheVariants as said
use Rattle.script_out.specs.declared.output.Why.{Why}
use Rattle.script_out.specs.declared.output.Why.TheVariants as whys

-- numbers of a byte each
abbrev pub AreBytes : List ℕ → Type 0
AreBytes numbers = AllByRecursion (λ n. n < 2 ^ 8) numbers

-- a number of a thread that has a name
abbrev pub IsThread : List (List ℕ) → ℕ → Type 0
IsThread names t = (t < length names) × (t < 2 ^ 32)

-- a handle of a thread that has a name
pub record IsHandle (names : List (List ℕ)) (h : Handle) : Type 0 where
  pub owner : IsThread names h.owner
  pub row : h.row < 2 ^ 32
  pub generation : h.generation < 2 ^ 32

abbrev pub IsNamed : List (List ℕ) → Named → Type 0
IsNamed names Global = Unit {0}
IsNamed names (Of h) = IsHandle names h

abbrev pub ArePlaces : Places → Type 0
ArePlaces places.None = Unit {0}
ArePlaces (places.One p) = p < 2 ^ 64
ArePlaces (places.Two p q) = (p < 2 ^ 64) × (q < 2 ^ 64)
ArePlaces (places.Catalog p) = p < 2 ^ 64

abbrev pub IsVersion : Option ℕ → Type 0
IsVersion version = IfSome version (λ v. v < 2 ^ 32)

abbrev pub IsWhy : Why → Type 0
IsWhy whys.Unset = Unit {0}
IsWhy whys.BadMask = Unit {0}
IsWhy (whys.Table refusal) = Unit {0}
IsWhy whys.NoClass = Unit {0}
IsWhy (whys.TmRange field) = Unit {0}
IsWhy (whys.BadFormat at) = at < 2 ^ 64
IsWhy (whys.MissingAmount at) = at < 2 ^ 64
IsWhy (whys.MissingNumber at) = at < 2 ^ 64
IsWhy (whys.Mismatch at) = at < 2 ^ 64
IsWhy whys.TooBig = Unit {0}
IsWhy whys.NoCatalog = Unit {0}

-- a field of one byte, where it is there
abbrev pub IsSmallField : Option ℕ → Type 0
IsSmallField field = IfSome field (λ n. n < 2 ^ 8)

pub record IsParsed (p : Parsed) : Type 0 where
  pub year : IfSome p.year (λ y. FitsSigned w32 y)
  pub mon : IsSmallField p.mon
  pub mday : IsSmallField p.mday
  pub hour : IsSmallField p.hour
  pub min : IsSmallField p.min
  pub sec : IsSmallField p.sec
  pub wday : IsSmallField p.wday
  pub yday : IfSome p.yday (λ n. n < 2 ^ 16)

abbrev pub IsSaid : List (List ℕ) → Said → Type 0
IsSaid names (said.Handle h) = IsHandle names h
IsSaid names said.Freed = Unit {0}
IsSaid names (said.Was former) = IsNamed names former
IsSaid names (said.Is selected) = IsNamed names selected
IsSaid names said.Held = Unit {0}
IsSaid names said.Released = Unit {0}
IsSaid names (said.Name name) = Unit {0}
IsSaid names (said.Installed count) = count < 2 ^ 32
IsSaid names said.Posted = Unit {0}
IsSaid names (said.Pins count) = count < 2 ^ 32
IsSaid names (said.Text text) = Unit {0}
IsSaid names (said.Parsed fields rest) = IsParsed fields × (rest < 2 ^ 64)
IsSaid names (said.Conv texts numbers) = AreBytes numbers
IsSaid names (said.Class is) = Unit {0}
IsSaid names (said.Value value) = value < 2 ^ 32
IsSaid names (said.Opened h) = IsHandle names h
IsSaid names said.Closed = Unit {0}
IsSaid names said.Ended = Unit {0}
IsSaid names (said.Refused why) = IsWhy why

pub record IsLine (names : List (List ℕ)) (l : OutLine) : Type 0 where
  pub round : l.round < 2 ^ 32
  pub thread : IsThread names l.thread
  pub index : l.index < 2 ^ 32
  pub places : ArePlaces l.places
  pub global : IsVersion l.global
  pub reply : IsSaid names l.reply
