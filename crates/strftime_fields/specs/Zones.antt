-- Times whose zone has another name.
use Rattle.std.specs.Prelude.{ℕ, List}
use Rattle.time_cat.specs.Times.{TmValues}

-- a time with this name of its zone
abbrev pub in_zone : TmValues → List ℕ → TmValues
in_zone t zone = record t { zone = zone }
