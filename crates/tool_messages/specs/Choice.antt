-- The words of the option for colours (our own).
use Rattle.std.specs.Prelude.{ℕ, List, Option, Some, None, codes, if◌then◌else◌}
use Rattle.std.specs.Str.{bytes_eq}
use Rattle.tool_messages.specs.declared.choice.When.{When}
use Rattle.tool_messages.specs.declared.choice.When.TheVariants.{Always, Auto, Never}

-- what a word says
abbrev pub when_of : List ℕ → Option When
when_of word = if bytes_eq word (codes "always") then Some Always else if bytes_eq word (codes "auto") then Some Auto else if bytes_eq word (codes "never") then Some Never else None
