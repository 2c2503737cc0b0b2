-- The code's look of an amount as that of the definitions.
use Rattle.strfmon.specs.declared.look.Look.{Look as Shown}
use Rattle.strfmon.specs.Looks.{Look}

-- what the parts of a look are
abbrev pub seen : Shown → Look
seen l = record { sign = l.sign.now; symbol = l.symbol.now; space = l.space.now; before = l.before.now; after = l.after.now }
