-- A keyword list that is kept as a value of the definitions.
use Rattle.category_store.specs.declared.written.Written.{Written as Lent}
use Rattle.category_store.specs.Written.{Written}

-- a keyword list that is written in a source
abbrev pub written : Lent → Written
written w = record { charset = w.charset.now; place = w.place; entries = w.entries.now }
