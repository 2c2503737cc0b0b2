-- The line of a refused bundle (our own).
use Rattle.std.specs.Prelude.{ℕ, List, ◌++◌, codes}
use Rattle.std.specs.Fmt.{decimal}
use Rattle.lc_base.specs.declared.place.Place.{Place}
use Rattle.lc_base.specs.declared.reason.Reason.{Reason}
use Rattle.reason_rules.specs.Words.{reason_text}
use Rattle.script_out.specs.Output.{space, newline}

-- `refused: L:C REASON` and a newline
abbrev pub refusal_line : Place → Reason → List ℕ
refusal_line place reason = codes "refused: " ++ decimal place.line ++ codes ":" ++ decimal place.column ++ space ++ reason_text reason ++ newline
