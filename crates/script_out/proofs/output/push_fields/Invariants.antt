use Rattle.std.proofs.Common.{◌≡◌, ◌++◌, drop}
use Rattle.script_out.specs.Output.{fields_text}
use Rattle.script_out.proofs.output.push_fields.Given as goal

-- what is written, and what is left
abbrev pub invariant-loop-field : goal.invariant-loop-field
invariant-loop-field l = l.out.items ++ fields_text (drop l.field-index l.fields) ≡ l.initial.out.items ++ fields_text l.fields
