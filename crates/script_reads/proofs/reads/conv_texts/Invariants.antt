use Rattle.std.proofs.Common.{◌≡◌, take}
use Rattle.langinfo.specs.Lent.{owned_texts}
use Rattle.script_reads.specs.Reads.{conv_texts}
use Rattle.script_reads.proofs.reads.conv_texts.Given as goal

-- the texts so far
abbrev pub invariant-loop-text : goal.invariant-loop-text
invariant-loop-text l = l.texts ≡ conv_texts (owned_texts (take l.text-index l.fields))
