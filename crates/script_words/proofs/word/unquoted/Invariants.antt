use Rattle.std.proofs.Common.{◌≡◌, ◌++◌, List, ℕ, drop}
use Rattle.std.specs.Prelude.{option_map}
use Rattle.script_words.specs.declared.word.Quoting.TheVariants.{Text}
use Rattle.script_words.specs.Seen.{IsQuoting}
use Rattle.script_words.specs.Words.{unquoted}
use Rattle.script_words.proofs.word.unquoted.Given as goal

abbrev pub invariant-loop-c : goal.invariant-loop-c
invariant-loop-c l = record {
  digit : IsQuoting l.quoting;
  so_far : option_map (λ (more : List ℕ). l.text.items ++ more) (unquoted l.quoting (drop l.c-index l.bytes)) ≡ unquoted Text l.bytes;
}
