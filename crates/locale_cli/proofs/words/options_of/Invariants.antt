use Rattle.std.proofs.Common.{◌≡◌, drop}
use Rattle.locale_cli.specs.Words.{none_given, with_options, AreWithin}
use Rattle.locale_cli.proofs.words.options_of.Given as goal

-- the options so far, with the words that are left
abbrev pub invariant-loop-word : goal.invariant-loop-word
invariant-loop-word l = record {
  rest : with_options l.given (drop l.word-index l.words) ≡ with_options none_given l.words;
  within : AreWithin l.given;
}
