use Rattle.std.proofs.Common.{◌≡◌, drop}
use Rattle.locale_cli.specs.Request.{no_recipe, with_parts, IsRecipe}
use Rattle.locale_cli.proofs.request.recipe_of.Given as goal

-- the options so far, with the words that are left
abbrev pub invariant-loop-word : goal.invariant-loop-word
invariant-loop-word l = record {
  rest : with_parts l.given (drop l.word-index l.words) ≡ with_parts no_recipe l.words;
  possible : IsRecipe l.given;
}
