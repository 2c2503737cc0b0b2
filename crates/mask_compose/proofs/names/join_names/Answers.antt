-- What was joined is read back.
use Rattle.std.proofs.Common.{arith, ◌≡◌, [], ◌∷◌}
use Rattle.std.proofs.lemmas.Grind.{common_steps}
use Rattle.mask_compose.specs.Names.{mixed_name}
use Rattle.mask_compose.proofs.NameLemmas.{mixed_parts-mixed_name}
use Rattle.mask_compose.proofs.names.join_names.Goals as goal

pub returns-clause-read_back : goal.returns-clause-read_back
returns-clause-read_back c =
    let parts = c.args.ctype.now ∷ c.args.numeric.now ∷ c.args.monetary.now ∷ c.args.time.now ∷ c.args.messages.now ∷ [] in
    let joined : c.from_vec.result ≡ mixed_name parts = grind (arith, common_steps) in
    λ good. rw joined (mixed_parts-mixed_name parts good)
