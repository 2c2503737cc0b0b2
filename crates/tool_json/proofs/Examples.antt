-- JSON text, tried on small examples.
use Rattle.std.proofs.Common.{◌≡◌, [], ◌∷◌, ◌++◌, codes, refl}
use Rattle.std.specs.Fmt.{digits}
use Rattle.json.specs.Token.{begin_object, end_object, key, string}
use Rattle.json.specs.Print.{print_from, escape_byte}
use Rattle.tool_json.specs.Json.{number_member, json_line}

-- a quote and a newline are escaped, and commas stand between members
two_members : json_line (begin_object ∷ key (codes "a") ∷ string (codes "x\"\n") ∷ number_member (codes "b") 12 ++ end_object ∷ []) ≡ codes "{\"a\":\"x\\\"\\n\",\"b\":12}\n"
unfolding digits print_from escape_byte
two_members = refl
