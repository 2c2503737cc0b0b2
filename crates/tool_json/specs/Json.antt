-- JSON text as the tool prints it (RFC 8259; the members are our own).
use Rattle.std.specs.Prelude.{ℕ, List, [], ◌∷◌, ◌++◌, codes, if◌then◌else◌}
use Rattle.std.specs.Fmt.{decimal}
use Rattle.std.specs.Str.{is_utf8}
use Rattle.hex.specs.Hex.{encode_lower}
use Rattle.json.specs.Token.{Token, begin_object, end_object, key, string, number}
use Rattle.json.specs.Print.{print}
use Rattle.reason_rules.specs.declared.table.ReasonRow.{ReasonRow}

-- bytes that are no UTF-8 text: an object with their hexadecimal digits
abbrev pub bytes_tokens : List ℕ → List Token
bytes_tokens bytes = begin_object ∷ key (codes "bytes") ∷ string (encode_lower bytes) ∷ end_object ∷ []

-- bytes as a value: a string, where they are UTF-8 text
abbrev pub text_tokens : List ℕ → List Token
text_tokens bytes = if is_utf8 bytes then string bytes ∷ [] else bytes_tokens bytes

-- a member that is a text
abbrev pub text_member : List ℕ → List ℕ → List Token
text_member name bytes = key name ∷ text_tokens bytes

-- a member that is a number
abbrev pub number_member : List ℕ → ℕ → List Token
number_member name n = key name ∷ number (decimal n) ∷ []

-- the object of a row of the table of reasons
abbrev pub row_tokens : ReasonRow → List Token
row_tokens row =
    begin_object ∷ text_member (codes "name") row.name.now
    ++ text_member (codes "rule") row.rule.now
    ++ text_member (codes "refused") row.breaks.now
    ++ text_member (codes "accepted") row.keeps.now
    ++ end_object ∷ []

-- the line of tokens
abbrev pub json_line : List Token → List ℕ
json_line tokens = print tokens ++ 10 ∷ []
