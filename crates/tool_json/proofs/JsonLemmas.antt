-- Bytes that are UTF-8 text, and others.
use Rattle.std.proofs.Common.{◌≡◌, ℕ, List, [], ◌∷◌, Bool, true, false, if◌then◌else◌, refl}
use Rattle.std.specs.Str.{IsUtf8, is_utf8}
use Rattle.std.proofs.lemmas.Str.{IsUtf8-from_is_utf8, is_utf8-from_IsUtf8}
use Rattle.json.specs.Token.{string}
use Rattle.tool_json.specs.Json.{text_tokens, bytes_tokens}

pub of_text : (bytes : List ℕ) → IsUtf8 bytes → text_tokens bytes ≡ string bytes ∷ []
of_text bytes is = rw (is_utf8-from_IsUtf8 bytes is) refl

chosen : (bytes : List ℕ) (b : Bool) → is_utf8 bytes ≡ b → ¬ IsUtf8 bytes → (if b then string bytes ∷ [] else bytes_tokens bytes) ≡ bytes_tokens bytes
chosen bytes true is none = absurd (none (IsUtf8-from_is_utf8 bytes is))
chosen bytes false is none = refl

pub of_bytes : (bytes : List ℕ) → ¬ IsUtf8 bytes → text_tokens bytes ≡ bytes_tokens bytes
of_bytes bytes none = chosen bytes (is_utf8 bytes) refl none
