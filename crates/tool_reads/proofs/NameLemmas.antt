-- The names of members.
use Rattle.std.proofs.Common.{◌≡◌, ℕ, List, [], Bool, true, false, if◌then◌else◌, refl}
use Rattle.std.specs.Str.{IsUtf8, is_utf8}
use Rattle.std.proofs.lemmas.Str.{IsUtf8-from_is_utf8, is_utf8-from_IsUtf8}
use Rattle.tool_reads.specs.JsonReads.{member_name}

pub is_name : (name : List ℕ) → IsUtf8 name → member_name name ≡ name
is_name name is = rw (is_utf8-from_IsUtf8 name is) refl

chosen : (name : List ℕ) (b : Bool) → is_utf8 name ≡ b → ¬ IsUtf8 name → (if b then name else []) ≡ []
chosen name true is none = absurd (none (IsUtf8-from_is_utf8 name is))
chosen name false is none = refl

pub no_name : (name : List ℕ) → ¬ IsUtf8 name → member_name name ≡ []
no_name name none = chosen name (is_utf8 name) refl none
