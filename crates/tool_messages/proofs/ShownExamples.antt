-- Words in messages, tried on small examples.
use Rattle.std.proofs.Common.{◌≡◌, [], ◌∷◌, codes, refl}
use Rattle.tool_messages.specs.Shown.{shown_word}

-- what turns a terminal red
escape : shown_word (27 ∷ codes "[31m") ≡ codes "\\x1b[31m"
escape = refl

-- the bytes of ä, and a delete
letter : shown_word (195 ∷ 164 ∷ 127 ∷ []) ≡ 195 ∷ 164 ∷ codes "\\x7f"
letter = refl
