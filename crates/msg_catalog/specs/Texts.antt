-- The texts of messages (XCU gencat).
use Rattle.std.specs.Prelude.{ℕ, zero, suc, ◌+◌, ◌-◌, ◌*◌, Bool, false, ◌&&◌, ◌==◌, nat_lt, nat_le, List, [], ◌∷◌, ◌++◌, Option, Some, None, if◌then◌else◌}
use Rattle.lc_base.specs.declared.place.Place.{Place}
use Rattle.msg_catalog.specs.declared.cursor.Spot.{Spot}
use Rattle.msg_catalog.specs.declared.text.TextUnit.{TextUnit}
use Rattle.msg_catalog.specs.declared.text.TextUnit.TheVariants.{Byte, Wrong, Nothing}
use Rattle.msg_catalog.specs.declared.text.Text.{Text}

-- a text, and the place of its first wrong escape, if there is one
pub record Said : Type 0 where
  pub bytes : List ℕ
  pub wrong : Option Place

-- a text without a byte
abbrev pub nothing_said : Said
nothing_said = record { bytes = []; wrong = None }

-- the first place of two, if there is one
abbrev pub first_place : Option Place → Option Place → Option Place
first_place None other = other
first_place (Some place) other = Some place

-- a text and what follows it
abbrev pub joined : Said → Said → Said
joined t u = record { bytes = t.bytes ++ u.bytes; wrong = first_place t.wrong u.wrong }

-- what stands at a byte, as a text; a wrong escape is counted as a byte
abbrev pub said : TextUnit → Said
said (Byte b) = record { bytes = b ∷ []; wrong = None }
said (Wrong place) = record { bytes = 0 ∷ []; wrong = Some place }
said Nothing = nothing_said

-- an octal digit
abbrev pub is_octal : ℕ → Bool
is_octal b = nat_le 48 b && nat_le b 55

-- one digit more
abbrev pub counted : ℕ × ℕ → ℕ × ℕ
counted x = (x.0, x.1 + 1)

-- the number that at most so many octal digits here give behind those of n, and how many they are
abbrev pub octal : ℕ → ℕ → List Spot → ℕ × ℕ
octal zero n ss = (n, 0)
octal (suc most) n [] = (n, 0)
octal (suc most) n (s ∷ ss) = if is_octal s.byte then counted (octal most (n * 8 + (s.byte - 48)) ss) else (n, 0)

-- the letters that stand for control bytes behind a \: n, t, v, b, r and f
abbrev pub controls : List (ℕ × ℕ)
controls = (110, 10) ∷ (116, 9) ∷ (118, 11) ∷ (98, 8) ∷ (114, 13) ∷ (102, 12) ∷ []

-- what a table gives for a byte, or the byte itself
abbrev pub looked_up : List (ℕ × ℕ) → ℕ → ℕ
looked_up [] b = b
looked_up (row ∷ rows) b = if b == row.0 then row.1 else looked_up rows b

-- the byte that an escape with this byte stands for
abbrev pub control : ℕ → ℕ
control b = looked_up controls b

-- an octal escape at this place
abbrev pub octal_piece : Place → ℕ → TextUnit
octal_piece place n = if nat_lt n 256 then Byte n else Wrong place

-- an escape that is no octal one, and how many bytes behind the \ go with it
abbrev pub plain_escape : List Spot → TextUnit × ℕ
plain_escape [] = (Nothing, 0)
plain_escape (s ∷ ss) = (Byte (control s.byte), 1)

-- the escape whose \ stands at this place, and how many bytes behind it go with it
abbrev pub escape : Place → List Spot → TextUnit × ℕ
escape place ss =
    let o = octal 3 0 ss in
    if nat_lt 0 o.1 then (octal_piece place o.0, o.1) else plain_escape ss

-- what stands at a byte before others, and how many of these go with it
abbrev pub piece_of : Spot → List Spot → TextUnit × ℕ
piece_of s ss = if s.byte == 92 then escape s.place ss else (Byte s.byte, 0)

-- whether a byte is the quote character
abbrev pub is_quote : Option ℕ → ℕ → Bool
is_quote None b = false
is_quote (Some c) b = c == b

-- the text up to this sign, where that is no part of an escape, or to the line's end; so many bytes here are part of
-- an escape that came before
abbrev pub decoded : Option ℕ → ℕ → List Spot → Said
decoded end skip [] = nothing_said
decoded end (suc skip) (s ∷ ss) = decoded end skip ss
decoded end zero (s ∷ ss) =
    if is_quote end s.byte then nothing_said
    else (let p = piece_of s ss in joined (said p.0) (decoded end p.1 ss))

-- the text of a message: in quotes where it begins with the quote character, and else the whole line
abbrev pub text_of : Option ℕ → List Spot → Said
text_of quote [] = nothing_said
text_of quote (s ∷ ss) = if is_quote quote s.byte then decoded quote 0 ss else decoded None 0 (s ∷ ss)

-- a text that was read
abbrev pub read_text : Text → Said
read_text t = record { bytes = t.bytes.items; wrong = t.wrong }
