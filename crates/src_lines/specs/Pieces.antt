-- Pieces of an operand, borrowed, and those that are bytes alone.
use Rattle.std.specs.Prelude.{ℕ, List, [], ◌∷◌, Option, Some, None, option_map}
use Rattle.src_lines.specs.declared.line.OperandPiece.{OperandPiece}
use Rattle.src_lines.specs.declared.line.OperandPiece.TheVariants.{Byte, Name}
use Rattle.src_lines.specs.declared.pieces.PieceRef.{PieceRef}
use Rattle.src_lines.specs.declared.pieces.PieceRef.TheVariants.{Byte as ByteRef, Name as NameRef}

-- a borrowed piece as a piece
abbrev pub seen : PieceRef → OperandPiece
seen (ByteRef b) = Byte b
seen (NameRef name) = Name name.now

-- the bytes that pieces are, unless there is a name among them
abbrev pub only_bytes : List OperandPiece → Option (List ℕ)
only_bytes [] = Some []
only_bytes (Byte b ∷ ps) = option_map (λ bs. b ∷ bs) (only_bytes ps)
only_bytes (Name name ∷ ps) = None
