-- The code's types as the values of the definitions.
use Rattle.std.specs.Prelude.{◌≡◌, ℕ, ◌-◌, List, take, drop, replicate}
use Rattle.charset.specs.CodedSet.{CodedSet, utf8, posix}
use Rattle.charset.specs.declared.code.Code.{Code}
use Rattle.charset.specs.declared.kind.Kind.{Kind}
use Rattle.charset.specs.declared.kind.Kind.TheVariants.{Utf8, Posix, Listed}

-- the bytes of an encoding
abbrev pub code_bytes : Code → List ℕ
code_bytes code = take code.len code.bytes

-- the bytes after an encoding are 0
abbrev pub IsPadded : Code → Type 0
IsPadded code = drop code.len code.bytes ≡ replicate (4 - code.len) 0

-- the set that a kind stands for
abbrev pub set_of : Kind → CodedSet
set_of Utf8 = utf8
set_of Posix = posix
set_of (Listed set) = set
