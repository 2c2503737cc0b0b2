-- Two texts that are written one behind the other.
use Rattle.std.proofs.Common.{ℕ, ◌+◌, List, Option, length, take, ◌++◌, sym, subst, arith}
use Rattle.std.proofs.Math.Seq.{take-append-add}
use Rattle.std.proofs.lemmas.List.{length-append}
use Rattle.std.proofs.KnownBytes.{Appends-trans}
use Rattle.std.specs.Io.KnownBytes.{Appends}
use Rattle.lc_base.specs.Bytes.{AddsPrefix}

-- the whole of the one and the front of the other is the front of both
pub front_behind : (a b c : Option (List ℕ)) (xs ys : List ℕ) → Appends a b xs → AddsPrefix b c ys → AddsPrefix a c (xs ++ ys)
front_behind a b c xs ys all (n, within, some) = (
  length xs + n,
  omega (arith, within, length-append xs ys),
  subst (Appends a c) (sym (take-append-add xs ys n)) (Appends-trans a b c xs (take n ys) all some),
)
