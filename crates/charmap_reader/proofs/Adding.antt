-- What a line of the body gives, after its names are added.
use Rattle.std.proofs.Common.{◌≡◌, ℕ, ◌+◌, ◌^◌, ◌<◌, true, false, List, length, Ok, Err, refl, ap, ◌∙◌}
use Rattle.std.specs.List.{list_any}
use Rattle.std.proofs.lemmas.Bool.{lt-ltb, lt-leb}
use Rattle.lc_base.specs.declared.place.Place.{Place}
use Rattle.lc_base.specs.declared.reason.Reason.TheVariants.{NameTwice, PortableMoved, OverLimit}
use Rattle.lc_base.specs.declared.reason.Limit.TheVariants.{Names}
use Rattle.charset.specs.Limits.{NAME_LIMIT}
use Rattle.charset.specs.CodedSet.{big_endian}
use Rattle.charmap_reader.specs.Subject.{Subject}
use Rattle.charset.specs.Entries.{Entry}
use Rattle.charmap_reader.specs.Charmap.{is_moved, listed_with, listed_at, counted_at}
use Rattle.charset.specs.CharacterNames.{IsAdded}

-- with names that are not all new
pub listed_twice : (place : Place) (given new all : List Entry) → IsAdded given new all false → listed_at place given new ≡ Err (place, NameTwice)
listed_twice place given new all h = ap (listed_with place new) h

-- with a portable name that is moved
pub listed_moved : (place : Place) (given new all : List Entry) → IsAdded given new all true → list_any is_moved new ≡ true → listed_at place given new ≡ Err (place, PortableMoved)
listed_moved place given new all h moved = ap (listed_with place new) h ∙ rw moved refl

-- with new names of which none is moved
pub listed_all : (place : Place) (given new all : List Entry) → IsAdded given new all true → list_any is_moved new ≡ false → listed_at place given new ≡ Ok all
listed_all place given new all h moved = ap (listed_with place new) h ∙ rw moved refl

-- with more names than the limit
pub counted_over : (place code_place : Place) (given : List Entry) (s : Subject) (code : List ℕ) (more : ℕ) → big_endian code + more < 256 ^ length code → NAME_LIMIT < length given + (more + 1)
    → counted_at place code_place given s code more ≡ Err (place, OverLimit Names)
counted_over place code_place given s code more below over =
    rw (lt-leb (256 ^ length code) (big_endian code + more) below, lt-ltb NAME_LIMIT (length given + (more + 1)) over) refl
