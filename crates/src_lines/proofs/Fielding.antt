-- Fields that are read one after the other.
use Rattle.std.proofs.Common.{◌≡◌, List, length, Ok, refl}
use Rattle.lc_base.specs.declared.place.Place.{Place}
use Rattle.lc_base.specs.declared.fault.TextFault.{TextFault}
use Rattle.lc_base.specs.declared.fault.TextFault.TheVariants.{At, Memory}
use Rattle.lc_base.specs.Reading.{Fails}
use Rattle.src_lines.specs.declared.text.RunEnd.TheVariants.{AtBlank}
use Rattle.src_lines.specs.declared.atom.Atom.{Atom}
use Rattle.src_lines.specs.declared.field.Field.{Field}
use Rattle.src_lines.specs.Places.{Logical, place_at}
use Rattle.src_lines.specs.Atoms.{Item, items_from}
use Rattle.src_lines.specs.Tokens.{skip, next_place, run}
use Rattle.src_lines.specs.Fields.{field, fields}

pub field_fails : (e : TextFault) (l : Logical) (is js : List Item) → js ≡ skip is → Fails e (run AtBlank js) → Fails e (field l is)
unfolding field
field_fails Memory l is js s h = tt
field_fails (At p r) l is js s h = rw (← s, h) refl

pub field_is : (l : Logical) (is js rest : List Item) (place : Place) (us : List Atom) → js ≡ skip is → next_place (place_at l (length l.bytes)) js ≡ place → run AtBlank js ≡ Ok (us, rest)
    → field l is ≡ Ok (record { place = place; atoms = us }, rest)
unfolding field
field_is l is js rest place us s at h = rw (← s, h, at) refl

pub first_fails : (e : TextFault) (l : Logical) → Fails e (field l (items_from l 0)) → Fails e (fields l)
unfolding fields
first_fails Memory l h = tt
first_fails (At p r) l h = rw h refl

pub second_fails : (e : TextFault) (l : Logical) (f : Field) (rest : List Item) → field l (items_from l 0) ≡ Ok (f, rest) → Fails e (field l rest) → Fails e (fields l)
unfolding fields
second_fails Memory l f rest one h = tt
second_fails (At p r) l f rest one h = rw (one, h) refl

pub fields_are : (l : Logical) (f g : Field) (rest more : List Item) → field l (items_from l 0) ≡ Ok (f, rest) → field l rest ≡ Ok (g, more) → fields l ≡ Ok (f, g)
unfolding fields
fields_are l f g rest more one two = rw (one, two) refl
