-- The first two fields of a line (XBD 6.4): what stands between bare blanks, as atoms.
use Rattle.std.specs.Prelude.{Ok, length, List}
use Rattle.lc_base.specs.Reading.{Reads, ◌>>=◌}
use Rattle.src_lines.specs.declared.field.Field.{Field}
use Rattle.src_lines.specs.declared.text.RunEnd.TheVariants.{AtBlank}
use Rattle.src_lines.specs.Places.{Logical, place_at}
use Rattle.src_lines.specs.Atoms.{Item, items_from}
use Rattle.src_lines.specs.Tokens.{run, skip, next_place}

-- the next field, perhaps empty, where the line's end has this place, and what follows it
unfoldable pub field : Logical → List Item → Reads (Field × List Item)
field l is =
    run AtBlank (skip is) >>= λ x.
    Ok (record { place = next_place (place_at l (length l.bytes)) (skip is); atoms = x.0 }, x.1)

-- the first two fields of a line, or the first fault in them
unfoldable pub fields : Logical → Reads (Field × Field)
fields l = do
  first ← field l (items_from l 0)
  second ← field l first.1
  Ok (first.0, second.0)
