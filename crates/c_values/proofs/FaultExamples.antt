-- Faults as C is told them, tried on small texts.
use Rattle.std.specs.Prelude.{◌≡◌, ℕ, List, [], ◌∷◌, ◌++◌, replicate, codes, Some, None, Ok, Err, refl}
use Rattle.lc_base.specs.declared.place.Place.{Place}
use Rattle.lc_base.specs.declared.reason.Reason.TheVariants.{EmptyRadix, NoEnd}
use Rattle.library_parts.specs.declared.fault.Wrong.TheVariants.{NameTwice, Text}
use Rattle.shared_objects.specs.Shared.{MarkedLibraryData}
use Rattle.c_values.specs.Codes.{OK, BAD_TEXT, NAME_TWICE}
use Rattle.c_values.specs.declared.fault.LobjFault.{LobjFault}
use Rattle.c_values.specs.Answers.{answered}
use Rattle.c_values.specs.Faults.{text_fault, part_fault, message_of, message_told, IsWrongTold, IsRead, IsBuilt}

abbrev at : ℕ → ℕ → Place
at line column = record { line = line; column = column }

-- the third line begins behind four bytes and has two
third_line : text_fault 2 (codes "ab\n\ncd\nef") (at 3 2) EmptyRadix ≡ record { part = 2; line = 3; column = 2; reason = 47; start = 4; length = 2 }
third_line = refl

-- a text may lack the last newline, and the line behind the last is empty
last_line : text_fault 0 (codes "ab\ncd") (at 2 1) NoEnd ≡ record { part = 0; line = 2; column = 1; reason = 4; start = 3; length = 2 }
last_line = refl

behind_last : text_fault 0 (codes "ab\n") (at 2 1) NoEnd ≡ record { part = 0; line = 2; column = 1; reason = 4; start = 3; length = 0 }
behind_last = refl

-- a message that has room, and one that has not, which leaves the buffer and tells the size
message : message_told (replicate 15 120) (message_of NoEnd (codes "a rule")) ≡ (answered BAD_TEXT 13, codes "NoEnd: a rule" ++ 0 ∷ codes "x")
message = refl

message_without_room : message_told (replicate 13 120) (message_of NoEnd (codes "a rule")) ≡ (answered BAD_TEXT 14, replicate 13 120)
message_without_room = refl

abbrev sevens : LobjFault
sevens = record { part = 7; line = 7; column = 7; reason = 7; start = 7; length = 7 }

abbrev marked : MarkedLibraryData
marked = record { library = record { locales = []; names = []; first = []; keys = []; native = None }; books = []; mark = 9 }

-- a library leaves the fault and the buffer as they were
read_whole : IsRead [] (Ok marked) (answered OK 0) None (Some marked) sevens sevens (codes "x") (codes "x")
read_whole = (refl, refl, refl, refl)

-- the number of a part that has a name twice, of which no text is told
name_twice : IsBuilt [] (Err (3, NameTwice)) (answered NAME_TWICE 0) (Some marked) (Some marked) sevens (part_fault 3) (codes "x") (codes "x")
name_twice = ((refl, refl, refl), refl)
