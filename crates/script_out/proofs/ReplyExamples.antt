-- Printed lines and replies.
use Rattle.std.proofs.Common.{◌≡◌, ℕ, pos, negsuc, true, false, List, [], ◌∷◌, ◌++◌, Some, None, refl}
use Rattle.std.specs.Prelude.{codes}
use Rattle.std.specs.Fmt.{digits}
use Rattle.time_cat.specs.declared.parsed.Parsed.{Parsed}
use Rattle.lc_base.specs.declared.handle.Handle.{Handle}
use Rattle.lc_base.specs.declared.handle.Named.TheVariants.{Global, Of}
use Rattle.handle_table.specs.declared.op.Refusal.TheVariants as refusals
use Rattle.lc_base.specs.declared.category.Category.TheVariants as categories
use Rattle.time_cat.specs.declared.tm.TmField.TheVariants as fields
use Rattle.script_out.specs.declared.output.Places.TheVariants as places
use Rattle.script_out.specs.declared.output.Said.TheVariants as said
use Rattle.script_out.specs.declared.output.Why.TheVariants as whys
use Rattle.script_out.specs.Output.{reply_text, printed}

-- ---- lines

abbrev names : List (List ℕ)
names = codes "A" ∷ codes "Bo" ∷ []

-- the first thread's third row, as it was made the fourth time
abbrev made : Handle
made = record { owner = 0; row = 2; generation = 4 }

-- a read has two places, a Hold and its Release; an end has none, and no version
lines_printed : printed (
    record { round = 1; thread = 1; index = 12; places = places.Two 7 8; global = Some 3; reply = said.Value 97 } ∷
    record { round = 2; thread = 0; index = 1; places = places.One 10; global = None; reply = said.Handle made } ∷
    record { round = 2; thread = 1; index = 13; places = places.None; global = None; reply = said.Ended } ∷
    []) names ≡ codes "1 Bo 12 7,8 g3 value 97\n2 A 1 10 - handle A.2.4\n2 Bo 13 - - ended\n"
unfolding digits
lines_printed = refl

-- a line of the catalogs has its place in their history; an opening has the version too where it is by the global locale
catalog_lines_printed : printed (
    record { round = 1; thread = 0; index = 4; places = places.Catalog 0; global = None; reply = said.Opened (record { owner = 0; row = 0; generation = 1 }) } ∷
    record { round = 1; thread = 1; index = 1; places = places.Catalog 12; global = Some 0; reply = said.Opened (record { owner = 1; row = 0; generation = 1 }) } ∷
    record { round = 1; thread = 0; index = 5; places = places.Catalog 13; global = None; reply = said.Text (codes "Hi") } ∷
    record { round = 1; thread = 0; index = 6; places = places.None; global = Some 3; reply = said.Refused whys.NoCatalog } ∷
    []) names ≡ codes "1 A 4 c0 - opened A.0.1\n1 Bo 1 c12 g0 opened Bo.0.1\n1 A 5 c13 - text \"Hi\"\n1 A 6 - g3 refused NoCatalog\n"
unfolding digits
catalog_lines_printed = refl

-- ---- replies

handle_of_second : reply_text names (said.Handle (record { owner = 1; row = 0; generation = 1 })) ≡ codes "handle Bo.0.1"
unfolding digits
handle_of_second = refl

freed : reply_text names said.Freed ≡ codes "freed"
freed = refl

was_global : reply_text names (said.Was Global) ≡ codes "was GLOBAL"
was_global = refl

is_handle : reply_text names (said.Is (Of made)) ≡ codes "is A.2.4"
unfolding digits
is_handle = refl

held : reply_text names said.Held ≡ codes "held"
held = refl

released : reply_text names said.Released ≡ codes "released"
released = refl

-- the name of a category is printed as it is
named : reply_text names (said.Name (codes "a\"b")) ≡ codes "name a\"b"
named = refl

installed : reply_text names (said.Installed 2) ≡ codes "installed 2"
unfolding digits
installed = refl

posted : reply_text names said.Posted ≡ codes "posted"
posted = refl

pinned : reply_text names (said.Pins 4294967295) ≡ codes "pins 4294967295"
unfolding digits
pinned = refl

-- quotes, backslashes and control bytes are escaped, and no other byte is
text_printed : reply_text names (said.Text (97 ∷ 34 ∷ 92 ∷ 10 ∷ 31 ∷ 32 ∷ 126 ∷ 127 ∷ 195 ∷ [])) ≡ codes "text \"a\\\"\\\\\\x0a\\x1f ~\\x7f" ++ 195 ∷ 34 ∷ []
text_printed = refl

-- a time without a day of the year: the fields that the text does not have are `-`
abbrev time_read : Parsed
time_read = record {
  year = Some (pos 2021);
  mon = Some 1;
  mday = Some 3;
  hour = Some 14;
  min = Some 5;
  sec = Some 6;
  wday = Some 0;
  yday = None;
}

parsed_printed : reply_text names (said.Parsed time_read 24) ≡ codes "parsed 2021 1 3 14 5 6 0 - 24"
unfolding digits
parsed_printed = refl

-- the day of the month alone
abbrev day_read : Parsed
day_read = record {
  year = None;
  mon = None;
  mday = Some 7;
  hour = None;
  min = None;
  sec = None;
  wday = None;
  yday = None;
}

day_printed : reply_text names (said.Parsed day_read 1) ≡ codes "parsed - - 7 - - - - - 1"
unfolding digits
day_printed = refl

-- the day of the year is the last field, and a year below 0 has its sign
ends_printed : reply_text names (said.Parsed (record day_read { year = Some (negsuc 11); mday = None; yday = Some 365 }) 0) ≡ codes "parsed -12 - - - - - - 365 0"
unfolding digits
ends_printed = refl

conv_printed : reply_text [] (said.Conv (codes "." ∷ [] ∷ codes "3;3" ∷ []) (127 ∷ 0 ∷ [])) ≡ codes "conv \".\" \"\" \"3;3\" 127 0"
unfolding digits
conv_printed = refl

member : reply_text [] (said.Class true) ≡ codes "yes"
member = refl

no_member : reply_text [] (said.Class false) ≡ codes "no"
no_member = refl

value_printed : reply_text [] (said.Value 33280) ≡ codes "value 33280"
unfolding digits
value_printed = refl

opened : reply_text names (said.Opened made) ≡ codes "opened A.2.4"
unfolding digits
opened = refl

closed : reply_text names said.Closed ≡ codes "closed"
closed = refl

-- ---- refusals of commands

unset : reply_text [] (said.Refused whys.Unset) ≡ codes "refused Unset"
unset = refl

bad_mask : reply_text [] (said.Refused whys.BadMask) ≡ codes "refused BadMask"
bad_mask = refl

-- the category for which there is no data
no_data : reply_text [] (said.Refused (whys.Table (refusals.NoData categories.Time))) ≡ codes "refused NoData LC_TIME"
no_data = refl

global_handle : reply_text [] (said.Refused (whys.Table refusals.GlobalHandle)) ≡ codes "refused GlobalHandle"
global_handle = refl

never_made : reply_text [] (said.Refused (whys.Table refusals.NeverMade)) ≡ codes "refused NeverMade"
never_made = refl

stale : reply_text [] (said.Refused (whys.Table refusals.Stale)) ≡ codes "refused Stale"
stale = refl

too_many : reply_text [] (said.Refused (whys.Table refusals.TooMany)) ≡ codes "refused TooMany"
too_many = refl

already_held : reply_text [] (said.Refused (whys.Table refusals.AlreadyHeld)) ≡ codes "refused AlreadyHeld"
already_held = refl

not_held : reply_text [] (said.Refused (whys.Table refusals.NotHeld)) ≡ codes "refused NotHeld"
not_held = refl

empty_cell : reply_text [] (said.Refused (whys.Table refusals.EmptyCell)) ≡ codes "refused EmptyCell"
empty_cell = refl

no_class : reply_text [] (said.Refused whys.NoClass) ≡ codes "refused NoClass"
no_class = refl

out_of_range : reply_text [] (said.Refused (whys.TmRange fields.Mon)) ≡ codes "refused TmRange mon"
out_of_range = refl

bad_format : reply_text [] (said.Refused (whys.BadFormat 0)) ≡ codes "refused BadFormat 0"
unfolding digits
bad_format = refl

missing_amount : reply_text [] (said.Refused (whys.MissingAmount 3)) ≡ codes "refused MissingAmount 3"
unfolding digits
missing_amount = refl

missing_number : reply_text [] (said.Refused (whys.MissingNumber 3)) ≡ codes "refused MissingNumber 3"
unfolding digits
missing_number = refl

mismatch : reply_text [] (said.Refused (whys.Mismatch 2)) ≡ codes "refused Mismatch 2"
unfolding digits
mismatch = refl

too_big : reply_text [] (said.Refused whys.TooBig) ≡ codes "refused TooBig"
too_big = refl

no_catalog : reply_text [] (said.Refused whys.NoCatalog) ≡ codes "refused NoCatalog"
no_catalog = refl
