-- Worked examples of objects, masks and mixed names.
use Rattle.std.specs.Prelude.{◌≡◌, ℕ, true, false, List, [], ◌∷◌, ◌++◌, codes, Some, None, map, refl}
use Rattle.lc_base.specs.declared.category.Category.TheVariants.{Monetary, Time, Messages}
use Rattle.lc_base.specs.Mask.{includes}
use Rattle.mask_compose.specs.Parts.{Parts, part_of, composed}
use Rattle.mask_compose.specs.Names.{mixed_name, mixed_parts, spans_of, spanned, is_part, are_parts}

-- ---- objects

abbrev picks : Parts
picks = record { ctype = 1; numeric = 2; monetary = 3; time = 4; messages = 5 }

abbrev base : Parts
base = record { ctype = 10; numeric = 20; monetary = 30; time = 40; messages = 50 }

-- the mask of LC_MONETARY and LC_MESSAGES has the bits 4 and 16
composed-two : composed 20 picks base ≡ record { ctype = 10; numeric = 20; monetary = 3; time = 40; messages = 5 }
composed-two = refl

-- an empty mask picks nothing, a full one all
composed-empty : composed 0 picks base ≡ base
composed-empty = refl

composed-full : composed 31 picks base ≡ picks
composed-full = refl

-- LC_TIME alone
composed-time : composed 8 picks base ≡ record { ctype = 10; numeric = 20; monetary = 30; time = 4; messages = 50 }
composed-time = refl

includes-time : includes 8 Time ≡ true
includes-time = refl

includes-other : includes 8 Monetary ≡ false
includes-other = refl

part_of-messages : part_of picks Messages ≡ 5
part_of-messages = refl

-- ---- mixed names

abbrev french_times : List (List ℕ)
french_times = codes "C" ∷ codes "POSIX" ∷ codes "us" ∷ codes "fr" ∷ codes "C" ∷ []

abbrev french_times_name : List ℕ
french_times_name = codes "LC_CTYPE=C;LC_NUMERIC=POSIX;LC_MONETARY=us;LC_TIME=fr;LC_MESSAGES=C"

mixed_name-five : mixed_name french_times ≡ french_times_name
mixed_name-five = refl

mixed_parts-five : mixed_parts french_times_name ≡ Some french_times
mixed_parts-five = refl

-- the part of LC_NUMERIC begins after LC_CTYPE=C;LC_NUMERIC=
spans_of-five : spans_of french_times ≡ (9, 1) ∷ (22, 5) ∷ (40, 2) ∷ (51, 2) ∷ (66, 1) ∷ []
spans_of-five = refl

spanned-five : map (spanned french_times_name) (spans_of french_times) ≡ french_times
spanned-five = refl

-- a part may have an = and blanks, and bytes that no text has
mixed_parts-other_bytes : mixed_parts (codes "LC_CTYPE==;LC_NUMERIC= ;LC_MONETARY=LC_TIME=;LC_TIME=\n;LC_MESSAGES=e" ++ 255 ∷ [])
    ≡ Some (codes "=" ∷ codes " " ∷ codes "LC_TIME=" ∷ codes "\n" ∷ (codes "e" ++ 255 ∷ []) ∷ [])
mixed_parts-other_bytes = refl

-- a plain name, or an empty one, is no mixed name
mixed_parts-plain : mixed_parts (codes "fr") ≡ None
mixed_parts-plain = refl

mixed_parts-empty : mixed_parts [] ≡ None
mixed_parts-empty = refl

-- no part is empty
empty_first : mixed_parts (codes "LC_CTYPE=;LC_NUMERIC=b;LC_MONETARY=c;LC_TIME=d;LC_MESSAGES=e") ≡ None
empty_first = refl

empty_last : mixed_parts (codes "LC_CTYPE=a;LC_NUMERIC=b;LC_MONETARY=c;LC_TIME=d;LC_MESSAGES=") ≡ None
empty_last = refl

-- no part has a ;
separator_inside : mixed_parts (codes "LC_CTYPE=a;x;LC_NUMERIC=b;LC_MONETARY=c;LC_TIME=d;LC_MESSAGES=e") ≡ None
separator_inside = refl

separator_at_end : mixed_parts (codes "LC_CTYPE=a;LC_NUMERIC=b;LC_MONETARY=c;LC_TIME=d;LC_MESSAGES=e;") ≡ None
separator_at_end = refl

-- all five parts are there, in their order
third_missing : mixed_parts (codes "LC_CTYPE=a;LC_NUMERIC=b;LC_TIME=d;LC_MESSAGES=e") ≡ None
third_missing = refl

last_missing : mixed_parts (codes "LC_CTYPE=a;LC_NUMERIC=b;LC_MONETARY=c;LC_TIME=d") ≡ None
last_missing = refl

two_exchanged : mixed_parts (codes "LC_NUMERIC=b;LC_CTYPE=a;LC_MONETARY=c;LC_TIME=d;LC_MESSAGES=e") ≡ None
two_exchanged = refl

-- the names of the categories are told byte for byte
small_letters : mixed_parts (codes "lc_ctype=a;LC_NUMERIC=b;LC_MONETARY=c;LC_TIME=d;LC_MESSAGES=e") ≡ None
small_letters = refl

blank_before : mixed_parts (codes " LC_CTYPE=a;LC_NUMERIC=b;LC_MONETARY=c;LC_TIME=d;LC_MESSAGES=e") ≡ None
blank_before = refl

is_part-separator : is_part (codes "a;b") ≡ false
is_part-separator = refl

are_parts-four : are_parts (codes "a" ∷ codes "b" ∷ codes "c" ∷ codes "d" ∷ []) ≡ false
are_parts-four = refl
