-- Answers, buffers, handles, items and fields, by their definitions.
use Rattle.std.specs.Prelude.{◌≡◌, ℕ, pos, neg_ℤ, true, false, [], ◌∷◌, ◌++◌, length, map, codes, Some, None, Ok, Err, refl}
use Rattle.lc_base.specs.declared.item.Item.TheVariants as items
use Rattle.lc_base.specs.declared.category.Category.TheVariants.{Ctype, Numeric, Monetary, Time, Messages}
use Rattle.lc_base.specs.declared.refusal.FormatRefusal.TheVariants.{BadFormat, MissingAmount, MissingNumber, Mismatch, TooBig}
use Rattle.time_cat.specs.Times.{time_of}
use Rattle.shared_objects.specs.declared.locale.LocaleParts.{LocaleParts}
use Rattle.shared_objects.specs.Shared.{Shared, MarkedLibraryData}
use Rattle.shared_objects.specs.Objects.{first_object}
use Rattle.shared_objects.specs.Locales.{posix_of}
use Rattle.c_values.specs.Codes.{OK, NO_LOCALE, BAD_MASK, NO_DATA, TOO_SMALL, BAD_FORMAT, MISSING, BAD_AMOUNT, TM_RANGE, NO_ITEM, NO_CLASS, MISMATCH}
use Rattle.c_values.specs.declared.times.LobjTm.{LobjTm}
use Rattle.c_values.specs.declared.parsed.LobjParsed.{LobjParsed}
use Rattle.c_values.specs.Items.{item_of}
use Rattle.c_values.specs.Cased.{cased_char}
use Rattle.c_values.specs.Table.{all_texts, laid}
use Rattle.c_values.specs.Answers.{answered, told, joint_name, category_with, conv_told, of_object, by_object, new_told, number_told, class_told, item_told, text_told, amounts_told, offset_of, tm_given, tm_told, fields_of, scan_told, scan_by}

-- a library without locales, and its POSIX object
abbrev marked : MarkedLibraryData
marked = record { library = record { locales = []; names = []; first = []; keys = []; native = None }; books = []; mark = 9 }

abbrev posix : Shared
posix = first_object marked.library

-- ---- texts in buffers

-- room for the text and its NUL, and what stands behind them
fits : told (codes "xxxxxx") (codes "abc") ≡ (answered OK 3, codes "abc" ++ 0 ∷ codes "xx")
fits = refl

one_byte_too_few : told (codes "xxx") (codes "abc") ≡ (answered TOO_SMALL 4, codes "xxx")
one_byte_too_few = refl

-- an empty text has a NUL as well
no_room_for_nul : told [] [] ≡ (answered TOO_SMALL 1, [])
no_room_for_nul = refl

-- ---- locales that are made

abbrev old : LocaleParts
old = record { mark = 1; ctype = 2; numeric = 3; monetary = 4; time = 5; messages = 6 }

bad_mask : new_told old marked 32 (codes "POSIX") (posix_of marked) ≡ (answered BAD_MASK 0, old)
bad_mask = refl

whole_mask : new_told old marked 31 (codes "POSIX") (posix_of marked) ≡ (answered OK 0, posix_of marked)
whole_mask = refl

-- `n` is the mask of the category
no_data : new_told old marked 24 (codes "us") (posix_of marked) ≡ (answered NO_DATA 8, old)
no_data = refl

-- a base with another mark is none of the library, whatever is asked
not_of_library : new_told old marked 0 (codes "POSIX") old ≡ (answered NO_LOCALE 0, old)
not_of_library = refl

-- ---- classes and items

classes : class_told (Some true) ∷ class_told (Some false) ∷ class_told None ∷ number_told (Some 12) ∷ number_told None ∷ []
    ≡ answered OK 1 ∷ answered OK 0 ∷ answered NO_CLASS 0 ∷ answered OK 12 ∷ answered NO_CLASS 0 ∷ []
classes = refl

without_object : by_object None (λ o. answered OK 1) ≡ answered NO_LOCALE 0
without_object = refl

text_without_object : of_object (codes "x") None (λ o. told (codes "x") []) ≡ (answered NO_LOCALE 0, codes "x")
text_without_object = refl

-- the first item, one within, and the last, by the order of <langinfo.h>
numbered_items : item_of 0 ∷ item_of 1 ∷ item_of 7 ∷ item_of 54 ∷ item_of 55 ∷ []
    ≡ Some items.Codeset ∷ Some items.DTFmt ∷ Some items.Day1 ∷ Some items.Crncystr ∷ None ∷ []
unfolding item_of
numbered_items = refl

no_item : item_told (codes "x") posix None ≡ (answered NO_ITEM 0, codes "x")
no_item = refl

-- ---- amounts and times

no_texts : text_told (codes "x") (Err (BadFormat 3)) ∷ text_told (codes "x") (Err (MissingAmount 3)) ∷ text_told (codes "x") (Err (MissingNumber 4)) ∷ text_told (codes "x") (Err TooBig) ∷ []
    ≡ (answered BAD_FORMAT 3, codes "x") ∷ (answered MISSING 3, codes "x") ∷ (answered MISSING 4, codes "x") ∷ (answered TOO_SMALL 0, codes "x") ∷ []
no_texts = refl

-- a scale that is too large goes before a fault of the format
scale_first : amounts_told (codes "x") posix (codes "%") (record { units = pos 1; scale = 19 } ∷ []) ≡ (answered BAD_AMOUNT 0, codes "x")
scale_first = refl

abbrev sunday : LobjTm
sunday = record { year = pos 2021; mon = pos 1; mday = pos 3; hour = pos 14; min = pos 5; sec = pos 6; wday = pos 0; yday = pos 2; has_offset = true; offset = pos 60 }

unknown_offset : offset_of (record sunday { has_offset = false }) ≡ None
unknown_offset = refl

-- the number of a field, from 1; the offset is the ninth
month_out_of_range : tm_told (codes "x") posix (codes "%") [] (tm_given (record sunday { mon = pos 13 })) ≡ (answered TM_RANGE 2, codes "x")
unfolding time_of
month_out_of_range = refl

offset_out_of_range : tm_told (codes "x") posix (codes "%") [] (tm_given (record sunday { offset = pos 1440 })) ≡ (answered TM_RANGE 9, codes "x")
unfolding time_of
offset_out_of_range = refl

-- a field that is not told is -1
fields_told : fields_of (record { year = Some (pos 2021); mon = Some 1; mday = Some 3; hour = None; min = None; sec = None; wday = Some 0; yday = None })
    ≡ record { year = pos 2021; mon = pos 1; mday = pos 3; hour = neg_ℤ (pos 1); min = neg_ℤ (pos 1); sec = neg_ℤ (pos 1); wday = pos 0; yday = neg_ℤ (pos 1) }
fields_told = refl

abbrev fives : LobjParsed
fives = record { year = pos 5; mon = pos 5; mday = pos 5; hour = pos 5; min = pos 5; sec = pos 5; wday = pos 5; yday = pos 5 }

mismatch_keeps : scan_told fives (Err (Mismatch 4)) ≡ (answered MISMATCH 4, fives)
mismatch_keeps = refl

scan_without_object : scan_by fives None (codes "%d") (codes "7") ≡ (answered NO_LOCALE 0, fives)
scan_without_object = refl

-- ---- localeconv

conv_texts : conv_told (codes "xx") (Some (codes ",")) ∷ conv_told (codes "xx") None ∷ [] ≡ (answered OK 1, codes "," ++ 0 ∷ []) ∷ (answered NO_ITEM 0, codes "xx") ∷ []
conv_texts = refl

-- ---- names

-- five names that are alike are one, and others stand by their categories
common : joint_name (codes "us" ∷ codes "us" ∷ codes "us" ∷ codes "us" ∷ codes "us" ∷ []) ≡ codes "us"
common = refl

mixed : joint_name (codes "us" ∷ codes "us" ∷ codes "us" ∷ codes "us" ∷ codes "C" ∷ []) ≡ codes "LC_CTYPE=us;LC_NUMERIC=us;LC_MONETARY=us;LC_TIME=us;LC_MESSAGES=C"
mixed = refl

-- each bit has its category, and no other mask has one
bits : map category_with (0 ∷ 1 ∷ 2 ∷ 4 ∷ 8 ∷ 16 ∷ 3 ∷ 32 ∷ []) ≡ None ∷ Some Ctype ∷ Some Numeric ∷ Some Monetary ∷ Some Time ∷ Some Messages ∷ None ∷ None ∷ []
bits = refl

-- ---- texts in a case

-- an e with an acute is mapped, and a euro sign stays, as does a q with a surrogate as its image
in_upper : map (cased_char ((233, 201) ∷ (113, 55296) ∷ [])) (233 ∷ 8364 ∷ 113 ∷ []) ≡ 201 ∷ 8364 ∷ 113 ∷ []
in_upper = refl

-- ---- all texts at once

-- two texts, each with a NUL, and an empty one
laid_texts : laid (codes "ab" ∷ [] ∷ codes "c" ∷ []) ≡ codes "ab" ++ 0 ∷ 0 ∷ codes "c" ++ 0 ∷ []
laid_texts = refl

-- as many as there are items and texts of localeconv
all_of_posix : length (all_texts posix) ∷ [] ≡ 65 ∷ []
all_of_posix = refl
