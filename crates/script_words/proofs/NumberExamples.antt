-- Class names, texts, times and amounts of money on small inputs.
use Rattle.std.proofs.Common.{◌≡◌, true, false, [], Some, None, refl}
use Rattle.std.specs.Prelude.{pos, negsuc, codes, replicate}
use Rattle.script_words.specs.Names.{is_thread_name, is_class_name}
use Rattle.script_words.specs.Spans.{next_word}
use Rattle.script_words.specs.Tables.{items_table}
use Rattle.lc_base.specs.Cuts.{cut_at}
use Rattle.lc_base.specs.Numbers.{decimal_number, few_digits}
use Rattle.script_words.specs.Words.{text_of_word, quoted_of_word, zone_of_word, behind_front, max_number, variable_of_word, class_of_word}
use Rattle.script_words.specs.Numbers.{short_number, offset_of_word, three_numbers, amount_of_word}

-- ---- class names and texts

class_longest : is_class_name (codes "abcdefghijkl09") ≡ true
unfolding next_word text_of_word quoted_of_word zone_of_word decimal_number behind_front max_number variable_of_word class_of_word is_class_name is_thread_name cut_at few_digits short_number offset_of_word three_numbers amount_of_word items_table
class_longest = refl

class_too_long : is_class_name (codes "abcdefghijklm09") ≡ false
unfolding next_word text_of_word quoted_of_word zone_of_word decimal_number behind_front max_number variable_of_word class_of_word is_class_name is_thread_name cut_at few_digits short_number offset_of_word three_numbers amount_of_word items_table
class_too_long = refl

class_underscore : is_class_name (codes "a_b") ≡ false
unfolding next_word text_of_word quoted_of_word zone_of_word decimal_number behind_front max_number variable_of_word class_of_word is_class_name is_thread_name cut_at few_digits short_number offset_of_word three_numbers amount_of_word items_table
class_underscore = refl

class_empty : is_class_name [] ≡ false
unfolding next_word text_of_word quoted_of_word zone_of_word decimal_number behind_front max_number variable_of_word class_of_word is_class_name is_thread_name cut_at few_digits short_number offset_of_word three_numbers amount_of_word items_table
class_empty = refl

-- a format stands in quotes
format_plain : quoted_of_word (codes "%n") ≡ None
unfolding next_word text_of_word quoted_of_word zone_of_word decimal_number behind_front max_number variable_of_word class_of_word is_class_name is_thread_name cut_at few_digits short_number offset_of_word three_numbers amount_of_word items_table
format_plain = refl

format_quoted : quoted_of_word (codes "\"%n \\x41\"") ≡ Some (codes "%n A")
unfolding next_word text_of_word quoted_of_word zone_of_word decimal_number behind_front max_number variable_of_word class_of_word is_class_name is_thread_name cut_at few_digits short_number offset_of_word three_numbers amount_of_word items_table
format_quoted = refl

zone_longest : zone_of_word (replicate 32 90) ≡ Some (replicate 32 90)
unfolding next_word text_of_word quoted_of_word zone_of_word decimal_number behind_front max_number variable_of_word class_of_word is_class_name is_thread_name cut_at few_digits short_number offset_of_word three_numbers amount_of_word items_table
zone_longest = refl

zone_too_long : zone_of_word (replicate 33 90) ≡ None
unfolding next_word text_of_word quoted_of_word zone_of_word decimal_number behind_front max_number variable_of_word class_of_word is_class_name is_thread_name cut_at few_digits short_number offset_of_word three_numbers amount_of_word items_table
zone_too_long = refl

zone_empty : zone_of_word (codes "\"\"") ≡ Some []
unfolding next_word text_of_word quoted_of_word zone_of_word decimal_number behind_front max_number variable_of_word class_of_word is_class_name is_thread_name cut_at few_digits short_number offset_of_word three_numbers amount_of_word items_table
zone_empty = refl

max_most : max_number (codes "04096") ≡ Some 4096
unfolding next_word text_of_word quoted_of_word zone_of_word decimal_number behind_front max_number variable_of_word class_of_word is_class_name is_thread_name cut_at few_digits short_number offset_of_word three_numbers amount_of_word items_table
max_most = refl

max_too_large : max_number (codes "4097") ≡ None
unfolding next_word text_of_word quoted_of_word zone_of_word decimal_number behind_front max_number variable_of_word class_of_word is_class_name is_thread_name cut_at few_digits short_number offset_of_word three_numbers amount_of_word items_table
max_too_large = refl

max_empty : max_number [] ≡ None
unfolding next_word text_of_word quoted_of_word zone_of_word decimal_number behind_front max_number variable_of_word class_of_word is_class_name is_thread_name cut_at few_digits short_number offset_of_word three_numbers amount_of_word items_table
max_empty = refl

-- ---- times

nine_digits : short_number (codes "000000012") ≡ Some (pos 12)
unfolding next_word text_of_word quoted_of_word zone_of_word decimal_number behind_front max_number variable_of_word class_of_word is_class_name is_thread_name cut_at few_digits short_number offset_of_word three_numbers amount_of_word items_table
nine_digits = refl

ten_digits : short_number (codes "0000000012") ≡ None
unfolding next_word text_of_word quoted_of_word zone_of_word decimal_number behind_front max_number variable_of_word class_of_word is_class_name is_thread_name cut_at few_digits short_number offset_of_word three_numbers amount_of_word items_table
ten_digits = refl

no_digits : short_number [] ≡ None
unfolding next_word text_of_word quoted_of_word zone_of_word decimal_number behind_front max_number variable_of_word class_of_word is_class_name is_thread_name cut_at few_digits short_number offset_of_word three_numbers amount_of_word items_table
no_digits = refl

signed_number : short_number (codes "-1") ≡ None
unfolding next_word text_of_word quoted_of_word zone_of_word decimal_number behind_front max_number variable_of_word class_of_word is_class_name is_thread_name cut_at few_digits short_number offset_of_word three_numbers amount_of_word items_table
signed_number = refl

west : offset_of_word (codes "-90") ≡ Some (negsuc 89)
unfolding next_word text_of_word quoted_of_word zone_of_word decimal_number behind_front max_number variable_of_word class_of_word is_class_name is_thread_name cut_at few_digits short_number offset_of_word three_numbers amount_of_word items_table
west = refl

west_by_nothing : offset_of_word (codes "-0") ≡ Some (pos 0)
unfolding next_word text_of_word quoted_of_word zone_of_word decimal_number behind_front max_number variable_of_word class_of_word is_class_name is_thread_name cut_at few_digits short_number offset_of_word three_numbers amount_of_word items_table
west_by_nothing = refl

east : offset_of_word (codes "0330") ≡ Some (pos 330)
unfolding next_word text_of_word quoted_of_word zone_of_word decimal_number behind_front max_number variable_of_word class_of_word is_class_name is_thread_name cut_at few_digits short_number offset_of_word three_numbers amount_of_word items_table
east = refl

no_minutes : offset_of_word (codes "-") ≡ None
unfolding next_word text_of_word quoted_of_word zone_of_word decimal_number behind_front max_number variable_of_word class_of_word is_class_name is_thread_name cut_at few_digits short_number offset_of_word three_numbers amount_of_word items_table
no_minutes = refl

date : three_numbers 45 (codes "2021-01-03") ≡ Some (pos 2021, pos 1, pos 3)
unfolding next_word text_of_word quoted_of_word zone_of_word decimal_number behind_front max_number variable_of_word class_of_word is_class_name is_thread_name cut_at few_digits short_number offset_of_word three_numbers amount_of_word items_table
date = refl

date_before_year_0 : three_numbers 45 (codes "-1-01-03") ≡ None
unfolding next_word text_of_word quoted_of_word zone_of_word decimal_number behind_front max_number variable_of_word class_of_word is_class_name is_thread_name cut_at few_digits short_number offset_of_word three_numbers amount_of_word items_table
date_before_year_0 = refl

date_and_more : three_numbers 45 (codes "2021-01-03-1") ≡ None
unfolding next_word text_of_word quoted_of_word zone_of_word decimal_number behind_front max_number variable_of_word class_of_word is_class_name is_thread_name cut_at few_digits short_number offset_of_word three_numbers amount_of_word items_table
date_and_more = refl

clock_short : three_numbers 58 (codes "14:05") ≡ None
unfolding next_word text_of_word quoted_of_word zone_of_word decimal_number behind_front max_number variable_of_word class_of_word is_class_name is_thread_name cut_at few_digits short_number offset_of_word three_numbers amount_of_word items_table
clock_short = refl

-- ---- amounts of money

amount_whole : amount_of_word (codes "-5") ≡ Some (record { units = negsuc 4; scale = 0 })
unfolding next_word text_of_word quoted_of_word zone_of_word decimal_number behind_front max_number variable_of_word class_of_word is_class_name is_thread_name cut_at few_digits short_number offset_of_word three_numbers amount_of_word items_table
amount_whole = refl

-- the digits behind the point count, also when they are 0
amount_with_fraction : amount_of_word (codes "1234567.890") ≡ Some (record { units = pos 1234567890; scale = 3 })
unfolding next_word text_of_word quoted_of_word zone_of_word decimal_number behind_front max_number variable_of_word class_of_word is_class_name is_thread_name cut_at few_digits short_number offset_of_word three_numbers amount_of_word items_table
amount_with_fraction = refl

amount_largest : amount_of_word (codes "9223372036854775807") ≡ Some (record { units = pos 9223372036854775807; scale = 0 })
unfolding next_word text_of_word quoted_of_word zone_of_word decimal_number behind_front max_number variable_of_word class_of_word is_class_name is_thread_name cut_at few_digits short_number offset_of_word three_numbers amount_of_word items_table
amount_largest = refl

amount_too_large : amount_of_word (codes "9223372036854775808") ≡ None
unfolding next_word text_of_word quoted_of_word zone_of_word decimal_number behind_front max_number variable_of_word class_of_word is_class_name is_thread_name cut_at few_digits short_number offset_of_word three_numbers amount_of_word items_table
amount_too_large = refl

amount_least : amount_of_word (codes "-9.223372036854775808") ≡ Some (record { units = negsuc 9223372036854775807; scale = 18 })
unfolding next_word text_of_word quoted_of_word zone_of_word decimal_number behind_front max_number variable_of_word class_of_word is_class_name is_thread_name cut_at few_digits short_number offset_of_word three_numbers amount_of_word items_table
amount_least = refl

amount_too_small : amount_of_word (codes "-9.223372036854775809") ≡ None
unfolding next_word text_of_word quoted_of_word zone_of_word decimal_number behind_front max_number variable_of_word class_of_word is_class_name is_thread_name cut_at few_digits short_number offset_of_word three_numbers amount_of_word items_table
amount_too_small = refl

amount_leading_zeros : amount_of_word (codes "-00.05") ≡ Some (record { units = negsuc 4; scale = 2 })
unfolding next_word text_of_word quoted_of_word zone_of_word decimal_number behind_front max_number variable_of_word class_of_word is_class_name is_thread_name cut_at few_digits short_number offset_of_word three_numbers amount_of_word items_table
amount_leading_zeros = refl

-- no units below 0 have no sign
amount_of_nothing : amount_of_word (codes "-0.0") ≡ Some (record { units = pos 0; scale = 1 })
unfolding next_word text_of_word quoted_of_word zone_of_word decimal_number behind_front max_number variable_of_word class_of_word is_class_name is_thread_name cut_at few_digits short_number offset_of_word three_numbers amount_of_word items_table
amount_of_nothing = refl

amount_without_whole : amount_of_word (codes ".5") ≡ None
unfolding next_word text_of_word quoted_of_word zone_of_word decimal_number behind_front max_number variable_of_word class_of_word is_class_name is_thread_name cut_at few_digits short_number offset_of_word three_numbers amount_of_word items_table
amount_without_whole = refl

amount_without_fraction : amount_of_word (codes "5.") ≡ None
unfolding next_word text_of_word quoted_of_word zone_of_word decimal_number behind_front max_number variable_of_word class_of_word is_class_name is_thread_name cut_at few_digits short_number offset_of_word three_numbers amount_of_word items_table
amount_without_fraction = refl

amount_of_20_digits : amount_of_word (codes "00000000000000000001") ≡ None
unfolding next_word text_of_word quoted_of_word zone_of_word decimal_number behind_front max_number variable_of_word class_of_word is_class_name is_thread_name cut_at few_digits short_number offset_of_word three_numbers amount_of_word items_table
amount_of_20_digits = refl

amount_of_19_places : amount_of_word (codes "0.0000000000000000001") ≡ None
unfolding next_word text_of_word quoted_of_word zone_of_word decimal_number behind_front max_number variable_of_word class_of_word is_class_name is_thread_name cut_at few_digits short_number offset_of_word three_numbers amount_of_word items_table
amount_of_19_places = refl

amount_plus : amount_of_word (codes "+5") ≡ None
unfolding next_word text_of_word quoted_of_word zone_of_word decimal_number behind_front max_number variable_of_word class_of_word is_class_name is_thread_name cut_at few_digits short_number offset_of_word three_numbers amount_of_word items_table
amount_plus = refl

amount_two_points : amount_of_word (codes "1.2.3") ≡ None
unfolding next_word text_of_word quoted_of_word zone_of_word decimal_number behind_front max_number variable_of_word class_of_word is_class_name is_thread_name cut_at few_digits short_number offset_of_word three_numbers amount_of_word items_table
amount_two_points = refl

amount_sign_alone : amount_of_word (codes "-") ≡ None
unfolding next_word text_of_word quoted_of_word zone_of_word decimal_number behind_front max_number variable_of_word class_of_word is_class_name is_thread_name cut_at few_digits short_number offset_of_word three_numbers amount_of_word items_table
amount_sign_alone = refl
