-- A made bundle: two locales, and four threads with commands that a seed draws (our own).
use Rattle.std.specs.Prelude.{ℕ, zero, suc, ◌+◌, ◌*◌, ◌/◌, ◌%◌, ◌^◌, ◌==◌, nat_lt, if◌then◌else◌, List, [], ◌∷◌, ◌++◌, codes, flat_map, slice_index_or}
use Rattle.std.specs.List.{range_with_len}
use Rattle.std.specs.Fmt.{decimal}
use Rattle.script_out.specs.Output.{newline}

-- ---- the locales

-- lines, each with its end
abbrev pub in_lines : List (List ℕ) → List ℕ
in_lines lines = flat_map (λ (line : List ℕ). line ++ newline) lines

-- an American locale
unfoldable pub us_locale : List ℕ
us_locale = in_lines (
    codes ".locale us UTF-8" ∷
    codes "LC_CTYPE" ∷
    codes "END LC_CTYPE" ∷
    codes "LC_NUMERIC" ∷
    codes "decimal_point \".\"" ∷
    codes "thousands_sep \",\"" ∷
    codes "grouping 3;3" ∷
    codes "END LC_NUMERIC" ∷
    codes "LC_MONETARY" ∷
    codes "int_curr_symbol \"USD \"" ∷
    codes "currency_symbol \"$\"" ∷
    codes "mon_decimal_point \".\"" ∷
    codes "mon_thousands_sep \",\"" ∷
    codes "mon_grouping 3;3" ∷
    codes "positive_sign \"\"" ∷
    codes "negative_sign \"-\"" ∷
    codes "int_frac_digits 2" ∷
    codes "frac_digits 2" ∷
    codes "p_cs_precedes 1" ∷
    codes "p_sep_by_space 0" ∷
    codes "n_cs_precedes 1" ∷
    codes "n_sep_by_space 0" ∷
    codes "p_sign_posn 1" ∷
    codes "n_sign_posn 1" ∷
    codes "END LC_MONETARY" ∷
    codes "LC_TIME" ∷
    codes "d_t_fmt \"%a %d %b %Y %r\"" ∷
    codes "d_fmt \"%m/%d/%Y\"" ∷
    codes "t_fmt \"%r\"" ∷
    codes "END LC_TIME" ∷
    codes "LC_MESSAGES" ∷
    codes "END LC_MESSAGES" ∷
    codes ".end" ∷
    [])

-- a French locale
unfoldable pub fr_locale : List ℕ
fr_locale = in_lines (
    codes ".locale fr UTF-8" ∷
    codes "LC_CTYPE" ∷
    codes "END LC_CTYPE" ∷
    codes "LC_NUMERIC" ∷
    codes "decimal_point \",\"" ∷
    codes "thousands_sep \" \"" ∷
    codes "grouping 3" ∷
    codes "END LC_NUMERIC" ∷
    codes "LC_MONETARY" ∷
    codes "int_curr_symbol \"EUR \"" ∷
    codes "currency_symbol \"<U20AC>\"" ∷
    codes "mon_decimal_point \",\"" ∷
    codes "mon_thousands_sep \" \"" ∷
    codes "mon_grouping 3" ∷
    codes "negative_sign \"-\"" ∷
    codes "int_frac_digits 2" ∷
    codes "frac_digits 2" ∷
    codes "p_cs_precedes 0" ∷
    codes "p_sep_by_space 1" ∷
    codes "n_cs_precedes 0" ∷
    codes "n_sep_by_space 1" ∷
    codes "p_sign_posn 1" ∷
    codes "n_sign_posn 1" ∷
    codes "END LC_MONETARY" ∷
    codes "LC_TIME" ∷
    codes "abday \"dim\";\"lun\";\"mar\";\"mer\";\"jeu\";\"ven\";\"sam\"" ∷
    codes "day \"dimanche\";\"lundi\";\"mardi\";\"mercredi\";\"jeudi\";\\" ∷
    codes "\"vendredi\";\"samedi\"" ∷
    codes "abmon \"janv\";\"f<U00E9>vr\";\"mars\";\"avr\";\"mai\";\"juin\";\\" ∷
    codes "\"juil\";\"ao<U00FB>t\";\"sept\";\"oct\";\"nov\";\"d<U00E9>c\"" ∷
    codes "mon \"janvier\";\"f<U00E9>vrier\";\"mars\";\"avril\";\"mai\";\"juin\";\\" ∷
    codes "\"juillet\";\"ao<U00FB>t\";\"septembre\";\"octobre\";\"novembre\";\"d<U00E9>cembre\"" ∷
    codes "am_pm \"\";\"\"" ∷
    codes "d_t_fmt \"%a %d %b %Y %T\"" ∷
    codes "d_fmt \"%d/%m/%Y\"" ∷
    codes "t_fmt \"%T\"" ∷
    codes "t_fmt_ampm \"\"" ∷
    codes "END LC_TIME" ∷
    codes "LC_MESSAGES" ∷
    codes "yesexpr \"^[oOyY]\"" ∷
    codes "noexpr \"^[nN]\"" ∷
    codes "END LC_MESSAGES" ∷
    codes ".end" ∷
    [])

-- both
unfoldable pub locales_text : List ℕ
locales_text = us_locale ++ fr_locale

-- ---- the numbers of a seed

-- the number behind another one, modulo 2^64
abbrev pub next_number : ℕ → ℕ
next_number x = (x * 6364136223846793005 + 1442695040888963407) % 2 ^ 64

-- the number so many steps behind a seed
abbrev pub number_behind : ℕ → ℕ → ℕ
number_behind seed zero = seed
number_behind seed (suc n) = next_number (number_behind seed n)

-- ---- commands

-- two decimal digits
abbrev pub two_digits : ℕ → List ℕ
two_digits n = (48 + n / 10) ∷ (48 + n % 10) ∷ []

-- two numbers with a space between them
abbrev pub two_numbers : ℕ → ℕ → List ℕ
two_numbers m n = decimal m ++ codes " " ++ decimal n

-- the money command of so many hundredths
abbrev pub amount_command : ℕ → List ℕ
amount_command h = codes "money \"%n\" " ++ decimal (h / 100) ++ codes "." ++ two_digits (h % 100)

-- the time command of noon on a day of January 2021, from 0: its number, the day of the week, and the day of the year. The first
-- was a Friday
abbrev pub day_command : ℕ → List ℕ
day_command day = codes "time \"%c\" 2021-01-" ++ two_digits (day + 1) ++ codes " 12:00:00 " ++ two_numbers ((day + 5) % 7) day

-- the class command of a value
abbrev pub class_command : ℕ → List ℕ
class_command value = codes "class alpha " ++ decimal value

-- the commands that a draw may give, with what is left of it
abbrev pub commands_with : ℕ → List (List ℕ)
commands_with rest =
    codes "new a LC_ALL us" ∷
    codes "new a LC_ALL fr a" ∷
    codes "use a" ∷
    codes "free a" ∷
    amount_command (rest % 1000000) ∷
    day_command (rest % 31) ∷
    codes "info CRNCYSTR" ∷
    class_command (rest % 256) ∷
    []

-- the command of a draw
unfoldable pub drawn_command : ℕ → List ℕ
drawn_command draw = slice_index_or (commands_with (draw / 8)) (draw % 8) []

-- the line of a command: each of the first four makes an object, and a later one goes by the upper 31 bits of its number
abbrev pub command_line : ℕ → ℕ → List ℕ
command_line i number = (if nat_lt i 4 then codes "new a LC_ALL us" else drawn_command (number / 2 ^ 33)) ++ newline

-- ---- the bundle

-- the line of a command where its turn is that of the thread, and nothing else
abbrev pub own_line : ℕ → ℕ → ℕ → List ℕ
own_line thread i number = if i % 4 == thread then command_line i number else []

-- the commands of a thread, among the first so many: each fourth, in order
unfoldable pub commands_text : ℕ → ℕ → ℕ → List ℕ
commands_text seed commands thread = flat_map (λ (i : ℕ). own_line thread i (number_behind seed (i + 1))) (range_with_len 0 commands)

-- a thread
abbrev pub thread_text : ℕ → ℕ → ℕ → List ℕ
thread_text seed commands thread = codes ".thread T" ++ decimal thread ++ newline ++ commands_text seed commands thread

-- the bundle with so many commands that a seed makes
unfoldable pub generated : ℕ → ℕ → List ℕ
generated seed commands = locales_text ++ flat_map (thread_text seed commands) (range_with_len 0 4)
