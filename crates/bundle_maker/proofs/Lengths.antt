-- How long a made bundle may be.
use Rattle.std.proofs.Common.{ℕ, zero, suc, ◌+◌, ◌*◌, ◌^◌, ◌≤◌, ◌<◌, true, false, Bool, List, [], ◌∷◌, ◌++◌, length, arith, length-append, lit<, lit≤}
use Rattle.std.specs.Prelude.{◌/◌, ◌%◌, ◌==◌, codes, flat_map, slice_index_or, if◌then◌else◌}
use Rattle.std.specs.Fmt.{decimal}
use Rattle.std.specs.List.{range_with_len}
use Rattle.std.proofs.Math.Nat.{mod-lt, div-le_self}
use Rattle.std.proofs.lemmas.Fmt.{length-decimal-le}
use Rattle.std.proofs.lemmas.List.FromFn.{length-range_with_len}
use Rattle.script_out.specs.Output.{newline}
use Rattle.bundle_maker.specs.Limits.{MOST_COMMANDS}
use Rattle.bundle_maker.specs.Generated.{us_locale, fr_locale, locales_text, number_behind, two_digits, two_numbers, amount_command, day_command, class_command, commands_with, drawn_command, command_line, own_line, commands_text, thread_text, generated}

-- ---- commands

amount_short : (h : ℕ) → h < 1000000 → length (amount_command h) ≤ 40
amount_short h small =
    let whole : length (decimal (h / 100)) ≤ 6 = length-decimal-le 6 (h / 100) (lit< tt) (omega (arith, div-le_self h 100)) (omega (arith, div-le_self h 100)) in
    omega (arith, length-append (decimal (h / 100) ++ codes ".") (two_digits (h % 100)), length-append (decimal (h / 100)) (codes "."))

numbers_short : (m n : ℕ) → m < 1000000 → n < 1000000 → length (two_numbers m n) ≤ 13
numbers_short m n p q =
    let one : length (decimal m) ≤ 6 = length-decimal-le 6 m (lit< tt) (omega arith) (omega arith) in
    let two : length (decimal n) ≤ 6 = length-decimal-le 6 n (lit< tt) (omega arith) (omega arith) in
    omega (arith, length-append (decimal m ++ codes " ") (decimal n), length-append (decimal m) (codes " "))

day_short : (day : ℕ) → day < 31 → length (day_command day) ≤ 45
day_short day small =
    let week : (day + 5) % 7 < 7 = mod-lt (day + 5) (lit< tt) in
    let numbers : length (two_numbers ((day + 5) % 7) day) ≤ 13 = numbers_short ((day + 5) % 7) day (omega arith) (omega arith) in
    omega (arith, numbers)

class_short : (value : ℕ) → value < 256 → length (class_command value) ≤ 40
class_short value small =
    let digits : length (decimal value) ≤ 6 = length-decimal-le 6 value (lit< tt) (omega arith) (omega arith) in
    omega (arith, digits)

-- texts of at most 45 bytes each
abbrev AreShort : List (List ℕ) → Type 0
AreShort [] = Unit {0}
AreShort (t ∷ ts) = (length t ≤ 45) × AreShort ts

row_short : (ts : List (List ℕ)) (row : ℕ) → AreShort ts → length (slice_index_or ts row []) ≤ 45
row_short [] row short = lit≤ tt
row_short (t ∷ ts) zero short = short.0
row_short (t ∷ ts) (suc row) short = row_short ts row short.1

drawn_short : (draw : ℕ) → length (drawn_command draw) ≤ 45
unfolding drawn_command
drawn_short draw =
    let rest : ℕ = draw / 8 in
    let amount = amount_short (rest % 1000000) (mod-lt rest (lit< tt)) in
    let day = day_short (rest % 31) (mod-lt rest (lit< tt)) in
    let class = class_short (rest % 256) (mod-lt rest (lit< tt)) in
    row_short (commands_with rest) (draw % 8) (lit≤ tt, (lit≤ tt, (lit≤ tt, (lit≤ tt, (omega (arith, amount), (day, (lit≤ tt, (omega (arith, class), tt))))))))

line_short : (first : Bool) (draw : ℕ) → length ((if first then codes "new a LC_ALL us" else drawn_command draw) ++ newline) ≤ 46
line_short true draw = lit≤ tt
line_short false draw = omega (arith, drawn_short draw, length-append (drawn_command draw) newline)

own_short : (own : Bool) (line : List ℕ) → length line ≤ 46 → length (if own then line else []) ≤ 46
own_short true line short = short
own_short false line short = lit≤ tt

-- ---- the bundle

-- pieces of which none is longer than k
pieces_short : (f : ℕ → List ℕ) (k : ℕ) → ((x : ℕ) → length (f x) ≤ k) → (xs : List ℕ) → length (flat_map f xs) ≤ k * length xs
pieces_short f k short [] = omega arith
pieces_short f k short (x ∷ xs) =
    let one = short x in
    let more = pieces_short f k short xs in
    omega (arith, length-append (f x) (flat_map f xs))

commands_short : (seed commands thread : ℕ) → length (commands_text seed commands thread) ≤ 46 * commands
unfolding commands_text
commands_short seed commands thread =
    let f : ℕ → List ℕ = λ i. own_line thread i (number_behind seed (i + 1)) in
    let each : (i : ℕ) → length (f i) ≤ 46 = λ i. own_short (i % 4 == thread) (command_line i (number_behind seed (i + 1))) (line_short _ (number_behind seed (i + 1) / 2 ^ 33)) in
    let all = pieces_short f 46 each (range_with_len 0 commands) in
    rw (length-range_with_len 0 commands) at all

thread_short : (seed commands thread : ℕ) → thread < 10 → length (thread_text seed commands thread) ≤ 46 * commands + 16
thread_short seed commands thread small =
    let name : length (decimal thread) ≤ 1 = length-decimal-le 1 thread (lit< tt) (omega arith) (omega arith) in
    let own = commands_short seed commands thread in
    omega (arith, length-append (decimal thread ++ newline) (commands_text seed commands thread), length-append (decimal thread) newline)

-- a text of four pieces behind a front
four_short : (k most : ℕ) (front a b c d : List ℕ) → length front ≤ 2000 → length a ≤ k → length b ≤ k → length c ≤ k → length d ≤ k → 2000 + 4 * k ≤ most
    → length (front ++ (a ++ (b ++ (c ++ (d ++ []))))) ≤ most
four_short k most front a b c d p q r s t few = omega (arith, length-append front (a ++ (b ++ (c ++ (d ++ [])))), length-append a (b ++ (c ++ (d ++ []))), length-append b (c ++ (d ++ [])), length-append c (d ++ []), length-append d [])

-- how long the locales are
locales_short : length locales_text ≤ 2000
unfolding us_locale fr_locale locales_text
locales_short = lit≤ tt

pub generated_short : (seed commands : ℕ) → commands ≤ MOST_COMMANDS → length (generated seed commands) ≤ 16777216
unfolding generated
generated_short seed commands few =
    let f : ℕ → List ℕ = thread_text seed commands in
    four_short (46 * commands + 16) 16777216 locales_text (f 0) (f 1) (f 2) (f 3) locales_short
    (thread_short seed commands 0 (lit< tt)) (thread_short seed commands 1 (lit< tt)) (thread_short seed commands 2 (lit< tt)) (thread_short seed commands 3 (lit< tt))
    (omega (arith, few))
