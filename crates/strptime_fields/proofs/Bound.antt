-- How many conversions a format costs at most.
use Rattle.std.proofs.Common.{◌≡◌, ℕ, zero, suc, ◌+◌, ◌*◌, ◌≤◌, Bool, true, false, cond, List, [], ◌∷◌, ◌++◌, Option, Some, None, refl, ap, arith, count_by, flat_map}
use Rattle.std.specs.Prelude.{codes}
use Rattle.std.specs.List.{list_all}
use Rattle.std.proofs.Math.Nat.{mul-le-mul_left}
use Rattle.std.proofs.lemmas.List.Sums.{sum_by-cons}
use Rattle.time_cat.specs.declared.conversion.TimeText.{TimeText}
use Rattle.time_cat.specs.declared.conversion.TimeText.TheVariants.{DateTime, Date, Clock, HalfDayClock, EraDateTime, EraDate, EraClock}
use Rattle.time_cat.specs.Conversions.{conversion}
use Rattle.time_cat.specs.Formats.{Piece, Literal, Converted, Wrong, pieces, is_conversion}
use Rattle.time_cat.specs.TimeValues.{TimeValues, format_text, IsWhole}
use Rattle.time_cat.specs.Shown.{conversions_of}
use Rattle.strptime_fields.specs.declared.item.Form.{Form}
use Rattle.strptime_fields.specs.declared.item.Form.TheVariants.{SlashedDate, ShortTime, FullTime, Locale}
use Rattle.strptime_fields.specs.declared.item.Item.{Item}
use Rattle.strptime_fields.specs.declared.item.Item.TheVariants.{White, Sign, Number, YearDay, Year, Name, Format}
use Rattle.strptime_fields.specs.Items.{item, form_text, format_for}
use Rattle.strptime_fields.specs.Scans.{behind_format, within, followed_piece, followed, is_known, reads, cost}
use Rattle.strptime_fields.proofs.Through.{reads_append, reads_piece, byte_piece}

-- ---- formats that stand for items

few_text : (v : TimeValues) → IsWhole v → (key : TimeText) → conversions_of (format_text v key) ≤ 16
few_text v whole DateTime = whole.formats.d_t_fmt.few
few_text v whole Date = whole.formats.d_fmt.few
few_text v whole Clock = whole.formats.t_fmt.few
few_text v whole HalfDayClock = whole.formats.t_fmt_ampm.few
few_text v whole EraDateTime = whole.formats.era_d_t_fmt.few
few_text v whole EraDate = whole.formats.era_d_fmt.few
few_text v whole EraClock = whole.formats.era_t_fmt.few

three_in_date : conversions_of (codes "%m/%d/%y") ≡ 3
unfolding pieces conversion
three_in_date = refl

two_in_time : conversions_of (codes "%H:%M") ≡ 2
unfolding pieces conversion
two_in_time = refl

three_in_time : conversions_of (codes "%H:%M:%S") ≡ 3
unfolding pieces conversion
three_in_time = refl

few_form : (v : TimeValues) → IsWhole v → (form : Form) → conversions_of (form_text v form) ≤ 16
few_form v whole SlashedDate = omega (arith, three_in_date)
few_form v whole ShortTime = omega (arith, two_in_time)
few_form v whole FullTime = omega (arith, three_in_time)
few_form v whole (Locale key) = few_text v whole key

-- ---- what they cost

-- for a conversion of a format with so many formats within one another: itself, and the 16 of the format for which it stands
abbrev most : ℕ → ℕ
most zero = 0
most (suc levels) = 1 + 16 * most levels

-- each conversion costs so many at most
abbrev AtMost : ℕ → (List ℕ → List Piece) → Type 0
AtMost each follow = (format : List ℕ) → reads (follow format) ≤ each * conversions_of format

few_read : (each n k : ℕ) → n ≤ each * k → k ≤ 16 → n ≤ 16 * each
few_read each n k most few = omega (arith, mul-le-mul_left each few, most)

behind_most : (each : ℕ) (v : TimeValues) (follow : List ℕ → List Piece) (i : Item) → AtMost each follow → IsWhole v → reads (behind_format follow (format_for v i)) ≤ 16 * each
behind_most each v follow White at_most whole = omega arith
behind_most each v follow (Sign c) at_most whole = omega arith
behind_most each v follow (Number kind digits low high) at_most whole = omega arith
behind_most each v follow (YearDay digits low high) at_most whole = omega arith
behind_most each v follow (Year digits low high) at_most whole = omega arith
behind_most each v follow (Name names) at_most whole = omega arith
behind_most each v follow (Format form) at_most whole = few_read each (reads (follow (form_text v form))) (conversions_of (form_text v form)) (at_most (form_text v form)) (few_form v whole form)

within_most : (each : ℕ) (v : TimeValues) (follow : List ℕ → List Piece) (o : Option Item) → AtMost each follow → IsWhole v → reads (within v follow o) ≤ 16 * each
within_most each v follow None at_most whole = omega arith
within_most each v follow (Some i) at_most whole = behind_most each v follow i at_most whole

chosen_most : (b : Bool) (n : ℕ) → cond b n 0 ≤ n
chosen_most true n = omega arith
chosen_most false n = omega arith

append_most : (ps qs : List Piece) → reads (ps ++ qs) ≤ reads ps + reads qs
append_most ps qs = omega (arith, reads_append ps qs, chosen_most (list_all is_known ps) (reads qs))

none_more : (x y k n : ℕ) → x ≤ 0 → y ≤ k * n → x + y ≤ k * (0 + n)
none_more x y k n none le = omega (arith, none, le)

one_more : (x y k n : ℕ) → x ≤ k → y ≤ k * n → x + y ≤ k * (1 + n)
one_more x y k n le le' = omega (arith, le, le')

through_sum : (n m k : ℕ) → n ≤ m → m ≤ k → n ≤ k
through_sum n m k le le' = omega (arith, le, le')

pieces_most : (each : ℕ) (v : TimeValues) (follow : List ℕ → List Piece) → AtMost each follow → IsWhole v → (ps : List Piece) → reads (flat_map (followed_piece v follow) ps) ≤ (1 + 16 * each) * count_by is_conversion ps
pieces_most each v follow at_most whole [] = omega arith
pieces_most each v follow at_most whole (Literal c ∷ ps) =
    let later = pieces_most each v follow at_most whole ps in
    let same : count_by is_conversion (Literal c ∷ ps) ≡ 0 + count_by is_conversion ps = sum_by-cons (λ (p : Piece). cond (is_conversion p) 1 0) (Literal c) ps in
    let here : reads (followed_piece v follow (Literal c)) ≡ 0 = ap reads (byte_piece v follow c) in
    rw same (through_sum _ _ _ (append_most (followed_piece v follow (Literal c)) (flat_map (followed_piece v follow) ps)) (none_more _ _ (1 + 16 * each) (count_by is_conversion ps) (omega (arith, here)) later))
pieces_most each v follow at_most whole (Wrong at ∷ ps) =
    let later = pieces_most each v follow at_most whole ps in
    let same : count_by is_conversion (Wrong at ∷ ps) ≡ 0 + count_by is_conversion ps = sum_by-cons (λ (p : Piece). cond (is_conversion p) 1 0) (Wrong at) ps in
    let here : reads (followed_piece v follow (Wrong at)) ≡ 0 = refl in
    rw same (through_sum _ _ _ (append_most (followed_piece v follow (Wrong at)) (flat_map (followed_piece v follow) ps)) (none_more _ _ (1 + 16 * each) (count_by is_conversion ps) (omega (arith, here)) later))
pieces_most each v follow at_most whole (Converted modifier letter rank ∷ ps) =
    let p : Piece = Converted modifier letter rank in
    let later = pieces_most each v follow at_most whole ps in
    let more : count_by is_conversion (p ∷ ps) ≡ 1 + count_by is_conversion ps = sum_by-cons (λ (q : Piece). cond (is_conversion q) 1 0) p ps in
    let here : reads (followed_piece v follow p) ≤ 1 + 16 * each = omega (arith, reads_piece v follow modifier letter rank, within_most each v follow (item modifier letter) at_most whole) in
    rw more (through_sum _ _ _ (append_most (followed_piece v follow p) (flat_map (followed_piece v follow) ps)) (one_more _ _ (1 + 16 * each) (count_by is_conversion ps) here later))

reads_most : (levels : ℕ) (v : TimeValues) → IsWhole v → (format : List ℕ) → reads (followed levels v format) ≤ most levels * conversions_of format
unfolding followed
reads_most zero v whole format = omega arith
reads_most (suc levels) v whole format = pieces_most (most levels) v (followed levels v) (λ format'. reads_most levels v whole format') whole (pieces format)

-- the price of a format
pub cost_most : (v : TimeValues) (format : List ℕ) → IsWhole v → cost v format ≤ 69905 * conversions_of format
cost_most v format whole = reads_most 5 v whole format
