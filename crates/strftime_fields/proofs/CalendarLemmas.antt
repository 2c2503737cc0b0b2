-- The weeks over the days of a calendar.
use Rattle.std.proofs.Common.{◌≡◌, ◌≢◌, ℕ, zero, suc, ◌+◌, ◌-◌, ◌<◌, ◌≤◌, inl, inr, Bool, true, false, cond, eqb, ltb, leb, refl, sym, ap₂, ◌∙◌, arith}
use Rattle.std.proofs.lemmas.Bool.{lt-ltb, le-ltb, le-leb, lt-leb, eq-eqb, ne_eqb, cases_lt, cases_eq}
use Rattle.time_cat.specs.Weeks.{YearDay, is_leap, days_of, behind_monday}
use Rattle.strftime_fields.specs.Calendar.{next_day, next_weekday, week_later, AreWeeks}

abbrev on : ℕ → ℕ → YearDay
on year day = record { year = year; day = day }

same_day : (y y' d d' : ℕ) → y ≡ y' → d ≡ d' → on y d ≡ on y' d'
same_day y y' d d' e f = ap₂ on e f

least_by : (b : Bool) → 365 ≤ cond b 366 365
least_by true = omega arith
least_by false = omega arith

least_days : (year : ℕ) → 365 ≤ days_of year
least_days year = least_by (is_leap year)

-- ---- the Thursday of a day that is so many days behind Monday

abbrev by_back : ℕ → ℕ → ℕ → YearDay
by_back year day back =
    cond (ltb (day + 3) back) (on (year - 1) (days_of (year - 1) + day + 3 - back))
    (cond (leb (days_of year) (day + 3 - back)) (on (year + 1) (day + 3 - back - days_of year)) (on year (day + 3 - back)))

before : (year day back : ℕ) → day + 3 < back → by_back year day back ≡ on (year - 1) (days_of (year - 1) + day + 3 - back)
before year day back early = let e : ltb (day + 3) back ≡ true = lt-ltb (day + 3) back early in rw e refl

behind : (year day back : ℕ) → back ≤ day + 3 → days_of year ≤ day + 3 - back → by_back year day back ≡ on (year + 1) (day + 3 - back - days_of year)
behind year day back late far =
    let e : ltb (day + 3) back ≡ false = le-ltb (day + 3) back late in
    let f : leb (days_of year) (day + 3 - back) ≡ true = le-leb (days_of year) (day + 3 - back) far in
    rw (e, f) refl

here : (year day back : ℕ) → back ≤ day + 3 → day + 3 - back < days_of year → by_back year day back ≡ on year (day + 3 - back)
here year day back late near =
    let e : ltb (day + 3) back ≡ false = le-ltb (day + 3) back late in
    let f : leb (days_of year) (day + 3 - back) ≡ false = lt-leb (days_of year) (day + 3 - back) near in
    rw (e, f) refl

-- ---- a day of its year

abbrev IsDay : YearDay → Type 0
IsDay d = d.day < days_of d.year

own : (year day back : ℕ) → day < days_of year → back ≤ 6 → IsDay (by_back year day back)
own year day back within few =
    elim (cases_lt (day + 3) back) [
      | inl early ↦ (let d = least_days (year - 1) in rw (before year day back early) (omega arith))
      | inr late ↦ elim (cases_lt (day + 3 - back) (days_of year)) [
        | inl near ↦ rw (here year day back late near) near
        | inr far ↦ (let d = least_days (year + 1) in rw (behind year day back late far) (omega arith))
      ]
    ]

-- ---- the next day

last_day : (year day : ℕ) → day + 1 ≡ days_of year → next_day year day ≡ on (year + 1) 0
last_day year day is = let e : eqb (day + 1) (days_of year) ≡ true = eq-eqb (day + 1) (days_of year) is in rw e refl

other_day : (year day : ℕ) → (day + 1 ≡ days_of year → ⊥) → next_day year day ≡ on year (day + 1)
other_day year day is = let e : eqb (day + 1) (days_of year) ≡ false = ne_eqb (day + 1) (days_of year) is in rw e refl

-- the same Thursday a day later
over_year : (year day back : ℕ) → day + 1 ≡ days_of year → back ≤ 5 → by_back (year + 1) 0 (back + 1) ≡ by_back year day back
over_year year day back last few =
    let d = least_days year in
    let n = least_days (year + 1) in
    let again : year + 1 - 1 ≡ year = omega arith in
    elim (cases_lt 2 back) [
      | inl early ↦ before (year + 1) 0 (back + 1) (omega arith) ∙ (same_day (year + 1 - 1) year (days_of (year + 1 - 1) + 0 + 3 - (back + 1)) (day + 3 - back) again (rw again (omega arith)) ∙ sym (here year day back (omega arith) (omega arith)))
      | inr late ↦ here (year + 1) 0 (back + 1) (omega arith) (omega arith) ∙ (same_day (year + 1) (year + 1) (0 + 3 - (back + 1)) (day + 3 - back - days_of year) refl (omega arith) ∙ sym (behind year day back (omega arith) (omega arith)))
    ]

in_year : (year day back : ℕ) → by_back year (day + 1) (back + 1) ≡ by_back year day back
in_year year day back =
    elim (cases_lt (day + 3) back) [
      | inl early ↦ before year (day + 1) (back + 1) (omega arith) ∙ (same_day (year - 1) (year - 1) (days_of (year - 1) + (day + 1) + 3 - (back + 1)) (days_of (year - 1) + day + 3 - back) refl (omega arith) ∙ sym (before year day back early))
      | inr late ↦ elim (cases_lt (day + 3 - back) (days_of year)) [
        | inl near ↦ here year (day + 1) (back + 1) (omega arith) (omega arith) ∙ (same_day year year (day + 1 + 3 - (back + 1)) (day + 3 - back) refl (omega arith) ∙ sym (here year day back late near))
        | inr far ↦ behind year (day + 1) (back + 1) (omega arith) (omega arith) ∙ (same_day (year + 1) (year + 1) (day + 1 + 3 - (back + 1) - days_of year) (day + 3 - back - days_of year) refl (omega arith) ∙ sym (behind year day back late far))
      ]
    ]

abbrev back_of : YearDay → ℕ → YearDay
back_of d back = by_back d.year d.day back

same_thursday : (year day back : ℕ) → back ≤ 5 → back_of (next_day year day) (back + 1) ≡ by_back year day back
same_thursday year day back few =
    elim (cases_eq (day + 1) (days_of year)) [
      | inl last ↦ rw (last_day year day last) (over_year year day back last few)
      | inr more ↦ rw (other_day year day more) (in_year year day back)
    ]

-- ---- behind a Sunday

soon : (year day : ℕ) → day + 7 < days_of year → week_later (on year day) ≡ on year (day + 7)
soon year day near = let e : ltb (day + 7) (days_of year) ≡ true = lt-ltb (day + 7) (days_of year) near in rw e refl

next_year : (year day : ℕ) → days_of year ≤ day + 7 → week_later (on year day) ≡ on (year + 1) (day + 7 - days_of year)
next_year year day far = let e : ltb (day + 7) (days_of year) ≡ false = le-ltb (day + 7) (days_of year) far in rw e refl

from_new_year : (year day : ℕ) → day + 1 ≡ days_of year → by_back (year + 1) 0 0 ≡ week_later (by_back year day 6)
from_new_year year day last =
    let d = least_days year in
    let n = least_days (year + 1) in
    rw (here year day 6 (omega arith) (omega arith))
    (here (year + 1) 0 0 (omega arith) (omega arith) ∙ (same_day (year + 1) (year + 1) (0 + 3 - 0) (day + 3 - 6 + 7 - days_of year) refl (omega arith) ∙ sym (next_year year (day + 3 - 6) (omega arith))))

from_old_year : (year day : ℕ) → 1 ≤ year → day < 3 → by_back year (day + 1) 0 ≡ week_later (by_back year day 6)
from_old_year year day some early =
    let d = least_days year in
    let p = least_days (year - 1) in
    let again : year - 1 + 1 ≡ year = omega arith in
    rw (before year day 6 (omega arith))
    (here year (day + 1) 0 (omega arith) (omega arith) ∙ (same_day year (year - 1 + 1) (day + 1 + 3 - 0) (days_of (year - 1) + day + 3 - 6 + 7 - days_of (year - 1)) (sym again) (omega arith) ∙ sym (next_year (year - 1) (days_of (year - 1) + day + 3 - 6) (omega arith))))

from_this_year : (year day : ℕ) → 3 ≤ day → day < days_of year → by_back year (day + 1) 0 ≡ week_later (by_back year day 6)
from_this_year year day late within =
    rw (here year day 6 (omega arith) (omega arith))
    (elim (cases_lt (day + 4) (days_of year)) [
      | inl near ↦ here year (day + 1) 0 (omega arith) (omega arith) ∙ (same_day year year (day + 1 + 3 - 0) (day + 3 - 6 + 7) refl (omega arith) ∙ sym (soon year (day + 3 - 6) (omega arith)))
      | inr far ↦ behind year (day + 1) 0 (omega arith) (omega arith) ∙ (same_day (year + 1) (year + 1) (day + 1 + 3 - 0 - days_of year) (day + 3 - 6 + 7 - days_of year) refl (omega arith) ∙ sym (next_year year (day + 3 - 6) (omega arith)))
    ])

later_thursday : (year day : ℕ) → 1 ≤ year → day < days_of year → back_of (next_day year day) 0 ≡ week_later (by_back year day 6)
later_thursday year day some within =
    elim (cases_eq (day + 1) (days_of year)) [
      | inl last ↦ rw (last_day year day last) (from_new_year year day last)
      | inr more ↦ rw (other_day year day more) (elim (cases_lt day 3) [ inl early ↦ from_old_year year day some early | inr late ↦ from_this_year year day late within ])
    ]

-- ---- days of the week

abbrev Steps : ℕ → Type 0
Steps weekday = (behind_monday weekday ≤ 5) × (behind_monday (next_weekday weekday) ≡ behind_monday weekday + 1)

steps : (weekday : ℕ) → weekday ≤ 6 → weekday ≢ 0 → Steps weekday
steps zero few some = absurd (some refl)
steps (suc zero) few some = (omega arith, refl)
steps (suc (suc zero)) few some = (omega arith, refl)
steps (suc (suc (suc zero))) few some = (omega arith, refl)
steps (suc (suc (suc (suc zero)))) few some = (omega arith, refl)
steps (suc (suc (suc (suc (suc zero))))) few some = (omega arith, refl)
steps (suc (suc (suc (suc (suc (suc zero)))))) few some = (omega arith, refl)
steps (suc (suc (suc (suc (suc (suc (suc w))))))) few some = absurd (omega arith)

pub are_weeks : (year day weekday : ℕ) → 1 ≤ year → day < days_of year → weekday ≤ 6 → AreWeeks year day weekday
are_weeks year day weekday some within few = record {
  own = own year day (behind_monday weekday) within (omega arith);
  same = λ no. let s = steps weekday few no in rw (s.1) (same_thursday year day (behind_monday weekday) s.0);
  later = λ is. rw is (later_thursday year day some within);
}
