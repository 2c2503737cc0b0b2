-- Each time is read back by each plain format.
use Rattle.std.proofs.Common.{◌≡◌, ℕ, ◌+◌, ◌-◌, inl, inr, ◌⊎◌, Bool, true, false, not, ◌&&◌, ◌||◌, cond, eqb, List, [], ◌∷◌, ◌++◌, length, decimal, Option, Some, None, Ok, refl, sym, ap, ◌∙◌, subst, arith, flat_map}
use Rattle.std.specs.Prelude.{pos, option_map}
use Rattle.std.specs.List.{list_all}
use Rattle.std.specs.Char.{is_ascii_digit}
use Rattle.std.proofs.lemmas.Bool.{and_parts, or_cases, eqb-true, eq-eqb, not-true, false≢true}
use Rattle.time_cat.specs.Conversions.{conversion}
use Rattle.time_cat.specs.Formats.{Piece, Literal, Converted, Wrong, pieces, bad_place}
use Rattle.time_cat.specs.Times.{TmValues, IsTime}
use Rattle.time_cat.specs.TimeValues.{TimeValues}
use Rattle.time_cat.specs.Shown.{two, three, spaced, piece_text, expanded}
use Rattle.strptime_fields.specs.declared.item.Kind.TheVariants as kinds
use Rattle.strptime_fields.specs.declared.item.Digits.TheVariants.{One, Two, Three, Four}
use Rattle.strptime_fields.specs.declared.item.Item.TheVariants.{White, Sign}
use Rattle.strptime_fields.specs.declared.last_read.LastRead.{LastRead}
use Rattle.strptime_fields.specs.Items.{is_white, item}
use Rattle.strptime_fields.specs.Keeping.{nothing, keep, keep_year_day, keep_year, parsed, year_of, hour_of, yday_of}
use Rattle.strptime_fields.specs.Reading.{behind_white}
use Rattle.strptime_fields.specs.Scans.{followed_piece, followed, is_known, bad_from, Progress, read_onward, onward, run}
use Rattle.strptime_fields.specs.Plain.{is_plain_letter, are_plain, is_plain, holds, said_if, said, AreReadBack}
use Rattle.strptime_fields.proofs.Through.{byte_piece}
use Rattle.strptime_fields.proofs.ReadBack.{starts_digit, written_two, written_three, written_bare, written_spaced, number_reads}

-- ---- what was kept

abbrev or_kept : Bool → ℕ → Option ℕ → Option ℕ
or_kept b n kept = cond b (Some n) kept

-- what is kept behind the numbers of pieces
abbrev told : TmValues → List Piece → LastRead → LastRead
told t ps k = record k {
  year = or_kept (holds 89 ps) t.year k.year;
  mon = or_kept (holds 109 ps) t.mon k.mon;
  mday = or_kept (holds 100 ps || holds 101 ps) t.mday k.mday;
  hour = or_kept (holds 72 ps) t.hour k.hour;
  min = or_kept (holds 77 ps) t.min k.min;
  sec = or_kept (holds 83 ps) t.sec k.sec;
  wday = or_kept (holds 119 ps) t.wday k.wday;
  year_day = or_kept (holds 106 ps) (t.yday + 1) k.year_day;
}

year_said : (b : Bool) (n : ℕ) → option_map pos (Rattle.strptime_fields.specs.Keeping.year_by (cond b (Some n) None) None None) ≡ said_if b (pos n)
year_said true n = refl
year_said false n = refl

hour_said : (b : Bool) (n : ℕ) → Rattle.strptime_fields.specs.Keeping.hour_by (cond b (Some n) None) None None ≡ said_if b n
hour_said true n = refl
hour_said false n = refl

yday_said : (b : Bool) (n : ℕ) → option_map (λ (day : ℕ). day - 1) (cond b (Some (n + 1)) None) ≡ said_if b n
yday_said true n = let same : n + 1 - 1 ≡ n = omega arith in rw same refl
yday_said false n = refl

field_said : (b : Bool) (n : ℕ) → cond b (Some n) None ≡ said_if b n
field_said true n = refl
field_said false n = refl

said_is : (t : TmValues) (ps : List Piece) → parsed (told t ps nothing) ≡ said t ps
said_is t ps =
    rw (
      year_said (holds 89 ps) t.year,
      hour_said (holds 72 ps) t.hour,
      yday_said (holds 106 ps) t.yday,
      field_said (holds 109 ps) t.mon,
      field_said (holds 100 ps || holds 101 ps) t.mday,
      field_said (holds 77 ps) t.min,
      field_said (holds 83 ps) t.sec,
      field_said (holds 119 ps) t.wday,
    ) refl

-- ---- white space

white_by : (c : ℕ) (cs : List ℕ) (b : Bool) → is_white c ≡ b → behind_white (behind_white cs) ≡ behind_white cs → behind_white (cond b (behind_white cs) (c ∷ cs)) ≡ cond b (behind_white cs) (c ∷ cs)
white_by c cs true is again = again
white_by c cs false is again = rw is refl

white_again : (text : List ℕ) → behind_white (behind_white text) ≡ behind_white text
white_again [] = refl
white_again (c ∷ cs) = white_by c cs (is_white c) refl (white_again cs)

-- what is left is a text, perhaps without the white space at its front
abbrev IsReady : List ℕ → List ℕ → Type 0
IsReady left text = (left ≡ text) ⊎ (left ≡ behind_white text)

ready_white : (left text : List ℕ) → IsReady left text → behind_white left ≡ behind_white text
ready_white left text (inl is) = ap behind_white is
ready_white left text (inr is) = ap behind_white is ∙ white_again text

ready_byte : (left : List ℕ) (c : ℕ) (text : List ℕ) → is_white c ≡ false → IsReady left (c ∷ text) → left ≡ c ∷ text
ready_byte left c text none (inl is) = is
ready_byte left c text none (inr is) = is ∙ rw none refl

ready_end : (left : List ℕ) → IsReady left [] → left ≡ []
ready_end left (inl is) = is
ready_end left (inr is) = is

-- ---- pieces

abbrev text_of : TimeValues → TmValues → List Piece → List ℕ
text_of v t ps = flat_map (piece_text v t (expanded 4 v t)) ps

abbrev pieces_of : TimeValues → List Piece → List Piece
pieces_of v ps = flat_map (followed_piece v (followed 4 v)) ps

-- what one piece of a plain format reads
abbrev Reads : TimeValues → TmValues → Piece → (LastRead → LastRead) → Type 0
Reads v t p keeps =
    (rest left : List ℕ) (k : LastRead) → starts_digit rest ≡ false → behind_white left ≡ behind_white (piece_text v t (expanded 4 v t) p ++ rest) → onward v (Ok (left, k)) p ≡ Ok (rest, keeps k)

-- a number that is said
pub record IsSaid (v : TimeValues) (t : TmValues) (letter rank : ℕ) : Type 0 where
  pub keeps : LastRead → LastRead
  pub reads : Reads v t (Converted 0 letter rank) keeps
  pub alone : followed_piece v (followed 4 v) (Converted 0 letter rank) ≡ Converted 0 letter rank ∷ []
  pub tells : (ps : List Piece) (k : LastRead) → told t (Converted 0 letter rank ∷ ps) k ≡ told t ps (keeps k)

same_kept : (b : Bool) (n : ℕ) → or_kept b n (Some n) ≡ Some n
same_kept true n = refl
same_kept false n = refl

or_true : (b : Bool) → (b || true) ≡ true
or_true true = refl
or_true false = refl

say_d : (v : TimeValues) (t : TmValues) (rank : ℕ) → IsTime t → IsSaid v t 100 rank
unfolding item conversion
say_d v t rank is = record {
  keeps = keep kinds.Day t.mday;
  reads = λ rest left k none ready. rw (number_reads Two 1 31 (two t.mday) rest left t.mday (written_two t.mday (omega (arith, is.mday_to))) is.mday_from is.mday_to none ready) refl;
  alone = refl;
  tells = λ ps k. rw (same_kept (holds 100 ps || holds 101 ps) t.mday) refl;
}

say_e : (v : TimeValues) (t : TmValues) (rank : ℕ) → IsTime t → IsSaid v t 101 rank
unfolding item conversion
say_e v t rank is = record {
  keeps = keep kinds.Day t.mday;
  reads = λ rest left k none ready. rw (number_reads Two 1 31 (spaced t.mday) rest left t.mday (written_spaced t.mday (omega (arith, is.mday_to))) is.mday_from is.mday_to none ready) refl;
  alone = refl;
  tells = λ ps k. rw (or_true (holds 100 ps), same_kept (holds 100 ps || holds 101 ps) t.mday) refl;
}

say_H : (v : TimeValues) (t : TmValues) (rank : ℕ) → IsTime t → IsSaid v t 72 rank
unfolding item conversion
say_H v t rank is = record {
  keeps = keep kinds.Hour t.hour;
  reads = λ rest left k none ready. rw (number_reads Two 0 23 (two t.hour) rest left t.hour (written_two t.hour (omega (arith, is.hour))) (omega arith) is.hour none ready) refl;
  alone = refl;
  tells = λ ps k. rw (same_kept (holds 72 ps) t.hour) refl;
}

say_j : (v : TimeValues) (t : TmValues) (rank : ℕ) → IsTime t → IsSaid v t 106 rank
unfolding item conversion
say_j v t rank is = record {
  keeps = keep_year_day (t.yday + 1);
  reads = λ rest left k none ready. rw (number_reads Three 1 366 (three (t.yday + 1)) rest left (t.yday + 1) (written_three (t.yday + 1) (omega (arith, is.yday))) (omega arith) (omega (arith, is.yday)) none ready) refl;
  alone = refl;
  tells = λ ps k. rw (same_kept (holds 106 ps) (t.yday + 1)) refl;
}

say_m : (v : TimeValues) (t : TmValues) (rank : ℕ) → IsTime t → IsSaid v t 109 rank
unfolding item conversion
say_m v t rank is = record {
  keeps = keep kinds.Month t.mon;
  reads = λ rest left k none ready. rw (number_reads Two 1 12 (two t.mon) rest left t.mon (written_two t.mon (omega (arith, is.mon_to))) is.mon_from is.mon_to none ready) refl;
  alone = refl;
  tells = λ ps k. rw (same_kept (holds 109 ps) t.mon) refl;
}

say_M : (v : TimeValues) (t : TmValues) (rank : ℕ) → IsTime t → IsSaid v t 77 rank
unfolding item conversion
say_M v t rank is = record {
  keeps = keep kinds.Minute t.min;
  reads = λ rest left k none ready. rw (number_reads Two 0 59 (two t.min) rest left t.min (written_two t.min (omega (arith, is.min))) (omega arith) is.min none ready) refl;
  alone = refl;
  tells = λ ps k. rw (same_kept (holds 77 ps) t.min) refl;
}

say_S : (v : TimeValues) (t : TmValues) (rank : ℕ) → IsTime t → IsSaid v t 83 rank
unfolding item conversion
say_S v t rank is = record {
  keeps = keep kinds.Second t.sec;
  reads = λ rest left k none ready. rw (number_reads Two 0 60 (two t.sec) rest left t.sec (written_two t.sec (omega (arith, is.sec))) (omega arith) is.sec none ready) refl;
  alone = refl;
  tells = λ ps k. rw (same_kept (holds 83 ps) t.sec) refl;
}

say_w : (v : TimeValues) (t : TmValues) (rank : ℕ) → IsTime t → IsSaid v t 119 rank
unfolding item conversion
say_w v t rank is = record {
  keeps = keep kinds.Weekday t.wday;
  reads = λ rest left k none ready. rw (number_reads One 0 6 (decimal t.wday) rest left t.wday (written_bare t.wday 1 (omega arith) (omega (arith, is.wday)) (omega (arith, is.wday))) (omega arith) is.wday none ready) refl;
  alone = refl;
  tells = λ ps k. rw (same_kept (holds 119 ps) t.wday) refl;
}

say_Y : (v : TimeValues) (t : TmValues) (rank : ℕ) → IsTime t → IsSaid v t 89 rank
unfolding item conversion
say_Y v t rank is = record {
  keeps = keep_year t.year;
  reads = λ rest left k none ready. rw (number_reads Four 0 9999 (decimal t.year) rest left t.year (written_bare t.year 4 (omega arith) (omega (arith, is.year_to)) (omega (arith, is.year_to))) (omega arith) is.year_to none ready) refl;
  alone = refl;
  tells = λ ps k. rw (same_kept (holds 89 ps) t.year) refl;
}

said_by : (v : TimeValues) (t : TmValues) (letter rank c : ℕ) → eqb c letter ≡ true → IsSaid v t c rank → IsSaid v t letter rank
said_by v t letter rank c is known = subst (λ (l : ℕ). IsSaid v t l rank) (eqb-true c letter is) known

-- each number of a plain format is said
is_said : (v : TimeValues) (t : TmValues) (letter rank : ℕ) → IsTime t → is_plain_letter letter ≡ true → IsSaid v t letter rank
is_said v t letter rank time is =
    elim (or_cases (eqb 100 letter) _ is) [
      | inl d ↦ said_by v t letter rank 100 d (say_d v t rank time)
      | inr is ↦
          elim (or_cases (eqb 101 letter) _ is) [
            | inl e ↦ said_by v t letter rank 101 e (say_e v t rank time)
            | inr is ↦
                elim (or_cases (eqb 72 letter) _ is) [
                  | inl h ↦ said_by v t letter rank 72 h (say_H v t rank time)
                  | inr is ↦
                      elim (or_cases (eqb 106 letter) _ is) [
                        | inl j ↦ said_by v t letter rank 106 j (say_j v t rank time)
                        | inr is ↦
                            elim (or_cases (eqb 109 letter) _ is) [
                              | inl m ↦ said_by v t letter rank 109 m (say_m v t rank time)
                              | inr is ↦
                                  elim (or_cases (eqb 77 letter) _ is) [
                                    | inl n ↦ said_by v t letter rank 77 n (say_M v t rank time)
                                    | inr is ↦
                                        elim (or_cases (eqb 83 letter) _ is) [
                                          | inl s ↦ said_by v t letter rank 83 s (say_S v t rank time)
                                          | inr is ↦
                                              elim (or_cases (eqb 119 letter) _ is) [
                                                | inl w ↦ said_by v t letter rank 119 w (say_w v t rank time)
                                                | inr is ↦
                                                    elim (or_cases (eqb 89 letter) false is) [ inl y ↦ said_by v t letter rank 89 y (say_Y v t rank time) | inr is ↦ absurd (false≢true is) ]
                                              ]
                                        ]
                                  ]
                            ]
                      ]
                ]
          ]
    ]

-- ---- plain pieces

-- behind a number stands no digit
no_digit : (v : TimeValues) (t : TmValues) (ps : List Piece) → are_plain true ps ≡ true → starts_digit (text_of v t ps) ≡ false
no_digit v t [] plain = refl
no_digit v t (Literal c ∷ ps) plain = not-true (is_ascii_digit c) (and_parts (not (is_ascii_digit c)) (are_plain false ps) plain).0
no_digit v t (Converted modifier letter rank ∷ ps) plain = absurd cc
no_digit v t (Wrong at ∷ ps) plain = absurd cc

-- what is read of pieces from here on
abbrev GoesOn : TimeValues → TmValues → List Piece → Type 0
GoesOn v t ps = (left : List ℕ) (k : LastRead) → IsReady left (text_of v t ps) → run v (Ok (left, k)) (pieces_of v ps) ≡ Ok ([], told t ps k)

byte_by : (v : TimeValues) (t : TmValues) (c : ℕ) (ps : List Piece) (left : List ℕ) (k : LastRead) (b : Bool) → is_white c ≡ b → GoesOn v t ps → IsReady left (c ∷ text_of v t ps)
    → run v (read_onward v (Ok (left, k)) (cond b White (Sign c))) (pieces_of v ps) ≡ Ok ([], told t ps k)
byte_by v t c ps left k true is on ready =
    on (behind_white left) k (inr (ready_white left (c ∷ text_of v t ps) ready ∙ rw is refl))
byte_by v t c ps left k false is on ready =
    let front : left ≡ c ∷ text_of v t ps = ready_byte left c (text_of v t ps) is ready in
    let same : eqb c c ≡ true = eq-eqb c c refl in
    rw (front, same) (on (text_of v t ps) k (inl refl))

on_byte : (v : TimeValues) (t : TmValues) (c : ℕ) (ps : List Piece) → GoesOn v t ps → GoesOn v t (Literal c ∷ ps)
on_byte v t c ps on left k ready =
    let same = ap (λ (qs : List Piece). run v (Ok (left, k)) (qs ++ pieces_of v ps)) (byte_piece v (followed 4 v) c) in
    same ∙ byte_by v t c ps left k (is_white c) refl on ready

on_percent : (v : TimeValues) (t : TmValues) (rank : ℕ) (ps : List Piece) → GoesOn v t ps → GoesOn v t (Converted 0 37 rank ∷ ps)
unfolding item conversion
on_percent v t rank ps on left k ready =
    let front : left ≡ 37 ∷ text_of v t ps = ready_byte left 37 (text_of v t ps) refl ready in
    rw front (on (text_of v t ps) k (inl refl))

on_number : (v : TimeValues) (t : TmValues) (letter rank : ℕ) (ps : List Piece) → IsSaid v t letter rank → are_plain true ps ≡ true → GoesOn v t ps → GoesOn v t (Converted 0 letter rank ∷ ps)
on_number v t letter rank ps known plain on left k ready =
    let p : Piece = Converted 0 letter rank in
    let read = known.reads (text_of v t ps) left k (no_digit v t ps plain) (ready_white left (text_of v t (p ∷ ps)) ready) in
    let alone = ap (λ (qs : List Piece). run v (Ok (left, k)) (qs ++ pieces_of v ps)) known.alone in
    let first = ap (λ (progress : Progress). run v progress (pieces_of v ps)) read in
    alone ∙ (first ∙ (on (text_of v t ps) (known.keeps k) (inl refl) ∙ ap (λ (last : LastRead). Ok ([], last)) (sym (known.tells ps k))))

-- the two cases of a conversion of a plain format
abbrev IsPlainConversion : ℕ → ℕ → List Piece → Type 0
IsPlainConversion modifier letter ps = (modifier ≡ 0) × (((letter ≡ 37) × (are_plain false ps ≡ true)) ⊎ ((is_plain_letter letter ≡ true) × (are_plain true ps ≡ true)))

letter_by : (letter : ℕ) (ps : List Piece) (b : Bool) → eqb letter 37 ≡ b → cond b (are_plain false ps) (is_plain_letter letter && are_plain true ps) ≡ true
    → ((letter ≡ 37) × (are_plain false ps ≡ true)) ⊎ ((is_plain_letter letter ≡ true) × (are_plain true ps ≡ true))
letter_by letter ps true is plain = inl (eqb-true letter 37 is, plain)
letter_by letter ps false is plain = inr (and_parts (is_plain_letter letter) (are_plain true ps) plain)

conversion_of : (number : Bool) (modifier letter rank : ℕ) (ps : List Piece) → are_plain number (Converted modifier letter rank ∷ ps) ≡ true → IsPlainConversion modifier letter ps
conversion_of number modifier letter rank ps plain =
    let parts = and_parts (not number && eqb modifier 0) (cond (eqb letter 37) (are_plain false ps) (is_plain_letter letter && are_plain true ps)) plain in
    let first = and_parts (not number) (eqb modifier 0) parts.0 in
    (eqb-true modifier 0 first.1, letter_by letter ps (eqb letter 37) refl parts.1)

on_conversion : (v : TimeValues) (t : TmValues) (modifier letter rank : ℕ) (ps : List Piece) → IsTime t → IsPlainConversion modifier letter ps → (are_plain false ps ≡ true → GoesOn v t ps) → (are_plain true ps ≡ true → GoesOn v t ps)
    → GoesOn v t (Converted modifier letter rank ∷ ps)
on_conversion v t modifier letter rank ps time is byte number =
    subst (λ (m : ℕ). GoesOn v t (Converted m letter rank ∷ ps)) (sym is.0)
    (elim is.1 [
      | inl percent ↦ subst (λ (l : ℕ). GoesOn v t (Converted 0 l rank ∷ ps)) (sym percent.0) (on_percent v t rank ps (byte percent.1))
      | inr known ↦ on_number v t letter rank ps (is_said v t letter rank time known.0) known.1 (number known.1)
    ])

goes_on : (v : TimeValues) (t : TmValues) → IsTime t → (number : Bool) (ps : List Piece) → are_plain number ps ≡ true → GoesOn v t ps
goes_on v t time number [] plain left k ready = rw (ready_end left ready) refl
goes_on v t time number (Literal c ∷ ps) plain left k ready =
    on_byte v t c ps (goes_on v t time false ps (and_parts (not (number && is_ascii_digit c)) (are_plain false ps) plain).1) left k ready
goes_on v t time number (Converted modifier letter rank ∷ ps) plain left k ready =
    on_conversion v t modifier letter rank ps time (conversion_of number modifier letter rank ps plain) (goes_on v t time false ps) (goes_on v t time true ps) left k ready
goes_on v t time number (Wrong at ∷ ps) plain left k ready = absurd cc

-- ---- a plain format is right

no_bad_place : (number : Bool) (ps : List Piece) → are_plain number ps ≡ true → bad_place ps ≡ None
no_bad_place number [] plain = refl
no_bad_place number (Literal c ∷ ps) plain = no_bad_place false ps (and_parts (not (number && is_ascii_digit c)) (are_plain false ps) plain).1
no_bad_place number (Converted modifier letter rank ∷ ps) plain =
    let is = conversion_of number modifier letter rank ps plain in
    elim is.1 [ inl percent ↦ no_bad_place false ps percent.1 | inr known ↦ no_bad_place true ps known.1 ]
no_bad_place number (Wrong at ∷ ps) plain = absurd cc

known_byte : (v : TimeValues) (c : ℕ) → list_all is_known (followed_piece v (followed 4 v) (Literal c)) ≡ true
known_byte v c = ap (list_all is_known) (byte_piece v (followed 4 v) c)

-- a conversion of the table that stands for no format
abbrev IsAlone : TimeValues → ℕ → ℕ → Type 0
IsAlone v letter rank = list_all is_known (followed_piece v (followed 4 v) (Converted 0 letter rank)) ≡ true

alone_percent : (v : TimeValues) (rank : ℕ) → IsAlone v 37 rank
unfolding item
alone_percent v rank = refl

alone_by : (v : TimeValues) (letter rank c : ℕ) → eqb c letter ≡ true → IsAlone v c rank → IsAlone v letter rank
alone_by v letter rank c is known = subst (λ (l : ℕ). IsAlone v l rank) (eqb-true c letter is) known

alone_letter : (v : TimeValues) (letter rank : ℕ) → is_plain_letter letter ≡ true → IsAlone v letter rank
unfolding item
alone_letter v letter rank is =
    elim (or_cases (eqb 100 letter) _ is) [
      | inl d ↦ alone_by v letter rank 100 d refl
      | inr is ↦
          elim (or_cases (eqb 101 letter) _ is) [
            | inl e ↦ alone_by v letter rank 101 e refl
            | inr is ↦
                elim (or_cases (eqb 72 letter) _ is) [
                  | inl h ↦ alone_by v letter rank 72 h refl
                  | inr is ↦
                      elim (or_cases (eqb 106 letter) _ is) [
                        | inl j ↦ alone_by v letter rank 106 j refl
                        | inr is ↦
                            elim (or_cases (eqb 109 letter) _ is) [
                              | inl m ↦ alone_by v letter rank 109 m refl
                              | inr is ↦
                                  elim (or_cases (eqb 77 letter) _ is) [
                                    | inl n ↦ alone_by v letter rank 77 n refl
                                    | inr is ↦
                                        elim (or_cases (eqb 83 letter) _ is) [
                                          | inl s ↦ alone_by v letter rank 83 s refl
                                          | inr is ↦
                                              elim (or_cases (eqb 119 letter) _ is) [
                                                | inl w ↦ alone_by v letter rank 119 w refl
                                                | inr is ↦
                                                    elim (or_cases (eqb 89 letter) false is) [ inl y ↦ alone_by v letter rank 89 y refl | inr is ↦ absurd (false≢true is) ]
                                              ]
                                        ]
                                  ]
                            ]
                      ]
                ]
          ]
    ]

all_known : (v : TimeValues) (number : Bool) (at : ℕ) (ps : List Piece) → are_plain number ps ≡ true → bad_from v at ps ≡ None
all_known v number at [] plain = refl
all_known v number at (Literal c ∷ ps) plain = rw (known_byte v c) (all_known v false (at + 1) ps (and_parts (not (number && is_ascii_digit c)) (are_plain false ps) plain).1)
all_known v number at (Converted modifier letter rank ∷ ps) plain =
    let is = conversion_of number modifier letter rank ps plain in
    subst (λ (m : ℕ). bad_from v at (Converted m letter rank ∷ ps) ≡ None) (sym is.0)
    (elim is.1 [
      | inl percent ↦ subst (λ (l : ℕ). bad_from v at (Converted 0 l rank ∷ ps) ≡ None) (sym percent.0) (rw (alone_percent v rank) (all_known v false (at + 2) ps percent.1))
      | inr known ↦ rw (alone_letter v letter rank known.0) (all_known v true (at + 2) ps known.1)
    ])
all_known v number at (Wrong place ∷ ps) plain = absurd cc

-- ---- the law

whole_text : (v : TimeValues) (t : TmValues) (format : List ℕ) → expanded 5 v t format ≡ text_of v t (pieces format)
unfolding expanded
whole_text v t format = refl

whole_pieces : (v : TimeValues) (format : List ℕ) → followed 5 v format ≡ pieces_of v (pieces format)
unfolding followed
whole_pieces v format = refl

pub are_read_back : AreReadBack
unfolding is_plain
are_read_back v t format time plain =
    let text = text_of v t (pieces format) in
    let good : bad_place (pieces format) ≡ None = no_bad_place false (pieces format) plain in
    let known : bad_from v 0 (pieces format) ≡ None = all_known v false 0 (pieces format) plain in
    let read = goes_on v t time false (pieces format) plain text nothing (inl refl) in
    let all : length text - 0 ≡ length text = omega arith in
    (text, rw (good, whole_text v t format) refl, rw (known, whole_pieces v format, read, said_is t (pieces format), all) refl)
