-- The answers of strftime.
use Rattle.std.proofs.Common.{◌≡◌, ℕ, ◌<◌, ◌≤◌, true, false, ltb, List, [], length, Some, None, Ok, Err, refl, sym, ap, ◌∙◌, subst, arith}
use Rattle.std.proofs.lemmas.Bool.{lt-ltb, le-ltb}
use Rattle.lc_base.specs.declared.refusal.FormatRefusal.TheVariants.{BadFormat, TooBig}
use Rattle.strftime_fields.specs.declared.stop.Stop.{Stop}
use Rattle.strftime_fields.specs.declared.stop.Stop.TheVariants as stops
use Rattle.time_cat.specs.Formats.{pieces, bad_place}
use Rattle.time_cat.specs.Times.{TmValues}
use Rattle.time_cat.specs.TimeValues.{TimeValues}
use Rattle.time_cat.specs.Shown.{expanded}
use Rattle.strftime_fields.specs.Appending.{Appends}
use Rattle.strftime_fields.specs.Kept.{Growing}
use Rattle.strftime_fields.specs.Answers.{limited, answer, fault_of, Answers}

fits : (max : ℕ) (text : List ℕ) → length text ≤ max → limited max (Ok text) ≡ Ok text
fits max text short = let long : ltb max (length text) ≡ false = le-ltb max (length text) short in rw long refl

too_big : (max : ℕ) (text : List ℕ) → max < length text → limited max (Ok text) ≡ Err TooBig
too_big max text long = let longer : ltb max (length text) ≡ true = lt-ltb max (length text) long in rw longer refl

-- a format whose conversions are right
text_of : (v : TimeValues) (t : TmValues) (format : List ℕ) (max : ℕ) → bad_place (pieces format) ≡ None → answer v t format max ≡ limited max (Ok (expanded 5 v t format))
text_of v t format max good = rw good refl

-- a `%` that begins no conversion
pub answers_bad : (v : TimeValues) (t : TmValues) (format : List ℕ) (max at : ℕ) → bad_place (pieces format) ≡ Some at → answer v t format max ≡ Err (BadFormat at)
answers_bad v t format max at bad = rw bad refl

-- a text that fits
pub answers_text : (v : TimeValues) (t : TmValues) (format : List ℕ) (max : ℕ) (new : List ℕ) → bad_place (pieces format) ≡ None → Appends Growing max [] (expanded 5 v t format) new (Ok tt) → answer v t format max ≡ Ok new
answers_text v t format max new good added =
    let short : length (expanded 5 v t format) ≤ max = subst (λ (x : List ℕ). length x ≤ max) added.0 added.1 in
    text_of v t format max good ∙ (fits max (expanded 5 v t format) short ∙ ap (λ (x : List ℕ). Ok x) (sym added.0))

-- a text that could not be added
pub answers_fault : (v : TimeValues) (t : TmValues) (format : List ℕ) (max : ℕ) (old new : List ℕ) (e : Stop) → bad_place (pieces format) ≡ None → old ≡ [] → Appends Growing max old (expanded 5 v t format) new (Err e) → Answers (Err (fault_of e)) (answer v t format max)
answers_fault v t format max old new stops.TooBig good empty long = text_of v t format max good ∙ too_big max (expanded 5 v t format) (omega (arith, ap length empty, long))
answers_fault v t format max old new stops.Memory good empty none = tt
