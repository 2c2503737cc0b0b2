-- What the pieces of a format give that are left at a place, and how many conversions they are.
use Rattle.std.proofs.Common.{◌≡◌, ℕ, zero, suc, ◌+◌, ◌-◌, ◌<◌, Bool, true, false, List, [], ◌∷◌, ◌++◌, Option, Some, None, refl, sym, ap, ◌∙◌, append-nil, subst, arith, length, drop, ◌≤◌}
use Rattle.std.proofs.lemmas.List.{drop_all, drop-drop, length-drop}
use Rattle.time_cat.specs.declared.conversion.TimeConversion.{TimeConversion}
use Rattle.time_cat.specs.declared.conversion.Shows.TheVariants.{Format}
use Rattle.time_cat.specs.declared.conversion.TimeText.{TimeText}
use Rattle.time_cat.specs.Conversions.{conversion}
use Rattle.time_cat.specs.declared.step.Step.{Step}
use Rattle.time_cat.specs.declared.step.Step.TheVariants as steps
use Rattle.time_cat.specs.Formats.{Literal, Converted, Wrong, pieces, rest_of, step, bad_place, IsStep}
use Rattle.time_cat.proofs.StepLemmas.{is_step}
use Rattle.time_cat.specs.Times.{TmValues}
use Rattle.time_cat.specs.TimeValues.{TimeValues, format_text}
use Rattle.time_cat.specs.Shown.{expanded, converted, format_for, plain_text}
use Rattle.strftime_fields.specs.declared.read.Short.{Short}
use Rattle.strftime_fields.specs.declared.read.Short.TheVariants.{Byte, Plain}
use Rattle.strftime_fields.specs.declared.read.Seen.TheVariants.{Inner}
use Rattle.strftime_fields.specs.Reading.{IsShort, IsFormatless, IsSeen, width, short_text}
use Rattle.strftime_fields.specs.Going.{text_left, Bads}

-- ---- texts

pub text_at_start : (levels : ℕ) (v : TimeValues) (t : TmValues) (format : List ℕ) → 0 < levels → text_left levels v t format 0 ≡ expanded levels v t format
unfolding text_left expanded rest_of pieces
text_at_start zero v t format some = absurd (omega arith)
text_at_start (suc levels) v t format some = let one : suc levels - 1 ≡ levels = omega arith in rw one refl

pub text_at_end : (levels : ℕ) (v : TimeValues) (t : TmValues) (format : List ℕ) (at : ℕ) → rest_of format at ≡ [] → text_left levels v t format at ≡ []
unfolding text_left
text_at_end levels v t format at is = rw is refl

pub text_at_wrong : (levels : ℕ) (v : TimeValues) (t : TmValues) (format : List ℕ) (at : ℕ) → rest_of format at ≡ Wrong at ∷ [] → text_left levels v t format at ≡ []
unfolding text_left
text_at_wrong levels v t format at is = rw is refl

pub text_at_byte : (levels : ℕ) (v : TimeValues) (t : TmValues) (format : List ℕ) (at c next : ℕ) → rest_of format at ≡ Literal c ∷ rest_of format next → text_left levels v t format at ≡ (c ∷ []) ++ text_left levels v t format next
unfolding text_left
text_at_byte levels v t format at c next is = rw is refl

pub text_at_conversion : (levels : ℕ) (v : TimeValues) (t : TmValues) (format : List ℕ) (at modifier letter rank next : ℕ) → rest_of format at ≡ Converted modifier letter rank ∷ rest_of format next → text_left levels v t format at ≡ converted v t (expanded (levels - 1) v t) (conversion modifier letter) ++ text_left levels v t format next
unfolding text_left
text_at_conversion levels v t format at modifier letter rank next is = rw is refl

-- a whole format is what is left at its beginning
pub pieces_at_start : (format : List ℕ) → rest_of format 0 ≡ pieces format
unfolding rest_of pieces
pieces_at_start format = refl

-- nothing is left at its end
pub nothing_left : (format : List ℕ) (at : ℕ) → length format ≤ at → rest_of format at ≡ []
unfolding rest_of
nothing_left format at end = let none : drop at format ≡ [] = drop_all at format end in rw none refl

-- where what is left of a format stands, behind some bytes more, and that it is what is left there
pub behind : (format rest next : List ℕ) (n : ℕ) → rest ≡ drop (length format - length rest) format → length rest ≤ length format → n ≤ length rest → next ≡ drop n rest
    → (length next ≤ length format) × (length format - length next ≡ length format - length rest + n) × (next ≡ drop (length format - length next) format) × (length next + n ≡ length rest)
behind format rest next n left within some is =
    let long : length next ≡ length rest - n = ap length is ∙ length-drop n rest in
    let place : length format - length next ≡ length format - length rest + n = omega (arith, long, within, some) in
    let same : next ≡ drop (length format - length rest + n) format = is ∙ (ap (drop n) left ∙ drop-drop n (length format - length rest) format) in
    (omega (arith, long, within), place, rw place same, omega (arith, long, some))

-- what is left begins with what stands there
pub stands_here : (format rest : List ℕ) (at : ℕ) → rest ≡ drop at format → IsStep format at (step at rest)
stands_here format rest at is = rw is (is_step format at)

-- a format without levels gives nothing
pub no_levels : (levels : ℕ) (v : TimeValues) (t : TmValues) (format : List ℕ) → levels ≡ 0 → expanded levels v t format ≡ []
unfolding expanded
no_levels levels v t format none = rw none refl

-- ---- what a conversion gives

pub plain_conversion : (v : TimeValues) (t : TmValues) (expand : List ℕ → List ℕ) (o : Option TimeConversion) (c : TimeConversion) → o ≡ Some c → format_for v t c.shows ≡ None → converted v t expand o ≡ plain_text v t c.shows
plain_conversion v t expand o c some none = rw some (rw none refl)

pub format_conversion : (v : TimeValues) (t : TmValues) (expand : List ℕ → List ℕ) (o : Option TimeConversion) (c : TimeConversion) (format : List ℕ) → o ≡ Some c → format_for v t c.shows ≡ Some format → converted v t expand o ≡ expand format
format_conversion v t expand o c format some is = rw some (rw is refl)

-- ---- pieces that are told at first sight

pub short_within : (format : List ℕ) (at : ℕ) (s : Step) (short : Short) → IsStep format at s → IsShort at s short → at + width short ≤ length format
short_within format at s (Byte c) stands is =
    let here : IsStep format at (steps.Byte c) = subst (λ (x : Step). IsStep format at x) is stands in
    omega (arith, here.0)
short_within format at s (Plain letter found) stands is =
    let here : IsStep format at (steps.Conv 0 letter found.rank (at + 2)) = subst (λ (x : Step). IsStep format at x) is.0 stands in
    here.1

pub short_left : (levels : ℕ) (v : TimeValues) (t : TmValues) (format : List ℕ) (at : ℕ) (s : Step) (short : Short) → IsStep format at s → IsShort at s short → IsFormatless v t short → text_left levels v t format at ≡ short_text v t short ++ text_left levels v t format (at + width short)
short_left levels v t format at s (Byte c) stands is none =
    let here : IsStep format at (steps.Byte c) = subst (λ (x : Step). IsStep format at x) is stands in
    text_at_byte levels v t format at c (at + 1) here.1
short_left levels v t format at s (Plain letter found) stands is none =
    let here : IsStep format at (steps.Conv 0 letter found.rank (at + 2)) = subst (λ (x : Step). IsStep format at x) is.0 stands in
    let gives = plain_conversion v t (expanded (levels - 1) v t) (conversion 0 letter) found is.1 none in
    text_at_conversion levels v t format at 0 letter found.rank (at + 2) here.2 ∙ ap (λ (x : List ℕ). x ++ text_left levels v t format (at + 2)) gives

pub short_bad : (format : List ℕ) (at : ℕ) (s : Step) (short : Short) → IsStep format at s → IsShort at s short → bad_place (rest_of format at) ≡ bad_place (rest_of format (at + width short))
short_bad format at s (Byte c) stands is =
    let here : IsStep format at (steps.Byte c) = subst (λ (x : Step). IsStep format at x) is stands in
    rw here.1 refl
short_bad format at s (Plain letter found) stands is =
    let here : IsStep format at (steps.Conv 0 letter found.rank (at + 2)) = subst (λ (x : Step). IsStep format at x) is.0 stands in
    rw here.2 refl

-- ---- a conversion without a modifier that stands for a format of the locale

pub inner_left : (levels : ℕ) (v : TimeValues) (t : TmValues) (format : List ℕ) (at : ℕ) (s : Step) (key : TimeText) → IsStep format at s → IsSeen at s (Inner key) → text_left levels v t format at ≡ expanded (levels - 1) v t (format_text v key) ++ text_left levels v t format (at + 2)
inner_left levels v t format at s key stands is =
    let here : IsStep format at (steps.Conv 0 is.0 is.1 (at + 2)) = subst (λ (x : Step). IsStep format at x) is.2 stands in
    let gives = format_conversion v t (expanded (levels - 1) v t) (conversion 0 is.0) (record { rank = is.1; shows = Format key }) (format_text v key) is.3 refl in
    text_at_conversion levels v t format at 0 is.0 is.1 (at + 2) here.2 ∙ ap (λ (x : List ℕ). x ++ text_left levels v t format (at + 2)) gives

pub inner_bad : (format : List ℕ) (at : ℕ) (s : Step) (key : TimeText) → IsStep format at s → IsSeen at s (Inner key) → bad_place (rest_of format at) ≡ bad_place (rest_of format (at + 2))
inner_bad format at s key stands is =
    let here : IsStep format at (steps.Conv 0 is.0 is.1 (at + 2)) = subst (λ (x : Step). IsStep format at x) is.2 stands in
    rw here.2 refl

-- ---- such a conversion at the end of a format, where the other one is read in place of this one

pub inner_ends : (levels : ℕ) (v : TimeValues) (t : TmValues) (format : List ℕ) (at : ℕ) (s : Step) (key : TimeText) → IsStep format at s → IsSeen at s (Inner key) → length format ≤ at + 2 → 1 < levels → text_left levels v t format at ≡ text_left (levels - 1) v t (format_text v key) 0
inner_ends levels v t format at s key stands is end deep =
    let none = text_at_end levels v t format (at + 2) (nothing_left format (at + 2) end) in
    let start = text_at_start (levels - 1) v t (format_text v key) (omega (arith, deep)) in
    inner_left levels v t format at s key stands is ∙ (ap (λ (x : List ℕ). expanded (levels - 1) v t (format_text v key) ++ x) none ∙ (append-nil (expanded (levels - 1) v t (format_text v key)) ∙ sym start))

pub bads_same : (whole : Bool) (left next all : Option ℕ) → left ≡ next → Bads whole left all → Bads whole next all
bads_same whole left next all same bad = subst (λ (x : Option ℕ). Bads whole x all) same bad

pub bads_none : (whole : Bool) (all : Option ℕ) → Bads whole None all → None ≡ all
bads_none true all bad = bad
bads_none false all bad = sym bad

pub bads_here : (whole : Bool) (left all : Option ℕ) → whole ≡ true → Bads whole left all → left ≡ all
bads_here true left all is bad = bad
bads_here false left all is bad = cc

pub bads_elsewhere : (whole : Bool) (left all : Option ℕ) → whole ≡ false → Bads whole left all → None ≡ all
bads_elsewhere true left all is bad = cc
bads_elsewhere false left all is bad = sym bad

pub inner_ends_bad : (whole : Bool) (format : List ℕ) (at : ℕ) (s : Step) (key : TimeText) (all : Option ℕ) → IsStep format at s → IsSeen at s (Inner key) → length format ≤ at + 2 → Bads whole (bad_place (rest_of format at)) all → all ≡ None
inner_ends_bad whole format at s key all stands is end bad =
    let none : bad_place (rest_of format (at + 2)) ≡ None = ap (λ ps. bad_place ps) (nothing_left format (at + 2) end) in
    sym (bads_none whole all (bads_same whole (bad_place (rest_of format at)) None all (inner_bad format at s key stands is ∙ none) bad))
