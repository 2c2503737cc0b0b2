-- How the reading of formats within formats goes on, and how it ends.
use Rattle.std.proofs.Common.{◌≡◌, ℕ, ◌+◌, ◌-◌, ◌<◌, ◌≤◌, Bool, true, false, List, [], ◌∷◌, ◌++◌, Option, Some, None, Result, Ok, Err, IfOk, refl, sym, ap, ◌∙◌, subst, arith, length, drop, length-append, length-drop}
use Rattle.std.proofs.lemmas.Bool.{ne_eqb}
use Rattle.time_cat.specs.declared.conversion.TimeText.{TimeText}
use Rattle.time_cat.specs.Conversions.{conversion}
use Rattle.time_cat.specs.declared.step.Step.TheVariants as steps
use Rattle.time_cat.specs.Formats.{pieces, rest_of, bad_place, step, counted, IsStep}
use Rattle.time_cat.specs.Times.{TmValues}
use Rattle.time_cat.specs.TimeValues.{TimeValues, format_text}
use Rattle.time_cat.specs.Shown.{expanded, converted}
use Rattle.strftime_fields.specs.declared.stop.Stop.{Stop}
use Rattle.strftime_fields.specs.declared.stop.Stop.TheVariants as stops_
use Rattle.strftime_fields.specs.declared.read.Short.{Short}
use Rattle.strftime_fields.specs.declared.read.Short.TheVariants.{Byte}
use Rattle.strftime_fields.specs.declared.read.Seen.TheVariants.{Inner}
use Rattle.strftime_fields.specs.Appending.{Appends}
use Rattle.strftime_fields.specs.Cost.{read_for, reads, CountsTo}
use Rattle.strftime_fields.specs.Reading.{IsShort, IsFormatless, IsSeen, width, short_text}
use Rattle.strftime_fields.specs.Going.{Place, Stands, text_left, reads_left, text_of, reads_of, bad_of, added, Goes, Ends}
use Rattle.strftime_fields.specs.Kept.{Kind, kept}
use Rattle.strftime_fields.proofs.Adding.{longer, goes_on, stops, ends}
use Rattle.strftime_fields.proofs.Keeping.{kept_length}
use Rattle.strftime_fields.proofs.Left.{behind, stands_here, short_within, short_left, short_bad, inner_ends, inner_ends_bad, text_at_start, text_at_end, text_at_wrong, text_at_byte, text_at_conversion, pieces_at_start, bads_same, bads_none, bads_here, bads_elsewhere}
use Rattle.strftime_fields.proofs.Counting.{short_reads, inner_ends_reads, reads_at_start, reads_at_end, reads_at_wrong, reads_at_byte, reads_at_conversion, none_left, counts_same, counts_stop}

-- ---- on

-- one way behind another
pub goes_both : (kind : Kind) (max : ℕ) (v : TimeValues) (t : TmValues) (out : List ℕ) (n : ℕ) (p : Place) (out' : List ℕ) (n' : ℕ) (p' : Place) (out'' : List ℕ) (n'' : ℕ) (p'' : Place)
    → Goes kind max v t out n p out' n' p' → Goes kind max v t out' n' p' out'' n'' p'' → Goes kind max v t out n p out'' n'' p''
goes_both kind max v t out n p out' n' p' out'' n'' p'' one other = record {
  text = other.text ∙ one.text;
  steps = other.steps ∙ one.steps;
  bad = λ all bad. other.bad all (one.bad all bad);
  stands = other.stands;
  deep = omega (arith, one.deep, other.deep);
  less = omega (arith, one.less, other.less);
}

-- no way
pub goes_nowhere : (kind : Kind) (max : ℕ) (v : TimeValues) (t : TmValues) (out : List ℕ) (n : ℕ) (p : Place) → Stands p → Goes kind max v t out n p out n p
goes_nowhere kind max v t out n p at = record { text = refl; steps = refl; bad = λ all bad. bad; stands = at; deep = omega arith; less = omega arith }

-- the same place, whatever names its parts
abbrev pub moved : Place → List ℕ → Place
moved p next = record { format = p.format; rest = next; levels = p.levels; whole = p.whole }

-- a piece that is told at first sight
pub goes_short : (kind : Kind) (max : ℕ) (v : TimeValues) (t : TmValues) (out new : List ℕ) (n n' : ℕ) (p : Place) (next : List ℕ) (short : Short)
    → Stands p → IsShort (length p.format - length p.rest) (step (length p.format - length p.rest) p.rest) short → IsFormatless v t short → length out ≤ max
    → new ≡ out ++ kept kind (short_text v t short) → n' ≡ n + counted (step (length p.format - length p.rest) p.rest) → next ≡ drop (width short) p.rest
    → Goes kind max v t out n p new n' (moved p next)
goes_short kind max v t out new n n' p next short at piece formatless fits grown counts cut =
    let here = step (length p.format - length p.rest) p.rest in
    let stands : IsStep p.format (length p.format - length p.rest) here = stands_here p.format p.rest (length p.format - length p.rest) at.left in
    let within = short_within p.format (length p.format - length p.rest) here short stands piece in
    let left = short_left p.levels v t p.format (length p.format - length p.rest) here short stands piece formatless in
    let more = short_reads max p.levels v t (length out) p.format (length p.format - length p.rest) here short stands piece formatless fits in
    let behind = behind p.format p.rest next (width short) at.left at.within (omega (arith, within, at.within)) cut in
    let more_long : length new ≡ length out + length (short_text v t short) = longer kind out new (short_text v t short) grown in
    record {
      text = rw behind.1 (goes_on kind out (kept kind (text_of v t p)) out new (short_text v t short) (text_left p.levels v t p.format ((length p.format - length p.rest) + width short)) (ap (λ x. out ++ kept kind x) (sym left)) grown);
      steps = rw (behind.1, more_long) (omega (arith, more, counts));
      bad = λ all bad. rw behind.1 (bads_same p.whole _ _ _ (short_bad p.format (length p.format - length p.rest) here short stands piece) bad);
      stands = record { within = behind.0; left = behind.2; some = at.some };
      deep = omega arith;
      less = omega (arith, behind.3);
    }

-- a byte that stands for itself
is_byte : (at c : ℕ) (cs : List ℕ) → (c ≡ 37 → ⊥) → step at (c ∷ cs) ≡ steps.Byte c
is_byte at c cs other = let b = ne_eqb c 37 other in rw b refl

pub goes_byte : (kind : Kind) (max : ℕ) (v : TimeValues) (t : TmValues) (out new : List ℕ) (n : ℕ) (p : Place) (next : List ℕ) (c : ℕ) (cs : List ℕ)
    → Stands p → p.rest ≡ c ∷ cs → (c ≡ 37 → ⊥) → length out ≤ max → new ≡ out ++ kept kind (c ∷ []) → next ≡ drop 1 p.rest → Goes kind max v t out n p new n (moved p next)
goes_byte kind max v t out new n p next c cs at begins other fits grown cut =
    let here : step (length p.format - length p.rest) p.rest ≡ steps.Byte c = ap (step (length p.format - length p.rest)) begins ∙ is_byte (length p.format - length p.rest) c cs other in
    goes_short kind max v t out new n n p next (Byte c) at here tt fits grown (omega (arith, ap counted here)) cut

-- a format of the locale that ends this one
pub goes_inner : (kind : Kind) (max : ℕ) (v : TimeValues) (t : TmValues) (out : List ℕ) (n n' : ℕ) (p : Place) (format : List ℕ) (key : TimeText)
    → Stands p → IsSeen (length p.format - length p.rest) (step (length p.format - length p.rest) p.rest) (Inner key) → length out ≤ max → length p.rest ≡ 2 → 1 < p.levels
    → format ≡ format_text v key → n' ≡ n + 1 → length format < 18446744073709551616
    → Goes kind max v t out n p out n' (record { format = format; rest = format; levels = p.levels - 1; whole = false })
goes_inner kind max v t out n n' p format key at seen fits end deep is counts small =
    let here = step (length p.format - length p.rest) p.rest in
    let stands : IsStep p.format (length p.format - length p.rest) here = stands_here p.format p.rest (length p.format - length p.rest) at.left in
    let start : length format - length format ≡ 0 = omega arith in
    let last : length p.format ≤ (length p.format - length p.rest) + 2 = omega (arith, end, at.within) in
    let left = rw (sym is) at (inner_ends p.levels v t p.format (length p.format - length p.rest) here key stands seen last deep) in
    let more = rw (sym is) at (inner_ends_reads max p.levels v t (length out) p.format (length p.format - length p.rest) here key stands seen fits last deep) in
    record {
      text = rw start (ap (λ x. out ++ kept kind x) (sym left));
      steps = rw start (omega (arith, more, counts, ap counted seen.2));
      bad = λ all bad. inner_ends_bad p.whole p.format (length p.format - length p.rest) here key all stands seen last bad;
      stands = record { within = omega arith; left = rw start refl; some = omega arith };
      deep = omega arith;
      less = omega (arith, small);
    }

-- ---- on by a step that is read as a whole

pub goes_literal : (kind : Kind) (max : ℕ) (v : TimeValues) (t : TmValues) (out new : List ℕ) (n : ℕ) (p : Place) (next : List ℕ) (c : ℕ)
    → Stands p → IsStep p.format (length p.format - length p.rest) (steps.Byte c) → new ≡ out ++ kept kind (c ∷ []) → next ≡ drop 1 p.rest → Goes kind max v t out n p new n (moved p next)
goes_literal kind max v t out new n p next c at stands grown cut =
    let left = text_at_byte p.levels v t p.format (length p.format - length p.rest) c ((length p.format - length p.rest) + 1) stands.1 in
    let more = reads_at_byte max p.levels v t (length out) p.format (length p.format - length p.rest) c ((length p.format - length p.rest) + 1) stands.1 in
    let behind = behind p.format p.rest next 1 at.left at.within (omega (arith, stands.0, at.within)) cut in
    let more_long : length new ≡ length out + 1 = longer kind out new (c ∷ []) grown in
    record {
      text = rw behind.1 (goes_on kind out (kept kind (text_of v t p)) out new (c ∷ []) (text_left p.levels v t p.format ((length p.format - length p.rest) + 1)) (ap (λ x. out ++ kept kind x) (sym left)) grown);
      steps = rw (behind.1, more_long) (omega (arith, more));
      bad = λ all bad. rw behind.1 (bads_same p.whole _ _ _ (ap (λ ps. bad_place ps) stands.1) bad);
      stands = record { within = behind.0; left = behind.2; some = at.some };
      deep = omega arith;
      less = omega (arith, behind.3);
    }

pub goes_conversion : (kind : Kind) (max : ℕ) (v : TimeValues) (t : TmValues) (out new : List ℕ) (n n' : ℕ) (p : Place) (rest : List ℕ) (modifier letter rank next : ℕ)
    → Stands p → IsStep p.format (length p.format - length p.rest) (steps.Conv modifier letter rank next) → length out ≤ max
    → new ≡ out ++ kept kind (converted v t (expanded (p.levels - 1) v t) (conversion modifier letter))
    → n' ≡ n + 1 + read_for v t (reads max (p.levels - 1) v t (length out)) (conversion modifier letter)
    → rest ≡ drop next p.format → Goes kind max v t out n p new n' (moved p rest)
goes_conversion kind max v t out new n n' p rest modifier letter rank next at stands fits grown counts cut =
    let piece = converted v t (expanded (p.levels - 1) v t) (conversion modifier letter) in
    let left = text_at_conversion p.levels v t p.format (length p.format - length p.rest) modifier letter rank next stands.2 in
    let more = reads_at_conversion max p.levels v t (length out) p.format (length p.format - length p.rest) modifier letter rank next stands.2 fits in
    let more_long : length new ≡ length out + length piece = longer kind out new piece grown in
    let long : length rest ≡ length p.format - next = ap length cut ∙ length-drop next p.format in
    let place : length p.format - length rest ≡ next = omega (arith, long, stands.1) in
    record {
      text = rw place (goes_on kind out (kept kind (text_of v t p)) out new piece (text_left p.levels v t p.format next) (ap (λ x. out ++ kept kind x) (sym left)) grown);
      steps = rw (place, more_long) (omega (arith, more, counts));
      bad = λ all bad. rw place (bads_same p.whole _ _ _ (ap (λ ps. bad_place ps) stands.2) bad);
      stands = record { within = omega (arith, long); left = rw place cut; some = at.some };
      deep = omega arith;
      less = omega (arith, long, stands.0, stands.1, at.within);
    }

-- ---- to an end

-- nothing is left
pub ends_all : (kind : Kind) (max : ℕ) (v : TimeValues) (t : TmValues) (out : List ℕ) (n : ℕ) (p : Place) (out' : List ℕ) (n' : ℕ) (p' : Place)
    → Goes kind max v t out n p out' n' p' → rest_of p'.format (length p'.format - length p'.rest) ≡ [] → length out' ≤ max → Ends kind max v t out n p out' n' (Ok None)
ends_all kind max v t out n p out' n' p' goes none short =
    let text = text_at_end p'.levels v t p'.format (length p'.format - length p'.rest) none in
    let read = reads_at_end max p'.levels v t (length out') p'.format (length p'.format - length p'.rest) none in
    record {
      text = ends kind max out (text_of v t p) out' (text_of v t p') goes.text text short;
      steps = omega (arith, read, goes.steps);
      bad = λ found all is bad. (let same : found ≡ None = cc in same) ∙ bads_none p'.whole all (bads_same p'.whole _ _ _ (ap (λ ps. bad_place ps) none) (goes.bad all bad));
    }

-- a `%` begins no conversion, in the caller's format or in another
pub ends_wrong : (kind : Kind) (max : ℕ) (v : TimeValues) (t : TmValues) (out : List ℕ) (n : ℕ) (p : Place) (out' : List ℕ) (n' : ℕ) (p' : Place)
    → Goes kind max v t out n p out' n' p' → IsStep p'.format (length p'.format - length p'.rest) steps.Bad → p'.whole ≡ true → length out' ≤ max → Ends kind max v t out n p out' n' (Ok (Some (length p'.format - length p'.rest)))
ends_wrong kind max v t out n p out' n' p' goes wrong whole short =
    let text = text_at_wrong p'.levels v t p'.format (length p'.format - length p'.rest) wrong in
    let read = reads_at_wrong max p'.levels v t (length out') p'.format (length p'.format - length p'.rest) wrong in
    record {
      text = ends kind max out (text_of v t p) out' (text_of v t p') goes.text text short;
      steps = omega (arith, read, goes.steps);
      bad = λ found all is bad. (let same : found ≡ Some (length p'.format - length p'.rest) = cc in same) ∙ (sym (ap (λ ps. bad_place ps) wrong) ∙ bads_here p'.whole (bad_of p') all whole (goes.bad all bad));
    }

pub ends_wrong_inside : (kind : Kind) (max : ℕ) (v : TimeValues) (t : TmValues) (out : List ℕ) (n : ℕ) (p : Place) (out' : List ℕ) (n' : ℕ) (p' : Place)
    → Goes kind max v t out n p out' n' p' → IsStep p'.format (length p'.format - length p'.rest) steps.Bad → p'.whole ≡ false → length out' ≤ max → Ends kind max v t out n p out' n' (Ok None)
ends_wrong_inside kind max v t out n p out' n' p' goes wrong whole short =
    let text = text_at_wrong p'.levels v t p'.format (length p'.format - length p'.rest) wrong in
    let read = reads_at_wrong max p'.levels v t (length out') p'.format (length p'.format - length p'.rest) wrong in
    record {
      text = ends kind max out (text_of v t p) out' (text_of v t p') goes.text text short;
      steps = omega (arith, read, goes.steps);
      bad = λ found all is bad. (let same : found ≡ None = cc in same) ∙ bads_elsewhere p'.whole (bad_of p') all whole (goes.bad all bad);
    }

-- a piece can't be added
pub ends_byte : (kind : Kind) (max : ℕ) (v : TimeValues) (t : TmValues) (out : List ℕ) (n : ℕ) (p : Place) (out' : List ℕ) (n' : ℕ) (p' : Place) (new : List ℕ) (c : ℕ) (e : Stop)
    → Goes kind max v t out n p out' n' p' → IsStep p'.format (length p'.format - length p'.rest) (steps.Byte c) → Appends kind max out' (c ∷ []) new (Err e) → Ends kind max v t out n p new n' (Err e)
ends_byte kind max v t out n p out' n' p' new c e goes stands stopped =
    let left = text_at_byte p'.levels v t p'.format (length p'.format - length p'.rest) c ((length p'.format - length p'.rest) + 1) stands.1 in
    let more = reads_at_byte max p'.levels v t (length out') p'.format (length p'.format - length p'.rest) c ((length p'.format - length p'.rest) + 1) stands.1 in
    let rest = reads_left max p'.levels v t (length out' + 1) p'.format ((length p'.format - length p'.rest) + 1) in
    record {
      text = stops kind max out (text_of v t p) out' new new (c ∷ []) (text_left p'.levels v t p'.format ((length p'.format - length p'.rest) + 1)) e (ap (λ x. out' ++ kept kind x) (sym left) ∙ goes.text) stopped;
      steps = counts_stop kind max out' (c ∷ []) new e n' rest _ _ stopped (counts_same (Err e) n' _ refl) (omega (arith, more, goes.steps)) (λ long. none_left max p'.levels v t (length out' + 1) p'.format ((length p'.format - length p'.rest) + 1) long);
      bad = λ found all is bad. cc;
    }

pub ends_conversion : (kind : Kind) (max : ℕ) (v : TimeValues) (t : TmValues) (out : List ℕ) (n : ℕ) (p : Place) (out' : List ℕ) (n' : ℕ) (p' : Place) (new : List ℕ) (steps' : ℕ) (modifier letter rank next : ℕ) (e : Stop)
    → Goes kind max v t out n p out' n' p' → IsStep p'.format (length p'.format - length p'.rest) (steps.Conv modifier letter rank next) → length out' ≤ max
    → Appends kind max out' (converted v t (expanded (p'.levels - 1) v t) (conversion modifier letter)) new (Err e)
    → CountsTo (Err e) (n' + 1 + read_for v t (reads max (p'.levels - 1) v t (length out')) (conversion modifier letter)) steps'
    → Ends kind max v t out n p new steps' (Err e)
ends_conversion kind max v t out n p out' n' p' new steps' modifier letter rank next e goes stands fits stopped counts =
    let piece = converted v t (expanded (p'.levels - 1) v t) (conversion modifier letter) in
    let left = text_at_conversion p'.levels v t p'.format (length p'.format - length p'.rest) modifier letter rank next stands.2 in
    let more = reads_at_conversion max p'.levels v t (length out') p'.format (length p'.format - length p'.rest) modifier letter rank next stands.2 fits in
    let rest = reads_left max p'.levels v t (length out' + length piece) p'.format next in
    record {
      text = stops kind max out (text_of v t p) out' new new piece (text_left p'.levels v t p'.format next) e (ap (λ x. out' ++ kept kind x) (sym left) ∙ goes.text) stopped;
      steps = counts_stop kind max out' piece new e _ rest _ _ stopped counts (omega (arith, more, goes.steps)) (λ long. none_left max p'.levels v t (length out' + length piece) p'.format next long);
      bad = λ found all is bad. cc;
    }

-- ---- from the beginning

pub begins_text : (v : TimeValues) (t : TmValues) (levels : ℕ) (format : List ℕ) (whole : Bool) → 0 < levels → text_of v t (record { format = format; rest = format; levels = levels; whole = whole }) ≡ expanded levels v t format
begins_text v t levels format whole some = let start : length format - length format ≡ 0 = omega arith in rw start (text_at_start levels v t format some)

pub begins_reads : (max : ℕ) (v : TimeValues) (t : TmValues) (before levels : ℕ) (format : List ℕ) (whole : Bool) → 0 < levels → reads_of max v t before (record { format = format; rest = format; levels = levels; whole = whole }) ≡ reads max levels v t before format
begins_reads max v t before levels format whole some = let start : length format - length format ≡ 0 = omega arith in rw start (reads_at_start max levels v t before format some)

pub begins_bad : (levels : ℕ) (format : List ℕ) → bad_of (record { format = format; rest = format; levels = levels; whole = true }) ≡ bad_place (pieces format)
begins_bad levels format = let start : length format - length format ≡ 0 = omega arith in rw start (ap (λ ps. bad_place ps) (pieces_at_start format))

pub begins : (levels : ℕ) (format : List ℕ) (whole : Bool) → 0 < levels → Stands (record { format = format; rest = format; levels = levels; whole = whole })
begins levels format whole some = let start : length format - length format ≡ 0 = omega arith in record { within = omega arith; left = rw start refl; some = some }

-- on to a place, and from there to an end
appends_behind : (kind : Kind) (max : ℕ) (out text out' text' new : List ℕ) (r : Result (Unit {0}) Stop) → out' ++ kept kind text' ≡ out ++ kept kind text → Appends kind max out' text' new r → Appends kind max out text new r
appends_behind kind max out text out' text' new (Ok u) same is = (is.0 ∙ same, is.1)
appends_behind kind max out text out' text' new (Err stops_.TooBig) same is = omega (arith, is, ap length same, length-append out (kept kind text), length-append out' (kept kind text'), kept_length kind text, kept_length kind text')
appends_behind kind max out text out' text' new (Err stops_.Memory) same is = is

pub ends_behind : (kind : Kind) (max : ℕ) (v : TimeValues) (t : TmValues) (out : List ℕ) (n : ℕ) (p : Place) (out' : List ℕ) (n' : ℕ) (p' : Place) (out'' : List ℕ) (n'' : ℕ) (r : Result (Option ℕ) Stop)
    → Goes kind max v t out n p out' n' p' → Ends kind max v t out' n' p' out'' n'' r → Ends kind max v t out n p out'' n'' r
ends_behind kind max v t out n p out' n' p' out'' n'' r goes end = record {
  text = appends_behind kind max out (text_of v t p) out' (text_of v t p') out'' (added r) goes.text end.text;
  steps = subst (λ (m : ℕ). CountsTo (added r) m n'') goes.steps end.steps;
  bad = λ found all is bad. end.bad found all is (goes.bad all bad);
}

-- what it is of a whole format
pub whole_text : (kind : Kind) (max : ℕ) (v : TimeValues) (t : TmValues) (out : List ℕ) (n levels : ℕ) (format out' : List ℕ) (n' : ℕ) (r : Result (Option ℕ) Stop) → 0 < levels
    → Ends kind max v t out n (record { format = format; rest = format; levels = levels; whole = true }) out' n' r → Appends kind max out (expanded levels v t format) out' (added r)
whole_text kind max v t out n levels format out' n' r some end = subst (λ (x : List ℕ). Appends kind max out x out' (added r)) (begins_text v t levels format true some) end.text

pub whole_reads : (kind : Kind) (max : ℕ) (v : TimeValues) (t : TmValues) (out : List ℕ) (n levels : ℕ) (format out' : List ℕ) (n' : ℕ) (r : Result (Option ℕ) Stop) → 0 < levels
    → Ends kind max v t out n (record { format = format; rest = format; levels = levels; whole = true }) out' n' r → CountsTo (added r) (n + reads max levels v t (length out) format) n'
whole_reads kind max v t out n levels format out' n' r some end = subst (λ (m : ℕ). CountsTo (added r) (n + m) n') (begins_reads max v t (length out) levels format true some) end.steps

pub whole_bad : (kind : Kind) (max : ℕ) (v : TimeValues) (t : TmValues) (out : List ℕ) (n levels : ℕ) (format out' : List ℕ) (n' : ℕ) (r : Result (Option ℕ) Stop)
    → Ends kind max v t out n (record { format = format; rest = format; levels = levels; whole = true }) out' n' r → IfOk r (λ bad. 0 < levels → bad ≡ bad_place (pieces format))
whole_bad kind max v t out n levels format out' n' (Ok found) end = λ some. end.bad found (bad_place (pieces format)) refl (begins_bad levels format)
whole_bad kind max v t out n levels format out' n' (Err e) end = tt
