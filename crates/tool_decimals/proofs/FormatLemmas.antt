-- Formats, one part after another.
use Rattle.std.proofs.Common.{◌≡◌, ◌≤◌, ◌<◌, ◌+◌, ◌-◌, ℕ, zero, suc, List, [], ◌∷◌, length, get_or, take, drop, Some, None, Result, Ok, Err, refl, sym, ap, ◌∙◌, arith, drop-cons, add-one}
use Rattle.std.proofs.lemmas.List.{take_rest, drop_all, drop-drop}
use Rattle.numeric_cat.specs.NumericValues.{NumericValues}
use Rattle.tool_decimals.specs.declared.conversion.DecimalPart.{DecimalPart}
use Rattle.tool_decimals.specs.Conversions.{part}
use Rattle.tool_decimals.specs.Formats.{Refusal, NoNumber, BadFormat, MissingNumber, NotWhole, TooBig, Refuses, and_then, part_text, text_behind, with_text, words_behind}
use Rattle.tool_decimals.specs.declared.fault.NumbersFault.{NumbersFault}
use Rattle.tool_decimals.specs.declared.fault.NumbersFault.TheVariants as faults

-- bytes that belong to a part are passed over
pub passed : (n : NumericValues) (front : List ℕ) (k at : ℕ) (cs : List ℕ) (words : List (List ℕ)) → text_behind n front k at cs words ≡ text_behind n front 0 (at + k) (drop k cs) words
unfolding text_behind
passed n front zero at cs words = ap (λ (a : ℕ). text_behind n front 0 a cs words) (omega arith)
passed n front (suc k) at [] words = refl
passed n front (suc k) at (c ∷ cs) words = passed n front k (at + 1) cs words ∙ ap (λ (a : ℕ). text_behind n front 0 a (drop k cs) words) (omega arith)

-- a text behind others, and why there is none
abbrev behind : NumericValues → ℕ → ℕ → List ℕ → List (List ℕ) → Result (List ℕ) Refusal → Result (List ℕ) Refusal
behind n used at cs words answer = and_then answer (λ text. text_behind n text used (at + 1) cs words)

-- a part in front of a format
part_first : (n : NumericValues) (front : List ℕ) (c : ℕ) (cs : List ℕ) (used at : ℕ) (p : DecimalPart) (words : List (List ℕ)) → part c cs ≡ Some (p, used) →
    text_behind n front 0 at (c ∷ cs) words ≡ behind n used at cs (words_behind p words) (with_text front (part_text n p at (c ∷ take used cs) words))
unfolding text_behind
part_first n front c cs used at p words is = rw (text_behind, is) refl

-- the bytes behind a place
pub rest_of : (bs : List ℕ) (k : ℕ) → take (length bs - k) (drop k bs) ≡ drop k bs
rest_of bs k = take_rest bs k

-- what follows from the refusal of a text
pub passed_on : (e : NumbersFault) (answer total : Result (List ℕ) Refusal) → ((why : Refusal) → answer ≡ Err why → total ≡ Err why) → Refuses e answer → Refuses e total
passed_on (faults.NoNumber word) answer total f is = f (NoNumber word.now) is
passed_on (faults.BadFormat at) answer total f is = f (BadFormat at) is
passed_on (faults.MissingNumber at) answer total f is = f (MissingNumber at) is
passed_on (faults.NotWhole word) answer total f is = f (NotWhole word.now) is
passed_on faults.TooBig answer total f is = f TooBig is
passed_on faults.Memory answer total f is = is

pub with_refused : (e : NumbersFault) (front : List ℕ) (answer : Result (List ℕ) Refusal) → Refuses e answer → Refuses e (with_text front answer)
with_refused e front answer is = passed_on e answer (with_text front answer) (λ (why : Refusal) (h : answer ≡ Err why). rw h refl) is

drop_drop : (at used : ℕ) (format : List ℕ) → drop used (drop (at + 1) format) ≡ drop (at + (1 + used)) format
drop_drop at used format = drop-drop used (at + 1) format ∙ ap (λ (k : ℕ). drop k format) (omega arith)

first_at : (format : List ℕ) (at : ℕ) → at < length format → drop at format ≡ get_or format at 0 ∷ drop (at + 1) format
first_at format at below = rw (add-one, drop-cons format at 0) refl

take_first : (used c : ℕ) (cs : List ℕ) → take (1 + used) (c ∷ cs) ≡ c ∷ take used cs
take_first used c cs = let e : 1 + used ≡ suc used = omega arith in rw e refl

-- a part in front of the rest of a format
part_there : (n : NumericValues) (front format : List ℕ) (at used : ℕ) (p : DecimalPart) (words : List (List ℕ)) → at < length format → part (get_or format at 0) (drop (at + 1) format) ≡ Some (p, used) →
    text_behind n front 0 at (drop at format) words ≡ behind n used at (drop (at + 1) format) (words_behind p words) (with_text front (part_text n p at (take (1 + used) (drop at format)) words))
part_there n front format at used p words below is =
    let e : drop at format ≡ get_or format at 0 ∷ drop (at + 1) format = first_at format at below in
    ap (λ (bs : List ℕ). text_behind n front 0 at bs words) e
    ∙ part_first n front (get_or format at 0) (drop (at + 1) format) used at p words is
    ∙ ap (λ (bs : List ℕ). behind n used at (drop (at + 1) format) (words_behind p words) (with_text front (part_text n p at bs words)))
    (sym (ap (λ (bs : List ℕ). take (1 + used) bs) e ∙ take_first used (get_or format at 0) (drop (at + 1) format)))

none_first : (n : NumericValues) (front : List ℕ) (c : ℕ) (cs : List ℕ) (at : ℕ) (words : List (List ℕ)) → part c cs ≡ None → text_behind n front 0 at (c ∷ cs) words ≡ Err (BadFormat at)
unfolding text_behind
none_first n front c cs at words is = rw (text_behind, is) refl

pub one_more_part : (n : NumericValues) (front front' format : List ℕ) (at used : ℕ) (p : DecimalPart) (words : List (List ℕ)) → at < length format →
    Some (p, used) ≡ part (get_or format at 0) (drop (at + 1) format) → with_text front (part_text n p at (take (1 + used) (drop at format)) words) ≡ Ok front' →
    text_behind n front' 0 (at + (1 + used)) (drop (at + (1 + used)) format) (words_behind p words) ≡ text_behind n front 0 at (drop at format) words
one_more_part n front front' format at used p words below is text =
    sym (part_there n front format at used p words below (sym is)
    ∙ ap (λ (t : Result (List ℕ) Refusal). behind n used at (drop (at + 1) format) (words_behind p words) t) text
    ∙ passed n front' used (at + 1) (drop (at + 1) format) (words_behind p words)
    ∙ ap (λ (bs : List ℕ). text_behind n front' 0 (at + 1 + used) bs (words_behind p words)) (drop_drop at used format)
    ∙ ap (λ (a : ℕ). text_behind n front' 0 a (drop (at + (1 + used)) format) (words_behind p words)) (omega arith))

pub no_part : (n : NumericValues) (front format : List ℕ) (at : ℕ) (words : List (List ℕ)) → at < length format → None ≡ part (get_or format at 0) (drop (at + 1) format) → text_behind n front 0 at (drop at format) words ≡ Err (BadFormat at)
no_part n front format at words below is =
    ap (λ (bs : List ℕ). text_behind n front 0 at bs words) (first_at format at below) ∙ none_first n front (get_or format at 0) (drop (at + 1) format) at words (sym is)

pub no_text : (e : NumbersFault) (n : NumericValues) (front format : List ℕ) (at used : ℕ) (p : DecimalPart) (words : List (List ℕ)) → at < length format →
    Some (p, used) ≡ part (get_or format at 0) (drop (at + 1) format) → Refuses e (with_text front (part_text n p at (take (1 + used) (drop at format)) words)) →
    Refuses e (text_behind n front 0 at (drop at format) words)
no_text e n front format at used p words below is refused =
    passed_on e (with_text front (part_text n p at (take (1 + used) (drop at format)) words)) (text_behind n front 0 at (drop at format) words)
    (λ (why : Refusal) (h : with_text front (part_text n p at (take (1 + used) (drop at format)) words) ≡ Err why).
    part_there n front format at used p words below (sym is) ∙ ap (λ (t : Result (List ℕ) Refusal). behind n used at (drop (at + 1) format) (words_behind p words) t) h)
    refused

-- behind the last part
pub all_parts : (n : NumericValues) (front format : List ℕ) (at : ℕ) (words : List (List ℕ)) → length format ≤ at → text_behind n front 0 at (drop at format) words ≡ Ok front
unfolding text_behind
all_parts n front format at words behind = let e : drop at format ≡ [] = drop_all at format behind in rw e refl
