-- Wrong conversions, and the answers.
use Rattle.std.proofs.Common.{◌≡◌, ℕ, ◌+◌, ◌≤◌, Bool, true, false, cond, eqb, List, [], ◌∷◌, length, Option, Some, None, Ok, refl, sym, ap, subst, arith}
use Rattle.std.specs.List.{list_all}
use Rattle.std.proofs.lemmas.Bool.{eqb-true, false≢true}
use Rattle.time_cat.specs.declared.conversion.TimeConversion.{TimeConversion}
use Rattle.time_cat.specs.declared.step.Step.TheVariants.{Byte, Conv}
use Rattle.time_cat.specs.Conversions.{conversion}
use Rattle.time_cat.specs.Formats.{Piece, Literal, Converted, pieces, rest_of, is_modifier, step_of, modified_step, conversion_step, step}
use Rattle.time_cat.specs.TimeValues.{TimeValues}
use Rattle.strptime_fields.specs.declared.item.Item.{Item}
use Rattle.strptime_fields.specs.Items.{item}
use Rattle.strptime_fields.specs.Keeping.{nothing}
use Rattle.strptime_fields.specs.Scans.{followed, followed_piece, is_known, bad_from, Progress, IsWithin, run, if_known, through, through_item, ended, scan}
use Rattle.strptime_fields.proofs.Through.{byte_piece, known_piece}
use Rattle.strptime_fields.proofs.Shorter.{run_within}

-- ---- the bytes of a conversion

no_modifier_by : (modifier letter : ℕ) (b : Bool) (found : Option Item) (i : Item) → eqb modifier 0 ≡ b → cond b found None ≡ Some i → modifier ≡ 0
no_modifier_by modifier letter true found i is some = eqb-true modifier 0 is
no_modifier_by modifier letter false found i is some = absurd cc

-- a conversion of the table has no modifier
no_modifier : (modifier letter : ℕ) (i : Item) → item modifier letter ≡ Some i → modifier ≡ 0
unfolding item
no_modifier modifier letter i some = no_modifier_by modifier letter (eqb modifier 0) _ i refl some

two_by : (at letter rank next d : ℕ) (o : Option TimeConversion) → Conv 0 letter rank next ≡ step_of 0 d (at + 2) o → next ≡ at + 2
two_by at letter rank next d None is = absurd cc
two_by at letter rank next d (Some c) is = cc

three_by : (at letter rank next d f : ℕ) (o : Option TimeConversion) → is_modifier d ≡ true → Conv 0 letter rank next ≡ step_of d f (at + 3) o → next ≡ at + 2
three_by at letter rank next d f None modifier is = absurd cc
three_by at letter rank next d f (Some c) modifier is =
    let none : d ≡ 0 = cc in
    absurd (false≢true (subst (λ (n : ℕ). is_modifier n ≡ true) none modifier))

modified_by : (at letter rank next d : ℕ) (ds : List ℕ) → is_modifier d ≡ true → Conv 0 letter rank next ≡ modified_step at d ds → next ≡ at + 2
modified_by at letter rank next d [] modifier is = absurd cc
modified_by at letter rank next d (f ∷ fs) modifier is = three_by at letter rank next d f (conversion d f) modifier is

letter_by : (at letter rank next d : ℕ) (ds : List ℕ) (b : Bool) → is_modifier d ≡ b → Conv 0 letter rank next ≡ cond b (modified_step at d ds) (step_of 0 d (at + 2) (conversion 0 d)) → next ≡ at + 2
letter_by at letter rank next d ds true modifier is = modified_by at letter rank next d ds modifier is
letter_by at letter rank next d ds false modifier is = two_by at letter rank next d (conversion 0 d) is

percent_by : (at letter rank next : ℕ) (cs : List ℕ) → Conv 0 letter rank next ≡ conversion_step at cs → next ≡ at + 2
percent_by at letter rank next [] is = absurd cc
percent_by at letter rank next (d ∷ ds) is = letter_by at letter rank next d ds (is_modifier d) refl is

byte_by : (at letter rank next c : ℕ) (cs : List ℕ) (b : Bool) → Conv 0 letter rank next ≡ cond b (conversion_step at cs) (Byte c) → next ≡ at + 2
byte_by at letter rank next c cs true is = percent_by at letter rank next cs is
byte_by at letter rank next c cs false is = absurd cc

two_bytes : (at letter rank next : ℕ) (left : List ℕ) → Conv 0 letter rank next ≡ step at left → next ≡ at + 2
two_bytes at letter rank next [] is = absurd cc
two_bytes at letter rank next (c ∷ cs) is = byte_by at letter rank next c cs (eqb c 37) is

item_by : (v : TimeValues) (follow : List ℕ → List Piece) (o : Option Item) (progress further : Progress) → through_item v follow o progress ≡ Some further → (i : Item) × (o ≡ Some i)
item_by v follow None progress further some = absurd cc
item_by v follow (Some i) progress further some = (i, refl)

-- a conversion of the table takes two bytes
pub next_is : (v : TimeValues) (follow : List ℕ → List Piece) (at modifier letter rank next : ℕ) (left : List ℕ) (progress further : Progress) → Conv modifier letter rank next ≡ step at left
    → through_item v follow (item modifier letter) progress ≡ Some further → next ≡ at + 2
next_is v follow at modifier letter rank next left progress further is some =
    let found = item_by v follow (item modifier letter) progress further some in
    let none = no_modifier modifier letter found.0 found.1 in
    two_bytes at letter rank next left (subst (λ (m : ℕ). Conv m letter rank next ≡ step at left) none is)

-- ---- the first wrong conversion

pub bad_at_byte : (v : TimeValues) (format : List ℕ) (at c next : ℕ) → rest_of format at ≡ Literal c ∷ rest_of format next → bad_from v at (rest_of format at) ≡ bad_from v (at + 1) (rest_of format next)
bad_at_byte v format at c next is =
    let known : list_all is_known (followed_piece v (followed 4 v) (Literal c)) ≡ true = ap (list_all is_known) (byte_piece v (followed 4 v) c) in
    rw is (rw known refl)

pub bad_at_end : (v : TimeValues) (format : List ℕ) (at : ℕ) → rest_of format at ≡ [] → bad_from v at (rest_of format at) ≡ None
bad_at_end v format at is = rw is refl

pub bad_at_known : (v : TimeValues) (format : List ℕ) (at modifier letter rank next : ℕ) (progress further : Progress) → rest_of format at ≡ Converted modifier letter rank ∷ rest_of format next
    → through_item v (followed 4 v) (item modifier letter) progress ≡ Some further → next ≡ at + 2 → bad_from v at (rest_of format at) ≡ bad_from v next (rest_of format next)
bad_at_known v format at modifier letter rank next progress further is some two =
    let known : list_all is_known (followed_piece v (followed 4 v) (Converted modifier letter rank)) ≡ true = known_piece v (followed 4 v) (Converted modifier letter rank) progress further some in
    rw is (rw known (ap (λ (n : ℕ). bad_from v n (rest_of format next)) (sym two)))

-- ---- answers

run_from : (b : Bool) (progress progress' : Progress) → if_known b progress ≡ Some progress' → progress ≡ progress'
run_from true progress progress' is = cc
run_from false progress progress' is = absurd cc

-- a format whose conversions are read
pub scan_read : (v : TimeValues) (format text : List ℕ) (progress : Progress) → bad_from v 0 (pieces format) ≡ None → through v (followed 5 v format) (Ok (text, nothing)) ≡ Some progress → scan v format text ≡ ended text progress
scan_read v format text progress good read =
    let is : run v (Ok (text, nothing)) (followed 5 v format) ≡ progress = run_from (list_all is_known (followed 5 v format)) _ progress read in
    rw (good, is) refl

-- what is left of its text is no longer than the text
pub left_within : (v : TimeValues) (format text : List ℕ) (progress : Progress) → through v (followed 5 v format) (Ok (text, nothing)) ≡ Some progress → IsWithin (length text) progress
left_within v format text progress read =
    let is : run v (Ok (text, nothing)) (followed 5 v format) ≡ progress = run_from (list_all is_known (followed 5 v format)) _ progress read in
    let short : length text ≤ length text = omega arith in
    subst (IsWithin (length text)) is (run_within (length text) v (followed 5 v format) (Ok (text, nothing)) short)
