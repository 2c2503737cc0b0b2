-- What follows from a value or a problem, and words that are answered one by one.
use Rattle.std.proofs.Common.{◌≡◌, ◌<◌, ◌+◌, map, length, get_or, drop, arith, ℕ, List, [], ◌∷◌, ◌++◌, Option, Some, None, Ok, Err, refl, sym, ap, ◌∙◌, append_assoc}
use Rattle.std.proofs.lemmas.List.{append-nil, at_drop_more}
use Rattle.tool_messages.specs.declared.answer.Problem.{Problem}
use Rattle.tool_messages.specs.declared.answer.Problem.TheVariants.{Refused, Usage, Memory}
use Rattle.tool_reads.specs.Answers.{Cause, WrongWord, Defined, Tells, IsOf, beside, and_then, value_or_wrong, all_of, each_of}

-- a problem of the kind that there is
pub told : {A : Type 0} (problem : Problem) (cause : Cause) (defined : Defined A) → IsOf problem cause → defined ≡ Err cause → Tells problem defined
told Memory cause defined is known = is
told {A} (Usage message) cause defined is known = known ∙ ap {B = Defined A} (λ (c : Cause). Err c) is
told {A} (Refused message) cause defined is known = known ∙ ap {B = Defined A} (λ (c : Cause). Err c) is

-- where a value has a problem, so has what follows from it
pub passed_on : {A B : Type 0} (problem : Problem) (defined : Defined A) (f : A → Defined B) → Tells problem defined → Tells problem (and_then defined f)
passed_on Memory defined f told = told
passed_on (Usage message) defined f told = rw told refl
passed_on (Refused message) defined f told = rw told refl

regroup : {A : Type 0} (front more : List A) (later : Defined (List A)) → beside (front ++ more) later ≡ beside front (beside more later)
regroup {A} front more (Ok xs) = ap {B = Defined (List A)} (λ (x : List A). Ok x) (append_assoc front more xs)
regroup {A} front more (Err cause) = refl

-- one more word that has a value
pub one_more_value : {A : Type 0} (read : List ℕ → Option A) (word : List ℕ) (words : List (List ℕ)) (front front' : List A) (x : A) (total : Defined (List A)) → read word ≡ Some x → front' ≡ front ++ x ∷ [] → beside front (all_of read (word ∷ words)) ≡ total → beside front' (all_of read words) ≡ total
one_more_value {A} read word words front front' x total is pushed so_far =
    ap (λ (xs : List A). beside xs (all_of read words)) pushed
    ∙ regroup front (x ∷ []) (all_of read words)
    ∙ sym (ap (λ (o : Option A). beside front (and_then (value_or_wrong o) (λ y. beside (y ∷ []) (all_of read words)))) is)
    ∙ so_far

-- a word that has none
pub wrong_value : {A : Type 0} (read : List ℕ → Option A) (word : List ℕ) (words : List (List ℕ)) (front : List A) (total : Defined (List A)) → read word ≡ None → beside front (all_of read (word ∷ words)) ≡ total → total ≡ Err WrongWord
wrong_value {A} read word words front total is so_far =
    sym so_far ∙ ap (λ (o : Option A). beside front (and_then (value_or_wrong o) (λ y. beside (y ∷ []) (all_of read words)))) is

-- behind the last word
pub last_value : {A : Type 0} (read : List ℕ → Option A) (front : List A) (total : Defined (List A)) → beside front (all_of read []) ≡ total → total ≡ Ok front
last_value {A} read front total so_far = sym so_far ∙ ap {B = Defined (List A)} (λ (x : List A). Ok x) (append-nil front)

-- the text that is defined
abbrev text_of : Defined (List ℕ) → List ℕ
text_of (Ok text) = text
text_of (Err cause) = []

-- a text that was added, and what stands behind it
added : (d later : Defined (List ℕ)) (front front' : List ℕ) → beside front d ≡ Ok front' → beside front (and_then d (λ (text : List ℕ). beside text later)) ≡ beside front' later
added (Ok text) later front front' is = sym (regroup front text later) ∙ ap (λ (f : List ℕ). beside f later) (ap text_of is)
added (Err cause) later front front' is = absurd (cc)

-- one more word that has a line
pub one_more_line : (print : List ℕ → Defined (List ℕ)) (word : List ℕ) (words : List (List ℕ)) (front front' : List ℕ) (total : Defined (List ℕ)) → beside front (print word) ≡ Ok front' → beside front (each_of print (word ∷ words)) ≡ total → beside front' (each_of print words) ≡ total
one_more_line print word words front front' total is so_far = sym (added (print word) (each_of print words) front front' is) ∙ so_far

-- a word that has none
pub no_line : (problem : Problem) (print : List ℕ → Defined (List ℕ)) (word : List ℕ) (words : List (List ℕ)) (front : List ℕ) (total : Defined (List ℕ)) → Tells problem (print word) → beside front (each_of print (word ∷ words)) ≡ total → Tells problem total
no_line Memory print word words front total told so_far = told
no_line (Usage message) print word words front total told so_far =
    sym so_far ∙ ap (λ (d : Defined (List ℕ)). beside front (and_then d (λ (text : List ℕ). beside text (each_of print words)))) told
no_line (Refused message) print word words front total told so_far =
    sym so_far ∙ ap (λ (d : Defined (List ℕ)). beside front (and_then d (λ (text : List ℕ). beside text (each_of print words)))) told

-- behind the last word
pub last_line : (print : List ℕ → Defined (List ℕ)) (front : List ℕ) (total : Defined (List ℕ)) → beside front (each_of print []) ≡ total → total ≡ Ok front
last_line print front total so_far = sym so_far ∙ ap {B = Defined (List ℕ)} (λ (x : List ℕ). Ok x) (append-nil front)

-- the line of the next word of a list is added
pub line_step : {W : Type 0} (text : W → List ℕ) (print : List ℕ → Defined (List ℕ)) (words : List W) (i : ℕ) (other : W) (front front' : List ℕ) (total : Defined (List ℕ)) → i < length words → beside front (print (text (get_or words i other))) ≡ Ok front' → beside front (each_of print (map text (drop i words))) ≡ total → beside front' (each_of print (map text (drop (i + 1) words))) ≡ total
line_step text print words i other front front' total below is so_far =
    one_more_line print (text (get_or words i other)) (map text (drop (i + 1) words)) front front' total is
    (sym (at_drop_more (λ ws. beside front (each_of print (map text ws))) words i other below) ∙ so_far)

-- without words there are no texts of words
pub none_left : {W : Type 0} (text : W → List ℕ) (words : List W) → length words < 1 → map text words ≡ []
none_left text [] none = refl
none_left text (w ∷ ws) none = absurd (omega arith)

-- the names of rows are those of the table that the rows are
pub names_of_rows : {N V : Type 0} (bytes : N → List ℕ) (rows : List (N × V)) (table : List (List ℕ × V)) → map (λ row. (bytes row.0, row.1)) rows ≡ table → map (λ row. bytes row.0) rows ≡ map (λ row. row.0) table
names_of_rows bytes [] table is = ap (map (λ row. row.0)) is
names_of_rows bytes (row ∷ rows) table is = ap (λ names. bytes row.0 ∷ names) (names_of_rows bytes rows (map (λ row. (bytes row.0, row.1)) rows) refl) ∙ ap (map (λ row. row.0)) is
