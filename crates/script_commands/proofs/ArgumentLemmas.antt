-- Words that are read one by one to the end of the line.
use Rattle.std.proofs.Common.{◌≡◌, ℕ, zero, suc, List, [], ◌∷◌, ◌++◌, Option, Some, None, Ok, Err, refl, sym, ap, ◌∙◌, append_assoc}
use Rattle.std.proofs.lemmas.List.{append-nil}
use Rattle.lc_base.specs.declared.reason.Limit.{Limit}
use Rattle.lc_base.specs.Reading.{Reads, ◌>>=◌}
use Rattle.script_words.specs.Spans.{Span, next_word}
use Rattle.script_commands.specs.Commands.{all_read_as}

-- values behind those that were read
abbrev pub behind : {A : Type 0} → List A → Reads (List A) → Reads (List A)
behind {A} front later = later >>= λ (more : List A). Ok (front ++ more)

regroup : {A : Type 0} (front : List A) (a : A) (later : Reads (List A)) → behind front (later >>= λ (more : List A). Ok (a ∷ more)) ≡ behind (front ++ a ∷ []) later
regroup {A} front a (Ok more) = ap {B = Reads (List A)} (λ (x : List A). Ok x) (sym (append_assoc front (a ∷ []) more))
regroup {A} front a (Err e) = refl

-- one more value
pub one_more : {A : Type 0} (read : List ℕ → Option A) (limit : Limit) (m n : ℕ) (s w next : Span) (a : A) (front front' : List A) (total : Reads (List A)) → m ≡ suc n → Some (w, next) ≡ next_word s → Some a ≡ read w.bytes → front' ≡ front ++ a ∷ []
    → behind front (all_read_as read limit m s) ≡ total → behind front' (all_read_as read limit n next) ≡ total
one_more {A} read limit m n s w next a front front' total is word value pushed so_far =
    let one : all_read_as read limit (suc n) s ≡ (all_read_as read limit n next >>= λ (more : List A). Ok (a ∷ more)) = rw (← word, ← value, all_read_as) refl in
    ap (λ (x : List A). behind x (all_read_as read limit n next)) pushed
    ∙ sym (regroup front a (all_read_as read limit n next))
    ∙ sym (ap (behind front) one)
    ∙ ap (λ (k : ℕ). behind front (all_read_as read limit k s)) (sym is)
    ∙ so_far

ended : {A : Type 0} (read : List ℕ → Option A) (limit : Limit) (n : ℕ) (s : Span) → None ≡ next_word s → all_read_as read limit n s ≡ Ok []
ended read limit zero s e = rw (← e, all_read_as) refl
ended read limit (suc n) s e = rw (← e, all_read_as) refl

-- behind the last value
pub no_more_values : {A : Type 0} (read : List ℕ → Option A) (limit : Limit) (n : ℕ) (s : Span) (front : List A) (total : Reads (List A)) → None ≡ next_word s → behind front (all_read_as read limit n s) ≡ total → total ≡ Ok front
no_more_values {A} read limit n s front total e so_far =
    sym so_far ∙ ap (behind front) (ended read limit n s e) ∙ ap {B = Reads (List A)} (λ (x : List A). Ok x) (append-nil front)
