-- A text and a NUL at the front of a buffer.
use Rattle.std.proofs.Common.{◌≡◌, ℕ, suc, ◌+◌, ◌-◌, ◌<◌, true, false, List, [], ◌∷◌, ◌++◌, length, set, take, drop, Result, Ok, Err, refl, sym, ap, ◌∙◌, arith}
use Rattle.std.specs.Prelude.{zero, nat_lt, if◌then◌else◌}
use Rattle.std.proofs.lemmas.Bool.{lt-ltb}
use Rattle.std.proofs.lemmas.Bool.Decides.{nat_tests}
use Rattle.std.proofs.lemmas.List.{append_assoc, take-append-drop, take_at, drop_at, drop-drop, drop-set, set_split, drop-append-le, length-append, length-take, length-drop}
use Rattle.lc_base.specs.declared.refusal.FormatRefusal.{FormatRefusal}
use Rattle.text_buffer.specs.declared.unwritten.Unwritten.{Unwritten}
use Rattle.text_buffer.specs.declared.unwritten.Unwritten.TheVariants.{Refused, TooSmall}
use Rattle.text_buffer.specs.Written.{Written}
use Rattle.text_buffer.proofs.WrittenLemmas.{IsThere, is_there, is_refused, IsTooLong, is_too_long}
use Rattle.c_values.specs.Codes.{OK, TOO_SMALL}
use Rattle.c_values.specs.Answers.{answered, size_told, filled, told, closed, refusal_told, text_told}

-- what stands from a place on, once a byte is written there
pub ended_by : (s : List ℕ) (n x : ℕ) → n < length s → drop n (set s n x) ≡ x ∷ drop (n + 1) s
ended_by s n x h = drop-set s n x h

-- ---- a text that was written into all of a buffer but its last byte

-- a text that fits there
fits : (old text : List ℕ) → length text < length old → closed (text ++ drop (length text) old) (Ok (length text)) ≡ told old text
fits old text short =
    let as_long : length (text ++ drop (length text) old) ≡ length old = omega (arith, length-append text (drop (length text) old), length-drop (length text) old) in
    let in_new : nat_lt (length text) (length (text ++ drop (length text) old)) ≡ true = lt-ltb (length text) (length (text ++ drop (length text) old)) (omega (arith, as_long)) in
    let in_old : nat_lt (length text) (length old) ≡ true = lt-ltb (length text) (length old) short in
    let next : suc (length text) ≡ length text + 1 = omega arith in
    let written : set (text ++ drop (length text) old) (length text) 0 ≡ filled old text =
    set_split (text ++ drop (length text) old) (length text) 0 (omega (arith, as_long))
    ∙ ap (λ t. t ++ (0 ∷ drop (suc (length text)) (text ++ drop (length text) old))) (take_at text (drop (length text) old) (length text) refl)
    ∙ ap (λ k. text ++ (0 ∷ drop k (text ++ drop (length text) old))) next
    ∙ ap (λ t. text ++ (0 ∷ t)) (sym (drop-drop 1 (length text) (text ++ drop (length text) old)) ∙ ap (λ t. drop 1 t) (drop_at text (drop (length text) old) (length text) refl) ∙ drop-drop 1 (length text) old) in
    ap (λ b. if b then (answered OK (length text), set (text ++ drop (length text) old) (length text) 0) else (answered TOO_SMALL 1, text ++ drop (length text) old)) in_new
    ∙ ap (λ t. (answered OK (length text), t)) written
    ∙ ap (λ b. if b then (answered OK (length text), filled old text) else (answered TOO_SMALL (size_told (length text)), old)) (sym in_old)

-- all of a buffer but its last byte
abbrev front : List ℕ → List ℕ
front old = take (length old - 1) old

abbrev back : List ℕ → List ℕ
back old = drop (length old - 1) old

joined : (old : List ℕ) → front old ++ back old ≡ old
joined old = take-append-drop (length old - 1) old

-- the buffer with a text at its front, where the rest of it is as before
parted : (old part : List ℕ) (n : ℕ) → IsThere (front old) part n (Ok (take n part)) → part ++ back old ≡ take n part ++ drop n old
parted old part n there =
    ap (λ t. t ++ back old) (sym (take-append-drop n part) ∙ ap (λ t. take n part ++ t) there.rest)
    ∙ append_assoc (take n part) (drop n (front old)) (back old)
    ∙ ap (λ t. take n part ++ t) (sym (drop-append-le n (front old) (back old) there.fits) ∙ ap (λ t. drop n t) (joined old))

size_taken : (old part : List ℕ) (n : ℕ) → IsThere (front old) part n (Ok (take n part)) → length (take n part) ≡ n
size_taken old part n there = omega (arith, length-take n part, ap (λ k. k) there.size, there.fits)

closing_there : (old part : List ℕ) (n : ℕ) → IsThere (front old) part n (Ok (take n part)) → closed (part ++ back old) (Ok n) ≡ told old (take n part)
closing_there [] [] zero there = ap (λ t. told [] t) (sym (take_at [] [] zero refl))
closing_there [] [] (suc n) there =
    let nil : List ℕ = [] in
    let none : length (front nil) ≡ 0 = omega (arith, length-take (length nil - 1) nil) in
    absurd (omega (arith, none, there.fits))
closing_there [] (x ∷ xs) n there =
    let nil : List ℕ = [] in
    let none : length (front nil) ≡ 0 = omega (arith, length-take (length nil - 1) nil) in
    absurd (omega (arith, none, there.size))
closing_there (b ∷ bs) part n there =
    let old : List ℕ = b ∷ bs in
    let size : length (take n part) ≡ n = size_taken old part n there in
    let short : length (take n part) < length old = omega (arith, size, there.fits, length-take (length old - 1) old) in
    ap (λ t. closed t (Ok n)) (parted old part n there)
    ∙ ap (λ k. closed (take n part ++ drop k old) (Ok k)) (sym size)
    ∙ fits old (take n part) short

-- what is answered in the end is what the text asks for
pub closing : (old part : List ℕ) (w : Result ℕ Unwritten) (answer : Result (List ℕ) FormatRefusal) → Written (take (length old - 1) old) part w answer → closed (part ++ drop (length old - 1) old) w ≡ text_told old answer
closing old part (Ok n) answer w =
    let there : IsThere (front old) part n answer = is_there (front old) part n answer w in
    let same : IsThere (front old) part n (Ok (take n part)) = record { text = refl; fits = there.fits; rest = there.rest; size = there.size } in
    closing_there old part n same ∙ ap (λ r. text_told old r) (sym there.text)
closing old part (Err (Refused why)) answer w =
    let no : (answer ≡ Err why) × (part ≡ front old) = is_refused (front old) part why answer w in
    ap (λ t. (refusal_told why, t)) (ap (λ t. t ++ back old) no.1 ∙ joined old) ∙ ap (λ r. text_told old r) (sym no.0)
closing old part (Err (TooSmall needed)) answer w =
    let no : IsTooLong (front old) part needed answer = is_too_long (front old) part needed answer w in
    let long : nat_lt (length no.text) (length old) ≡ false = grind (arith, nat_tests, no.long, length-take (length old - 1) old) in
    let size : size_told needed ≡ size_told (length no.text) = ap size_told no.told ∙ omega arith in
    ap (λ t. (answered TOO_SMALL (size_told needed), t)) (ap (λ t. t ++ back old) no.same ∙ joined old)
    ∙ ap (λ k. (answered TOO_SMALL k, old)) size
    ∙ ap (λ b. if b then (answered OK (length no.text), filled old no.text) else (answered TOO_SMALL (size_told (length no.text)), old)) (sym long)
    ∙ ap (λ r. text_told old r) (sym no.is)
