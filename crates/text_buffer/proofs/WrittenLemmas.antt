-- Texts in buffers.
use Rattle.std.proofs.Common.{◌≡◌, ℕ, suc, ◌+◌, ◌<◌, ◌≤◌, true, false, List, [], ◌∷◌, ◌++◌, length, set, take, drop, Result, Ok, Err, refl, sym, ap, ◌∙◌, arith}
use Rattle.std.specs.Prelude.{nat_lt, if◌then◌else◌}
use Rattle.std.proofs.lemmas.Bool.Decides.{nat_tests}
use Rattle.std.proofs.lemmas.List.{append_assoc, take-append-drop, take_at, drop_at, drop-drop, set_split, length-append, length-take, length-drop}
use Rattle.lc_base.specs.declared.refusal.FormatRefusal.{FormatRefusal}
use Rattle.text_buffer.specs.declared.unwritten.Unwritten.TheVariants.{Refused, TooSmall}
use Rattle.text_buffer.specs.Written.{over, told_length, told, held, Written}

-- ---- texts over bytes

-- there are as many bytes as before
pub length-over : (old : List ℕ) (at : ℕ) (text : List ℕ) → at + length text ≤ length old → length (over old at text) ≡ length old
length-over old at text fits = omega (arith, length-append (take at old) (text ++ drop (at + length text) old), length-append text (drop (at + length text) old), length-take at old, length-drop (at + length text) old)

-- nothing changes nothing
pub over_nothing : (old : List ℕ) (at : ℕ) → over old at [] ≡ old
over_nothing old at =
    let same : at + 0 ≡ at = omega arith in
    ap (λ n. take at old ++ drop n old) same ∙ take-append-drop at old

-- from the front on
pub over_front : (old text : List ℕ) → over old 0 text ≡ text ++ drop (length text) old
over_front old text = ap (λ n. text ++ drop n old) (omega arith)

-- one byte
pub over_byte : (old : List ℕ) (at byte : ℕ) → at < length old → set old at byte ≡ over old at (byte ∷ [])
over_byte old at byte lt =
    let next : suc at ≡ at + length (byte ∷ []) = omega arith in
    set_split old at byte lt ∙ ap (λ n. take at old ++ (byte ∷ drop n old)) next

-- what stands up to the end of the text, and behind it
over_joined : (old : List ℕ) (at : ℕ) (text : List ℕ) → over old at text ≡ (take at old ++ text) ++ drop (at + length text) old
over_joined old at text = sym (append_assoc (take at old) text (drop (at + length text) old))

length_front : (old : List ℕ) (at : ℕ) (text : List ℕ) → at ≤ length old → length (take at old ++ text) ≡ at + length text
length_front old at text fits = omega (arith, length-append (take at old) text, length-take at old)

pub take_over : (old : List ℕ) (at : ℕ) (text : List ℕ) → at ≤ length old → take (at + length text) (over old at text) ≡ take at old ++ text
take_over old at text fits = ap (λ t. take (at + length text) t) (over_joined old at text) ∙ take_at (take at old ++ text) (drop (at + length text) old) (at + length text) (length_front old at text fits)

pub drop_over : (old : List ℕ) (at : ℕ) (text : List ℕ) → at ≤ length old → drop (at + length text) (over old at text) ≡ drop (at + length text) old
drop_over old at text fits = ap (λ t. drop (at + length text) t) (over_joined old at text) ∙ drop_at (take at old ++ text) (drop (at + length text) old) (at + length text) (length_front old at text fits)

-- a text at the front of what stands from a place on
pub over_within : (old : List ℕ) (at : ℕ) (text : List ℕ) → take at old ++ over (drop at old) 0 text ≡ over old at text
over_within old at text = ap (λ t. take at old ++ t) (over_front (drop at old) text ∙ ap (λ t. text ++ t) (drop-drop (length text) at old))

-- a text and one behind it are one text
pub over_more : (old : List ℕ) (at : ℕ) (a b : List ℕ) → at ≤ length old → over (over old at a) (at + length a) b ≡ over old at (a ++ b)
over_more old at a b fits =
    let more : at + length a + length b ≡ at + length (a ++ b) = omega (arith, length-append a b) in
    let behind : drop (at + length a + length b) (over old at a) ≡ drop (at + length (a ++ b)) old =
    sym (drop-drop (length b) (at + length a) (over old at a))
    ∙ ap (λ t. drop (length b) t) (drop_over old at a fits)
    ∙ drop-drop (length b) (at + length a) old
    ∙ ap (λ n. drop n old) more in
    ap (λ t. t ++ (b ++ drop (at + length a + length b) (over old at a))) (take_over old at a fits)
    ∙ ap (λ t. (take at old ++ a) ++ (b ++ t)) behind
    ∙ append_assoc (take at old) a (b ++ drop (at + length (a ++ b)) old)
    ∙ ap (λ t. take at old ++ t) (sym (append_assoc a b (drop (at + length (a ++ b)) old)))

-- the same with the place where the first text ends
pub over_then : (old : List ℕ) (at end : ℕ) (a b : List ℕ) → at ≤ length old → end ≡ at + length a → over (over old at a) end b ≡ over old at (a ++ b)
over_then old at end a b fits ends = ap (λ n. over (over old at a) n b) ends ∙ over_more old at a b fits

-- ---- what is told, and what the buffer holds

told_fits : (room : ℕ) (text : List ℕ) → length text ≤ room → told room (Ok text) ≡ Ok (length text)
told_fits room text fits = let no : nat_lt room (length text) ≡ false = grind (arith, nat_tests) in rw no refl

told_long : (room : ℕ) (text : List ℕ) → room < length text → told room (Ok text) ≡ Err (TooSmall (told_length text))
told_long room text long = let yes : nat_lt room (length text) ≡ true = grind (arith, nat_tests) in rw yes refl

held_fits : (old text : List ℕ) → length text ≤ length old → held old (Ok text) ≡ text ++ drop (length text) old
held_fits old text fits = let no : nat_lt (length old) (length text) ≡ false = grind (arith, nat_tests) in rw no refl

held_long : (old text : List ℕ) → length old < length text → held old (Ok text) ≡ old
held_long old text long = let yes : nat_lt (length old) (length text) ≡ true = grind (arith, nat_tests) in rw yes refl

-- a text that is there
pub written_text : (old new text : List ℕ) (n : ℕ) (answer : Result (List ℕ) FormatRefusal) → answer ≡ Ok text → length text ≤ length old → n ≡ length text → new ≡ text ++ drop (length text) old → Written old new (Ok n) answer
written_text old new text n answer is fits size there = record {
  is_told = ap (λ k. Ok k) size ∙ sym (told_fits (length old) text fits) ∙ ap (λ r. told (length old) r) (sym is);
  is_held = there ∙ sym (held_fits old text fits) ∙ ap (λ r. held old r) (sym is);
}

-- a text that was written over the bytes from the front on
pub written_over : (old new text : List ℕ) (n : ℕ) (answer : Result (List ℕ) FormatRefusal) → answer ≡ Ok text → length text ≤ length old → n ≡ length text → new ≡ over old 0 text → Written old new (Ok n) answer
written_over old new text n answer is fits size there = written_text old new text n answer is fits size (there ∙ over_front old text)

-- a text that is refused
pub written_refused : (old new : List ℕ) (why : FormatRefusal) (answer : Result (List ℕ) FormatRefusal) → answer ≡ Err why → new ≡ old → Written old new (Err (Refused why)) answer
written_refused old new why answer is same = record {
  is_told = ap (λ r. told (length old) r) (sym is);
  is_held = same ∙ ap (λ r. held old r) (sym is);
}

-- a text that is too long
pub written_too_small : (old new text : List ℕ) (needed : ℕ) (answer : Result (List ℕ) FormatRefusal) → answer ≡ Ok text → length old < length text → needed ≡ told_length text → new ≡ old → Written old new (Err (TooSmall needed)) answer
written_too_small old new text needed answer is long size same = record {
  is_told = ap (λ k. Err (TooSmall k)) size ∙ sym (told_long (length old) text long) ∙ ap (λ r. told (length old) r) (sym is);
  is_held = same ∙ sym (held_long old text long) ∙ ap (λ r. held old r) (sym is);
}

-- ---- what follows for the caller

told_ok : (room n : ℕ) (text : List ℕ) → Ok n ≡ told room (Ok text) → (length text ≤ room) × (n ≡ length text)
told_ok room n text is =
    (elim (nat_lt room (length text)) as (λ b. nat_lt room (length text) ≡ b → Ok n ≡ (if b then Err (TooSmall (told_length text)) else Ok (length text)) → (length text ≤ room) × (n ≡ length text)) [
      | true ↦ λ yes e. cc
      | false ↦ λ no e. (grind (arith, nat_tests), cc)
    ]) refl is

told_err : (room needed : ℕ) (text : List ℕ) → Err (TooSmall needed) ≡ told room (Ok text) → (room < length text) × (needed ≡ told_length text)
told_err room needed text is =
    (elim (nat_lt room (length text)) as (λ b. nat_lt room (length text) ≡ b → Err (TooSmall needed) ≡ (if b then Err (TooSmall (told_length text)) else Ok (length text)) → (room < length text) × (needed ≡ told_length text)) [
      | true ↦ λ yes e. (grind (arith, nat_tests), cc)
      | false ↦ λ no e. cc
    ]) refl is

-- what is known of a buffer with a text
pub record IsThere (old new : List ℕ) (n : ℕ) (answer : Result (List ℕ) FormatRefusal) : Type 0 where
  pub text : answer ≡ Ok (take n new)
  pub fits : n ≤ length old
  pub rest : drop n new ≡ drop n old
  pub size : length new ≡ length old

there_text : (old new text : List ℕ) (n : ℕ) → length text ≤ length old → n ≡ length text → new ≡ held old (Ok text) → IsThere old new n (Ok text)
there_text old new text n fits size holds =
    let is : new ≡ text ++ drop (length text) old = holds ∙ held_fits old text fits in
    let some : length text ≡ n = sym size in
    record {
      text = ap (λ t. Ok t) (sym (ap (λ t. take n t) is ∙ take_at text (drop (length text) old) n some));
      fits = omega arith;
      rest = ap (λ t. drop n t) is ∙ drop_at text (drop (length text) old) n some ∙ ap (λ k. drop k old) some;
      size = omega (arith, ap length is, length-append text (drop (length text) old), length-drop (length text) old);
    }

pub is_there : (old new : List ℕ) (n : ℕ) (answer : Result (List ℕ) FormatRefusal) → Written old new (Ok n) answer → IsThere old new n answer
is_there old new n (Ok text) w = let told = told_ok (length old) n text w.is_told in there_text old new text n told.0 told.1 w.is_held
is_there old new n (Err why) w = let e = w.is_told in cc

-- what is known of a refused text
pub is_refused : (old new : List ℕ) (why : FormatRefusal) (answer : Result (List ℕ) FormatRefusal) → Written old new (Err (Refused why)) answer → (answer ≡ Err why) × (new ≡ old)
is_refused old new why (Err other) w = let e = w.is_told in (cc, w.is_held)
is_refused old new why (Ok text) w =
    (elim (nat_lt (length old) (length text)) as (λ b. Err (Refused why) ≡ (if b then Err (TooSmall (told_length text)) else Ok (length text)) → (Ok text ≡ Err why) × (new ≡ old)) [
      | true ↦ λ e. cc
      | false ↦ λ e. cc
    ]) w.is_told

-- what is known of a text that is too long
pub record IsTooLong (old new : List ℕ) (needed : ℕ) (answer : Result (List ℕ) FormatRefusal) : Type 0 where
  pub text : List ℕ
  pub is : answer ≡ Ok text
  pub long : length old < length text
  pub told : needed ≡ told_length text
  pub same : new ≡ old

pub is_too_long : (old new : List ℕ) (needed : ℕ) (answer : Result (List ℕ) FormatRefusal) → Written old new (Err (TooSmall needed)) answer → IsTooLong old new needed answer
is_too_long old new needed (Ok text) w =
    let told = told_err (length old) needed text w.is_told in
    record { text = text; is = refl; long = told.0; told = told.1; same = w.is_held ∙ held_long old text told.0 }
is_too_long old new needed (Err why) w = let e = w.is_told in cc
