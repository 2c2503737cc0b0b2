-- Bytes that are read one by one.
use Rattle.std.proofs.Common.{◌≡◌, ℕ, suc, ◌+◌, Bool, true, false, cond, ◌==◌, ◌||◌, not, List, [], ◌∷◌, ◌++◌, drop, Option, Some, None, refl, sym, ap, append_assoc, arith}
use Rattle.std.specs.Prelude.{option_map}
use Rattle.std.specs.List.{position_or_len}
use Rattle.script_words.specs.declared.stretch.Within.TheVariants.{Bare, Quoted}
use Rattle.script_words.specs.Spans.{stops_bare, within_after, word_length}
use Rattle.lc_base.specs.Blanks.{is_blank}

-- what was read of a quoted text, and what is still read
abbrev pub after : List ℕ → Option (List ℕ) → Option (List ℕ)
after front later = option_map (λ (more : List ℕ). front ++ more) later

regroup : (front byte : List ℕ) (later : Option (List ℕ)) → after front (option_map (λ (text : List ℕ). byte ++ text) later) ≡ after (front ++ byte) later
regroup front byte None = refl
regroup front byte (Some text) = ap {B = Option (List ℕ)} (λ (x : List ℕ). Some x) (sym (append_assoc front byte text))

-- what follows a byte and n more
drop_behind : (n c : ℕ) (cs : List ℕ) → drop (1 + n) (c ∷ cs) ≡ drop n cs
drop_behind n c cs =
    let more : 1 + n ≡ suc n = omega arith in
    ap (λ (m : ℕ). drop m (c ∷ cs)) more

-- a word goes on in front of the first blank or quote
pub bare_front : (bytes : List ℕ) → word_length Bare bytes ≡ position_or_len stops_bare bytes + word_length Bare (drop (position_or_len stops_bare bytes) bytes)
bare_front [] = refl
bare_front (c ∷ cs) = chosen (is_blank c) (c == 34) refl refl (bare_front cs) where
  at : ℕ
  at = position_or_len stops_bare cs

  chosen : (a b : Bool) → is_blank c ≡ a → (c == 34) ≡ b → word_length Bare cs ≡ at + word_length Bare (drop at cs)
      → cond a 0 (1 + word_length (cond b Quoted Bare) cs) ≡ cond (not (a || b)) (1 + at) 0 + word_length Bare (drop (cond (not (a || b)) (1 + at) 0) (c ∷ cs))
  chosen true b blank quote later =
      let none : word_length Bare (c ∷ cs) ≡ 0 = ap (λ (x : Bool). cond x 0 (1 + word_length (within_after Bare c) cs)) blank in
      let sum : 0 ≡ 0 + word_length Bare (c ∷ cs) = omega (arith, none) in
      sum
  chosen false true blank quote later =
      let more : word_length (within_after Bare c) cs ≡ word_length Quoted cs = ap (λ (x : Bool). word_length (cond x Quoted Bare) cs) quote in
      let whole : word_length Bare (c ∷ cs) ≡ 1 + word_length (within_after Bare c) cs = ap (λ (x : Bool). cond x 0 (1 + word_length (within_after Bare c) cs)) blank in
      let sum : 1 + word_length Quoted cs ≡ 0 + word_length Bare (c ∷ cs) = omega (arith, more, whole) in
      sum
  chosen false false blank quote later =
      let sum : 1 + word_length Bare cs ≡ 1 + at + word_length Bare (drop (1 + at) (c ∷ cs)) = omega (arith, later, ap (word_length Bare) (drop_behind at c cs)) in
      sum
