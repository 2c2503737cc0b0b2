-- A text cut at the first of its separators.
use Rattle.std.proofs.Common.{◌≡◌, ℕ, zero, suc, ◌+◌, ◌<◌, ◌≤◌, ◌||◌, Bool, true, false, not, cond, nat_lt, List, [], ◌∷◌, ◌++◌, length, take, drop, Option, Some, None, refl, ap, sym, ◌∙◌, arith, eq-eqb, subst, Bor}
use Rattle.std.specs.Prelude.{◌==◌, ◌≢◌, IfSome, MatchOption}
use Rattle.std.proofs.lemmas.List.{append-nil, append_cancel_left, take-append-drop}
use Rattle.std.specs.List.{position_or_len, position, list_any}
use Rattle.std.proofs.lemmas.Bool.{eqb-true, ltb-true, ltb-false}
use Rattle.output_reader.specs.Reading.{Lacks, IsBehindWord}

-- a text is a front without the separator, the separator, and what is behind it
pub record IsCut (text : List ℕ) (s : ℕ) (front rest : List ℕ) : Type 0 where
  pub parts : text ≡ front ++ s ∷ rest
  pub lacks : Lacks front s

head_is : (b : Bool) (n : ℕ) → cond (not b) (1 + n) 0 ≡ 0 → b ≡ true
head_is true n e = refl
head_is false n e = absurd (omega arith)

head_not : (b : Bool) (n m : ℕ) → cond (not b) (1 + n) 0 ≡ suc m → (b ≡ false) × (n ≡ m)
head_not true n m e = absurd (omega arith)
head_not false n m e = (refl, omega arith)

cut_at : (text : List ℕ) (s at : ℕ) → at < length text → position_or_len (λ b. b == s) text ≡ at → IsCut text s (take at text) (drop (suc at) text)
cut_at [] s at lt e = absurd (omega arith)
cut_at (c ∷ cs) s zero lt e =
    let t = head_is (c == s) (position_or_len (λ b. b == s) cs) e in
    record { parts = ap (λ (x : ℕ). x ∷ cs) (eqb-true c s t); lacks = refl }
cut_at (c ∷ cs) s (suc at) lt e =
    let f = head_not (c == s) (position_or_len (λ b. b == s) cs) at e in
    let later = cut_at cs s at (omega arith) f.1 in
    record { parts = ap (λ (x : List ℕ). c ∷ x) later.parts; lacks = rw f.0 later.lacks }

abbrev some : ℕ → Option ℕ
some n = Some n

chosen : (b : Bool) (n i : ℕ) → cond b (some n) None ≡ some i → (b ≡ true) × (n ≡ i)
chosen true n i e = (refl, cc)
chosen false n i e = absurd cc

not_chosen : (b : Bool) (n : ℕ) → cond b (some n) None ≡ None → b ≡ false
not_chosen true n e = absurd cc
not_chosen false n e = refl

pub found_cut : (text : List ℕ) (s at : ℕ) → position (λ b. b == s) text ≡ Some at → IsCut text s (take at text) (drop (suc at) text)
found_cut text s at e =
    let f = chosen (nat_lt (position_or_len (λ b. b == s) text) (length text)) (position_or_len (λ b. b == s) text) at e in
    cut_at text s at (omega (arith, ltb-true _ _ f.0, f.1)) f.1

bare_more : (b : Bool) (n m : ℕ) (later : Bool) → suc m ≤ cond (not b) (1 + n) 0 → (m ≤ n → later ≡ false) → (b || later) ≡ false
bare_more true n m later le h = absurd (omega arith)
bare_more false n m later le h = h (omega arith)

all_lack : (text : List ℕ) (s : ℕ) → length text ≤ position_or_len (λ b. b == s) text → Lacks text s
all_lack [] s le = refl
all_lack (c ∷ cs) s le = bare_more (c == s) (position_or_len (λ b. b == s) cs) (length cs) (list_any (λ b. b == s) cs) le (all_lack cs s)

pub none_found : (text : List ℕ) (s : ℕ) → position (λ b. b == s) text ≡ None → Lacks text s
none_found text s e = all_lack text s (ltb-false _ _ (not_chosen (nat_lt (position_or_len (λ b. b == s) text) (length text)) (position_or_len (λ b. b == s) text) e))

parted : (b later : Bool) → (b || later) ≡ false → (b ≡ false) × (later ≡ false)
parted true later e = absurd cc
parted false later e = (refl, e)

pub lacks_head : (c : ℕ) (cs : List ℕ) (s : ℕ) → Lacks (c ∷ cs) s → ((c == s) ≡ false) × Lacks cs s
lacks_head c cs s l = parted (c == s) (list_any (λ b. b == s) cs) l

pub never_lacks : (front rest : List ℕ) (s : ℕ) → Lacks (front ++ s ∷ rest) s → ⊥
never_lacks [] rest s l =
    let h = lacks_head s rest s l in
    let t : (s == s) ≡ true = eq-eqb s s refl in
    cc
never_lacks (c ∷ cs) rest s l = never_lacks cs rest s (lacks_head c (cs ++ s ∷ rest) s l).1

pub one_cut : (a x b y : List ℕ) (s : ℕ) → Lacks a s → Lacks b s → a ++ s ∷ x ≡ b ++ s ∷ y → (a ≡ b) × (x ≡ y)
one_cut [] x [] y s la lb e = (refl, cc)
one_cut [] x (d ∷ b) y s la lb e =
    let h = lacks_head d b s lb in
    let same : s ≡ d = cc in
    let t : (d == s) ≡ true = eq-eqb d s (sym same) in
    absurd cc
one_cut (c ∷ a) x [] y s la lb e =
    let h = lacks_head c a s la in
    let same : c ≡ s = cc in
    let t : (c == s) ≡ true = eq-eqb c s same in
    absurd cc
one_cut (c ∷ a) x (d ∷ b) y s la lb e =
    let tails : a ++ s ∷ x ≡ b ++ s ∷ y = cc in
    let heads : c ≡ d = cc in
    let later = one_cut a x b y s (lacks_head c a s la).1 (lacks_head d b s lb).1 tails in
    (cc (heads, later.0), later.1)

pub cut_back : (text front rest a x : List ℕ) (s : ℕ) → IsCut text s a x → Lacks front s → text ≡ front ++ s ∷ rest → (a ≡ front) × (x ≡ rest)
cut_back text front rest a x s cut lacks is = one_cut a x front rest s cut.lacks lacks (sym cut.parts ∙ is)

-- the first word ends where the first space stands
pub word_found : (text word rest : List ℕ) (at : ℕ) → position (λ b. b == 32) text ≡ Some at → Lacks word 32 → IsBehindWord rest → text ≡ word ++ rest → (take at text ≡ word) × (drop at text ≡ rest)
word_found text word [] at e lacks behind is =
    let cut : IsCut text 32 (take at text) (drop (suc at) text) = found_cut text 32 at e in
    let none : Lacks text 32 = subst (λ (t : List ℕ). Lacks t 32) (sym (is ∙ append-nil word)) lacks in
    absurd (never_lacks (take at text) (drop (suc at) text) 32 (subst (λ (t : List ℕ). Lacks t 32) cut.parts none))
word_found text word (d ∷ ds) at e lacks behind is =
    let whole : text ≡ word ++ 32 ∷ ds = is ∙ ap (λ k. word ++ k ∷ ds) behind in
    let cut : IsCut text 32 (take at text) (drop (suc at) text) = found_cut text 32 at e in
    let both = cut_back text word ds (take at text) (drop (suc at) text) 32 cut lacks whole in
    (both.0, append_cancel_left word (drop at text) (d ∷ ds) (ap (λ t. t ++ drop at text) (sym both.0) ∙ take-append-drop at text ∙ is))

-- without a space the text is one word
pub word_whole : (text word rest : List ℕ) → position (λ b. b == 32) text ≡ None → Lacks word 32 → IsBehindWord rest → text ≡ word ++ rest → (text ≡ word) × ([] ≡ rest)
word_whole text word [] e lacks behind is = (is ∙ append-nil word, refl)
word_whole text word (d ∷ ds) e lacks behind is =
    let whole : text ≡ word ++ 32 ∷ ds = is ∙ ap (λ k. word ++ k ∷ ds) behind in
    absurd (never_lacks word ds 32 (subst (λ (t : List ℕ). Lacks t 32) whole (none_found text 32 e)))

-- ---- fronts

pub strip_read : (s p : List ℕ) (r : Option (Bor (List ℕ))) → MatchOption r ((rest : List ℕ) → s ≢ p ++ rest) (λ x. s ≡ p ++ x.now) → IfSome r (λ x. s ≡ p ++ x.now)
strip_read s p None m = tt
strip_read s p (Some x) m = m

pub strip_back : (s p : List ℕ) (r : Option (Bor (List ℕ))) → MatchOption r ((rest : List ℕ) → s ≢ p ++ rest) (λ x. s ≡ p ++ x.now) → (rest : List ℕ) → s ≡ p ++ rest → MatchOption r ⊥ (λ x. x.now ≡ rest)
strip_back s p None m rest e = m rest e
strip_back s p (Some x) m rest e = append_cancel_left p x.now rest (sym m ∙ e)

-- ---- ends

pub suffix_read : (s p : List ℕ) (r : Option (Bor (List ℕ))) (x : Bor (List ℕ)) → MatchOption r ((front : List ℕ) → s ≢ front ++ p) (λ x. s ≡ x.now ++ p) → r ≡ Some x → s ≡ x.now ++ p
suffix_read s p None x m at = cc
suffix_read s p (Some y) x m at = m ∙ ap (λ (z : Bor (List ℕ)). z.now ++ p) (let same : y ≡ x = cc in same)

pub suffix_none : (s p : List ℕ) (r : Option (Bor (List ℕ))) → MatchOption r ((front : List ℕ) → s ≢ front ++ p) (λ x. s ≡ x.now ++ p) → r ≡ None → (front : List ℕ) → s ≡ front ++ p → ⊥
suffix_none s p None m at front is = m front is
suffix_none s p (Some y) m at front is = cc
