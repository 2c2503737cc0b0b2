-- Names that are added, a list at a time.
use Rattle.std.proofs.Common.{◌≡◌, ◌≢◌, ℕ, zero, suc, ◌+◌, ◌<◌, ◌≤◌, Bool, true, false, cond, List, [], ◌∷◌, ◌++◌, map, Option, Some, None, refl, sym, ap, ◌∙◌, arith}
use Rattle.std.specs.Option.{is_some, IsSome, option_or}
use Rattle.std.specs.List.{range_with_len}
use Rattle.std.specs.Str.{bytes_eq}
use Rattle.std.proofs.lemmas.Bool.{false_from_ne_true}
use Rattle.std.proofs.lemmas.List.{append_assoc, append-nil}
use Rattle.std.proofs.lemmas.Slice.Eq.{bytes_eq-Decides}
use Rattle.lc_base.specs.Tables.{first_named}
use Rattle.charset.specs.Portable.{Name}
use Rattle.charset.specs.Entries.{Entry, added}

-- ---- what names give

-- entries after others, if those are there
abbrev pub after : Option (List Entry) → List Entry → Option (List Entry)
after None es = None
after (Some given) es = added given es

-- entries are added one after another
pub added-append : (given es fs : List Entry) → added given (es ++ fs) ≡ after (added given es) fs
added-append given [] fs = refl
added-append given (e ∷ es) fs =
    let P : Bool → Type 0 = λ b. cond b None (added (given ++ e ∷ []) (es ++ fs)) ≡ after (cond b None (added (given ++ e ∷ []) es)) fs in
    elim (is_some (first_named given e.0)) as P [ true ↦ refl | false ↦ added-append (given ++ e ∷ []) es fs ]

-- a name is found in the first of two lists, or in the second
pub first_named-append : {A : Type 0} (es fs : List (Name × A)) (name : Name) → first_named (es ++ fs) name ≡ option_or (first_named es name) (first_named fs name)
first_named-append [] fs name = refl
first_named-append {A} (e ∷ es) fs name =
    let P : Bool → Type 0 = λ b. cond b (Some e.1) (first_named (es ++ fs) name) ≡ option_or (cond b (Some e.1) (first_named es name)) (first_named fs name) in
    elim (bytes_eq e.0 name) as P [ true ↦ refl | false ↦ first_named-append es fs name ]

-- ---- names that count up

-- names that none of these are
pub named-none : {A : Type 0} (f : ℕ → Name × A) (start n : ℕ) (name : Name) → ((k : ℕ) → start ≤ k → k < start + n → (f k).0 ≢ name) → first_named (map f (range_with_len start n)) name ≡ None
named-none f start zero name others = refl
named-none f start (suc n) name others =
    let other : bytes_eq (f start).0 name ≡ false = false_from_ne_true (bytes_eq (f start).0 name) (λ e. others start (omega arith) (omega arith) ((bytes_eq-Decides (f start).0 name).0 e)) in
    rw other (named-none f (start + 1) n name (λ k low high. others k (omega arith) (omega arith)))

-- a name that just one of these is
pub named-one : {A : Type 0} (f : ℕ → Name × A) (start n : ℕ) (name : Name) (k : ℕ) → start ≤ k → k < start + n → (f k).0 ≡ name → ((j : ℕ) → start ≤ j → j < start + n → (f j).0 ≡ name → j ≡ k)
    → first_named (map f (range_with_len start n)) name ≡ Some (f k).1
named-one f start zero name k low high is one = absurd (omega arith)
named-one {A} f start (suc n) name k low high is one =
    let P : Bool → Type 0 = λ b. bytes_eq (f start).0 name ≡ b → cond b (Some (f start).1) (first_named (map f (range_with_len (start + 1) n)) name) ≡ Some (f k).1 in
    (
    elim (bytes_eq (f start).0 name) as P [
      | true ↦ λ same.
          let at : start ≡ k = one start (omega arith) (omega arith) ((bytes_eq-Decides (f start).0 name).0 same) in
          ap (λ (j : ℕ). Some (f j).1) at
      | false ↦ λ other.
          let apart : start ≢ k = λ e.
          let same : bytes_eq (f start).0 name ≡ true = (bytes_eq-Decides (f start).0 name).1 (ap (λ (j : ℕ). (f j).0) e ∙ is) in
          absurd (cc)
          in
          let later : start + 1 ≤ k = omega arith in
          named-one f (start + 1) n name k later (omega arith) is (λ j low_j high_j e. one j (omega arith) (omega arith) e)
    ]
    )
    refl

-- names that are all new, and differ, are added
pub added-new : (f : ℕ → Entry) (start n : ℕ) (given : List Entry) → ((k : ℕ) → start ≤ k → k < start + n → first_named given (f k).0 ≡ None) → ((j k : ℕ) → start ≤ j → j < k → k < start + n → (f j).0 ≢ (f k).0)
    → added given (map f (range_with_len start n)) ≡ Some (given ++ map f (range_with_len start n))
added-new f start zero given new apart = ap Some (sym (append-nil given))
added-new f start (suc n) given new apart =
    let e : Entry = f start in
    let rest : List Entry = map f (range_with_len (start + 1) n) in
    let first : first_named given e.0 ≡ None = new start (omega arith) (omega arith) in
    let still : (k : ℕ) → start + 1 ≤ k → k < start + 1 + n → first_named (given ++ e ∷ []) (f k).0 ≡ None = λ k low high.
    let other : bytes_eq e.0 (f k).0 ≡ false = false_from_ne_true (bytes_eq e.0 (f k).0) (λ t. apart start k (omega arith) (omega arith) (omega arith) ((bytes_eq-Decides e.0 (f k).0).0 t)) in
    let alone : first_named (e ∷ []) (f k).0 ≡ None = rw other refl in
    first_named-append given (e ∷ []) (f k).0 ∙ ap (λ o. option_or o (first_named (e ∷ []) (f k).0)) (new k (omega arith) (omega arith)) ∙ alone
    in
    let more : added (given ++ e ∷ []) rest ≡ Some ((given ++ e ∷ []) ++ rest) = added-new f (start + 1) n (given ++ e ∷ []) still (λ j k low between high. apart j k (omega arith) between (omega arith)) in
    ap (λ o. cond (is_some o) None (added (given ++ e ∷ []) rest)) first ∙ more ∙ ap (λ (es : List Entry). Some es) (append_assoc given (e ∷ []) rest)

-- what is there stays before something else
some_or : {A : Type 0} (a b : Option A) → IsSome a → is_some (option_or a b) ≡ true
some_or None b some = cc
some_or (Some x) b some = refl

-- a name that is there already refuses them
pub added-met : (f : ℕ → Entry) (start n : ℕ) (given : List Entry) (k : ℕ) → start ≤ k → k < start + n → IsSome (first_named given (f k).0) → added given (map f (range_with_len start n)) ≡ None
added-met f start zero given k low high there = absurd (omega arith)
added-met f start (suc n) given k low high there =
    let e : Entry = f start in
    let rest : List Entry = map f (range_with_len (start + 1) n) in
    let P : Bool → Type 0 = λ b. is_some (first_named given e.0) ≡ b → cond b None (added (given ++ e ∷ []) rest) ≡ None in
    (
    elim (is_some (first_named given e.0)) as P [
      | true ↦ λ own. refl
      | false ↦ λ own.
          let apart : start ≢ k = λ same.
          let here : is_some (first_named given e.0) ≡ true = ap (λ (j : ℕ). is_some (first_named given (f j).0)) same ∙ there in
          absurd (cc)
          in
          let later : start + 1 ≤ k = omega arith in
          added-met f (start + 1) n (given ++ e ∷ []) k later (omega arith) (ap is_some (first_named-append given (e ∷ []) (f k).0) ∙ some_or (first_named given (f k).0) (first_named (e ∷ []) (f k).0) there)
    ]
    )
    refl
