-- Fronts by their numbers.
use Rattle.std.proofs.Common.{◌≡◌, ℕ, ◌+◌, ◌-◌, ◌<◌, ◌⊎◌, inl, inr, ⊎_elim, Bool, true, false, cond, List, [], ◌∷◌, ◌++◌, length, get_or, take, All, Contains, Option, Some, None, Err, refl, sym, ◌∙◌, ap, subst, arith, length-append}
use Rattle.std.specs.BTreeMap.{BTreeMap, is_at, insert_entry, values}
use Rattle.std.specs.Cmp.Lexicographic.{slice_cmp}
use Rattle.std.specs.List.Sorted.{IsPermutation, IsSortedBy, IsBinarySearchResult}
use Rattle.std.specs.Map.{lookup, values_of}
use Rattle.std.specs.Option.{IfSome}
use Rattle.std.specs.Ordering.{nat_cmp, is_eq, is_lt, match_ordering}
use Rattle.std.specs.declared.cmp.Ordering.{Ordering}
use Rattle.std.specs.declared.cmp.Ordering.TheVariants.{Less, Equal, Greater}
use Rattle.std.specs.Str.{bytes_eq}
use Rattle.std.specs.declared.vec.Vec.{Vec}
use Rattle.std.proofs.Math.ListN.{get_or-append}
use Rattle.std.proofs.Math.Seq.{get_or-append_seam}
use Rattle.std.proofs.lemmas.Bool.{cases_eq, cases_lt, false_from_ne_true}
use Rattle.std.proofs.lemmas.Cmp.{nat_list_cmp_total, tied_itself}
use Rattle.std.proofs.lemmas.List.{take_at}
use Rattle.std.proofs.lemmas.List.Elements.{All-weaker, All-same, All-nil, All-append, All-contains, All-contains_itself, Contains-append_left, Contains-append_right}
use Rattle.std.proofs.lemmas.List.Sorted.{All-permutation, Contains-permutation, searchable_from_sorted}
use Rattle.std.proofs.lemmas.Map.Views.{All-values-insert_entry, IfSome-lookup_from_All}
use Rattle.std.proofs.lemmas.Map.Text.{is_eq-slice_cmp}
use Rattle.std.proofs.lemmas.Slice.Eq.{bytes_eq-Decides}
use Rattle.charset.specs.Portable.{Name}
use Rattle.charset.specs.Fronts.{IsPlaceOf, number_under, comes_before, HasFront, LacksFront, IsPlaced}

-- how a front compares to a key
abbrev front_cmp : {A : Type 0} → Name → Vec ℕ A → Ordering
front_cmp front key = slice_cmp nat_cmp front key.items

-- how two keys compare
abbrev key_cmp : {A : Type 0} → Vec ℕ A → Vec ℕ A → Ordering
key_cmp x y = slice_cmp nat_cmp x.items y.items

-- keys that tie have the same bytes
tied_bytes : (xs ys : List ℕ) → slice_cmp nat_cmp xs ys ≡ Equal → xs ≡ ys
tied_bytes xs ys h = (bytes_eq-Decides xs ys).0 (sym (is_eq-slice_cmp xs ys) ∙ ap is_eq h)

-- a choice of two tests, of which just one may pass
swap_tests : (a b : Bool) (x y : ℕ) (rest : Option ℕ) → ((a ≡ true) → (b ≡ true) → ⊥) → cond a (Some x) (cond b (Some y) rest) ≡ cond b (Some y) (cond a (Some x) rest)
swap_tests true true x y rest apart = absurd (apart refl refl)
swap_tests true false x y rest apart = refl
swap_tests false b x y rest apart = refl

-- a test that passes hides the same test behind it
hides : (b : Bool) (x y : ℕ) (rest : Option ℕ) → cond b (Some x) rest ≡ cond b (Some x) (cond b (Some y) rest)
hides true x y rest = refl
hides false x y rest = refl

-- what is found after one more key
lookup_insert : {A : Type 0} (front : Name) (key : Vec ℕ A) (n : ℕ) (es : List (Vec ℕ A × ℕ))
    → lookup (is_at (front_cmp front)) (insert_entry key_cmp es key n) ≡ cond (bytes_eq front key.items) (Some n) (lookup (is_at (front_cmp front)) es)
lookup_insert front key n [] = ap (λ b. cond b (Some n) None) (is_eq-slice_cmp front key.items)
lookup_insert {A} front key n (e ∷ es) =
    let test : Vec ℕ A → Bool = is_at (front_cmp front) in
    let here : Bool = bytes_eq front key.items in
    let P : Ordering → Type 0 = λ o. slice_cmp nat_cmp key.items e.0.items ≡ o
    → lookup test (match_ordering o ((key, n) ∷ e ∷ es) ((e.0, n) ∷ es) (e ∷ insert_entry key_cmp es key n)) ≡ cond here (Some n) (cond (test e.0) (Some e.1) (lookup test es)) in
    (
    elim (slice_cmp nat_cmp key.items e.0.items) as P [
      | Less ↦ λ own. ap (λ b. cond b (Some n) (cond (test e.0) (Some e.1) (lookup test es))) (is_eq-slice_cmp front key.items)
      | Equal ↦ λ own.
          let same : key.items ≡ e.0.items = tied_bytes key.items e.0.items own in
          let one : test e.0 ≡ here = is_eq-slice_cmp front e.0.items ∙ ap (λ (bs : List ℕ). bytes_eq front bs) (sym same) in
          rw one (hides here n e.1 (lookup test es))
      | Greater ↦ λ own.
          let apart : (test e.0 ≡ true) → (here ≡ true) → ⊥ = λ a b.
          let first : front ≡ e.0.items = (bytes_eq-Decides front e.0.items).0 (sym (is_eq-slice_cmp front e.0.items) ∙ a) in
          let second : front ≡ key.items = (bytes_eq-Decides front key.items).0 b in
          let tied : is_eq (slice_cmp nat_cmp key.items e.0.items) ≡ true = is_eq-slice_cmp key.items e.0.items ∙ (bytes_eq-Decides key.items e.0.items).1 (sym second ∙ first) in
          let other : false ≡ true = sym (ap is_eq own) ∙ tied in
          absurd (cc)
          in
          ap (λ o. cond (test e.0) (Some e.1) o) (lookup_insert front key n es) ∙ swap_tests (test e.0) here e.1 n (lookup test es) apart
    ]
    )
    refl

-- what is kept under a front after one more
under_after : {A : Type 0} (recent after : BTreeMap (Vec ℕ A) ℕ) (key : Vec ℕ A) (front other : Name) (n : ℕ) → key.items ≡ front → after.entries ≡ insert_entry key_cmp recent.entries key n
    → number_under after other ≡ cond (bytes_eq other front) (Some n) (number_under recent other)
under_after {A} recent after key front other n own grown =
    ap (λ (es : List (Vec ℕ A × ℕ)). lookup (is_at (front_cmp other)) es) grown ∙ lookup_insert other key n recent.entries ∙ ap (λ (bs : List ℕ). cond (bytes_eq other bs) (Some n) (number_under recent other)) own

-- ---- the number of a front

-- a search among sorted numbers that finds one
pub found_at : (strings : List Name) (sorted : List ℕ) (string : Name) (at n : ℕ) → at < length sorted → ((d : ℕ) → slice_cmp nat_cmp (get_or strings (get_or sorted at d) []) string ≡ Equal) → n ≡ get_or sorted at n → HasFront strings sorted string n
found_at strings sorted string at n within ties is =
    ((at, within, sym is), ap (λ k. get_or strings k []) is ∙ tied_bytes (get_or strings (get_or sorted at n) []) string (ties n))

-- a string ties with itself
itself : (string : Name) → slice_cmp nat_cmp string string ≡ Equal
itself string = tied_itself nat_list_cmp_total string

-- a search that finds none
pub absent_from : (strings : List Name) (sorted : List ℕ) (string : Name) (at : ℕ) → IsSortedBy (comes_before strings) sorted → IsBinarySearchResult (λ n. slice_cmp nat_cmp (get_or strings n []) string) sorted (Err at) → All (LacksFront strings string) sorted
absent_from strings sorted string at rising search = λ k d within same.
    let parted = search (searchable_from_sorted nat_list_cmp_total (λ (n : ℕ). get_or strings n []) sorted string rising) in
    let ties : slice_cmp nat_cmp (get_or strings (get_or sorted k d) []) string ≡ Equal = ap (λ (t : Name). slice_cmp nat_cmp t string) same ∙ itself string in
    ⊎_elim
    (λ before.
    let less : slice_cmp nat_cmp (get_or strings (get_or sorted k d) []) string ≡ Less = parted.0 k d (omega arith) before in
    let both : Less ≡ Equal = sym less ∙ ties in
    absurd (cc))
    (λ behind.
    let more : slice_cmp nat_cmp (get_or strings (get_or sorted k d) []) string ≡ Greater = parted.1 k d behind within in
    let both : Greater ≡ Equal = sym more ∙ ties in
    absurd (cc))
    (cases_lt k at)

-- a sorted number is the place of its front
pub sorted_place : {A : Type 0} (fronts : List Name) (sorted : List ℕ) (recent : BTreeMap (Vec ℕ A) ℕ) (front : Name) (n : ℕ) → IsPlaced fronts sorted recent → HasFront fronts sorted front n → IsPlaceOf front fronts (Some n)
sorted_place fronts sorted recent front n placed has =
    let within : n < length fronts = All-contains (λ k. k < length fronts) sorted n placed.below has.0 in
    (within, has.1, λ i below same. placed.apart i n below within (same ∙ sym has.1))

-- else what is kept under the front says its place
pub recent_place : {A : Type 0} (fronts : List Name) (sorted : List ℕ) (recent : BTreeMap (Vec ℕ A) ℕ) (front : Name) → IsPlaced fronts sorted recent → All (LacksFront fronts front) sorted → IsPlaceOf front fronts (number_under recent front)
recent_place fronts sorted recent front placed lacks =
    let P : Option ℕ → Type 0 = λ o. number_under recent front ≡ o → IsPlaceOf front fronts o in
    (
    elim (number_under recent front) as P [
      | None ↦ λ none i below same. ⊎_elim
          (λ among. All-contains (LacksFront fronts front) sorted i lacks among same)
          (λ under.
          let there : number_under recent front ≡ Some i = ap (λ (name : Name). number_under recent name) (sym same) ∙ under in
          let both : None ≡ Some i = sym none ∙ there in
          absurd (cc))
          (placed.kept i below)
      | Some n ↦ λ some.
          let own = placed.own front n some in
          (own.0, own.1, λ i below same. placed.apart i n below own.0 (same ∙ sym own.1))
    ]
    )
    refl

-- ---- one more front

module _ {A : Type 0} (fronts : List Name) (sorted : List ℕ) (recent after : BTreeMap (Vec ℕ A) ℕ) (key : Vec ℕ A) (front : Name) (n : ℕ) (placed : IsPlaced fronts sorted recent) (new : IsPlaceOf front fronts None) (own : key.items ≡ front)
    (last : n ≡ length fronts) (grown : after.entries ≡ insert_entry key_cmp recent.entries key n) where
  -- the fronts with it
  abbrev more : List Name
  more = fronts ++ front ∷ []

  long : length more ≡ length fronts + 1
  long = length-append fronts (front ∷ [])

  -- the others have their places
  early : (i : ℕ) → i < length fronts → get_or more i [] ≡ get_or fronts i []
  early i below = get_or-append fronts (front ∷ []) [] i below

  -- and it has the last
  late : (i : ℕ) → i ≡ n → get_or more i [] ≡ front
  late i same = ap (λ k. get_or more k []) (same ∙ last) ∙ get_or-append_seam fronts front [] []

  -- it is none of them
  other_front : (i : ℕ) → i < length fronts → bytes_eq (get_or fronts i []) front ≡ false
  other_front i below = false_from_ne_true (bytes_eq (get_or fronts i []) front) (λ t. new i below ((bytes_eq-Decides (get_or fronts i []) front).0 t))

  rising_more : IsSortedBy (comes_before more) sorted
  rising_more = λ k d low within.
      let b = get_or sorted k d in
      let a = get_or sorted (k + 1) d in
      let b_below : b < length fronts = placed.below k d (omega arith) in
      let a_below : a < length fronts = placed.below (k + 1) d within in
      ap (λ (t : Name). is_lt (slice_cmp nat_cmp t (get_or more b []))) (early a a_below) ∙ ap (λ (t : Name). is_lt (slice_cmp nat_cmp (get_or fronts a []) t)) (early b b_below) ∙ placed.rising k d low within

  waiting_more : All (λ k. k < length more) (values after)
  waiting_more =
      All-same (λ k. k < length more) (values_of after.entries) (values_of (insert_entry key_cmp recent.entries key n)) (ap values_of grown)
      (All-values-insert_entry key_cmp key n (λ k. k < length more) recent.entries (All-weaker (λ k. k < length fronts) (λ k. k < length more) (λ k below. omega (arith, long)) (values_of recent.entries) placed.waiting) (omega (arith, long, last)))

  own_more : (other : Name) (m : ℕ) → number_under after other ≡ Some m → (m < length more) × (get_or more m [] ≡ other)
  own_more other m some =
      let P : Bool → Type 0 = λ b. bytes_eq other front ≡ b → cond b (Some n) (number_under recent other) ≡ Some m → (m < length more) × (get_or more m [] ≡ other) in
      (
      elim (bytes_eq other front) as P [
        | true ↦ λ same e.
            let number : n ≡ m = cc in
            (omega (arith, long, last), late m (sym number) ∙ sym ((bytes_eq-Decides other front).0 same))
        | false ↦ λ differs e.
            let old = placed.own other m e in
            (omega (arith, long, old.0), early m old.0 ∙ old.1)
      ]
      )
      refl
      (sym (under_after recent after key front other n own grown) ∙ some)

  kept_more : (i : ℕ) → i < length more → Contains sorted i ⊎ (number_under after (get_or more i []) ≡ Some i)
  kept_more i within = elim (cases_eq i n) [
    | inl same ↦
        inr (ap (λ (name : Name). number_under after name) (late i same) ∙ under_after recent after key front front n own grown
        ∙ ap (λ b. cond b (Some n) (number_under recent front)) ((bytes_eq-Decides front front).1 refl) ∙ ap {B = Option ℕ} (λ (k : ℕ). Some k) (sym same))
    | inr other ↦
        let below : i < length fronts = omega (arith, long, last) in
        ⊎_elim
        (λ among. inl among)
        (λ under.
        inr (ap (λ (name : Name). number_under after name) (early i below) ∙ under_after recent after key front (get_or fronts i []) n own grown
        ∙ ap (λ b. cond b (Some n) (number_under recent (get_or fronts i []))) (other_front i below) ∙ under))
        (placed.kept i below)
  ]

  apart_more : (i j : ℕ) → i < length more → j < length more → get_or more i [] ≡ get_or more j [] → i ≡ j
  apart_more i j i_within j_within same = elim (cases_eq i n) [
    | inl i_last ↦ elim (cases_eq j n) [
      | inl j_last ↦ i_last ∙ sym j_last
      | inr j_other ↦
          let below : j < length fronts = omega (arith, long, last) in
          absurd (new j below (sym (early j below) ∙ sym same ∙ late i i_last))
    ]
    | inr i_other ↦
        let i_below : i < length fronts = omega (arith, long, last) in
        elim (cases_eq j n) [
          | inl j_last ↦ absurd (new i i_below (sym (early i i_below) ∙ same ∙ late j j_last))
          | inr j_other ↦
              let j_below : j < length fronts = omega (arith, long, last) in
              placed.apart i j i_below j_below (sym (early i i_below) ∙ same ∙ early j j_below)
        ]
  ]

  -- each has its one number
  pub placed_push : IsPlaced (fronts ++ front ∷ []) sorted after
  placed_push = record {
    rising = rising_more;
    below = All-weaker (λ k. k < length fronts) (λ k. k < length more) (λ k below. omega (arith, long)) sorted placed.below;
    waiting = waiting_more;
    own = own_more;
    kept = kept_more;
    apart = apart_more;
  }

-- ---- the later ones among the earlier ones

-- what a look-up finds is among the values
value_among : {K : Type 0} (test : K → Bool) (es : List (K × ℕ)) (n : ℕ) → lookup test es ≡ Some n → Contains (values_of es) n
value_among test es n found =
    subst (λ (o : Option ℕ). IfSome o (Contains (values_of es))) found (IfSome-lookup_from_All (Contains (values_of es)) test es (All-contains_itself (values_of es)))

-- all numbers in order
pub placed_settled : {A : Type 0} (fronts : List Name) (sorted numbers whole : List ℕ) (recent empty : BTreeMap (Vec ℕ A) ℕ) → IsPlaced fronts sorted recent → numbers ≡ sorted ++ values recent → IsPermutation numbers whole
    → IsSortedBy (comes_before fronts) whole → empty.entries ≡ [] → IsPlaced fronts whole empty
placed_settled {A} fronts sorted numbers whole recent empty placed joined moved rising none =
    let P : ℕ → Type 0 = λ k. k < length fronts in
    record {
      rising = rising;
      below = All-permutation P numbers whole moved (All-same P numbers (sorted ++ values recent) joined (All-append P sorted (values recent) placed.below placed.waiting));
      waiting = All-same P (values_of empty.entries) [] (ap values_of none) (All-nil P);
      own = λ front n some.
          let nothing : number_under empty front ≡ None = ap (λ (es : List (Vec ℕ A × ℕ)). lookup (is_at (front_cmp front)) es) none in
          let both : None ≡ Some n = sym nothing ∙ some in
          absurd (cc);
      kept = λ i below.
          inl (Contains-permutation numbers whole i moved (subst (λ (xs : List ℕ). Contains xs i) (sym joined) (⊎_elim
          (λ among. Contains-append_left sorted (values recent) i among)
          (λ under. Contains-append_right sorted (values recent) i (value_among (is_at (front_cmp (get_or fronts i []))) recent.entries i under))
          (placed.kept i below))));
      apart = placed.apart;
    }

-- others with the same entries serve as well
pub placed_same : {A : Type 0} (fronts : List Name) (sorted : List ℕ) (recent after : BTreeMap (Vec ℕ A) ℕ) → after.entries ≡ recent.entries → IsPlaced fronts sorted recent → IsPlaced fronts sorted after
placed_same {A} fronts sorted recent after same placed =
    let under : (name : Name) → number_under after name ≡ number_under recent name = λ name. ap (λ (es : List (Vec ℕ A × ℕ)). lookup (is_at (front_cmp name)) es) same in
    record {
      rising = placed.rising;
      below = placed.below;
      waiting = All-same (λ k. k < length fronts) (values_of after.entries) (values_of recent.entries) (ap values_of same) placed.waiting;
      own = λ name n some. placed.own name n (sym (under name) ∙ some);
      kept = λ i below. ⊎_elim (λ among. inl among) (λ there. inr (under (get_or fronts i []) ∙ there)) (placed.kept i below);
      apart = placed.apart;
    }

-- a front that was added last and is taken off leaves the others
pub front_taken : (fronts after : List Name) (front : Name) → after ≡ fronts ++ front ∷ [] → take (length after - 1) after ≡ fronts
front_taken fronts after front grown =
    ap (λ (names : List Name). take (length names - 1) names) grown
    ∙ take_at fronts (front ∷ []) (length (fronts ++ front ∷ []) - 1) (omega (arith, length-append fronts (front ∷ [])))
