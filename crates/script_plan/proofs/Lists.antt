-- Lists: what is found in one, what all of a joined list do, and calls that rise by thread.
use Rattle.std.proofs.Common.{◌≡◌, ℕ, suc, ◌<◌, Bool, true, false, cond, List, [], ◌∷◌, ◌++◌, map, find, Option, Some, None, refl, sym, ap, subst, ◌∙◌, arith}
use Rattle.std.specs.Prelude.{◌==◌, filter, flat_map, All}
use Rattle.std.specs.List.{AllPairs, list_all}
use Rattle.std.proofs.lemmas.Bool.{eq-eqb, and_parts}
use Rattle.std.proofs.lemmas.List.Elements.{All-nil, All-cons, All-head, All-tail, All-append, All-from_get_or}
use Rattle.script_plan.specs.Prints.{PlacedCall}
use Rattle.script_plan.proofs.LineLists.{GoUp}
use Rattle.script_plan.proofs.PlacedCalls.{place_of}

-- ---- what is found, and what all do

-- what is found is of the list, and passes the test
abbrev pub IsFound : {X : Type 0} → (X → Type 0) → (X → Bool) → Option X → Type 0
IsFound P q None = Unit {0}
IsFound P q (Some x) = P x × (q x ≡ true)

found_if : {X : Type 0} (P : X → Type 0) (q : X → Bool) (x : X) (o : Option X) (b : Bool) → q x ≡ b → P x → IsFound P q o → IsFound P q (cond b (Some x) o)
found_if P q x o true is here rest = (here, is)
found_if P q x o false is here rest = rest

pub found : {X : Type 0} (P : X → Type 0) (q : X → Bool) (xs : List X) → All P xs → IsFound P q (find q xs)
found P q [] all = tt
found P q (x ∷ xs) all = found_if P q x (find q xs) (q x) refl (All-head P x xs all) (found P q xs (All-tail P x xs all))

pub each : {X : Type 0} (P : X → Type 0) (xs : List X) → ((x : X) → P x) → All P xs
each P [] one = All-nil P
each P (x ∷ xs) one = All-cons P x xs (one x) (each P xs one)

pub each_flat : {X Y : Type 0} (P : Y → Type 0) (f : X → List Y) (xs : List X) → ((x : X) → All P (f x)) → All P (flat_map f xs)
each_flat P f [] one = All-nil P
each_flat P f (x ∷ xs) one = All-append P (f x) (flat_map f xs) (one x) (each_flat P f xs one)

pub same_flat : {X Y : Type 0} (f g : X → List Y) (xs : List X) → ((x : X) → f x ≡ g x) → flat_map f xs ≡ flat_map g xs
same_flat f g [] same = refl
same_flat f g (x ∷ xs) same = ap (λ (ys : List _). ys ++ flat_map f xs) (same x) ∙ ap (λ (ys : List _). g x ++ ys) (same_flat f g xs same)

pub all_pass : {X : Type 0} (q : X → Bool) (xs : List X) → list_all q xs ≡ true → All (λ (x : X). q x ≡ true) xs
all_pass q [] all = All-nil (λ x. q x ≡ true)
all_pass q (x ∷ xs) all = let both = and_parts (q x) (list_all q xs) all in All-cons (λ y. q y ≡ true) x xs both.0 (all_pass q xs both.1)

-- ---- calls that rise by thread

-- each call has a place above those of its thread's calls before it
abbrev pub Rise : List PlacedCall → Type 0
Rise [] = Unit {0}
Rise (call ∷ calls) = All (λ (later : PlacedCall). later.thread ≡ call.thread → call.place < later.place) calls × Rise calls

-- the calls of a thread
abbrev pub calls_by : ℕ → List PlacedCall → List PlacedCall
calls_by thread calls = filter (λ (call : PlacedCall). call.thread == thread) calls

all_by_if : (P : ℕ → Type 0) (t : ℕ) (call : PlacedCall) (calls kept : List PlacedCall) (b : Bool) → (call.thread == t) ≡ b → All P (map place_of (cond b (call ∷ kept) kept))
    → (All P (map place_of kept) → All (λ (k : PlacedCall). k.thread ≡ t → P k.place) calls) → All (λ (k : PlacedCall). k.thread ≡ t → P k.place) (call ∷ calls)
all_by_if P t call calls kept true is all rest =
    All-cons (λ (k : PlacedCall). k.thread ≡ t → P k.place) call calls (λ same. All-head P call.place (map place_of kept) all) (rest (All-tail P call.place (map place_of kept) all))
all_by_if P t call calls kept false is all rest =
    All-cons (λ (k : PlacedCall). k.thread ≡ t → P k.place) call calls (λ same. absurd (cc (sym is, eq-eqb call.thread t same))) (rest all)

all_by : (P : ℕ → Type 0) (t : ℕ) (calls : List PlacedCall) → All P (map place_of (calls_by t calls)) → All (λ (k : PlacedCall). k.thread ≡ t → P k.place) calls
all_by P t [] all = All-nil (λ (k : PlacedCall). k.thread ≡ t → P k.place)
all_by P t (call ∷ calls) all = all_by_if P t call calls (calls_by t calls) (call.thread == t) refl all (all_by P t calls)

up_behind : (call : PlacedCall) (kept : List PlacedCall) (b : Bool) → GoUp (map place_of (cond b (call ∷ kept) kept)) → GoUp (map place_of kept)
up_behind call kept true up = up.1
up_behind call kept false up = up

pub rise_from : (calls : List PlacedCall) → ((t : ℕ) → GoUp (map place_of (calls_by t calls))) → Rise calls
rise_from [] up = tt
rise_from (call ∷ calls) up =
    let t : ℕ = call.thread in
    let here : GoUp (map place_of (call ∷ calls_by t calls)) =
    subst (λ (b : Bool). GoUp (map place_of (cond b (call ∷ calls_by t calls) (calls_by t calls)))) (eq-eqb t t refl) (up t)
    in
    (all_by (λ (p : ℕ). call.place < p) t calls here.0, rise_from calls (λ s. up_behind call (calls_by s calls) (call.thread == s) (up s)))

pub goes_up : (xs : List ℕ) → AllPairs (λ x y. x < y) xs → GoUp xs
goes_up [] h = tt
goes_up (x ∷ xs) h =
    (All-from_get_or (λ (y : ℕ). x < y) xs 0 (λ k within. h 0 (suc k) 0 (omega arith) (omega (arith, within))), goes_up xs (λ i j d lt within. h (suc i) (suc j) d (omega (arith, lt)) (omega (arith, within))))
