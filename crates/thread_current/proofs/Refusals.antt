-- When each call is refused: the first reason against it, by what the history says.
use Rattle.std.proofs.Common.{◌≡◌, ℕ, Bool, true, false, not, ◌&&◌, List, [], ◌∷◌, Option, Some, None, refl, ap, sym, ◌∙◌}
use Rattle.std.proofs.Math.Logic.{◌↔◌}
use Rattle.std.specs.Prelude.{if◌then◌else◌}
use Rattle.std.specs.Option.{option_map, IsSomeAnd}
use Rattle.lc_base.specs.declared.category.Category.{Category}
use Rattle.lc_base.specs.declared.handle.Handle.{Handle}
use Rattle.lc_base.specs.declared.handle.Named.{Named}
use Rattle.lc_base.specs.declared.handle.Named.TheVariants.{Global, Of}
use Rattle.handle_table.specs.declared.op.Refusal.{Refusal}
use Rattle.handle_table.specs.declared.op.Refusal.TheVariants.{NoData, GlobalHandle, NeverMade, Stale, TooMany}
use Rattle.handle_table.specs.Entry.{Op, New, Dup, Free, Use, Hold, Release, SetGlobal, Install, Post, Fetch, Pins, End, Reply, Refused, History, Setting}
use Rattle.handle_table.specs.Shelf.{lacking}
use Rattle.handle_table.specs.History.{made, live, free_row, posted}
use Rattle.handle_table.specs.Answer.{no_data, global_handle, never_made, stale, too_many, empty_cell, made_in, got, reasons, first_reason, reply_to, unless, answer}
use Rattle.thread_current.specs.Causes.{IsNeverMade, IsStale}

-- the reason in a reply
abbrev pub reason_in : Reply → Option Refusal
reason_in (Refused refusal) = Some refusal
reason_in _ = None

abbrev Agrees : Option Refusal → Reply → Type 0
Agrees o reply = o ≡ None → reason_in reply ≡ None

made_agrees : (d : Option Refusal) (H : History) (t : ℕ) (o : Option ℕ) → Agrees (first_reason (d ∷ too_many o ∷ [])) (made_in H t o)
made_agrees (Some r) H t o p = absurd (cc p)
made_agrees None H t None p = absurd (cc p)
made_agrees None H t (Some row) p = refl

dup_agrees : (a b : Option Refusal) (H : History) (t : ℕ) (o : Option ℕ) → Agrees (first_reason (a ∷ b ∷ too_many o ∷ [])) (made_in H t o)
dup_agrees (Some r) b H t o p = absurd (cc p)
dup_agrees None b H t o p = made_agrees b H t o p

global_agrees : (d : Option Refusal) (rest : List (Option Refusal)) → first_reason (d ∷ Some GlobalHandle ∷ rest) ≡ None → ⊥
global_agrees (Some r) rest p = cc p
global_agrees None rest p = cc p

got_agrees : (o : Option Handle) → Agrees (first_reason (empty_cell o ∷ [])) (got o)
got_agrees None p = absurd (cc p)
got_agrees (Some h) p = refl

-- what an op asks for is no refusal, where nothing is against it
agrees : (c : Setting) (H : History) (t : ℕ) (op : Op) → Agrees (first_reason (reasons c H t op)) (reply_to c H t op)
agrees c H t (New mask numbers None) p = made_agrees (no_data c H mask numbers) H t (free_row c H t) p
agrees c H t (New mask numbers (Some Global)) p = absurd (global_agrees (no_data c H mask numbers) (never_made H Global ∷ stale H Global ∷ []) p)
agrees c H t (New mask numbers (Some (Of h))) p = refl
agrees c H t (Dup n) p = dup_agrees (never_made H n) (stale H n) H t (free_row c H t) p
agrees c H t (Free n) p = refl
agrees c H t (Use n) p = refl
agrees c H t (Hold Global) p = absurd (cc p)
agrees c H t (Hold (Of h)) p = refl
agrees c H t (Release n) p = refl
agrees c H t (SetGlobal mask numbers) p = refl
agrees c H t (Install m offer) p = refl
agrees c H t (Post k n) p = refl
agrees c H t (Fetch owner k) p = got_agrees (posted H owner k) p
agrees c H t (Pins Global) p = absurd (cc p)
agrees c H t (Pins (Of h)) p = refl
agrees c H t End p = refl

reason_unless : (o : Option Refusal) (reply : Reply) → Agrees o reply → reason_in (unless o reply) ≡ o
reason_unless None reply ok = ok refl
reason_unless (Some r) reply ok = refl

-- a reply that is the answer is refused for the first reason against the op
pub reason_is : (c : Setting) (H : History) (t : ℕ) (op : Op) (reply : Reply) → reply ≡ answer c H t op → first_reason (reasons c H t op) ≡ reason_in reply
reason_is c H t op reply is = sym (ap reason_in is ∙ reason_unless (first_reason (reasons c H t op)) (reply_to c H t op) (agrees c H t op))

same_value : {A : Type 0} (x y : A) → Some x ≡ Some y → x ≡ y
same_value x y is = cc is

-- ---- what stands against a name

abbrev of_object : Bool → Bool → List (Option Refusal) → Option Refusal
of_object b l rest = first_reason ((if b then None else Some NeverMade) ∷ (if b && not l then Some Stale else None) ∷ rest)

never_first : (b l : Bool) (rest : List (Option Refusal)) → (first_reason rest ≡ Some NeverMade → ⊥) → (of_object b l rest ≡ Some NeverMade) ↔ (b ≡ false)
never_first false l rest non = (λ p. refl, λ p. refl)
never_first true false rest non = (λ p. absurd (cc p), λ p. absurd (cc p))
never_first true true rest non = (λ p. absurd (non p), λ p. absurd (cc p))

stale_first : (b l : Bool) (rest : List (Option Refusal)) → (first_reason rest ≡ Some Stale → ⊥) → (of_object b l rest ≡ Some Stale) ↔ ((b ≡ true) × (l ≡ false))
stale_first false l rest non = (λ p. absurd (cc p), λ p. absurd (let q = p.0 in cc q))
stale_first true false rest non = (λ p. (refl, refl), λ p. refl)
stale_first true true rest non = (λ p. absurd (non p), λ p. absurd (let q = p.1 in cc q))

abbrev against : History → Named → List (Option Refusal) → Option Refusal
against H n rest = first_reason (never_made H n ∷ stale H n ∷ rest)

-- the same where an object is wanted
abbrev on_object : History → Named → List (Option Refusal) → Option Refusal
on_object H n rest = first_reason (global_handle n ∷ never_made H n ∷ stale H n ∷ rest)

-- what is against a call that wants an object, where nothing else is against it that is as these
pub record OnObject (H : History) (n : Named) (f : Option Refusal) : Type 0 where
  pub global_handle : (f ≡ Some GlobalHandle) ↔ (n ≡ Global)
  pub never_made : (f ≡ Some NeverMade) ↔ IsNeverMade H n
  pub stale : (f ≡ Some Stale) ↔ IsStale H n

global_not_first : (b l : Bool) (rest : List (Option Refusal)) (n : Named) (h : Handle) → (first_reason rest ≡ Some GlobalHandle → ⊥) → (of_object b l rest ≡ Some GlobalHandle) ↔ (Of h ≡ Global)
global_not_first false l rest n h non = (λ p. absurd (cc p), λ p. absurd (cc p))
global_not_first true false rest n h non = (λ p. absurd (cc p), λ p. absurd (cc p))
global_not_first true true rest n h non = (λ p. absurd (non p), λ p. absurd (cc p))

wants_object : (H : History) (n : Named) (rest : List (Option Refusal)) → (first_reason rest ≡ Some GlobalHandle → ⊥) → (first_reason rest ≡ Some NeverMade → ⊥)
    → (first_reason rest ≡ Some Stale → ⊥) → OnObject H n (on_object H n rest)
wants_object H Global rest g m s = record {
  global_handle = (λ p. refl, λ p. refl);
  never_made = (λ p. absurd (cc p), λ p. absurd p);
  stale = (λ p. absurd (cc p), λ p. absurd p);
}
wants_object H (Of h) rest g m s = record {
  global_handle = global_not_first (made H h) (live H h) rest (Of h) h g;
  never_made = never_first (made H h) (live H h) rest m;
  stale = stale_first (made H h) (live H h) rest s;
}

pub none_there : {A : Type 0} (x : A) → None ≡ Some x → ⊥
none_there x p = cc p

too_many_only : (o : Option ℕ) (r : Refusal) → (r ≡ TooMany → ⊥) → first_reason (too_many o ∷ []) ≡ Some r → ⊥
too_many_only None r non p = non (sym (same_value TooMany r p))
too_many_only (Some row) r non p = cc p

too_many_where : (o : Option ℕ) → (first_reason (too_many o ∷ []) ≡ Some TooMany) ↔ (o ≡ None)
too_many_where None = (λ p. refl, λ p. refl)
too_many_where (Some row) = (λ p. absurd (cc p), λ p. absurd (cc p))

-- ---- the calls

pub data_where : (o : Option Category) (k : Category) (rest : List (Option Refusal)) → (first_reason rest ≡ Some (NoData k) → ⊥)
    → (first_reason (option_map NoData o ∷ rest) ≡ Some (NoData k)) ↔ (o ≡ Some k)
data_where None k rest non = (λ p. absurd (non p), λ p. absurd (cc p))
data_where (Some j) k rest non = (λ p. (let q : NoData j ≡ NoData k = same_value (NoData j) (NoData k) p in cc q), λ p. ap (option_map NoData) p)

data_first : (o : Option Category) (r : Refusal) (rest : List (Option Refusal)) → ((k : Category) → NoData k ≡ r → ⊥)
    → (first_reason (option_map NoData o ∷ rest) ≡ Some r) ↔ ((o ≡ None) × (first_reason rest ≡ Some r))
data_first None r rest non = (λ p. (refl, p), λ p. p.1)
data_first (Some j) r rest non = (λ p. absurd (non j (same_value (NoData j) r p)), λ p. absurd (let q = p.0 in cc q))

pub record OnNew (c : Setting) (H : History) (t mask : ℕ) (numbers : List ℕ) (base : Option Named) (f : Option Refusal) : Type 0 where
  pub no_data : (k : Category) → (f ≡ Some (NoData k)) ↔ (lacking c H mask numbers ≡ Some k)
  pub global_handle : (f ≡ Some GlobalHandle) ↔ ((lacking c H mask numbers ≡ None) × (base ≡ Some Global))
  pub never_made : (f ≡ Some NeverMade) ↔ ((lacking c H mask numbers ≡ None) × IsSomeAnd base (IsNeverMade H))
  pub stale : (f ≡ Some Stale) ↔ ((lacking c H mask numbers ≡ None) × IsSomeAnd base (IsStale H))
  pub too_many : (f ≡ Some TooMany) ↔ ((lacking c H mask numbers ≡ None) × (base ≡ None) × (free_row c H t ≡ None))

no_data_on_object : (b l : Bool) (k : Category) → of_object b l [] ≡ Some (NoData k) → ⊥
no_data_on_object false l k p = cc p
no_data_on_object true false k p = cc p
no_data_on_object true true k p = cc p

no_data_on : (H : History) (n : Named) (k : Category) → on_object H n [] ≡ Some (NoData k) → ⊥
no_data_on H Global k p = cc p
no_data_on H (Of h) k p = no_data_on_object (made H h) (live H h) k p

too_many_on_object : (b l : Bool) → of_object b l [] ≡ Some TooMany → ⊥
too_many_on_object false l p = cc p
too_many_on_object true false p = cc p
too_many_on_object true true p = cc p

too_many_on : (H : History) (n : Named) → on_object H n [] ≡ Some TooMany → ⊥
too_many_on H Global p = cc p
too_many_on H (Of h) p = too_many_on_object (made H h) (live H h) p

pub on_new : (c : Setting) (H : History) (t mask : ℕ) (numbers : List ℕ) (base : Option Named) → OnNew c H t mask numbers base (first_reason (reasons c H t (New mask numbers base)))
on_new c H t mask numbers None =
    let o : Option Category = lacking c H mask numbers in
    let row : Option ℕ = free_row c H t in
    let rest : List (Option Refusal) = too_many row ∷ [] in
    let g = data_first o GlobalHandle rest (λ k p. cc p) in
    let m = data_first o NeverMade rest (λ k p. cc p) in
    let s = data_first o Stale rest (λ k p. cc p) in
    let many = data_first o TooMany rest (λ k p. cc p) in
    let where_none = too_many_where row in record {
      no_data = λ k. data_where o k rest (too_many_only row (NoData k) (λ p. cc p));
      global_handle = (λ p. absurd (too_many_only row GlobalHandle (λ q. cc q) (g.0 p).1), λ p. absurd (let q = p.1 in cc q));
      never_made = (λ p. absurd (too_many_only row NeverMade (λ q. cc q) (m.0 p).1), λ p. absurd p.1);
      stale = (λ p. absurd (too_many_only row Stale (λ q. cc q) (s.0 p).1), λ p. absurd p.1);
      too_many = (λ p. let q = many.0 p in (q.0, refl, where_none.0 q.1), λ p. many.1 (p.0, where_none.1 p.2));
    }
on_new c H t mask numbers (Some n) =
    let o : Option Category = lacking c H mask numbers in
    let rest : List (Option Refusal) = global_handle n ∷ never_made H n ∷ stale H n ∷ [] in
    let on = wants_object H n [] (none_there GlobalHandle) (none_there NeverMade) (none_there Stale) in
    let g = data_first o GlobalHandle rest (λ k p. cc p) in
    let m = data_first o NeverMade rest (λ k p. cc p) in
    let s = data_first o Stale rest (λ k p. cc p) in
    let many = data_first o TooMany rest (λ k p. cc p) in record {
      no_data = λ k. data_where o k rest (no_data_on H n k);
      global_handle = (λ p. let q = g.0 p in (q.0, ap (λ x. Some x) (on.global_handle.0 q.1)), λ p. g.1 (p.0, on.global_handle.1 (same_value n Global p.1)));
      never_made = (λ p. let q = m.0 p in (q.0, on.never_made.0 q.1), λ p. m.1 (p.0, on.never_made.1 p.1));
      stale = (λ p. let q = s.0 p in (q.0, on.stale.0 q.1), λ p. s.1 (p.0, on.stale.1 p.1));
      too_many = (λ p. absurd (too_many_on H n (many.0 p).1), λ p. absurd (let q = p.1 in cc q));
    }
