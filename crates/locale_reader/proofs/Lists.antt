-- Values that are read one by one.
use Rattle.std.proofs.Common.{◌≡◌, ℕ, ◌+◌, ◌<◌, Bool, true, false, ◌||◌, cond, List, [], ◌∷◌, ◌++◌, length, take, drop, ◌-◌, get_or, Ok, Err, refl, sym, ap, ◌∙◌, append_assoc, arith}
use Rattle.std.proofs.lemmas.Grind.{common_steps}
use Rattle.std.proofs.lemmas.List.{drop_more}
use Rattle.std.proofs.lemmas.List.Folds.{list_any-append}
use Rattle.std.specs.List.{list_any}
use Rattle.lc_base.specs.declared.place.Place.{Place}
use Rattle.lc_base.specs.Reading.{Reads, ◌>>=◌}
use Rattle.charset.specs.CodedSet.{CodedSet}
use Rattle.keywords.specs.declared.source.Value.{Value}
use Rattle.keywords.specs.declared.source.Value.TheVariants.{Chars}
use Rattle.keywords.specs.declared.row.Element.{Element}
use Rattle.locale_reader.specs.Values.{Placed, one_character, is_dots, range_end, members, followed, element, several}
use Rattle.locale_reader.specs.Steps.{member, first_member}

-- values before those that are still read
abbrev pub after : List (Place × Value) → Reads (List (Place × Value)) → Reads (List (Place × Value))
after front later = later >>= λ vs. Ok (front ++ vs)

-- no value yet
pub after_none : (front : List (Place × Value)) (later : Reads (List (Place × Value))) → front ≡ [] → after front later ≡ later
after_none front (Ok vs) e = rw e refl
after_none front (Err f) e = refl

-- one more value
pub after_one : (front more : List (Place × Value)) (v : Place × Value) (later : Reads (List (Place × Value))) → more ≡ front ++ v ∷ [] → after front (followed v later) ≡ after more later
after_one front more v (Ok vs) e = rw (e, append_assoc) refl
after_one front more v (Err f) e = refl

-- what goes on after a part goes on after its parts
bind_assoc : {A B C : Type 0} (r : Reads A) (f : A → Reads B) (g : B → Reads C) → ((r >>= f) >>= g) ≡ (r >>= λ a. f a >>= g)
bind_assoc (Ok a) f g = refl
bind_assoc (Err e) f g = refl

-- and in the same way where the rest is the same
bind_same : {A B : Type 0} (r : Reads A) (f g : A → Reads B) → ((a : A) → f a ≡ g a) → (r >>= f) ≡ (r >>= g)
bind_same (Ok a) f g h = h a
bind_same (Err e) f g h = refl

-- after a choice
bind_choice : {A B : Type 0} (b : Bool) (x y : Reads A) (g : A → Reads B) → (cond b x y >>= g) ≡ cond b (x >>= g) (y >>= g)
bind_choice true x y g = refl
bind_choice false x y g = refl

-- a first character or range, and the others
members_one : (set : CodedSet) (o : Placed) (os : List Placed) → members set (o ∷ os) ≡ (one_character set o >>= λ a. member set a os >>= λ x. followed (o.0, x.0) (members set x.1))
members_one set o [] = refl
members_one set o (p ∷ []) =
    bind_same (one_character set o) _ _ (λ a. sym (bind_choice (is_dots p.1) _ _ (λ x. followed (o.0, x.0) (members set x.1))))
members_one set o (p ∷ q ∷ os) =
    let go : ℕ → Value × List Placed → Reads (List (Place × Value)) = λ a x. followed (o.0, x.0) (members set x.1) in
    bind_same (one_character set o) _ _ (λ a.
    ap (λ (r : Reads (List (Place × Value))). cond (is_dots p.1) r (followed (o.0, Chars a a) (members set (p ∷ q ∷ os))))
    (sym (bind_assoc (range_end set a p.0 q) (λ b. Ok (Chars a b, os)) (go a)))
    ∙ sym (bind_choice (is_dots p.1) _ _ (go a)))

-- what comes after values, where the operands that are left begin so
pub members_more : (set : CodedSet) (o : Placed) (os left : List Placed) (front : List (Place × Value)) → left ≡ o ∷ os
    → after front (members set left) ≡ (first_member set o os >>= λ x. after front (followed (o.0, x.0) (members set x.1)))
unfolding first_member
members_more set o os left front e =
    let one : members set left ≡ (first_member set o os >>= λ x. followed (o.0, x.0) (members set x.1)) =
    ap (members set) e ∙ members_one set o os ∙ sym (bind_assoc (one_character set o) (λ a. member set a os) (λ x. followed (o.0, x.0) (members set x.1))) in
    ap (after front) one ∙ bind_assoc (first_member set o os) (λ x. followed (o.0, x.0) (members set x.1)) (λ vs. Ok (front ++ vs))

-- after the first character or range the others are left
pub members_step : (set : CodedSet) (o : Placed) (os left rest : List Placed) (v : Value) (front more : List (Place × Value)) (total : Reads (List (Place × Value)))
    → left ≡ o ∷ os → first_member set o os ≡ Ok (v, rest) → more ≡ front ++ (o.0, v) ∷ [] → after front (members set left) ≡ total → after more (members set rest) ≡ total
members_step set o os left rest v front more total e read added so_far =
    let one : after front (members set left) ≡ after front (followed (o.0, v) (members set rest)) = members_more set o os left front e ∙ rw read refl in
    sym (after_one front more (o.0, v) (members set rest) added) ∙ sym one ∙ so_far

-- a list is its first and the others, as a pattern takes them
pub first_and_rest : {X : Type 0} (xs : List X) (x : X) → 0 < length xs → x ≡ get_or xs 0 x → xs ≡ x ∷ take (length xs - 1) (drop 1 xs)
first_and_rest [] x lt e = absurd (omega (arith, lt))
first_and_rest (y ∷ ys) x lt e =
    let count : length (y ∷ ys) - 1 ≡ length ys = omega arith in
    let all : take (length (y ∷ ys) - 1) ys ≡ ys = grind (arith, common_steps) in
    ap (λ z. z ∷ ys) (sym e) ∙ ap (λ zs. x ∷ zs) (sym all)

-- after an operand that is read the others are left
pub several_step : (set : CodedSet) (kind : Element) (os : List Placed) (i : ℕ) (o : Placed) (v : Value) (front more : List (Place × Value)) (total : Reads (List (Place × Value)))
    → i < length os → o ≡ get_or os i o → element set kind o ≡ Ok v → more ≡ front ++ (o.0, v) ∷ [] → after front (several set kind (drop i os)) ≡ total → after more (several set kind (drop (i + 1) os)) ≡ total
several_step set kind os i o v front more total lt is read added so_far =
    let left : drop i os ≡ o ∷ drop (i + 1) os = drop_more os i o lt ∙ ap (λ (p : Placed). p ∷ drop (i + 1) os) (sym is) in
    let one : several set kind (drop i os) ≡ followed (o.0, v) (several set kind (drop (i + 1) os)) = ap (several set kind) left ∙ rw read refl in
    sym (after_one front more (o.0, v) (several set kind (drop (i + 1) os)) added) ∙ sym (ap (after front) one) ∙ so_far

or_none : (a : Bool) → (a || false) ≡ a
or_none true = refl
or_none false = refl

-- a test of one more
pub any_push : {X : Type 0} (p : X → Bool) (xs more : List X) (x : X) → more ≡ xs ++ x ∷ [] → list_any p more ≡ (list_any p xs || p x)
any_push p xs more x e = ap (list_any p) e ∙ list_any-append p xs (x ∷ []) ∙ ap (λ b. list_any p xs || b) (or_none (p x))

pub or_other : (a b : Bool) → (a || b) ≡ (b || a)
or_other true true = refl
or_other true false = refl
or_other false true = refl
or_other false false = refl
