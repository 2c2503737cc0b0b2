-- Messages in order: what stands before a number of a set, at it, and behind it.
use Rattle.std.proofs.Common.{◌≡◌, ℕ, zero, suc, ◌<◌, ◌≤◌, Bool, true, false, eqb, List, [], ◌∷◌, ◌++◌, length, take, drop, get_or, Some, None, refl, sym, ap, ◌∙◌, arith}
use Rattle.std.specs.Prelude.{slice_set}
use Rattle.std.specs.List.{insert, filter}
use Rattle.std.specs.List.Sorted.{IsPartitionedBy, IsPartitionPoint}
use Rattle.std.proofs.lemmas.Bool.Decides.{nat_tests}
use Rattle.std.proofs.lemmas.List.{set_split}
use Rattle.msg_catalog.specs.declared.book.Message.{Message}
use Rattle.msg_catalog.specs.Books.{comes_before, comes_behind, stands_at, number_before, has_message, with_message, without_message, without_set, text_at, AllBehind, IsInOrder}

-- ---- numbers of sets

-- what is before a message is before what it is before
before_trans : (s k : ℕ) (m n : Message) → comes_before n.set n.number m ≡ true → comes_before s k n ≡ true → comes_before s k m ≡ true
before_trans s k m n h i = grind (arith, nat_tests)

-- a message that is not before is at the number, or behind it
behind_rest : (s k : ℕ) (m : Message) → comes_before s k m ≡ false → stands_at s k m ≡ false → comes_behind s k m ≡ true
behind_rest s k m h i = grind (arith, nat_tests)

-- what follows one that is not before is behind
behind_next : (s k : ℕ) (m n : Message) → comes_before s k m ≡ false → comes_before n.set n.number m ≡ true → comes_behind s k n ≡ true
behind_next s k m n h i = grind (arith, nat_tests)

not_before_behind : (s k : ℕ) (m : Message) → comes_behind s k m ≡ true → comes_before s k m ≡ false
not_before_behind s k m h = grind (arith, nat_tests)

not_at_behind : (s k : ℕ) (m : Message) → comes_behind s k m ≡ true → stands_at s k m ≡ false
not_at_behind s k m h = grind (arith, nat_tests)

not_at_before : (s k : ℕ) (m : Message) → comes_before s k m ≡ true → stands_at s k m ≡ false
not_at_before s k m h = grind (arith, nat_tests)

not_behind_before : (s k : ℕ) (m : Message) → comes_before s k m ≡ true → comes_behind s k m ≡ false
not_behind_before s k m h = grind (arith, nat_tests)

not_behind_at : (s k : ℕ) (m : Message) → stands_at s k m ≡ true → comes_behind s k m ≡ false
not_behind_at s k m h = grind (arith, nat_tests)

-- ---- lists behind a message

-- all of these are behind a number
abbrev AllAfter : ℕ → ℕ → List Message → Type 0
AllAfter s k [] = Unit {0}
AllAfter s k (m ∷ ms) = (comes_behind s k m ≡ true) × AllAfter s k ms

all_after : (s k : ℕ) (m : Message) (ms : List Message) → comes_before s k m ≡ false → AllBehind m ms → AllAfter s k ms
all_after s k m [] h all = tt
all_after s k m (n ∷ ns) h all = (behind_next s k m n h all.0, all_after s k m ns h all.1)

filter_before_after : (s k : ℕ) (ms : List Message) → AllAfter s k ms → filter (comes_before s k) ms ≡ []
filter_before_after s k [] all = refl
filter_before_after s k (m ∷ ms) all = rw (not_before_behind s k m all.0) (filter_before_after s k ms all.1)

filter_behind_after : (s k : ℕ) (ms : List Message) → AllAfter s k ms → filter (comes_behind s k) ms ≡ ms
filter_behind_after s k [] all = refl
filter_behind_after s k (m ∷ ms) all = rw (all.0, filter_behind_after s k ms all.1) refl

any_after : (s k : ℕ) (ms : List Message) → AllAfter s k ms → has_message s k ms ≡ false
any_after s k [] all = refl
any_after s k (m ∷ ms) all = rw (not_at_behind s k m all.0) (any_after s k ms all.1)

-- ---- what is found

either : {A : Type 0} (b : Bool) → (b ≡ true → A) → (b ≡ false → A) → A
either true f g = f refl
either false f g = g refl

-- the front of the messages is what comes before
pub take_front : (s k : ℕ) (ms : List Message) → IsInOrder ms → take (number_before s k ms) ms ≡ filter (comes_before s k) ms
take_front s k [] order = refl
take_front s k (m ∷ ms) order = either (comes_before s k m)
    (λ h. rw h (ap (λ (xs : List Message). m ∷ xs) (take_front s k ms order.1)))
    (λ h. rw h (sym (filter_before_after s k ms (all_after s k m ms h order.0))))

-- the others are what comes behind, where no message stands there
pub drop_front : (s k : ℕ) (ms : List Message) → IsInOrder ms → has_message s k ms ≡ false → drop (number_before s k ms) ms ≡ filter (comes_behind s k) ms
drop_front s k [] order absent = refl
drop_front s k (m ∷ ms) order absent = either (comes_before s k m)
    (λ h. rw (h, not_behind_before s k m h) (drop_front s k ms order.1 (rw (not_at_before s k m h) at absent)))
    (λ h. either (stands_at s k m)
    (λ here. absurd (let e : true ≡ false = rw here at absent in cc))
    (λ apart. rw (h, behind_rest s k m h apart, filter_behind_after s k ms (all_after s k m ms h order.0)) refl))

-- and what follows the message that stands there
pub drop_next : (s k : ℕ) (ms : List Message) → IsInOrder ms → has_message s k ms ≡ true → drop (suc (number_before s k ms)) ms ≡ filter (comes_behind s k) ms
drop_next s k [] order there = absurd cc
drop_next s k (m ∷ ms) order there = either (comes_before s k m)
    (λ h. rw (h, not_behind_before s k m h) (drop_next s k ms order.1 (rw (not_at_before s k m h) at there)))
    (λ h. either (stands_at s k m)
    (λ here. rw (h, not_behind_at s k m here) (sym (filter_behind_after s k ms (all_after s k m ms h order.0))))
    (λ apart. absurd (let e : true ≡ false = sym (rw apart at there) ∙ any_after s k ms (all_after s k m ms h order.0) in cc)))

-- the text of a message that is not there
pub no_text : (s k : ℕ) (ms : List Message) → has_message s k ms ≡ false → text_at s k ms ≡ None
no_text s k [] absent = refl
no_text s k (m ∷ ms) absent = either (stands_at s k m)
    (λ here. absurd (let e : true ≡ false = rw here at absent in cc))
    (λ apart. rw apart (no_text s k ms (rw apart at absent)))

-- and of one that is
pub text_there : (s k : ℕ) (ms : List Message) (d : Message) → IsInOrder ms → has_message s k ms ≡ true → text_at s k ms ≡ Some (get_or ms (number_before s k ms) d).text
text_there s k [] d order there = absurd cc
text_there s k (m ∷ ms) d order there = either (comes_before s k m)
    (λ h. rw (h, not_at_before s k m h) (text_there s k ms d order.1 (rw (not_at_before s k m h) at there)))
    (λ h. either (stands_at s k m)
    (λ here. rw (h, here) refl)
    (λ apart. absurd (let e : true ≡ false = sym (rw apart at there) ∙ any_after s k ms (all_after s k m ms h order.0) in cc)))

-- without a message that is not there the messages are the same
pub without_absent : (s k : ℕ) (ms : List Message) → has_message s k ms ≡ false → ms ≡ without_message s k ms
without_absent s k [] absent = refl
without_absent s k (m ∷ ms) absent = either (stands_at s k m)
    (λ here. absurd (let e : true ≡ false = rw here at absent in cc))
    (λ apart. rw apart (ap (λ (xs : List Message). m ∷ xs) (without_absent s k ms (rw apart at absent))))

-- ---- where a message stands

pub absent_at : (s k : ℕ) (ms : List Message) (d : Message) → IsInOrder ms → stands_at s k (get_or ms (number_before s k ms) d) ≡ false → has_message s k ms ≡ false
absent_at s k [] d order apart = refl
absent_at s k (m ∷ ms) d order apart = either (comes_before s k m)
    (λ h. rw (not_at_before s k m h) (absent_at s k ms d order.1 (rw h at apart)))
    (λ h. let at = rw h at apart in rw (at, any_after s k ms (all_after s k m ms h order.0)) refl)

pub absent_behind : (s k : ℕ) (ms : List Message) → length ms ≤ number_before s k ms → has_message s k ms ≡ false
absent_behind s k [] over = refl
absent_behind s k (m ∷ ms) over = either (comes_before s k m)
    (λ h. rw (not_at_before s k m h) (absent_behind s k ms (let o = rw h at over in omega (arith, o))))
    (λ h. absurd (let o = rw h at over in omega (arith, o)))

-- ---- sets

-- a message before the numbers of a set is in another one, and so is one that is behind another's
set_before : (s : ℕ) (m : Message) → comes_before s 0 m ≡ true → eqb m.set s ≡ false
set_before s m h = grind (arith, nat_tests)

set_behind : (s : ℕ) (m n : Message) → comes_before s 0 m ≡ false → eqb m.set s ≡ false → comes_before n.set n.number m ≡ true → eqb n.set s ≡ false
set_behind s m n h i j = grind (arith, nat_tests)

without_set_after : (s : ℕ) (m : Message) (ms : List Message) → comes_before s 0 m ≡ false → eqb m.set s ≡ false → AllBehind m ms → ms ≡ without_set s ms
without_set_after s m [] h i all = refl
without_set_after s m (n ∷ ns) h i all = rw (set_behind s m n h i all.0) (ap (λ (xs : List Message). n ∷ xs) (without_set_after s m ns h i all.1))

-- without the messages of a set, of which none is there, the messages are the same
pub without_set_apart : (s : ℕ) (ms : List Message) (d : Message) → IsInOrder ms → eqb (get_or ms (number_before s 0 ms) d).set s ≡ false → ms ≡ without_set s ms
without_set_apart s [] d order apart = refl
without_set_apart s (m ∷ ms) d order apart = either (comes_before s 0 m)
    (λ h. rw (set_before s m h) (ap (λ (xs : List Message). m ∷ xs) (without_set_apart s ms d order.1 (rw h at apart))))
    (λ h. let other : eqb m.set s ≡ false = rw h at apart in rw other (ap (λ (xs : List Message). m ∷ xs) (without_set_after s m ms h other order.0)))

pub without_set_behind : (s : ℕ) (ms : List Message) → length ms ≤ number_before s 0 ms → ms ≡ without_set s ms
without_set_behind s [] over = refl
without_set_behind s (m ∷ ms) over = either (comes_before s 0 m)
    (λ h. rw (set_before s m h) (ap (λ (xs : List Message). m ∷ xs) (without_set_behind s ms (let o = rw h at over in omega (arith, o)))))
    (λ h. absurd (let o = rw h at over in omega (arith, o)))

-- ---- order

-- some of the messages behind one
behind_filter : (p : Message → Bool) (m : Message) (ms : List Message) → AllBehind m ms → AllBehind m (filter p ms)
behind_filter p m [] all = tt
behind_filter p m (n ∷ ns) all = either (p n)
    (λ h. rw h (all.0, behind_filter p m ns all.1))
    (λ h. rw h (behind_filter p m ns all.1))

-- some of the messages are in order
pub order_filter : (p : Message → Bool) (ms : List Message) → IsInOrder ms → IsInOrder (filter p ms)
order_filter p [] order = tt
order_filter p (m ∷ ms) order = either (p m)
    (λ h. rw h (behind_filter p m ms order.0, order_filter p ms order.1))
    (λ h. rw h (order_filter p ms order.1))

-- what comes behind one number comes before what is behind it
flip : (m n : Message) → comes_behind m.set m.number n ≡ true → comes_before n.set n.number m ≡ true
flip m n h = grind (arith, nat_tests)

behind_all : (m : Message) (ms : List Message) → AllBehind m (filter (comes_behind m.set m.number) ms)
behind_all m [] = tt
behind_all m (n ∷ ns) = either (comes_behind m.set m.number n)
    (λ h. rw h (flip m n h, behind_all m ns))
    (λ h. rw h (behind_all m ns))

-- the messages behind m are behind what comes before m, and so is m
behind_later : (x m : Message) (ms : List Message) → comes_before m.set m.number x ≡ true → AllBehind m ms → AllBehind x ms
behind_later x m [] h all = tt
behind_later x m (n ∷ ns) h all = (before_trans n.set n.number x m h all.0, behind_later x m ns h all.1)

behind_front : (x m : Message) (ms ns : List Message) → comes_before m.set m.number x ≡ true → AllBehind x ms → AllBehind m ns → AllBehind x (filter (comes_before m.set m.number) ms ++ m ∷ ns)
behind_front x m [] ns h front all = (h, behind_later x m ns h all)
behind_front x m (y ∷ ys) ns h front all = either (comes_before m.set m.number y)
    (λ i. rw i (front.0, behind_front x m ys ns h front.1 all))
    (λ i. rw i (behind_front x m ys ns h front.1 all))

joined_order : (m : Message) (ms ns : List Message) → IsInOrder ms → AllBehind m ns → IsInOrder ns → IsInOrder (filter (comes_before m.set m.number) ms ++ m ∷ ns)
joined_order m [] ns order all later = (all, later)
joined_order m (x ∷ xs) ns order all later = either (comes_before m.set m.number x)
    (λ h. rw h (behind_front x m xs ns h order.0 all, joined_order m xs ns order.1 all later))
    (λ h. rw h (joined_order m xs ns order.1 all later))

-- the messages with one more are in order
pub order_with : (m : Message) (ms : List Message) → IsInOrder ms → IsInOrder (with_message m ms)
order_with m ms order = joined_order m ms (filter (comes_behind m.set m.number) ms) order (behind_all m ms) (order_filter (comes_behind m.set m.number) ms order)

-- ---- the place that is searched for

behind_at : (m : Message) (ms : List Message) (j : ℕ) (d : Message) → AllBehind m ms → j < length ms → comes_before (get_or ms j d).set (get_or ms j d).number m ≡ true
behind_at m [] j d all within = absurd (omega arith)
behind_at m (n ∷ ns) zero d all within = all.0
behind_at m (n ∷ ns) (suc j) d all within = behind_at m ns j d all.1 (omega (arith, within))

-- what comes before a number comes first
pub parted : (s k : ℕ) (ms : List Message) → IsInOrder ms → IsPartitionedBy (comes_before s k) ms
parted s k [] order i j d le within = absurd (omega arith)
parted s k (m ∷ ms) order zero zero d le within = λ h. h
parted s k (m ∷ ms) order zero (suc j) d le within = λ h. before_trans s k m (get_or ms j d) (behind_at m ms j d order.0 (omega (arith, within))) h
parted s k (m ∷ ms) order (suc i) zero d le within = absurd (omega (arith, le))
parted s k (m ∷ ms) order (suc i) (suc j) d le within = parted s k ms order.1 i j d (omega (arith, le)) (omega (arith, within))

-- and so it is counted
pub front_counted : (s k : ℕ) (ms : List Message) (i : ℕ) → i ≤ length ms → IsPartitionPoint (λ m. comes_before s k m ≡ true) (λ m. comes_before s k m ≡ false) ms i → i ≡ number_before s k ms
front_counted s k [] i within point = omega (arith, within)
front_counted s k (m ∷ ms) zero within point = rw (point.1 0 m (omega arith) (omega arith)) refl
front_counted s k (m ∷ ms) (suc i) within point =
    let rest = front_counted s k ms i (omega (arith, within)) ((λ j d low high. point.0 (suc j) d (omega arith) (omega (arith, high))), (λ j d low high. point.1 (suc j) d (omega (arith, low)) (omega (arith, high)))) in
    rw (point.0 0 m (omega arith) (omega arith)) (ap suc rest)

-- ---- edits

-- a message in the place of the one that stands there
pub set_with : (m : Message) (ms : List Message) (i : ℕ) → IsInOrder ms → i ≡ number_before m.set m.number ms → i < length ms → has_message m.set m.number ms ≡ true → slice_set ms i m ≡ with_message m ms
set_with m ms i order is within there =
    set_split ms i m within ∙ rw (is, take_front m.set m.number ms order, drop_next m.set m.number ms order there) refl

-- a message more
pub insert_with : (m : Message) (ms : List Message) (i : ℕ) → IsInOrder ms → i ≡ number_before m.set m.number ms → has_message m.set m.number ms ≡ false → insert ms i m ≡ with_message m ms
insert_with m ms i order is absent =
    rw (is, take_front m.set m.number ms order, drop_front m.set m.number ms order absent) refl
