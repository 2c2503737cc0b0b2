-- The part of some threads says of them what the whole history says, and answers their calls alike.
use Rattle.std.proofs.Common.{◌≡◌, ℕ, ◌+◌, ◌<◌, Bool, true, false, ◌==◌, ◌&&◌, ◌||◌, not, List, [], ◌∷◌, length, Option, None, Some, refl, ap, sym, ◌∙◌, inl, inr, arith}
use Rattle.std.proofs.lemmas.Bool.{or_cases, or_parts, cond_both, cases_lt, le-leb, lt-leb}
use Rattle.std.specs.Prelude.{if◌then◌else◌, nat_le}
use Rattle.std.specs.List.{find}
use Rattle.std.specs.Option.{option_map}
use Rattle.lc_base.specs.declared.category.Category.{Category}
use Rattle.lc_base.specs.declared.category.Category.TheVariants as categories_of
use Rattle.lc_base.specs.Categories.{categories, number_for}
use Rattle.lc_base.specs.Mask.{includes}
use Rattle.mask_compose.specs.Parts.{Parts, composed}
use Rattle.mask_compose.specs.Parts as objects
use Rattle.mask_compose.specs.Offer.{Offered}
use Rattle.generations.specs.Making.{with_handle}
use Rattle.lc_base.specs.declared.handle.Handle.{Handle}
use Rattle.lc_base.specs.declared.handle.Named.{Named}
use Rattle.lc_base.specs.declared.handle.Named.TheVariants.{Global, Of}
use Rattle.handle_table.specs.declared.op.Refusal.TheVariants.{NoData, NeverMade, Stale, AlreadyHeld, NotHeld}
use Rattle.handle_table.specs.Numbers.{object_handles}
use Rattle.handle_table.specs.Entry.{Op, New, Dup, Free, Use, Hold, Release, SetGlobal, Install, Post, Fetch, Pins, End, Made, Was, Held, Set, Pinned, Installed, Entry, History, Setting, is_accepted}
use Rattle.handle_table.specs.Shelf.{posix, offer_after, shelf, installs_after, installs, part_from_shelf, from_shelf, is_lacking, lacking}
use Rattle.handle_table.specs.History.{handle_made, makes_handle, made, frees_handle, live, handles, sets_after, sets, global_after, global, global_at, object_named, object_after, replies_with, object, selection_after, selection, holding_after, holding, pins, free_row, handle_named, posted_after, posted}
use Rattle.handle_table.specs.Answer.{no_data, never_made, stale, too_many, already_held, not_held, empty_cell, reasons, first_reason, made_in, target_object, of_handle, got, reply_to, unless, answer, entry, IsLegal, own_after, own}
use Rattle.handle_table.specs.Isolation.{has_thread, named_by, fetched_from, is_own, is_own_cell, keeps_apart, IsClosed, is_for_all, is_in_part, part_of, calls_of, replies_of, SaysOfThreads}
use Rattle.handle_table.proofs.Unchanged.{fewer_sets}
use Rattle.handle_table.proofs.Apart.{apart_inside, made_apart, live_apart, object_apart, handles_apart, selection_apart, own_apart, holding_apart, posted_apart, HoldOnAlike, pins_alike, free_alike, shelf_apart, installs_apart, sets_apart, global_apart}

-- ---- one entry more, in both

-- what the shelf offers alike is taken from it alike
offers_alike : (c : Setting) (G H : History) (mask : ℕ) (numbers : List ℕ) (category : Category) → ((n : ℕ) → shelf c G n ≡ shelf c H n)
    → part_from_shelf c G mask numbers category ≡ part_from_shelf c H mask numbers category
offers_alike c G H mask numbers category same =
    ap (λ (o : Offered). if includes mask category then objects.part_of o.object category else objects.part_of (posix c) category)
    (same (number_for numbers category))

pub from_shelf_alike : (c : Setting) (G H : History) (mask : ℕ) (numbers : List ℕ) → ((n : ℕ) → shelf c G n ≡ shelf c H n)
    → from_shelf c G mask numbers ≡ from_shelf c H mask numbers
from_shelf_alike c G H mask numbers same =
    let one = λ (category : Category). offers_alike c G H mask numbers category same in
    let g = from_shelf c G mask numbers in
    let h = from_shelf c H mask numbers in
    ap (λ n. record g { ctype = n }) (one categories_of.Ctype)
    ∙ ap (λ n. record g { ctype = h.ctype; numeric = n }) (one categories_of.Numeric)
    ∙ ap (λ n. record g { ctype = h.ctype; numeric = h.numeric; monetary = n }) (one categories_of.Monetary)
    ∙ ap (λ n. record h { time = n; messages = g.messages }) (one categories_of.Time)
    ∙ ap (λ n. record h { messages = n }) (one categories_of.Messages)

find_alike : (p q : Category → Bool) (cs : List Category) → ((category : Category) → p category ≡ q category) → find p cs ≡ find q cs
find_alike p q [] same = refl
find_alike p q (x ∷ cs) same =
    ap (λ b. if b then Some x else find p cs) (same x) ∙ ap (λ o. if q x then Some x else o) (find_alike p q cs same)

lacking_alike : (c : Setting) (G H : History) (mask : ℕ) (numbers : List ℕ) → ((n : ℕ) → shelf c G n ≡ shelf c H n)
    → lacking c G mask numbers ≡ lacking c H mask numbers
lacking_alike c G H mask numbers same =
    find_alike (is_lacking c G mask numbers) (is_lacking c H mask numbers) categories (λ category.
    ap (λ (o : Offered). includes mask category && not (includes o.available category)) (same (number_for numbers category)))

global_after_alike : (c : Setting) (G H : History) (op : Op) (before after : Parts) → ((n : ℕ) → shelf c G n ≡ shelf c H n) → before ≡ after
    → global_after c G op before ≡ global_after c H op after
global_after_alike c G H (SetGlobal mask numbers) before after same is =
    ap (λ p. composed mask p before) (from_shelf_alike c G H mask numbers same) ∙ ap (composed mask (from_shelf c H mask numbers)) is
global_after_alike c G H _ before after same is = is

global_along : (c : Setting) (e : Entry) (G H : History) → ((n : ℕ) → shelf c G n ≡ shelf c H n) → global c G ≡ global c H
    → global c (e ∷ G) ≡ global c (e ∷ H)
global_along c e G H same is =
    ap (λ o. if is_accepted e.reply then o else global c G) (global_after_alike c G H e.op (global c G) (global c H) same is)
    ∙ ap (λ o. if is_accepted e.reply then global_after c H e.op (global c H) else o) is

named_alike : (c : Setting) (S : List ℕ) (G H : History) (n : Named) → global c G ≡ global c H
    → ((h : Handle) → has_thread S h.owner ≡ true → object c G h ≡ object c H h) → is_own S (handle_named n) ≡ true
    → object_named (object c G) (global c G) n ≡ object_named (object c H) (global c H) n
named_alike c S G H Global is each owned = is
named_alike c S G H (Of h) is each owned = each h owned

object_after_alike : (c : Setting) (S : List ℕ) (G H : History) (op : Op) (h : Handle) → ((n : ℕ) → shelf c G n ≡ shelf c H n)
    → global c G ≡ global c H → ((g : Handle) → has_thread S g.owner ≡ true → object c G g ≡ object c H g)
    → is_own S (named_by op) ≡ true → has_thread S h.owner ≡ true
    → object_after c G (object c G) op h ≡ object_after c H (object c H) op h
object_after_alike c S G H (New mask numbers None) h same is each own owned =
    ap (λ p. composed mask p (posix c)) (from_shelf_alike c G H mask numbers same)
object_after_alike c S G H (New mask numbers (Some n)) h same is each own owned =
    ap (λ p. composed mask p (object c G h)) (from_shelf_alike c G H mask numbers same)
    ∙ ap (composed mask (from_shelf c H mask numbers)) (each h owned)
object_after_alike c S G H (Dup n) h same is each own owned = named_alike c S G H n is each own
object_after_alike c S G H _ h same is each own owned = each h owned

object_along : (c : Setting) (S : List ℕ) (e : Entry) (G H : History) (h : Handle) → ((n : ℕ) → shelf c G n ≡ shelf c H n)
    → global c G ≡ global c H → ((g : Handle) → has_thread S g.owner ≡ true → object c G g ≡ object c H g)
    → is_own S (named_by e.op) ≡ true → has_thread S h.owner ≡ true → object c (e ∷ G) h ≡ object c (e ∷ H) h
object_along c S e G H h same is each own owned =
    ap (λ o. if replies_with e.reply h then o else object c G h) (object_after_alike c S G H e.op h same is each own owned)
    ∙ ap (λ o. if replies_with e.reply h then object_after c H (object c H) e.op h else o) (each h owned)

-- ---- one search each, over the part

-- an entry of the part names no handle of others
for_all_own : (S : List ℕ) (op : Op) → is_for_all op ≡ true → is_own S (named_by op) ≡ true
for_all_own S (SetGlobal mask numbers) all = refl
for_all_own S (Install m offer) all = refl
for_all_own S _ all = absurd (cc all)

own_in_part : (S : List ℕ) (e : Entry) → keeps_apart S e ≡ true → is_in_part S e ≡ true → is_own S (named_by e.op) ≡ true
own_in_part S e apart is =
    elim (or_cases (has_thread S e.who) (is_for_all e.op) is) [
      | inl inside ↦ (apart_inside S e apart inside).0
      | inr all ↦ for_all_own S e.op all
    ]

part_if : {X : Type 0} (f : History → X) (e : Entry) (G H : History) (b : Bool) → (b ≡ false → f (e ∷ H) ≡ f H)
    → (b ≡ true → f (e ∷ G) ≡ f (e ∷ H)) → f G ≡ f H → f (if b then e ∷ G else G) ≡ f (e ∷ H)
part_if f e G H true apart along same = along refl
part_if f e G H false apart along same = same ∙ sym (apart refl)

-- what entries outside of the part leave, and those of the part take on alike, is the same over the part
pub part_says : {X : Type 0} (c : Setting) (S : List ℕ) (f : History → X)
    → ((e : Entry) (H : History) → IsLegal c (e ∷ H) → keeps_apart S e ≡ true → has_thread S e.who ≡ false → is_for_all e.op ≡ false → f (e ∷ H) ≡ f H)
    → ((e : Entry) (G H : History) → f G ≡ f H → f (e ∷ G) ≡ f (e ∷ H))
    → (H : History) → IsLegal c H → IsClosed S H → f (part_of S H) ≡ f H
part_says c S f apart along [] legal closed = refl
part_says c S f apart along (e ∷ H) legal closed =
    let before = part_says c S f apart along H legal.1 closed.1 in
    part_if f e (part_of S H) H (is_in_part S e)
    (λ out. let parts = or_parts (has_thread S e.who) (is_for_all e.op) out in apart e H legal closed.0 parts.0 parts.1)
    (λ is. along e (part_of S H) H before) before

module _ (c : Setting) (S : List ℕ) where
  pub shelf_part : (H : History) → IsLegal c H → IsClosed S H → (n : ℕ) → shelf c (part_of S H) n ≡ shelf c H n
  shelf_part H legal closed n =
      part_says c S (λ G. shelf c G n) (λ e G l apart outside own. shelf_apart c e G n own)
      (λ e F G same. ap (λ o. if is_accepted e.reply then offer_after e.op n o else o) same) H legal closed

  pub installs_part : (H : History) → IsLegal c H → IsClosed S H → installs (part_of S H) ≡ installs H
  installs_part H legal closed =
      part_says c S installs (λ e G l apart outside own. installs_apart e G own)
      (λ e F G same. ap (λ n. if is_accepted e.reply then installs_after e.op n else n) same) H legal closed

  pub sets_part : (H : History) → IsLegal c H → IsClosed S H → sets (part_of S H) ≡ sets H
  sets_part H legal closed =
      part_says c S sets (λ e G l apart outside own. sets_apart e G own)
      (λ e F G same. ap (λ n. if is_accepted e.reply then sets_after e.op n else n) same) H legal closed

  pub made_part : (H : History) → IsLegal c H → IsClosed S H → (h : Handle) → has_thread S h.owner ≡ true → made (part_of S H) h ≡ made H h
  made_part H legal closed h owned =
      part_says c S (λ G. made G h) (λ e G l apart outside own. made_apart c S e G h l outside owned)
      (λ e F G same. ap (λ b. makes_handle e h || b) same) H legal closed

  pub live_part : (H : History) → IsLegal c H → IsClosed S H → (h : Handle) → has_thread S h.owner ≡ true → live (part_of S H) h ≡ live H h
  live_part H legal closed h owned =
      part_says c S (λ G. live G h) (λ e G l apart outside own. live_apart c S e G h l apart outside owned)
      (λ e F G same. ap (λ b. not (frees_handle e h) && (makes_handle e h || b)) same) H legal closed

  pub handles_part : (H : History) → IsLegal c H → IsClosed S H → (t r : ℕ) → has_thread S t ≡ true → handles (part_of S H) t r ≡ handles H t r
  handles_part H legal closed t r inside =
      part_says c S (λ G. handles G t r) (λ e G l apart outside own. handles_apart c S e G t r l outside inside)
      (λ e F G same. ap (with_handle object_handles t r (handle_made e.op e.reply)) same) H legal closed

  pub selection_part : (H : History) → IsLegal c H → IsClosed S H → (t : ℕ) → has_thread S t ≡ true → selection (part_of S H) t ≡ selection H t
  selection_part H legal closed t inside =
      part_says c S (λ G. selection G t) (λ e G l apart outside own. selection_apart S e G t outside inside)
      (λ e F G same. ap (λ n. if e.who == t && is_accepted e.reply then selection_after e.op n else n) same) H legal closed

  pub own_part : (H : History) → IsLegal c H → IsClosed S H → (t : ℕ) → has_thread S t ≡ true → own (part_of S H) t ≡ own H t
  own_part H legal closed t inside =
      part_says c S (λ G. own G t) (λ e G l apart outside none. own_apart S e G t outside inside)
      (λ e F G same. ap (λ o. if e.who == t then own_after e.reply o else o) same) H legal closed

  pub holding_part : (H : History) → IsLegal c H → IsClosed S H → (t : ℕ) (h : Handle) → has_thread S t ≡ true → holding (part_of S H) t h ≡ holding H t h
  holding_part H legal closed t h inside =
      part_says c S (λ G. holding G t h) (λ e G l apart outside own. holding_apart S e G t h outside inside)
      (λ e F G same. ap (λ b. if e.who == t && is_accepted e.reply then holding_after e.op h b else b) same) H legal closed

  pub posted_part : (H : History) → IsLegal c H → IsClosed S H → (t k : ℕ) → has_thread S t ≡ true → posted (part_of S H) t k ≡ posted H t k
  posted_part H legal closed t k inside =
      part_says c S (λ G. posted G t k) (λ e G l apart outside own. posted_apart S e G t k outside inside)
      (λ e F G same. ap (λ o. if e.who == t && is_accepted e.reply then posted_after e.op k o else o) same) H legal closed

  pub global_part : (H : History) → IsLegal c H → IsClosed S H → global c (part_of S H) ≡ global c H
  global_part [] legal closed = refl
  global_part (e ∷ H) legal closed =
      let before = global_part H legal.1 closed.1 in
      part_if (global c) e (part_of S H) H (is_in_part S e)
      (λ out. global_apart c e H (or_parts (has_thread S e.who) (is_for_all e.op) out).1)
      (λ is. global_along c e (part_of S H) H (shelf_part H legal.1 closed.1) before) before

  pub object_part : (H : History) → IsLegal c H → IsClosed S H → (h : Handle) → has_thread S h.owner ≡ true → object c (part_of S H) h ≡ object c H h
  object_part [] legal closed h owned = refl
  object_part (e ∷ H) legal closed h owned =
      part_if (λ G. object c G h) e (part_of S H) H (is_in_part S e)
      (λ out. object_apart c S e H h legal closed.0 (or_parts (has_thread S e.who) (is_for_all e.op) out).0 owned)
      (λ is. object_along c S e (part_of S H) H h (shelf_part H legal.1 closed.1) (global_part H legal.1 closed.1)
      (object_part H legal.1 closed.1) (own_in_part S e closed.0 is) owned)
      (object_part H legal.1 closed.1 h owned)

  closed_part : (H : History) → IsClosed S H → IsClosed S (part_of S H)
  closed_part [] closed = tt
  closed_part (e ∷ H) closed =
      let before = closed_part H closed.1 in
      cond_both (is_in_part S e) (e ∷ part_of S H) (part_of S H) (IsClosed S) (λ is. (closed.0, before)) (λ out. before)

  pub pins_part : (H : History) → IsLegal c H → IsClosed S H → (h : Handle) → has_thread S h.owner ≡ true → pins c (part_of S H) h ≡ pins c H h
  pins_part H legal closed h owned =
      let alike : HoldOnAlike S (part_of S H) H = record {
        selection = selection_part H legal closed;
        holding = holding_part H legal closed;
      } in
      pins_alike c S (part_of S H) H h alike (closed_part H closed) closed owned

  pub free_row_part : (H : History) → IsLegal c H → IsClosed S H → (t : ℕ) → has_thread S t ≡ true → free_row c (part_of S H) t ≡ free_row c H t
  free_row_part H legal closed t inside =
      free_alike c (part_of S H) H t (λ r. handles_part H legal closed t r inside) (λ h owner.
      let owned : has_thread S h.owner ≡ true = ap (has_thread S) owner ∙ inside in
      (live_part H legal closed h owned, pins_part H legal closed h owned))

-- ---- versions of the global locale

-- beyond the last version there is the last one
beyond : (c : Setting) (H : History) (k : ℕ) → sets H < k → global_at c H k ≡ global c H
beyond c [] k past = refl
beyond c (e ∷ H) k past =
    let fewer = fewer_sets e H in
    ap (λ b. if b then global_at c H k else global c (e ∷ H)) (lt-leb k (sets H) (omega arith))

version_if : (c : Setting) (e : Entry) (H : History) (k : ℕ) → global c (e ∷ H) ≡ global c H → global_at c (e ∷ H) k ≡ global_at c H k
version_if c e H k same =
    elim (cases_lt (sets H) k) [
      | inl past ↦
          ap (λ b. if b then global_at c H k else global c (e ∷ H)) (lt-leb k (sets H) past) ∙ same ∙ sym (beyond c H k past)
      | inr within ↦ ap (λ b. if b then global_at c H k else global c (e ∷ H)) (le-leb k (sets H) within)
    ]

version_along : (c : Setting) (e : Entry) (G H : History) (k : ℕ) → sets G ≡ sets H → global c (e ∷ G) ≡ global c (e ∷ H)
    → global_at c G k ≡ global_at c H k → global_at c (e ∷ G) k ≡ global_at c (e ∷ H) k
version_along c e G H k count newest before =
    ap (λ n. if nat_le k n then global_at c G k else global c (e ∷ G)) count
    ∙ ap (λ o. if nat_le k (sets H) then o else global c (e ∷ G)) before
    ∙ ap (λ o. if nat_le k (sets H) then global_at c H k else o) newest

pub version_part : (c : Setting) (S : List ℕ) (H : History) → IsLegal c H → IsClosed S H → (k : ℕ) → global_at c (part_of S H) k ≡ global_at c H k
version_part c S [] legal closed k = refl
version_part c S (e ∷ H) legal closed k =
    let G = part_of S H in
    part_if (λ F. global_at c F k) e G H (is_in_part S e)
    (λ out. version_if c e H k (global_apart c e H (or_parts (has_thread S e.who) (is_for_all e.op) out).1))
    (λ is.
    version_along c e G H k (sets_part c S H legal.1 closed.1)
    (global_along c e G H (shelf_part c S H legal.1 closed.1) (global_part c S H legal.1 closed.1))
    (version_part c S H legal.1 closed.1 k))
    (version_part c S H legal.1 closed.1 k)

-- ---- answers

-- the part says of the threads what the whole says
pub says_part : (c : Setting) (S : List ℕ) (H : History) → IsLegal c H → IsClosed S H → SaysOfThreads c S (part_of S H) H
says_part c S H legal closed = record {
  made = made_part c S H legal closed;
  live = live_part c S H legal closed;
  object = object_part c S H legal closed;
  pins = pins_part c S H legal closed;
  makes = λ t r inside. ap length (handles_part c S H legal closed t r inside);
  free_row = free_row_part c S H legal closed;
  selection = selection_part c S H legal closed;
  own = own_part c S H legal closed;
  holding = holding_part c S H legal closed;
  posted = posted_part c S H legal closed;
  shelf = shelf_part c S H legal closed;
  installs = installs_part c S H legal closed;
  sets = sets_part c S H legal closed;
  global = global_part c S H legal closed;
  versions = version_part c S H legal closed;
}

module _ (c : Setting) (S : List ℕ) (G H : History) (says : SaysOfThreads c S G H) where
  no_data_alike : (mask : ℕ) (numbers : List ℕ) → no_data c G mask numbers ≡ no_data c H mask numbers
  no_data_alike mask numbers = ap (option_map NoData) (lacking_alike c G H mask numbers says.shelf)

  never_made_alike : (n : Named) → is_own S (handle_named n) ≡ true → never_made G n ≡ never_made H n
  never_made_alike Global owned = refl
  never_made_alike (Of h) owned = ap (λ b. if b then None else Some NeverMade) (says.made h owned)

  stale_alike : (n : Named) → is_own S (handle_named n) ≡ true → stale G n ≡ stale H n
  stale_alike Global owned = refl
  stale_alike (Of h) owned =
      ap (λ b. if b && not (live G h) then Some Stale else None) (says.made h owned)
      ∙ ap (λ b. if made H h && not b then Some Stale else None) (says.live h owned)

  already_held_alike : (t : ℕ) (n : Named) → has_thread S t ≡ true → already_held G t n ≡ already_held H t n
  already_held_alike t Global inside = refl
  already_held_alike t (Of h) inside = ap (λ b. if b then Some AlreadyHeld else None) (says.holding t h inside)

  not_held_alike : (t : ℕ) (n : Named) → has_thread S t ≡ true → not_held G t n ≡ not_held H t n
  not_held_alike t Global inside = refl
  not_held_alike t (Of h) inside = ap (λ b. if b then None else Some NotHeld) (says.holding t h inside)

  target_alike : (n : Named) → is_own S (handle_named n) ≡ true → target_object c G n ≡ target_object c H n
  target_alike Global owned = refl
  target_alike (Of h) owned = ap (λ o. Some o) (says.object h owned)

  made_in_alike : (t : ℕ) (row : Option ℕ) → has_thread S t ≡ true → made_in G t row ≡ made_in H t row
  made_in_alike t None inside = refl
  made_in_alike t (Some r) inside = ap (λ n. Made (record { owner = t; row = r; generation = n + 1 })) (says.makes t r inside)

  new_alike : (t : ℕ) → has_thread S t ≡ true → made_in G t (free_row c G t) ≡ made_in H t (free_row c H t)
  new_alike t inside = ap (made_in G t) (says.free_row t inside) ∙ made_in_alike t (free_row c H t) inside

  -- nothing stands against a call in one history alone
  reasons_alike : (t : ℕ) (op : Op) → has_thread S t ≡ true → is_own S (named_by op) ≡ true → is_own_cell S (fetched_from op) ≡ true
      → reasons c G t op ≡ reasons c H t op
  reasons_alike t (New mask numbers None) inside owned cell =
      let lacks = no_data_alike mask numbers in let row = ap too_many (says.free_row t inside) in cc
  reasons_alike t (New mask numbers (Some n)) inside owned cell =
      let lacks = no_data_alike mask numbers in let was = never_made_alike n owned in let is = stale_alike n owned in cc
  reasons_alike t (Dup n) inside owned cell =
      let was = never_made_alike n owned in let is = stale_alike n owned in let row = ap too_many (says.free_row t inside) in cc
  reasons_alike t (Free n) inside owned cell = let was = never_made_alike n owned in let is = stale_alike n owned in cc
  reasons_alike t (Use n) inside owned cell = let was = never_made_alike n owned in let is = stale_alike n owned in cc
  reasons_alike t (Hold n) inside owned cell =
      let was = never_made_alike n owned in let is = stale_alike n owned in let held = already_held_alike t n inside in cc
  reasons_alike t (Release n) inside owned cell = let held = not_held_alike t n inside in cc
  reasons_alike t (SetGlobal mask numbers) inside owned cell = let lacks = no_data_alike mask numbers in cc
  reasons_alike t (Install m offer) inside owned cell = refl
  reasons_alike t (Post k n) inside owned cell = let was = never_made_alike n owned in let is = stale_alike n owned in cc
  reasons_alike t (Fetch owner k) inside owned cell = ap (λ o. empty_cell o ∷ []) (says.posted owner k cell)
  reasons_alike t (Pins n) inside owned cell = let was = never_made_alike n owned in cc
  reasons_alike t End inside owned cell = refl

  held_alike : (n : Named) → is_own S (handle_named n) ≡ true → of_handle n (λ h. Held (object c G h)) ≡ of_handle n (λ h. Held (object c H h))
  held_alike Global owned = refl
  held_alike (Of h) owned = ap (λ o. Held o) (says.object h owned)

  pinned_alike : (n : Named) → is_own S (handle_named n) ≡ true → of_handle n (λ h. Pinned (pins c G h)) ≡ of_handle n (λ h. Pinned (pins c H h))
  pinned_alike Global owned = refl
  pinned_alike (Of h) owned = ap (λ n. Pinned n) (says.pins h owned)

  set_alike : (mask : ℕ) (numbers : List ℕ)
      → Set (sets G + 1) (composed mask (from_shelf c G mask numbers) (global c G)) ≡ Set (sets H + 1) (composed mask (from_shelf c H mask numbers) (global c H))
  set_alike mask numbers =
      ap (λ n. Set (n + 1) (composed mask (from_shelf c G mask numbers) (global c G))) says.sets
      ∙ ap (λ p. Set (sets H + 1) (composed mask p (global c G))) (from_shelf_alike c G H mask numbers says.shelf)
      ∙ ap (λ o. Set (sets H + 1) (composed mask (from_shelf c H mask numbers) o)) says.global

  -- a call with nothing against it gets the same in both
  replies_alike : (t : ℕ) (op : Op) → has_thread S t ≡ true → is_own S (named_by op) ≡ true → is_own_cell S (fetched_from op) ≡ true
      → reply_to c G t op ≡ reply_to c H t op
  replies_alike t (New mask numbers None) inside owned cell = new_alike t inside
  replies_alike t (New mask numbers (Some n)) inside owned cell = refl
  replies_alike t (Dup n) inside owned cell = new_alike t inside
  replies_alike t (Free n) inside owned cell = refl
  replies_alike t (Use n) inside owned cell =
      ap (λ m. Was m (target_object c G n)) (says.selection t inside) ∙ ap (Was (selection H t)) (target_alike n owned)
  replies_alike t (Hold n) inside owned cell = held_alike n owned
  replies_alike t (Release n) inside owned cell = refl
  replies_alike t (SetGlobal mask numbers) inside owned cell = set_alike mask numbers
  replies_alike t (Install m offer) inside owned cell = ap (λ n. Installed (n + 1)) says.installs
  replies_alike t (Post k n) inside owned cell = refl
  replies_alike t (Fetch owner k) inside owned cell = ap got (says.posted owner k cell)
  replies_alike t (Pins n) inside owned cell = pinned_alike n owned
  replies_alike t End inside owned cell = refl

  answer_inside : (t : ℕ) (op : Op) → has_thread S t ≡ true → is_own S (named_by op) ≡ true → is_own_cell S (fetched_from op) ≡ true
      → answer c G t op ≡ answer c H t op
  answer_inside t op inside owned cell =
      ap (λ os. unless (first_reason os) (reply_to c G t op)) (reasons_alike t op inside owned cell)
      ∙ ap (unless (first_reason (reasons c H t op))) (replies_alike t op inside owned cell)

  -- what all threads see is answered alike, whoever calls
  answer_for_all : (t : ℕ) (op : Op) → is_for_all op ≡ true → answer c G t op ≡ answer c H t op
  answer_for_all t (SetGlobal mask numbers) all =
      ap (λ o. unless (first_reason (o ∷ [])) (reply_to c G t (SetGlobal mask numbers))) (no_data_alike mask numbers)
      ∙ ap (unless (first_reason (no_data c H mask numbers ∷ []))) (set_alike mask numbers)
  answer_for_all t (Install m offer) all = ap (λ n. Installed (n + 1)) says.installs
  answer_for_all t _ all = absurd (cc all)

entry_alike : (c : Setting) (S : List ℕ) (e : Entry) (G H : History) → SaysOfThreads c S G H → keeps_apart S e ≡ true → is_in_part S e ≡ true
    → answer c G e.who e.op ≡ answer c H e.who e.op
entry_alike c S e G H says apart is =
    elim (or_cases (has_thread S e.who) (is_for_all e.op) is) [
      | inl inside ↦ let own = apart_inside S e apart inside in answer_inside c S G H says e.who e.op inside own.0 own.1
      | inr all ↦ answer_for_all c S G H says e.who e.op all
    ]

-- the part of a legal history is legal
pub part_legal : (c : Setting) (S : List ℕ) (H : History) → IsLegal c H → IsClosed S H → IsLegal c (part_of S H)
part_legal c S [] legal closed = tt
part_legal c S (e ∷ H) legal closed =
    let before = part_legal c S H legal.1 closed.1 in
    cond_both (is_in_part S e) (e ∷ part_of S H) (part_of S H) (IsLegal c)
    (λ is. (legal.0 ∙ sym (entry_alike c S e (part_of S H) H (says_part c S H legal.1 closed.1) closed.0 is), before))
    (λ out. before)

-- a call of one of the threads is answered as in their part
pub answer_apart : (c : Setting) (S : List ℕ) (H : History) (t : ℕ) (op : Op) → IsLegal c H → has_thread S t ≡ true → IsClosed S (entry c H t op ∷ H)
    → answer c H t op ≡ answer c (part_of S H) t op
answer_apart c S H t op legal inside closed =
    let own = apart_inside S (entry c H t op) closed.0 inside in
    sym (answer_inside c S (part_of S H) H (says_part c S H legal closed.1) t op inside own.0 own.1)

-- ---- two worlds

head_alike : (d e : Entry) (G H : History) → calls_of (d ∷ G) ≡ calls_of (e ∷ H) → (d.who ≡ e.who) × (d.op ≡ e.op) × (calls_of G ≡ calls_of H)
head_alike d e G H same =
    let heads : ◌≡◌ {A = ℕ × Op} (d.who, d.op) (e.who, e.op) = cc in
    (ap (λ (p : ℕ × Op). p.0) heads, ap (λ (p : ℕ × Op). p.1) heads, cc)

-- a legal history is given by its callers and ops
pub legal_alike : (c : Setting) (G H : History) → IsLegal c G → IsLegal c H → calls_of G ≡ calls_of H → G ≡ H
legal_alike c [] [] legal_g legal_h same = refl
legal_alike c [] (e ∷ H) legal_g legal_h same = absurd (cc same)
legal_alike c (d ∷ G) [] legal_g legal_h same = absurd (cc same)
legal_alike c (d ∷ G) (e ∷ H) legal_g legal_h same =
    let parts = head_alike d e G H same in
    let before = legal_alike c G H legal_g.1 legal_h.1 parts.2 in
    let reply : d.reply ≡ e.reply =
    legal_g.0 ∙ ap (λ F. answer c F d.who d.op) before ∙ ap (λ t. answer c H t d.op) parts.0 ∙ ap (answer c H e.who) parts.1 ∙ sym legal_h.0
    in
    ap (λ F. d ∷ F) before
    ∙ ap (λ t. record d { who = t } ∷ H) parts.0
    ∙ ap (λ o. record d { who = e.who; op = o } ∷ H) parts.1
    ∙ ap (λ r. record e { reply = r } ∷ H) reply

pub worlds_alike : (c : Setting) (S : List ℕ) (G H : History) → IsLegal c G → IsLegal c H → IsClosed S G → IsClosed S H
    → calls_of (part_of S G) ≡ calls_of (part_of S H) → replies_of (part_of S G) ≡ replies_of (part_of S H)
worlds_alike c S G H legal_g legal_h closed_g closed_h same =
    ap replies_of (legal_alike c (part_of S G) (part_of S H) (part_legal c S G legal_g closed_g) (part_legal c S H legal_h closed_h) same)
