-- A refused entry changes nothing of what a history says, and the newest version of the global locale is
-- the global locale.
use Rattle.std.proofs.Common.{◌≡◌, ℕ, suc, ◌+◌, ◌≤◌, Bool, true, false, ◌&&◌, ◌||◌, [], ◌∷◌, ◌++◌, length, refl, ap, sym, ◌∙◌, arith}
use Rattle.std.specs.Prelude.{if◌then◌else◌, nat_lt, nat_le}
use Rattle.std.proofs.lemmas.Bool.{le-leb, lt-leb}
use Rattle.generations.proofs.Free.{free_row_alike}
use Rattle.lc_base.specs.declared.handle.Handle.{Handle}
use Rattle.handle_table.specs.Entry.{Op, New, Dup, Free, Use, Hold, Release, SetGlobal, Install, Post, Fetch, Pins, End, Entry, History, Setting, names, is_accepted}
use Rattle.handle_table.specs.History.{op_frees, live, pins, holding, selection, is_kept, objects, sets, sets_after, global, global_after, global_at}
use Rattle.handle_table.specs.Table.{SaysTheSame}
use Rattle.handle_table.proofs.Pinned.{bit, ways, sum_same, pins_counted}
use Rattle.handle_table.proofs.Changes.{selection_refused, holding_refused, posted_refused, object_refused, own_refused, shelf_refused, installs_refused, sets_refused, global_refused, refused_makes, handles_kept, made_kept, live_kept}

-- ---- pins and free rows of a refused entry

live_refused : (e : Entry) (H : History) (h : Handle) → is_accepted e.reply ≡ false → live (e ∷ H) h ≡ live H h
live_refused e H h refused =
    live_kept e H h (refused_makes e.op e.reply refused) (ap (λ b. b && op_frees e.op h) refused)

pins_refused : (c : Setting) (e : Entry) (H : History) (h : Handle) → is_accepted e.reply ≡ false → pins c (e ∷ H) h ≡ pins c H h
pins_refused c e H h refused =
    pins_counted c (e ∷ H) h
    ∙ sum_same (ways (e ∷ H) h) (ways H h) c.threads (λ t lt.
    ap (λ n. bit (names n h) + bit (holding (e ∷ H) t h)) (selection_refused e H t refused)
    ∙ ap (λ b. bit (names (selection H t) h) + bit b) (holding_refused e H t h refused))
    ∙ sym (pins_counted c H h)

kept_refused : (c : Setting) (e : Entry) (H : History) (h : Handle) → is_accepted e.reply ≡ false → is_kept c (e ∷ H) h ≡ is_kept c H h
kept_refused c e H h refused =
    ap (λ b. b || nat_lt 0 (pins c (e ∷ H) h)) (live_refused e H h refused)
    ∙ ap (λ n. live H h || nat_lt 0 n) (pins_refused c e H h refused)

-- a refused entry changes nothing
pub refused_changes_nothing : (c : Setting) (e : Entry) (H : History) → is_accepted e.reply ≡ false → SaysTheSame c (e ∷ H) H
refused_changes_nothing c e H refused = record {
  shelf = λ n. shelf_refused c e H n refused;
  installs = installs_refused e H refused;
  made = λ h. made_kept e H h (refused_makes e.op e.reply refused);
  makes = λ t r. ap length (handles_kept e H t r (refused_makes e.op e.reply refused));
  live = λ h. live_refused e H h refused;
  object = λ h. object_refused c e H h refused;
  sets = sets_refused e H refused;
  global = global_refused c e H refused;
  selection = λ t. selection_refused e H t refused;
  own = λ t. own_refused e H t refused;
  holding = λ t h. holding_refused e H t h refused;
  pins = λ h. pins_refused c e H h refused;
  free_row = λ t. free_row_alike (objects c) (e ∷ H) H t (λ r. handles_kept e H t r (refused_makes e.op e.reply refused)) (λ h owns. kept_refused c e H h refused);
  posted = λ t k. posted_refused e H t k refused;
}

-- ---- versions of the global locale

more_after : (op : Op) (n : ℕ) → n ≤ sets_after op n
more_after (SetGlobal mask numbers) n = omega arith
more_after _ n = omega arith

more_if : (b : Bool) (n m : ℕ) → n ≤ m → n ≤ (if b then m else n)
more_if true n m more = more
more_if false n m more = omega arith

-- an entry makes a version or none
pub fewer_sets : (e : Entry) (H : History) → sets H ≤ sets (e ∷ H)
fewer_sets e H = more_if (is_accepted e.reply) (sets H) (sets_after e.op (sets H)) (more_after e.op (sets H))

-- there are never fewer versions
pub sets_never_fall : (G H : History) → sets H ≤ sets (G ++ H)
sets_never_fall [] H = omega arith
sets_never_fall (e ∷ G) H = let below = sets_never_fall G H in let more = fewer_sets e (G ++ H) in omega arith

-- an earlier version is what it was
pub version_stays : (c : Setting) (e : Entry) (H : History) (k : ℕ) → k ≤ sets H → global_at c (e ∷ H) k ≡ global_at c H k
version_stays c e H k below = ap (λ b. if b then global_at c H k else global c (e ∷ H)) (le-leb k (sets H) below)

pub versions_stay : (c : Setting) (G H : History) (k : ℕ) → k ≤ sets H → global_at c (G ++ H) k ≡ global_at c H k
versions_stay c [] H k below = refl
versions_stay c (e ∷ G) H k below =
    let fewer = sets_never_fall G H in
    version_stays c e (G ++ H) k (omega arith) ∙ versions_stay c G H k below

unchanged_newest : (c : Setting) (H : History) → global_at c H (sets H) ≡ global c H
    → (if nat_le (sets H) (sets H) then global_at c H (sets H) else global c H) ≡ global c H
unchanged_newest c H before =
    ap (λ b. if b then global_at c H (sets H) else global c H) (le-leb (sets H) (sets H) (omega arith)) ∙ before

newest_of : (c : Setting) (H : History) (op : Op) → global_at c H (sets H) ≡ global c H
    → (if nat_le (sets_after op (sets H)) (sets H) then global_at c H (sets_after op (sets H)) else global_after c H op (global c H))
    ≡ global_after c H op (global c H)
newest_of c H (SetGlobal mask numbers) before =
    ap (λ b. if b then global_at c H (suc (sets H)) else global_after c H (SetGlobal mask numbers) (global c H)) (lt-leb (suc (sets H)) (sets H) (omega arith))
newest_of c H (New mask numbers base) before = unchanged_newest c H before
newest_of c H (Dup n) before = unchanged_newest c H before
newest_of c H (Free n) before = unchanged_newest c H before
newest_of c H (Use n) before = unchanged_newest c H before
newest_of c H (Hold n) before = unchanged_newest c H before
newest_of c H (Release n) before = unchanged_newest c H before
newest_of c H (Install m offer) before = unchanged_newest c H before
newest_of c H (Post k n) before = unchanged_newest c H before
newest_of c H (Fetch owner k) before = unchanged_newest c H before
newest_of c H (Pins n) before = unchanged_newest c H before
newest_of c H End before = unchanged_newest c H before

newest_if : (c : Setting) (H : History) (op : Op) (accepted : Bool) → global_at c H (sets H) ≡ global c H
    → (if nat_le (if accepted then sets_after op (sets H) else sets H) (sets H) then global_at c H (if accepted then sets_after op (sets H) else sets H)
    else (if accepted then global_after c H op (global c H) else global c H))
    ≡ (if accepted then global_after c H op (global c H) else global c H)
newest_if c H op true before = newest_of c H op before
newest_if c H op false before = unchanged_newest c H before

-- the newest version is the global object
pub newest_version : (c : Setting) (H : History) → global_at c H (sets H) ≡ global c H
newest_version c [] = refl
newest_version c (e ∷ H) = newest_if c H e.op (is_accepted e.reply) (newest_version c H)
