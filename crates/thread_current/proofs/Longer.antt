-- The map from calls to entries of the table, and what a longer history keeps.
use Rattle.std.proofs.Common.{◌≡◌, ℕ, ◌+◌, ◌≤◌, ◌⊎◌, inl, inr, Bool, true, false, [], ◌∷◌, ◌++◌, length, refl, ap, ◌∙◌, arith}
use Rattle.std.specs.Prelude.{if◌then◌else◌}
use Rattle.std.proofs.lemmas.Bool.{le-leb}
use Rattle.std.proofs.lemmas.List.{length-map, map-append}
use Rattle.turn_gate.specs.History as turns
use Rattle.handle_table.specs.declared.op.Op.{Op as OpOf}
use Rattle.handle_table.specs.declared.op.Reply.{Reply as ReplyOf}
use Rattle.handle_table.specs.Entry.{Op, New, Dup, Free, Use, Hold, Release, SetGlobal, Install, Post, Fetch, Pins, End, Entry, History, Setting, is_accepted}
use Rattle.handle_table.specs.History.{sets_after, sets, global, global_at}
use Rattle.thread_current.specs.Seen.{entry_of, entries_of}

-- ---- the map

-- there are as many entries as calls
pub length_entries : {P : _} → (H : turns.History (OpOf P) (ReplyOf P)) → length (entries_of H) ≡ length H
length_entries H = length-map H entry_of

-- the entries of a beginning are a beginning of the entries
pub entries_append : {P : _} → (more H : turns.History (OpOf P) (ReplyOf P)) → entries_of (more ++ H) ≡ entries_of more ++ entries_of H
entries_append more H = map-append entry_of more H

-- ---- versions of the global locale in a longer history

sets_op : (op : Op) (n : ℕ) → (sets_after op n ≡ n) ⊎ (sets_after op n ≡ n + 1)
sets_op (New mask numbers base) n = inl refl
sets_op (Dup from) n = inl refl
sets_op (Free h) n = inl refl
sets_op (Use h) n = inl refl
sets_op (Hold h) n = inl refl
sets_op (Release h) n = inl refl
sets_op (SetGlobal mask numbers) n = inr (omega arith)
sets_op (Install m offer) n = inl refl
sets_op (Post k h) n = inl refl
sets_op (Fetch owner k) n = inl refl
sets_op (Pins h) n = inl refl
sets_op End n = inl refl

sets_if : (op : Op) (b : Bool) (n : ℕ) → ((if b then sets_after op n else n) ≡ n) ⊎ ((if b then sets_after op n else n) ≡ n + 1)
sets_if op true n = sets_op op n
sets_if op false n = inl refl

-- an entry keeps the version, or adds one
pub sets_step : (e : Entry) (H : History) → (sets (e ∷ H) ≡ sets H) ⊎ (sets (e ∷ H) ≡ sets H + 1)
sets_step e H = sets_if e.op (is_accepted e.reply) (sets H)

not_fewer : (m n : ℕ) → (m ≡ n) ⊎ (m ≡ n + 1) → n ≤ m
not_fewer m n (inl is) = omega arith
not_fewer m n (inr is) = omega arith

-- the version never falls
pub sets_rise : (more H : History) → sets H ≤ sets (more ++ H)
sets_rise [] H = omega arith
sets_rise (e ∷ more) H =
    let below = sets_rise more H in
    let step = not_fewer (sets (e ∷ more ++ H)) (sets (more ++ H)) (sets_step e (more ++ H)) in
    omega arith

version_kept : (c : Setting) (e : Entry) (H : History) (k : ℕ) → k ≤ sets H → global_at c (e ∷ H) k ≡ global_at c H k
version_kept c e H k below = ap (λ b. if b then global_at c H k else global c (e ∷ H)) (le-leb k (sets H) below)

-- the object of a version stays what it was
pub version_object : (c : Setting) (more H : History) (k : ℕ) → k ≤ sets H → global_at c (more ++ H) k ≡ global_at c H k
version_object c [] H k below = refl
version_object c (e ∷ more) H k below =
    let rise = sets_rise more H in
    version_kept c e (more ++ H) k (omega arith) ∙ version_object c more H k below
