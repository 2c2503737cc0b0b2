-- What the calls with nothing against them give and leave, by what they change.
use Rattle.std.proofs.Common.{◌≡◌, ℕ, ◌+◌, ◌<◌, true, List, [], ◌∷◌, length, Option, None, Some, refl, ap, sym, ◌∙◌, subst, arith}
use Rattle.mask_compose.specs.Parts.{Parts, composed}
use Rattle.mask_compose.specs.Offer.{Offered}
use Rattle.lc_base.specs.declared.handle.Handle.{Handle}
use Rattle.lc_base.specs.declared.handle.Named.{Named}
use Rattle.lc_base.specs.declared.handle.Named.TheVariants.{Global, Of}
use Rattle.handle_table.specs.Entry.{New, Dup, Free, Use, Hold, Release, SetGlobal, Install, Fetch, Pins, End, Reply, Made, Freed, Was, Held, Released, Set, Installed, Got, Pinned, Ended, History, Setting}
use Rattle.handle_table.specs.Shelf.{posix, from_shelf}
use Rattle.handle_table.specs.History.{live, object, object_named, selection, pins, posted, global, sets, free_row}
use Rattle.handle_table.specs.Answer.{no_data, global_handle, never_made, stale, already_held, too_many, target_object, got, made_in, first_reason, reasons, entry}
use Rattle.handle_table.specs.Kept.{KeptData, Keeps}
use Rattle.handle_table.specs.Effects.{selected, after_make, after_rebuild, after_free, after_use, after_hold, after_release, after_set, after_install, after_end}
use Rattle.handle_table.specs.Accepted.{Accepts}
use Rattle.handle_table.proofs.Numbering.{same_itself}
use Rattle.handle_table.proofs.Gone.{no_reason, not_refused}
use Rattle.handle_table.proofs.KeptSays.{selection_is, object_is}
use Rattle.handle_table.proofs.KeepsOf.{keeps_new, keeps_dup, keeps_rebuild, keeps_free, keeps_use, keeps_hold, keeps_release, keeps_set, keeps_install, keeps_fetch, keeps_pins, keeps_end, base_live}

-- the caller is one of the setting's threads
caller_of : (c : Setting) (H : History) (kept : KeptData) (w : ℕ) → w < kept.rows.lines → Keeps c H kept → w < c.threads
caller_of c H kept w line k =
    let lines = k.rows.shape.lines in
    omega arith

-- where nothing is against an op on an object, the object is live
pub live_of_use : (c : Setting) (H : History) (w : ℕ) (h : Handle) → first_reason (reasons c H w (Use (Of h))) ≡ None → live H h ≡ true
live_of_use c H w h none =
    let first = no_reason (never_made H (Of h)) (stale H (Of h) ∷ []) none in
    let last = no_reason (stale H (Of h)) [] first.1 in
    (not_refused H (Of h) h first.0 last.0 (same_itself h)).1

pub live_of_hold : (c : Setting) (H : History) (w : ℕ) (h : Handle) → first_reason (reasons c H w (Hold (Of h))) ≡ None → live H h ≡ true
live_of_hold c H w h none =
    let first = no_reason (never_made H (Of h)) (stale H (Of h) ∷ already_held H w (Of h) ∷ []) none in
    let second = no_reason (stale H (Of h)) (already_held H w (Of h) ∷ []) first.1 in
    (not_refused H (Of h) h first.0 second.0 (same_itself h)).1

pub live_of_dup : (c : Setting) (H : History) (w : ℕ) (h : Handle) → first_reason (reasons c H w (Dup (Of h))) ≡ None → live H h ≡ true
live_of_dup c H w h none =
    let first = no_reason (never_made H (Of h)) (stale H (Of h) ∷ too_many (free_row c H w) ∷ []) none in
    let second = no_reason (stale H (Of h)) (too_many (free_row c H w) ∷ []) first.1 in
    (not_refused H (Of h) h first.0 second.0 (same_itself h)).1

pub accepts_free : (c : Setting) (w : ℕ) (n : Named) (before after : KeptData) → w < before.rows.lines → after ≡ after_free n before
    → Accepts c w (Free n) before after Freed
accepts_free c w n before after line is = record {
  replies = λ H k none. refl;
  keeps = λ H k none. subst (Keeps c (entry c H w (Free n) ∷ H)) (sym is) (keeps_free c H w n before (caller_of c H before w line k) none k);
}

pub accepts_use : (c : Setting) (w : ℕ) (n : Named) (before after : KeptData) (former : Named) (now : Option Parts) → w < before.rows.lines
    → after ≡ after_use w n before → former ≡ selected w before
    → ((H : History) → Keeps c H before → first_reason (reasons c H w (Use n)) ≡ None → now ≡ target_object c H n)
    → Accepts c w (Use n) before after (Was former now)
accepts_use c w n before after former now line is was object_of = record {
  replies = λ H k none.
      ap (λ m. Was m now) (was ∙ selection_is c H before w line k) ∙ ap (Was (selection H w)) (object_of H k none);
  keeps = λ H k none. subst (Keeps c (entry c H w (Use n) ∷ H)) (sym is) (keeps_use c H w n before (caller_of c H before w line k) none k);
}

pub accepts_hold : (c : Setting) (w : ℕ) (h : Handle) (before after : KeptData) (x : Parts) → w < before.rows.lines
    → after ≡ after_hold w (Of h) before → ((H : History) → Keeps c H before → live H h ≡ true → x ≡ object c H h)
    → Accepts c w (Hold (Of h)) before after (Held x)
accepts_hold c w h before after x line is object_of = record {
  replies = λ H k none. ap (λ o. Held o) (object_of H k (live_of_hold c H w h none));
  keeps = λ H k none. subst (Keeps c (entry c H w (Hold (Of h)) ∷ H)) (sym is) (keeps_hold c H w h before (caller_of c H before w line k) none k);
}

pub accepts_release : (c : Setting) (w : ℕ) (n : Named) (before after : KeptData) → w < before.rows.lines → after ≡ after_release w n before
    → Accepts c w (Release n) before after Released
accepts_release c w Global before after line is = record {
  replies = λ H k none. refl;
  keeps = λ H k none. absurd (cc none);
}
accepts_release c w (Of h) before after line is = record {
  replies = λ H k none. refl;
  keeps = λ H k none. subst (Keeps c (entry c H w (Release (Of h)) ∷ H)) (sym is) (keeps_release c H w h before (caller_of c H before w line k) none k);
}

pub accepts_set : (c : Setting) (w mask : ℕ) (numbers : List ℕ) (before after : KeptData) (picks x : Parts) (version : ℕ) → w < before.rows.lines
    → after ≡ after_set mask picks before → version ≡ before.global.version + 1 → x ≡ after.global.object
    → ((H : History) → Keeps c H before → picks ≡ from_shelf c H mask numbers)
    → Accepts c w (SetGlobal mask numbers) before after (Set version x)
accepts_set c w mask numbers before after picks x version line is count now picked = record {
  replies = λ H k none.
      ap (λ n. Set n x) (count ∙ ap (λ n. n + 1) k.global.version)
      ∙ ap (Set (sets H + 1)) (now ∙ ap (λ (v : KeptData). v.global.object) is ∙ ap (λ p. composed mask p before.global.object) (picked H k)
      ∙ ap (composed mask (from_shelf c H mask numbers)) k.global.object);
  keeps = λ H k none.
      subst (Keeps c (entry c H w (SetGlobal mask numbers) ∷ H)) (sym is)
      (keeps_set c H w mask numbers picks before (caller_of c H before w line k) none (picked H k) k);
}

pub accepts_install : (c : Setting) (w m : ℕ) (offer : Offered) (before after : KeptData) (count : ℕ) → w < before.rows.lines
    → m < length before.installed → after ≡ after_install m offer before → count ≡ before.installs + 1
    → Accepts c w (Install m offer) before after (Installed count)
accepts_install c w m offer before after count line on is counted = record {
  replies = λ H k none. ap (λ n. Installed n) (counted ∙ ap (λ n. n + 1) k.installs);
  keeps = λ H k none.
      let all = k.shelf.count in
      subst (Keeps c (entry c H w (Install m offer) ∷ H)) (sym is) (keeps_install c H w m offer before (caller_of c H before w line k) (omega arith) k);
}

pub accepts_fetch : (c : Setting) (w owner j : ℕ) (h : Handle) (kept : KeptData) → w < kept.rows.lines
    → ((H : History) → Keeps c H kept → Some h ≡ posted H owner j) → Accepts c w (Fetch owner j) kept kept (Got h)
accepts_fetch c w owner j h kept line stands = record {
  replies = λ H k none. ap got (stands H k);
  keeps = λ H k none. keeps_fetch c H w owner j kept (caller_of c H kept w line k) k;
}

pub accepts_pins : (c : Setting) (w : ℕ) (h : Handle) (kept : KeptData) (count : ℕ) → w < kept.rows.lines
    → ((H : History) → Keeps c H kept → count ≡ pins c H h) → Accepts c w (Pins (Of h)) kept kept (Pinned count)
accepts_pins c w h kept count line counted = record {
  replies = λ H k none. ap (λ n. Pinned n) (counted H k);
  keeps = λ H k none. keeps_pins c H w (Of h) kept (caller_of c H kept w line k) k;
}

pub accepts_end : (c : Setting) (w : ℕ) (before after : KeptData) → w < before.rows.lines → after ≡ after_end w before
    → Accepts c w End before after Ended
accepts_end c w before after line is = record {
  replies = λ H k none. refl;
  keeps = λ H k none. subst (Keeps c (entry c H w End ∷ H)) (sym is) (keeps_end c H w before (caller_of c H before w line k) k);
}

pub accepts_rebuild : (c : Setting) (w mask : ℕ) (numbers : List ℕ) (h : Handle) (before after : KeptData) (picks below x : Parts) → w < before.rows.lines
    → (h.owner < before.rows.lines → h.row < before.rows.width → after ≡ after_rebuild h x before)
    → x ≡ composed mask picks below → ((H : History) → Keeps c H before → picks ≡ from_shelf c H mask numbers)
    → ((H : History) → Keeps c H before → live H h ≡ true → below ≡ object c H h)
    → Accepts c w (New mask numbers (Some (Of h))) before after (Made h)
accepts_rebuild c w mask numbers h before after picks below x line is made picked object_of = record {
  replies = λ H k none. refl;
  keeps = λ H k none.
      let alive = base_live c H w mask numbers h none in
      let inside = object_is c H before h k alive in
      subst (Keeps c (entry c H w (New mask numbers (Some (Of h))) ∷ H)) (sym (is inside.0 inside.1))
      (keeps_rebuild c H w mask numbers h x before (caller_of c H before w line k) none
      (made ∙ ap (λ p. composed mask p below) (picked H k) ∙ ap (composed mask (from_shelf c H mask numbers)) (object_of H k alive)) k);
}

-- there is a row where there are not too many
row_found : (o : Option ℕ) → too_many o ≡ None → (r : ℕ) × (o ≡ Some r)
row_found None none = absurd (cc none)
row_found (Some r) none = (r, refl)

pub accepts_new : (c : Setting) (w mask : ℕ) (numbers : List ℕ) (before after : KeptData) (picks x : Parts) (reply : Reply) → w < before.rows.lines
    → ((H : History) (r : ℕ) → Keeps c H before → free_row c H w ≡ Some r → after ≡ after_make w r x before)
    → ((H : History) → Keeps c H before → reply ≡ made_in H w (free_row c H w))
    → x ≡ composed mask picks (posix c) → ((H : History) → Keeps c H before → picks ≡ from_shelf c H mask numbers)
    → Accepts c w (New mask numbers None) before after reply
accepts_new c w mask numbers before after picks x reply line is replies made picked = record {
  replies = λ H k none. replies H k;
  keeps = λ H k none.
      let first = no_reason (no_data c H mask numbers) (too_many (free_row c H w) ∷ []) none in
      let found = row_found (free_row c H w) (no_reason (too_many (free_row c H w)) [] first.1).0 in
      subst (Keeps c (entry c H w (New mask numbers None) ∷ H)) (sym (is H found.0 k found.1))
      (keeps_new c H w found.0 mask numbers x before (caller_of c H before w line k) none found.1
      (made ∙ ap (λ p. composed mask p (posix c)) (picked H k)) k);
}

pub accepts_dup : (c : Setting) (w : ℕ) (n : Named) (before after : KeptData) (x : Parts) (reply : Reply) → w < before.rows.lines
    → ((H : History) (r : ℕ) → Keeps c H before → free_row c H w ≡ Some r → after ≡ after_make w r x before)
    → ((H : History) → Keeps c H before → reply ≡ made_in H w (free_row c H w))
    → ((H : History) → Keeps c H before → first_reason (reasons c H w (Dup n)) ≡ None → x ≡ object_named (object c H) (global c H) n)
    → Accepts c w (Dup n) before after reply
accepts_dup c w n before after x reply line is replies object_of = record {
  replies = λ H k none. replies H k;
  keeps = λ H k none.
      let first = no_reason (never_made H n) (stale H n ∷ too_many (free_row c H w) ∷ []) none in
      let second = no_reason (stale H n) (too_many (free_row c H w) ∷ []) first.1 in
      let found = row_found (free_row c H w) (no_reason (too_many (free_row c H w)) [] second.1).0 in
      subst (Keeps c (entry c H w (Dup n) ∷ H)) (sym (is H found.0 k found.1))
      (keeps_dup c H w found.0 n x before (caller_of c H before w line k) none found.1 (object_of H k none) k);
}

opposed : (c : Setting) (H : History) (mask : ℕ) (numbers : List ℕ)
    → first_reason (no_data c H mask numbers ∷ global_handle Global ∷ never_made H Global ∷ stale H Global ∷ []) ≡ None → ⊥
opposed c H mask numbers none =
    let rest = no_reason (no_data c H mask numbers) (global_handle Global ∷ never_made H Global ∷ stale H Global ∷ []) none in
    let last = rest.1 in
    cc

-- a New whose base is the global locale is never accepted
pub accepts_no_global : (c : Setting) (w mask : ℕ) (numbers : List ℕ) (before after : KeptData) (reply : Reply)
    → Accepts c w (New mask numbers (Some Global)) before after reply
accepts_no_global c w mask numbers before after reply = record {
  replies = λ H k none. absurd (opposed c H mask numbers none);
  keeps = λ H k none. absurd (opposed c H mask numbers none);
}
