-- Entries that leave handles, selections and Holds as they were, and rows after a new handle.
use Rattle.std.proofs.Common.{◌≡◌, ℕ, ◌+◌, ◌<◌, ◌⊎◌, Bool, true, false, ◌==◌, ◌&&◌, ◌||◌, not, ◌∷◌, length, None, Some, refl, ap, sym, ◌∙◌, subst, inl, inr, arith}
use Rattle.std.proofs.lemmas.Bool.{and_parts, and_left, and_right, or_left, cases_eq, false_from_ne_true, not-true}
use Rattle.std.specs.Prelude.{if◌then◌else◌, nat_lt}
use Rattle.generations.specs.Kind.{nth}
use Rattle.generations.specs.Making.{is_handle}
use Rattle.generations.proofs.Least.{least_passes}
use Rattle.generations.proofs.Places.{cell_here, cell_elsewhere}
use Rattle.generations.proofs.Numbering as numbering
use Rattle.lc_base.specs.declared.handle.Handle.{Handle}
use Rattle.lc_base.specs.declared.handle.Named.{Named}
use Rattle.handle_table.specs.declared.row.Row.{Row}
use Rattle.handle_table.specs.Numbers.{object_handles}
use Rattle.handle_table.specs.Entry.{Op, New, Dup, Free, Use, Hold, Release, SetGlobal, Install, Post, Fetch, Pins, End, Reply, Entry, History, Setting, names, is_accepted, same_handle}
use Rattle.handle_table.specs.History.{handle_made, making, makings, makes_handle, made, op_frees, frees_handle, live, makes, selection_after, selection, holding_after, holding, pins, is_kept, is_free, free_row}
use Rattle.handle_table.specs.Answer.{IsLegal}
use Rattle.generations.specs.Grid.{GridData, with_cell}
use Rattle.handle_table.specs.Row.{no_row, with_next}
use Rattle.handle_table.specs.Rows.{row_at}
use Rattle.handle_table.specs.Kept.{newest, RowStands, RowsStand}
use Rattle.handle_table.proofs.Numbering.{same_handles, same_itself, made_within}
use Rattle.handle_table.proofs.Gone.{IsGone, unmade_gone}
use Rattle.handle_table.proofs.Pinned.{bit, ways, sum_same, pins_counted, gone_unpinned, unkept_gone}
use Rattle.handle_table.proofs.Newest.{free_newest}
use Rattle.handle_table.proofs.Changes.{same_either, selection_refused, holding_refused, refused_makes, handles_kept, live_kept}
use Rattle.handle_table.proofs.Changed.{shape_with}

-- two histories say the same of who holds on to what
pub record SameHolders (H G : History) : Type 0 where
  pub selection : (t : ℕ) → selection G t ≡ selection H t
  pub holding : (t : ℕ) (h : Handle) → holding G t h ≡ holding H t h

-- then each handle has the same pins
pub pins_same : (c : Setting) (H G : History) (h : Handle) → SameHolders H G → pins c G h ≡ pins c H h
pins_same c H G h same =
    pins_counted c G h
    ∙ sum_same (ways G h) (ways H h) c.threads (λ t lt.
    ap (λ n. bit (names n h) + bit (holding G t h)) (same.selection t) ∙ ap (λ b. bit (names (selection H t) h) + bit b) (same.holding t h))
    ∙ sym (pins_counted c H h)

-- two histories say the same of which handles were made and are live, and of who holds on to them
pub record SameHandles (H G : History) : Type 0 where
  pub makes : (t r : ℕ) → makes G t r ≡ makes H t r
  pub live : (h : Handle) → live G h ≡ live H h
  pub holders : SameHolders H G

same_stands : (c : Setting) (H G : History) (t r : ℕ) (row : Row) → SameHandles H G → RowStands c H t r row → RowStands c G t r row
same_stands c H G t r row same s =
    let newest_is : newest G t r ≡ newest H t r = ap (nth object_handles t r) (same.makes t r) in record {
      marks = s.marks;
      makes = s.makes ∙ sym (same.makes t r);
      live = s.live ∙ sym (ap (live G) newest_is ∙ same.live (newest H t r));
      pins = s.pins ∙ sym (ap (pins c G) newest_is ∙ pins_same c H G (newest H t r) same.holders);
      holding = λ v lt. s.holding v lt ∙ sym (ap (holding G v) newest_is ∙ same.holders.holding v (newest H t r));
    }

-- then the rows stand as they are
pub rows_kept : (c : Setting) (H G : History) (rows : GridData Row) → SameHandles H G → RowsStand c H rows → RowsStand c G rows
rows_kept c H G rows same s = record {
  few = s.few;
  shape = s.shape;
  each = λ t r line column. same_stands c H G t r (row_at rows t r) same (s.each t r line column);
}

-- a refused entry leaves handles, selections and Holds
pub same_refused : (e : Entry) (H : History) → is_accepted e.reply ≡ false → SameHandles H (e ∷ H)
same_refused e H refused = record {
  makes = λ t r. ap length (handles_kept e H t r (refused_makes e.op e.reply refused));
  live = λ h. live_kept e H h (refused_makes e.op e.reply refused) (and_left (is_accepted e.reply) (op_frees e.op h) refused);
  holders = record {
    selection = λ t. selection_refused e H t refused;
    holding = λ t h. holding_refused e H t h refused;
  };
}

-- the ops that make and free no handle, and change no selection and no Hold
abbrev pub is_quiet : Op → Bool
is_quiet (New mask numbers None) = false
is_quiet (New mask numbers (Some n)) = true
is_quiet (Dup n) = false
is_quiet (Free n) = false
is_quiet (Use n) = false
is_quiet (Hold n) = false
is_quiet (Release n) = false
is_quiet (SetGlobal mask numbers) = true
is_quiet (Install m offer) = true
is_quiet (Post k n) = true
is_quiet (Fetch owner k) = true
is_quiet (Pins n) = true
is_quiet End = false

pub quiet_makes : (op : Op) (reply : Reply) → is_quiet op ≡ true → handle_made op reply ≡ None
quiet_makes (New mask numbers (Some n)) reply q = refl
quiet_makes (SetGlobal mask numbers) reply q = refl
quiet_makes (Install m offer) reply q = refl
quiet_makes (Post k n) reply q = refl
quiet_makes (Fetch owner k) reply q = refl
quiet_makes (Pins n) reply q = refl
quiet_makes (New mask numbers None) reply q = absurd (cc q)
quiet_makes (Dup n) reply q = absurd (cc q)
quiet_makes (Free n) reply q = absurd (cc q)
quiet_makes (Use n) reply q = absurd (cc q)
quiet_makes (Hold n) reply q = absurd (cc q)
quiet_makes (Release n) reply q = absurd (cc q)
quiet_makes End reply q = absurd (cc q)

quiet_frees : (op : Op) (h : Handle) → is_quiet op ≡ true → op_frees op h ≡ false
quiet_frees (New mask numbers base) h q = refl
quiet_frees (SetGlobal mask numbers) h q = refl
quiet_frees (Install m offer) h q = refl
quiet_frees (Post k n) h q = refl
quiet_frees (Fetch owner k) h q = refl
quiet_frees (Pins n) h q = refl
quiet_frees (Dup n) h q = refl
quiet_frees (Free n) h q = absurd (cc q)
quiet_frees (Use n) h q = refl
quiet_frees (Hold n) h q = refl
quiet_frees (Release n) h q = refl
quiet_frees End h q = refl

-- the ops that change no selection and no Hold
abbrev pub keeps_holders : Op → Bool
keeps_holders (Use n) = false
keeps_holders (Hold n) = false
keeps_holders (Release n) = false
keeps_holders End = false
keeps_holders _ = true

kept_selection : (op : Op) (before : Named) → keeps_holders op ≡ true → selection_after op before ≡ before
kept_selection (New mask numbers base) before q = refl
kept_selection (Dup n) before q = refl
kept_selection (Free n) before q = refl
kept_selection (SetGlobal mask numbers) before q = refl
kept_selection (Install m offer) before q = refl
kept_selection (Post k n) before q = refl
kept_selection (Fetch owner k) before q = refl
kept_selection (Pins n) before q = refl
kept_selection (Use n) before q = absurd (cc q)
kept_selection (Hold n) before q = refl
kept_selection (Release n) before q = refl
kept_selection End before q = absurd (cc q)

kept_holding : (op : Op) (h : Handle) (before : Bool) → keeps_holders op ≡ true → holding_after op h before ≡ before
kept_holding (New mask numbers base) h before q = refl
kept_holding (Dup n) h before q = refl
kept_holding (Free n) h before q = refl
kept_holding (SetGlobal mask numbers) h before q = refl
kept_holding (Install m offer) h before q = refl
kept_holding (Post k n) h before q = refl
kept_holding (Fetch owner k) h before q = refl
kept_holding (Pins n) h before q = refl
kept_holding (Use n) h before q = refl
kept_holding (Hold n) h before q = absurd (cc q)
kept_holding (Release n) h before q = absurd (cc q)
kept_holding End h before q = absurd (cc q)

-- such an op leaves selections and Holds
pub same_holders : (e : Entry) (H : History) → keeps_holders e.op ≡ true → SameHolders H (e ∷ H)
same_holders e H keeps = record {
  selection = λ t.
      ap (λ n. if e.who == t && is_accepted e.reply then n else selection H t) (kept_selection e.op (selection H t) keeps)
      ∙ same_either (e.who == t && is_accepted e.reply) (selection H t);
  holding = λ t h.
      ap (λ b. if e.who == t && is_accepted e.reply then b else holding H t h) (kept_holding e.op h (holding H t h) keeps)
      ∙ same_either (e.who == t && is_accepted e.reply) (holding H t h);
}

-- a quiet op leaves handles, selections and Holds
pub same_quiet : (e : Entry) (H : History) → is_quiet e.op ≡ true → keeps_holders e.op ≡ true → SameHandles H (e ∷ H)
same_quiet e H quiet keeps = record {
  makes = λ t r. ap length (handles_kept e H t r (quiet_makes e.op e.reply quiet));
  live = λ h. live_kept e H h (quiet_makes e.op e.reply quiet) (and_right (is_accepted e.reply) (op_frees e.op h) (quiet_frees e.op h quiet));
  holders = same_holders e H keeps;
}

-- ---- a new handle

-- two places are one, or apart
pub cases_place : (t r w q : ℕ) → ((t ≡ w) × (r ≡ q)) ⊎ ((t ≡ w) × (r ≡ q) → ⊥)
cases_place t r w q =
    elim (cases_eq t w) [
      | inl owner ↦
          elim (cases_eq r q) [
            | inl row ↦ inl (owner, row)
            | inr other ↦ inr (λ both. other both.1)
          ]
      | inr other ↦ inr (λ both. other both.0)
    ]

-- what the rows need to know of an entry that makes the next handle of a free row
pub record MakesNext (c : Setting) (e : Entry) (H : History) (w q : ℕ) : Type 0 where
  pub free : free_row c H w ≡ Some q
  pub makes : handle_made e.op e.reply ≡ Some (nth object_handles w q (makes H w q + 1))
  pub frees_none : (h : Handle) → frees_handle e h ≡ false
  pub holders : SameHolders H (e ∷ H)

-- its row has one handle more
pub more_in_row : (c : Setting) (e : Entry) (H : History) (w q : ℕ) → MakesNext c e H w q → makes (e ∷ H) w q ≡ makes H w q + 1
more_in_row c e H w q next = numbering.more_in_row object_handles (making e) (makings H) w q next.makes

-- the other rows have as many as before
pub same_elsewhere : (c : Setting) (e : Entry) (H : History) (w q t r : ℕ) → MakesNext c e H w q → ((t ≡ w) × (r ≡ q) → ⊥)
    → makes (e ∷ H) t r ≡ makes H t r
same_elsewhere c e H w q t r next apart = numbering.same_elsewhere object_handles (making e) (makings H) w q t r next.makes apart

-- the new handle is live
pub new_live : (c : Setting) (e : Entry) (H : History) (w q : ℕ) → MakesNext c e H w q → live (e ∷ H) (nth object_handles w q (makes H w q + 1)) ≡ true
new_live c e H w q next =
    let g : Handle = nth object_handles w q (makes H w q + 1) in
    ap (λ b. not b && (makes_handle e g || live H g)) (next.frees_none g)
    ∙ ap (λ o. is_handle object_handles o g || live H g) next.makes
    ∙ or_left (same_handle g g) (live H g) (same_itself g)

-- another handle is live where it was
pub other_live : (c : Setting) (e : Entry) (H : History) (w q : ℕ) (h : Handle) → MakesNext c e H w q
    → same_handle (nth object_handles w q (makes H w q + 1)) h ≡ false → live (e ∷ H) h ≡ live H h
other_live c e H w q h next other =
    ap (λ b. not b && (makes_handle e h || live H h)) (next.frees_none h)
    ∙ ap (λ o. is_handle object_handles o h || live H h) next.makes
    ∙ ap (λ b. b || live H h) other

-- the new handle was not made before
new_unmade : (c : Setting) (H : History) (w q : ℕ) → IsLegal c H → made H (nth object_handles w q (makes H w q + 1)) ≡ false
new_unmade c H w q legal =
    false_from_ne_true (made H (nth object_handles w q (makes H w q + 1))) (λ before.
    let within = made_within c H legal (nth object_handles w q (makes H w q + 1)) before in
    omega arith)

-- nothing of a free row's newest handle is kept
newest_gone : (c : Setting) (e : Entry) (H : History) (w q : ℕ) → IsLegal c H → MakesNext c e H w q → IsGone c H (newest H w q)
newest_gone c e H w q legal next =
    let free = least_passes c.rows q (is_free c H w) next.free in
    let parts = and_parts (not (is_kept c H (newest H w q))) (nat_lt (makes H w q) c.generations) (sym (free_newest c H w q legal) ∙ free.0) in
    unkept_gone c H (newest H w q) (not-true (is_kept c H (newest H w q)) parts.0)

-- after a New without a base or a Dup the row has one more handle, which is live and without pins
pub rows_of_make : (c : Setting) (e : Entry) (H : History) (w q : ℕ) (rows : GridData Row) → IsLegal c H → w < c.threads
    → MakesNext c e H w q → RowsStand c H rows → RowsStand c (e ∷ H) (with_cell rows w q (with_next (row_at rows w q)))
rows_of_make c e H w q rows legal caller next s =
    let G : History = e ∷ H in
    let g : Handle = nth object_handles w q (makes H w q + 1) in
    let lines = s.shape.lines in
    let width = s.shape.width in
    let column : q < c.rows = (least_passes c.rows q (is_free c H w) next.free).1 in
    let stands = s.each w q caller column in
    let gone = newest_gone c e H w q legal next in
    let unmade = unmade_gone c H g legal (new_unmade c H w q legal) in
    let more = more_in_row c e H w q next in
    let newest_is : newest G w q ≡ g = ap (nth object_handles w q) more in record {
      few = s.few;
      shape = shape_with c c.rows rows w q (with_next (row_at rows w q)) s.shape;
      each = λ t r line other_column.
          elim (cases_place t r w q) [
            | inl here ↦
                let at_place : RowStands c G w q (with_next (row_at rows w q)) = record {
                  marks = stands.marks;
                  makes = ap (λ n. n + 1) stands.makes ∙ sym more;
                  live = sym (ap (live G) newest_is ∙ new_live c e H w q next);
                  pins = stands.pins ∙ gone_unpinned c H (newest H w q) gone
                      ∙ sym (ap (pins c G) newest_is ∙ pins_same c H G g next.holders ∙ gone_unpinned c H g unmade);
                  holding = λ v lt. stands.holding v lt ∙ (gone.1 v lt).1
                      ∙ sym (ap (holding G v) newest_is ∙ next.holders.holding v g ∙ (unmade.1 v lt).1);
                } in
                subst (λ n. RowStands c G n r (row_at (with_cell rows w q (with_next (row_at rows w q))) n r)) (sym here.0)
                (subst (λ n. RowStands c G w n (row_at (with_cell rows w q (with_next (row_at rows w q))) w n)) (sym here.1)
                (subst (RowStands c G w q) (sym (cell_here rows w q (with_next (row_at rows w q)) no_row s.shape.full (omega arith) (omega arith))) at_place))
            | inr apart ↦
                let before = s.each t r line other_column in
                let same = same_elsewhere c e H w q t r next apart in
                let still : newest G t r ≡ newest H t r = ap (nth object_handles t r) same in
                let not_new : same_handle g (newest H t r) ≡ false =
                false_from_ne_true (same_handle g (newest H t r)) (λ is.
                let one = same_handles g (newest H t r) is in
                apart (sym (ap (λ (x : Handle). x.owner) one), sym (ap (λ (x : Handle). x.row) one)))
                in
                subst (RowStands c G t r) (sym (cell_elsewhere rows w q t r (with_next (row_at rows w q)) no_row (omega arith) (omega arith) apart))
                (record {
                  marks = before.marks;
                  makes = before.makes ∙ sym same;
                  live = before.live ∙ sym (ap (live G) still ∙ other_live c e H w q (newest H t r) next not_new);
                  pins = before.pins ∙ sym (ap (pins c G) still ∙ pins_same c H G (newest H t r) next.holders);
                  holding = λ v lt. before.holding v lt ∙ sym (ap (holding G v) still ∙ next.holders.holding v (newest H t r));
                })
          ];
    }
