-- The rows of a table after each accepted op are as the longer history says.
use Rattle.std.proofs.Common.{◌≡◌, ℕ, ◌+◌, ◌*◌, ◌-◌, ◌^◌, ◌≤◌, ◌<◌, Bool, true, false, ◌==◌, ◌&&◌, ◌||◌, not, ◌∷◌, refl, ap, sym, ◌∙◌, subst, inl, inr, arith, get_or-set_same, get_or-set_other}
use Rattle.std.proofs.lemmas.Bool.{and_right, cases_eq}
use Rattle.std.proofs.lemmas.List.{length-set}
use Rattle.std.specs.Prelude.{if◌then◌else◌, min, slice_set}
use Rattle.generations.specs.Kind.{nth}
use Rattle.lc_base.specs.declared.handle.Handle.{Handle}
use Rattle.lc_base.specs.declared.handle.Named.{Named}
use Rattle.handle_table.specs.declared.row.Row.{Row}
use Rattle.handle_table.specs.Limits.{MAX_THREADS}
use Rattle.handle_table.specs.Numbers.{object_handles}
use Rattle.handle_table.specs.Entry.{Free, Use, Hold, Release, End, Entry, History, Setting, names, is_accepted}
use Rattle.handle_table.specs.History.{makes, live, selection, holding, pins}
use Rattle.handle_table.specs.Answer.{answer, entry}
use Rattle.generations.specs.Grid.{GridData}
use Rattle.handle_table.specs.Row.{pinned, unpinned, is_held, opened, closed, let_go, freed}
use Rattle.handle_table.specs.Rows.{row_at, changed, all_let_go}
use Rattle.handle_table.specs.Kept.{newest, RowStands, HasLines, RowsStand}
use Rattle.handle_table.proofs.Pinned.{bit, bit_few, ways, part_below, sum_at_most, pins_counted}
use Rattle.handle_table.proofs.Changes.{selection_of_caller, holding_of_caller, holding_of_other, pins_after, live_kept, same_either}
use Rattle.handle_table.proofs.Changed.{row_changed, shape_changed, row_let_go, shape_let_go}

-- a handle has at most two pins for each thread
pub pins_few : (c : Setting) (H : History) (h : Handle) → c.threads ≤ MAX_THREADS → pins c H h ≤ 2 * MAX_THREADS
pins_few c H h few =
    let all = pins_counted c H h in
    let most = sum_at_most (ways H h) 2 c.threads (λ t.
    let one = bit_few (names (selection H t) h) in
    let other = bit_few (holding H t h) in
    omega arith) in
    omega arith

-- the ways of one thread are among the pins
pub ways_among : (c : Setting) (H : History) (h : Handle) (t : ℕ) → t < c.threads → ways H h t ≤ pins c H h
ways_among c H h t caller =
    let all = pins_counted c H h in
    let part = part_below (ways H h) t c.threads caller in
    omega arith

min_small : (n : ℕ) → n < 2 ^ 32 → min n (2 ^ 32 - 1) ≡ n
min_small n small = omega arith

but_one : (c : Setting) (H G : History) (v t r : ℕ) → holding G v (newest G t r) ≡ holding H v (newest H t r)
    → ((w : ℕ) → w < c.threads → (v ≡ w → ⊥) → holding G w (newest G t r) ≡ holding H w (newest H t r))
    → (w : ℕ) → w < c.threads → holding G w (newest G t r) ≡ holding H w (newest H t r)
but_one c H G v t r here others w caller =
    elim (cases_eq v w) [
      | inl is ↦ ap (λ k. holding G k (newest G t r)) (sym is) ∙ here ∙ ap (λ k. holding H k (newest H t r)) is
      | inr other ↦ others w caller other
    ]

bit_or : (a b : Bool) → (a ≡ true → b ≡ false) → bit (a || b) ≡ bit a + bit b
bit_or true true apart = absurd (cc (apart refl))
bit_or true false apart = refl
bit_or false true apart = refl
bit_or false false apart = refl

bit_less : (a b : Bool) → (a ≡ true → b ≡ true) → bit (not a && b) + bit a ≡ bit b
bit_less true true within = refl
bit_less true false within = absurd (cc (within refl))
bit_less false true within = refl
bit_less false false within = refl

-- ---- one row, by what changes of it

-- a row that gives up a pin and takes one
abbrev pub repinned : Bool → Bool → Row → Row
repinned a b row = if b then pinned (if a then unpinned row else row) else (if a then unpinned row else row)

-- what a history says of the newest handle of a row is the same, but for pins and Holds
pub record SameRow (c : Setting) (H G : History) (t r : ℕ) : Type 0 where
  pub makes : makes G t r ≡ makes H t r
  pub live : live G (newest G t r) ≡ live H (newest H t r)

-- the Holds of the newest handle of a row are the same
abbrev pub SameHolds : Setting → History → History → ℕ → ℕ → Type 0
SameHolds c H G t r = (w : ℕ) → w < c.threads → holding G w (newest G t r) ≡ holding H w (newest H t r)

-- those of the threads but one are
abbrev pub SameOtherHolds : Setting → History → History → ℕ → ℕ → ℕ → Type 0
SameOtherHolds c H G v t r = (w : ℕ) → w < c.threads → (v ≡ w → ⊥) → holding G w (newest G t r) ≡ holding H w (newest H t r)

same_row : (c : Setting) (H G : History) (t r : ℕ) (row : Row) → SameRow c H G t r → SameHolds c H G t r
    → pins c G (newest G t r) ≡ pins c H (newest H t r) → RowStands c H t r row → RowStands c G t r row
same_row c H G t r row same holds count s = record {
  marks = s.marks;
  makes = s.makes ∙ sym same.makes;
  live = s.live ∙ sym same.live;
  pins = s.pins ∙ sym count;
  holding = λ w caller. s.holding w caller ∙ sym (holds w caller);
}

repinned_row : (c : Setting) (H G : History) (t r : ℕ) (a b : Bool) (row : Row) → SameRow c H G t r → SameHolds c H G t r
    → pins c G (newest G t r) + bit a ≡ pins c H (newest H t r) + bit b → bit a ≤ pins c H (newest H t r)
    → pins c H (newest H t r) ≤ 32 → RowStands c H t r row → RowStands c G t r (repinned a b row)
repinned_row c H G t r true true row same holds count some few s = record {
  marks = s.marks;
  makes = s.makes ∙ sym same.makes;
  live = s.live ∙ sym same.live;
  pins = let before = s.pins in min_small (row.pins - 1 + 1) (omega arith) ∙ (let is : row.pins - 1 + 1 ≡ pins c G (newest G t r) = omega arith in is);
  holding = λ w caller. s.holding w caller ∙ sym (holds w caller);
}
repinned_row c H G t r true false row same holds count some few s = record {
  marks = s.marks;
  makes = s.makes ∙ sym same.makes;
  live = s.live ∙ sym same.live;
  pins = let before = s.pins in omega arith;
  holding = λ w caller. s.holding w caller ∙ sym (holds w caller);
}
repinned_row c H G t r false true row same holds count some few s = record {
  marks = s.marks;
  makes = s.makes ∙ sym same.makes;
  live = s.live ∙ sym same.live;
  pins = let before = s.pins in min_small (row.pins + 1) (omega arith) ∙ (let is : row.pins + 1 ≡ pins c G (newest G t r) = omega arith in is);
  holding = λ w caller. s.holding w caller ∙ sym (holds w caller);
}
repinned_row c H G t r false false row same holds count some few s = record {
  marks = s.marks;
  makes = s.makes ∙ sym same.makes;
  live = s.live ∙ sym same.live;
  pins = let before = s.pins in omega arith;
  holding = λ w caller. s.holding w caller ∙ sym (holds w caller);
}

-- the marks of a row after one was written
marks_after : (c : Setting) (H G : History) (v t r : ℕ) (b : Bool) (row : Row) → v < c.threads → c.threads ≤ MAX_THREADS → RowStands c H t r row
    → b ≡ holding G v (newest G t r) → SameOtherHolds c H G v t r
    → (w : ℕ) → w < c.threads → is_held w (record row { holds = slice_set row.holds v b }) ≡ holding G w (newest G t r)
marks_after c H G v t r b row one few s here others w caller =
    let marks = s.marks in
    elim (cases_eq v w) [
      | inl is ↦
          ap (λ k. is_held k (record row { holds = slice_set row.holds v b })) (sym is)
          ∙ get_or-set_same row.holds v b false (omega arith) ∙ here ∙ ap (λ k. holding G k (newest G t r)) is
      | inr other ↦
          get_or-set_other row.holds v w b false (λ e. other (sym e)) ∙ s.holding w caller ∙ sym (others w caller other)
    ]

-- a row whose newest handle gets a Hold of the thread
opened_row : (c : Setting) (H G : History) (v t r : ℕ) (b : Bool) (row : Row) → v < c.threads → c.threads ≤ MAX_THREADS → SameRow c H G t r
    → SameOtherHolds c H G v t r → holding G v (newest G t r) ≡ (b || holding H v (newest H t r))
    → pins c G (newest G t r) ≡ pins c H (newest H t r) + bit b → pins c H (newest H t r) ≤ 32
    → RowStands c H t r row → RowStands c G t r (if b then opened v row else row)
opened_row c H G v t r true row one few same others here count small s = record {
  marks = length-set row.holds v true ∙ s.marks;
  makes = s.makes ∙ sym same.makes;
  live = s.live ∙ sym same.live;
  pins = let before = s.pins in min_small (row.pins + 1) (omega arith) ∙ (let is : row.pins + 1 ≡ pins c G (newest G t r) = omega arith in is);
  holding = marks_after c H G v t r true row one few s (sym here) others;
}
opened_row c H G v t r false row one few same others here count small s =
    same_row c H G t r row same (but_one c H G v t r here others) (omega arith) s

-- a row whose newest handle loses a Hold of the thread
closed_row : (c : Setting) (H G : History) (v t r : ℕ) (b : Bool) (row : Row) → v < c.threads → c.threads ≤ MAX_THREADS → SameRow c H G t r
    → SameOtherHolds c H G v t r → holding G v (newest G t r) ≡ (not b && holding H v (newest H t r))
    → pins c G (newest G t r) + bit b ≡ pins c H (newest H t r)
    → RowStands c H t r row → RowStands c G t r (if b then closed v row else row)
closed_row c H G v t r true row one few same others here count s = record {
  marks = length-set row.holds v false ∙ s.marks;
  makes = s.makes ∙ sym same.makes;
  live = s.live ∙ sym same.live;
  pins = let before = s.pins in omega arith;
  holding = marks_after c H G v t r false row one few s (sym here) others;
}
closed_row c H G v t r false row one few same others here count s =
    same_row c H G t r row same (but_one c H G v t r here others) (omega arith) s

-- a row of a thread that ends: its pin goes where the thread selects the newest handle, and its Hold where there is one
abbrev pub ended : Bool → Bool → ℕ → Row → Row
ended a d v row = if d then closed v (if a then unpinned row else row) else (if a then unpinned row else row)

pub ended_let_go : (a : Bool) (v : ℕ) (row : Row) → let_go v (if a then unpinned row else row) ≡ ended a (is_held v row) v row
ended_let_go true v row = refl
ended_let_go false v row = refl

ended_row : (c : Setting) (H G : History) (v t r : ℕ) (a d : Bool) (row : Row) → v < c.threads → c.threads ≤ MAX_THREADS → SameRow c H G t r
    → SameOtherHolds c H G v t r → holding G v (newest G t r) ≡ false → holding H v (newest H t r) ≡ d
    → pins c G (newest G t r) + bit a + bit d ≡ pins c H (newest H t r)
    → RowStands c H t r row → RowStands c G t r (ended a d v row)
ended_row c H G v t r true true row one few same others here there count s = record {
  marks = length-set row.holds v false ∙ s.marks;
  makes = s.makes ∙ sym same.makes;
  live = s.live ∙ sym same.live;
  pins = let before = s.pins in omega arith;
  holding = marks_after c H G v t r false row one few s (sym here) others;
}
ended_row c H G v t r false true row one few same others here there count s = record {
  marks = length-set row.holds v false ∙ s.marks;
  makes = s.makes ∙ sym same.makes;
  live = s.live ∙ sym same.live;
  pins = let before = s.pins in omega arith;
  holding = marks_after c H G v t r false row one few s (sym here) others;
}
ended_row c H G v t r true false row one few same others here there count s = record {
  marks = s.marks;
  makes = s.makes ∙ sym same.makes;
  live = s.live ∙ sym same.live;
  pins = let before = s.pins in omega arith;
  holding = λ w caller. s.holding w caller ∙ sym (but_one c H G v t r (here ∙ sym there) others w caller);
}
ended_row c H G v t r false false row one few same others here there count s =
    same_row c H G t r row same (but_one c H G v t r (here ∙ sym there) others) (omega arith) s

-- a row whose newest handle is freed where it is named
freed_row : (c : Setting) (H G : History) (t r : ℕ) (b : Bool) (row : Row) → makes G t r ≡ makes H t r
    → live G (newest G t r) ≡ (not b && live H (newest H t r)) → SameHolds c H G t r
    → pins c G (newest G t r) ≡ pins c H (newest H t r) → RowStands c H t r row → RowStands c G t r (if b then freed row else row)
freed_row c H G t r true row same alive holds count s = record {
  marks = s.marks;
  makes = s.makes ∙ sym same;
  live = sym alive;
  pins = s.pins ∙ sym count;
  holding = λ w caller. s.holding w caller ∙ sym (holds w caller);
}
freed_row c H G t r false row same alive holds count s = record {
  marks = s.marks;
  makes = s.makes ∙ sym same;
  live = s.live ∙ sym alive;
  pins = s.pins ∙ sym count;
  holding = λ w caller. s.holding w caller ∙ sym (holds w caller);
}

-- ---- all rows, op by op

-- a row is changed where its newest handle is named
changed_at : (c : Setting) (H : History) (f : Row → Row) (rows : GridData Row) (n : Named) (t r : ℕ) → HasLines c c.rows rows
    → (row_at rows t r).makes ≡ makes H t r → t < c.threads → r < c.rows
    → row_at (changed f rows n) t r ≡ (if names n (newest H t r) then f (row_at rows t r) else row_at rows t r)
changed_at c H f rows n t r shape same line column =
    let lines = shape.lines in
    let width = shape.width in
    row_changed f rows n t r shape.full (omega arith) (omega arith)
    ∙ ap (λ m. if names n (nth object_handles t r m) then f (row_at rows t r) else row_at rows t r) same

makes_if : (a : Bool) (row : Row) → (if a then unpinned row else row).makes ≡ row.makes
makes_if true row = refl
makes_if false row = refl

-- after a Use the pin on the former selection is gone, and the new selection has one
pub rows_of_use : (c : Setting) (H : History) (w : ℕ) (n : Named) (rows : GridData Row) → w < c.threads
    → is_accepted (answer c H w (Use n)) ≡ true → RowsStand c H rows
    → RowsStand c (entry c H w (Use n) ∷ H) (changed pinned (changed unpinned rows (selection H w)) n)
rows_of_use c H w n rows caller accepted s =
    let e : Entry = entry c H w (Use n) in
    let G : History = e ∷ H in
    let middle : GridData Row = changed unpinned rows (selection H w) in
    let shape : HasLines c c.rows middle = shape_changed c c.rows unpinned rows (selection H w) s.shape in record {
      few = s.few;
      shape = shape_changed c c.rows pinned middle n shape;
      each = λ t r line column.
          let h : Handle = newest H t r in
          let a : Bool = names (selection H w) h in
          let b : Bool = names n h in
          let row : Row = row_at rows t r in
          let stands = s.each t r line column in
          let first = changed_at c H unpinned rows (selection H w) t r s.shape stands.makes line column in
          let second = changed_at c H pinned middle n t r shape (ap (λ (x : Row). x.makes) first ∙ makes_if a row ∙ stands.makes) line column in
          let holds : SameHolds c H G t r = λ v lt. same_either (w == v && is_accepted e.reply) (holding H v h) in
          let count = pins_after c e H h caller in
          let selects : bit (names (selection G w) h) ≡ bit b = ap (λ m. bit (names m h)) (selection_of_caller e H w refl accepted) in
          let held : bit (holding G w h) ≡ bit (holding H w h) = ap bit (holds w caller) in
          let some = ways_among c H h w caller in
          subst (RowStands c G t r) (sym (second ∙ ap (λ x. if b then pinned x else x) first))
          (repinned_row c H G t r a b row
          (record { makes = refl; live = live_kept e H h refl (and_right (is_accepted e.reply) false refl) })
          holds (omega arith) (omega arith) (pins_few c H h s.few) stands);
    }

-- after a Hold the thread holds the handle, which has one more pin
pub rows_of_hold : (c : Setting) (H : History) (w : ℕ) (n : Named) (rows : GridData Row) → w < c.threads
    → is_accepted (answer c H w (Hold n)) ≡ true → ((h : Handle) → names n h ≡ true → holding H w h ≡ false) → RowsStand c H rows
    → RowsStand c (entry c H w (Hold n) ∷ H) (changed (opened w) rows n)
rows_of_hold c H w n rows caller accepted unheld s =
    let e : Entry = entry c H w (Hold n) in
    let G : History = e ∷ H in record {
      few = s.few;
      shape = shape_changed c c.rows (opened w) rows n s.shape;
      each = λ t r line column.
          let h : Handle = newest H t r in
          let b : Bool = names n h in
          let row : Row = row_at rows t r in
          let stands = s.each t r line column in
          let is = changed_at c H (opened w) rows n t r s.shape stands.makes line column in
          let count = pins_after c e H h caller in
          let here : holding G w h ≡ (b || holding H w h) = holding_of_caller e H w h refl accepted in
          let selects : bit (names (selection G w) h) ≡ bit (names (selection H w) h) =
          ap (λ m. bit (names m h)) (selection_of_caller e H w refl accepted)
          in
          let held : bit (holding G w h) ≡ bit b + bit (holding H w h) = ap bit here ∙ bit_or b (holding H w h) (unheld h) in
          subst (RowStands c G t r) (sym is)
          (opened_row c H G w t r b row caller s.few
          (record { makes = refl; live = live_kept e H h refl (and_right (is_accepted e.reply) false refl) })
          (λ v lt other. holding_of_other e H v h other) here (omega arith) (pins_few c H h s.few) stands);
    }

-- after a Release the thread does not hold the handle, which has one pin less
pub rows_of_release : (c : Setting) (H : History) (w : ℕ) (n : Named) (rows : GridData Row) → w < c.threads
    → is_accepted (answer c H w (Release n)) ≡ true → ((h : Handle) → names n h ≡ true → holding H w h ≡ true) → RowsStand c H rows
    → RowsStand c (entry c H w (Release n) ∷ H) (changed (closed w) rows n)
rows_of_release c H w n rows caller accepted held_before s =
    let e : Entry = entry c H w (Release n) in
    let G : History = e ∷ H in record {
      few = s.few;
      shape = shape_changed c c.rows (closed w) rows n s.shape;
      each = λ t r line column.
          let h : Handle = newest H t r in
          let b : Bool = names n h in
          let row : Row = row_at rows t r in
          let stands = s.each t r line column in
          let is = changed_at c H (closed w) rows n t r s.shape stands.makes line column in
          let count = pins_after c e H h caller in
          let here : holding G w h ≡ (not b && holding H w h) = holding_of_caller e H w h refl accepted in
          let selects : bit (names (selection G w) h) ≡ bit (names (selection H w) h) =
          ap (λ m. bit (names m h)) (selection_of_caller e H w refl accepted)
          in
          let held : bit (holding G w h) + bit b ≡ bit (holding H w h) = ap (λ x. bit x + bit b) here ∙ bit_less b (holding H w h) (held_before h) in
          subst (RowStands c G t r) (sym is)
          (closed_row c H G w t r b row caller s.few
          (record { makes = refl; live = live_kept e H h refl (and_right (is_accepted e.reply) false refl) })
          (λ v lt other. holding_of_other e H v h other) here (omega arith) stands);
    }

-- after an End the thread selects and holds nothing, and its pins are gone
pub rows_of_end : (c : Setting) (H : History) (w : ℕ) (rows : GridData Row) → w < c.threads → RowsStand c H rows
    → RowsStand c (entry c H w End ∷ H) (all_let_go w (changed unpinned rows (selection H w)))
rows_of_end c H w rows caller s =
    let e : Entry = entry c H w End in
    let G : History = e ∷ H in
    let middle : GridData Row = changed unpinned rows (selection H w) in
    let shape : HasLines c c.rows middle = shape_changed c c.rows unpinned rows (selection H w) s.shape in
    let lines = shape.lines in
    let width = shape.width in record {
      few = s.few;
      shape = shape_let_go c c.rows w middle shape;
      each = λ t r line column.
          let h : Handle = newest H t r in
          let a : Bool = names (selection H w) h in
          let row : Row = row_at rows t r in
          let stands = s.each t r line column in
          let first = changed_at c H unpinned rows (selection H w) t r s.shape stands.makes line column in
          let second = row_let_go w middle t r shape.full (omega arith) (omega arith) in
          let there : holding H w h ≡ is_held w row = sym (stands.holding w caller) in
          let here : holding G w h ≡ false = holding_of_caller e H w h refl refl in
          let count = pins_after c e H h caller in
          let selects : bit (names (selection G w) h) ≡ 0 = ap (λ m. bit (names m h)) (selection_of_caller e H w refl refl) in
          let held : bit (holding G w h) ≡ 0 = ap bit here in
          let before : bit (holding H w h) ≡ bit (is_held w row) = ap bit there in
          subst (RowStands c G t r) (sym (second ∙ ap (let_go w) first ∙ ended_let_go a w row))
          (ended_row c H G w t r a (is_held w row) row caller s.few
          (record { makes = refl; live = refl })
          (λ v lt other. holding_of_other e H v h other) here there (omega arith) stands);
    }

-- after a Free the handle is not live, and its pins stay
pub rows_of_free : (c : Setting) (H : History) (w : ℕ) (n : Named) (rows : GridData Row) → w < c.threads
    → is_accepted (answer c H w (Free n)) ≡ true → RowsStand c H rows
    → RowsStand c (entry c H w (Free n) ∷ H) (changed freed rows n)
rows_of_free c H w n rows caller accepted s =
    let e : Entry = entry c H w (Free n) in
    let G : History = e ∷ H in record {
      few = s.few;
      shape = shape_changed c c.rows freed rows n s.shape;
      each = λ t r line column.
          let h : Handle = newest H t r in
          let b : Bool = names n h in
          let row : Row = row_at rows t r in
          let stands = s.each t r line column in
          let is = changed_at c H freed rows n t r s.shape stands.makes line column in
          let holds : SameHolds c H G t r = λ v lt. same_either (w == v && is_accepted e.reply) (holding H v h) in
          let count = pins_after c e H h caller in
          let selects : bit (names (selection G w) h) ≡ bit (names (selection H w) h) =
          ap (λ m. bit (names m h)) (selection_of_caller e H w refl accepted)
          in
          let held : bit (holding G w h) ≡ bit (holding H w h) = ap bit (holds w caller) in
          subst (RowStands c G t r) (sym is)
          (freed_row c H G t r b row refl (ap (λ x. not (x && b) && live H h) accepted) holds (omega arith) stands);
    }
