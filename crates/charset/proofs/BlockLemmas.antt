-- Names that count up, a block of tails at a time.
use Rattle.std.proofs.Common.{◌≡◌, ℕ, zero, suc, ◌+◌, ◌-◌, ◌*◌, ◌/◌, ◌%◌, ◌^◌, ◌<◌, ◌≤◌, min, Bool, true, false, cond, ◌≢◌, List, [], ◌∷◌, ◌++◌, length, map, replicate, Some, None, refl, sym, ap, ◌∙◌, arith, length-append, add-zero}
use Rattle.std.specs.List.{range_with_len}
use Rattle.std.specs.Str.Parse.{AllDigits, digits_value}
use Rattle.std.proofs.Math.Nat.{pow-suc, pow-le-pow_right}
use Rattle.std.proofs.lemmas.List.{append_assoc, length-drop, replicate_more, take-append-drop}
use Rattle.std.proofs.lemmas.List.FromFn.{length-map-range_with_len}
use Rattle.std.proofs.lemmas.Int.Digits.{digits_value-lt}
use Rattle.lc_base.specs.Tables.{first_named}
use Rattle.charset.specs.Portable.{Name}
use Rattle.std.specs.Option.{is_some}
use Rattle.charset.specs.declared.spans.Block.{Block}
use Rattle.charset.specs.Blocks.{block_from}
use Rattle.charset.specs.CharacterNames.{block_entry, block_entries, valued_after, valued_names, IsBlockOf}
use Rattle.charset.specs.Entries.{Entry, added}
use Rattle.charset.specs.ShortBytes.{shortest}
use Rattle.charset.specs.Numbering.{digit_count, stem, digits, number, padded, name_after}
use Rattle.charset.specs.Tails.{front, tail, tail_width, tail_number, IsFront}
use Rattle.charset.proofs.DigitLemmas.{digits-all_digits}
use Rattle.charset.proofs.Adding.{after, added-append}
use Rattle.charset.proofs.Padding.{padded_step, padded_own, last_digit, digits_by}
use Rattle.charset.proofs.TailLemmas.{padded_last, padded_empty, tenth_below, digit_count-digits, digit_count-padded, digit_count-le, name_parts, tail-all_digits, tail_number-lt, length-tail}

-- ---- names by their places

-- a range begins with its first name
pub name_after_first : (name : Name) → name_after name 0 ≡ name
name_after_first name =
    let own : number name + 0 ≡ number name = omega arith in
    ap (λ n. stem name ++ padded (length (digits name)) n) own ∙ ap (λ (ds : List ℕ). stem name ++ ds) (padded_own (digits name) (digits-all_digits name)) ∙ take-append-drop (length name - digit_count name) name

-- ---- digits that count up without a carry past a width

-- a number whose last digits are those of a smaller one counts on in these alone
pub padded_along : (width wide m : ℕ) (front : List ℕ) (n j : ℕ) → padded wide m ≡ front ++ padded width n → n < 10 ^ width → n + j < 10 ^ width → padded wide (m + j) ≡ front ++ padded width (n + j)
padded_along zero wide m front n j is below within =
    let none : j ≡ 0 = omega arith in
    let first : m + j ≡ m = omega arith in
    let second : n + j ≡ n = omega arith in
    ap (padded wide) first ∙ is ∙ ap (λ k. front ++ padded zero k) (sym second)
padded_along (suc width) wide m front n j is below within =
    let split : (k : ℕ) → front ++ padded (suc width) k ≡ (front ++ padded width (k / 10)) ++ (48 + k % 10) ∷ [] =
    λ k. ap (λ (ds : List ℕ). front ++ ds) (padded_last width k) ∙ sym (append_assoc front (padded width (k / 10)) ((48 + k % 10) ∷ [])) in
    let parts = last_digit wide m (front ++ padded width (n / 10)) (48 + n % 10) (is ∙ split n) in
    let carry : ℕ = (n % 10 + j) / 10 in
    let tenth : (m + j) / 10 ≡ m / 10 + carry = omega (arith, parts.2) in
    let digit : (m + j) % 10 ≡ (n + j) % 10 = omega (arith, parts.2) in
    let other : (n + j) / 10 ≡ n / 10 + carry = omega arith in
    let more = padded_along width (wide - 1) (m / 10) front (n / 10) carry parts.1 (tenth_below width n below) (rw other at (tenth_below width (n + j) within)) in
    padded_step wide (m + j) (omega (arith, parts.0)) ∙
    ap (λ k. padded (wide - 1) k ++ (48 + (m + j) % 10) ∷ []) tenth ∙
    ap (λ k. padded (wide - 1) (m / 10 + carry) ++ (48 + k) ∷ []) digit ∙
    ap (λ (ds : List ℕ). ds ++ (48 + (n + j) % 10) ∷ []) more ∙
    ap (λ k. (front ++ padded width k) ++ (48 + (n + j) % 10) ∷ []) (sym other) ∙
    sym (split (n + j))

-- the last number of a width is made of nines
pub padded_nines : (width : ℕ) → padded width (10 ^ width - 1) ≡ replicate width 57
padded_nines zero = padded_empty (10 ^ 0 - 1) (omega arith)
padded_nines (suc width) =
    let power : 10 ^ suc width ≡ 10 ^ width * 10 = pow-suc 10 width in
    let some : 10 ^ 0 ≤ 10 ^ width = pow-le-pow_right {n = 10} (omega arith) {i = 0} {j = width} (omega arith) in
    let tenth : (10 ^ suc width - 1) / 10 ≡ 10 ^ width - 1 = omega arith in
    let digit : (10 ^ suc width - 1) % 10 ≡ 9 = omega arith in
    let next : width + 1 ≡ suc width = omega arith in
    padded_last width (10 ^ suc width - 1) ∙
    ap (λ k. padded width k ++ (48 + (10 ^ suc width - 1) % 10) ∷ []) tenth ∙
    ap (λ k. padded width (10 ^ width - 1) ++ (48 + k) ∷ []) digit ∙
    ap (λ (ds : List ℕ). ds ++ 57 ∷ []) (padded_nines width) ∙
    replicate_more width 57 ∙ ap (λ k. replicate k 57) next

-- ---- one block

-- the part of a name before all its digits ends in none
stem_bare : (name : Name) → digit_count (stem name) ≡ 0
stem_bare name =
    let whole : stem name ++ digits name ≡ name = take-append-drop (length name - digit_count name) name in
    let long : length (digits name) ≡ digit_count name = omega (arith, length-drop (length name - digit_count name) name, digit_count-le name) in
    omega (arith, digit_count-digits (stem name) (digits name) (digits-all_digits name), ap digit_count whole)

-- digits behind that part have their tail there too
front_behind : (name : Name) (ds : List ℕ) → AllDigits 10 ds → IsFront (stem name ++ front ds) (tail_width ds)
front_behind name ds all =
    let w : ℕ = tail_width ds in
    let alone : digit_count ds ≡ 0 + length ds = digit_count-digits [] ds all in
    let whole : (stem name ++ front ds) ++ padded w (tail_number ds) ≡ stem name ++ ds =
    append_assoc (stem name) (front ds) (padded w (tail_number ds)) ∙ ap (λ (bs : List ℕ). stem name ++ bs) (sym (name_parts ds)) in
    let behind : digit_count (stem name ++ front ds) + w ≡ length ds =
    omega (arith, digit_count-padded (stem name ++ front ds) w (tail_number ds) (tail_number-lt ds), ap digit_count whole, digit_count-digits (stem name) ds all, stem_bare name) in
    ap (λ k. min k 9) (behind ∙ omega arith)

-- functions that agree on two ranges map them alike
map_shift : (f g : ℕ → Entry) (a b n : ℕ) → ((k : ℕ) → k < n → f (a + k) ≡ g (b + k)) → map f (range_with_len a n) ≡ map g (range_with_len b n)
map_shift f g a b zero same = refl
map_shift f g a b (suc n) same =
    let here : f a ≡ g b = rw (add-zero a, add-zero b) at (same 0 (omega arith)) in
    let rest : map f (range_with_len (a + 1) n) ≡ map g (range_with_len (b + 1) n) = map_shift f g (a + 1) (b + 1) n (λ k within.
    let left : a + 1 + k ≡ a + (k + 1) = omega arith in
    let right : b + 1 + k ≡ b + (k + 1) = omega arith in
    ap f left ∙ same (k + 1) (omega arith) ∙ ap g (sym right)) in
    cc

-- a range in two parts
range_parts : (f : ℕ → Entry) (a m n : ℕ) → map f (range_with_len a (m + n)) ≡ map f (range_with_len a m) ++ map f (range_with_len (a + m) n)
range_parts f a zero n =
    let count : 0 + n ≡ n = omega arith in
    let place : a + 0 ≡ a = omega arith in
    ap (λ k. map f (range_with_len a k)) count ∙ ap (λ k. map f (range_with_len k n)) (sym place)
range_parts f a (suc m) n =
    let count : suc m + n ≡ suc (m + n) = omega arith in
    let place : a + 1 + m ≡ a + suc m = omega arith in
    ap (λ k. map f (range_with_len a k)) count ∙ ap (λ (es : List Entry). f a ∷ es) (range_parts f (a + 1) m n ∙ ap (λ k. map f (range_with_len (a + 1) m) ++ map f (range_with_len k n)) place)

-- names that count up from a first one, of which so many are done; the digits of the next one are ds
module _ (name : Name) (value done : ℕ) (ds : List ℕ) (own : ds ≡ padded (length (digits name)) (number name + done)) (all : AllDigits 10 ds) where
  -- the next block
  abbrev pub next_from : ℕ → Block
  next_from left = block_from (tail ds) left (value + done)

  -- it has no more names than asked for, and its numbers fit its width
  next_upto : (left : ℕ) → ((next_from left).more ≤ left) × ((next_from left).first + (next_from left).more < 10 ^ (next_from left).width)
  next_upto left =
      let below : digits_value 10 (tail ds) < 10 ^ length (tail ds) = digits_value-lt 10 (tail ds) (tail-all_digits ds) in
      (omega arith, omega arith)

  -- it is formed behind its front
  pub next_formed : (left more : ℕ) → done + left ≤ more → value + more < 2 ^ 32 → IsBlockOf (stem name ++ front ds) (next_from left)
  next_formed left more within fits = (
    rw (length-tail ds) (front_behind name ds all),
    (next_upto left).1,
    omega (arith, (next_upto left).0),
  )

  -- digits of the next names
  along : (k : ℕ) → tail_number ds + k < 10 ^ tail_width ds → padded (length (digits name)) (number name + done + k) ≡ front ds ++ padded (tail_width ds) (tail_number ds + k)
  along k within = padded_along (tail_width ds) (length (digits name)) (number name + done) (front ds) (tail_number ds) k (sym own ∙ name_parts ds) (tail_number-lt ds) within

  -- its names are the next ones
  next_entries : (left : ℕ) → block_entries (stem name ++ front ds) (next_from left) ≡ map (valued_after name value) (range_with_len done ((next_from left).more + 1))
  next_entries left = map_shift (block_entry (stem name ++ front ds) (next_from left)) (valued_after name value) 0 done ((next_from left).more + 1) (λ k within.
      let upto = (next_upto left).1 in
      let under : tail_number ds + k < 10 ^ length (tail ds) = omega arith in
      let below : tail_number ds + k < 10 ^ tail_width ds = rw (length-tail ds) at under in
      let zero_more : 0 + k ≡ k = omega arith in
      let place : number name + (done + k) ≡ number name + done + k = omega arith in
      let count : value + done + k ≡ value + (done + k) = omega arith in
      ap (block_entry (stem name ++ front ds) (next_from left)) zero_more ∙
      ap {B = Entry} (λ (w : ℕ). ((stem name ++ front ds) ++ padded w (tail_number ds + k), shortest (value + done + k))) (length-tail ds) ∙
      ap {B = Entry} (λ (bs : List ℕ). (bs, shortest (value + done + k))) (append_assoc (stem name) (front ds) (padded (tail_width ds) (tail_number ds + k)) ∙ ap (λ (bs : List ℕ). stem name ++ bs) (sym (along k below) ∙ ap (padded (length (digits name))) (sym place))) ∙
      ap {B = Entry} (λ (n : ℕ). (name_after name (done + k), shortest n)) count)

  -- where it ends before the last name, its last tail is made of nines
  next_carried : (left : ℕ) → (next_from left).more ≢ left → padded (length (digits name)) (number name + (done + (next_from left).more)) ≡ front ds ++ replicate (length (tail ds)) 57
  next_carried left short =
      let below = tail_number-lt ds in
      let upto = (next_upto left).1 in
      let end : tail_number ds + (next_from left).more ≡ 10 ^ length (tail ds) - 1 = omega arith in
      let last : tail_number ds + (next_from left).more ≡ 10 ^ tail_width ds - 1 = end ∙ ap (λ k. 10 ^ k - 1) (length-tail ds) in
      let place : number name + (done + (next_from left).more) ≡ number name + done + (next_from left).more = omega arith in
      ap (padded (length (digits name))) place ∙ along (next_from left).more (omega arith) ∙ ap (λ k. front ds ++ padded (tail_width ds) k) last
      ∙ ap (λ (bs : List ℕ). front ds ++ bs) (padded_nines (tail_width ds) ∙ ap (λ k. replicate k 57) (sym (length-tail ds)))

-- ---- the names of a range, a block at a time

-- further names after those that are done
more_added : (f : ℕ → Entry) (old given : List Entry) (done count : ℕ) → added old (map f (range_with_len 0 done)) ≡ Some given → added old (map f (range_with_len 0 (done + count))) ≡ added given (map f (range_with_len done count))
more_added f old given done count so_far =
    let place : 0 + done ≡ done = omega arith in
    ap (added old) (range_parts f 0 done count ∙ ap (λ k. map f (range_with_len 0 done) ++ map f (range_with_len k count)) place) ∙ added-append old (map f (range_with_len 0 done)) (map f (range_with_len done count)) ∙ ap (λ o. after o (map f (range_with_len done count))) so_far

-- a block of which a name was given refuses them all
more_refused : (f : ℕ → Entry) (old given : List Entry) (done count total : ℕ) → added old (map f (range_with_len 0 done)) ≡ Some given → added given (map f (range_with_len done count)) ≡ None → done + count ≤ total → added old (map f (range_with_len 0 total)) ≡ None
more_refused f old given done count total so_far refused within =
    let whole : done + (count + (total - (done + count))) ≡ total = omega arith in
    ap (λ k. added old (map f (range_with_len 0 k))) (sym whole) ∙ more_added f old given done (count + (total - (done + count))) so_far
    ∙ ap (added given) (range_parts f done count (total - (done + count))) ∙ added-append given (map f (range_with_len done count)) (map f (range_with_len (done + count) (total - (done + count)))) ∙ ap (λ o. after o (map f (range_with_len (done + count) (total - (done + count))))) refused

-- entries that are added are so many more
added_count : (given es new : List Entry) → added given es ≡ Some new → length new ≡ length given + length es
added_count given [] new is = let same : given ≡ new = cc in omega (arith, ap (λ (xs : List Entry). length xs) same)
added_count given (e ∷ es) new is =
    let P : Bool → Type 0 = λ b. cond b None (added (given ++ e ∷ []) es) ≡ Some new → length new ≡ length given + length (e ∷ es) in
    (elim (is_some (first_named given e.0)) as P [ true ↦ λ k. cc | false ↦ λ k. omega (arith, added_count (given ++ e ∷ []) es new k, length-append given (e ∷ [])) ]) is

-- the next block, as it was given to be added
module _ (name : Name) (value done left more : ℕ) (ds : List ℕ) (own : ds ≡ padded (length (digits name)) (number name + done)) (all : AllDigits 10 ds)
    (start : Name) (b : Block) (begins : start ≡ stem name ++ front ds) (is : b ≡ next_from name value done ds own all left) (within : done + left ≡ more)
    (old given new : List Entry) (so_far : added old (map (valued_after name value) (range_with_len 0 done)) ≡ Some given) where
  -- its names are those that come next
  block_is_next : block_entries start b ≡ map (valued_after name value) (range_with_len done (b.more + 1))
  block_is_next =
      ap (λ (bs : Name). block_entries bs b) begins ∙ ap (λ (c : Block). block_entries (stem name ++ front ds) c) is ∙ next_entries name value done ds own all left
      ∙ ap (λ (c : Block). map (valued_after name value) (range_with_len done (c.more + 1))) (sym is)

  -- it goes no further than the range
  pub upto_last : done + b.more ≤ more
  upto_last = omega (arith, (next_upto name value done ds own all left).0, ap (λ (c : Block). c.more) is)

  -- a name of it that was given before refuses the range
  pub block_refused : added given (block_entries start b) ≡ None → added old (valued_names name value more) ≡ None
  block_refused refused = more_refused (valued_after name value) old given done (b.more + 1) (more + 1) so_far (ap (added given) (sym block_is_next) ∙ refused) (omega (arith, upto_last))

  -- with it so many more are added
  pub block_step : added given (block_entries start b) ≡ Some new → added old (map (valued_after name value) (range_with_len 0 (done + (b.more + 1)))) ≡ Some new
  block_step grown = more_added (valued_after name value) old given done (b.more + 1) so_far ∙ ap (added given) (sym block_is_next) ∙ grown

  -- where it ends with the last name, the range is added
  pub block_last : added given (block_entries start b) ≡ Some new → done + b.more ≡ more → added old (valued_names name value more) ≡ Some new
  block_last grown last =
      let count : done + (b.more + 1) ≡ more + 1 = omega arith in
      ap (λ k. added old (map (valued_after name value) (range_with_len 0 k))) (sym count) ∙ block_step grown

  -- they are so many more
  pub block_count : added given (block_entries start b) ≡ Some new → length new ≡ length given + (b.more + 1)
  block_count grown = omega (arith, added_count given (block_entries start b) new grown, length-map-range_with_len (block_entry start b) 0 (b.more + 1))

  -- where it ends before the last name, its last tail is made of nines
  pub block_carried : done + b.more ≢ more → padded (length (digits name)) (number name + (done + b.more)) ≡ front ds ++ replicate (length (tail ds)) 57
  block_carried before =
      let count : b.more ≡ (next_from name value done ds own all left).more = ap (λ (c : Block). c.more) is in
      ap (λ k. padded (length (digits name)) (number name + (done + k))) count ∙ next_carried name value done ds own all left (λ e. before (omega arith))

-- the digits of a number are digits
pub padded-all_digits : (width n : ℕ) → AllDigits 10 (padded width n)
padded-all_digits width n = digits_by (width + n) width n (omega arith)
