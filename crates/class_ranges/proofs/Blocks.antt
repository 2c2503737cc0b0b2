-- Numbered blocks of a map, as blocks are added, and the keys of a map.
use Rattle.std.proofs.Common.{◌≡◌, ℕ, zero, suc, ◌+◌, ◌*◌, ◌/◌, ◌%◌, ◌-◌, ◌<◌, ◌≤◌, Bool, true, false, cond, ◌||◌, List, [], ◌∷◌, ◌++◌, length, get_or, Some, None, All, nat_eq, nat_lt, refl, sym, ap, ◌∙◌, subst, arith, length-append, slice_get}
use Rattle.std.specs.Prelude.{slice_index, option_map, unwrap_or}
use Rattle.std.specs.BTreeMap.{is_at}
use Rattle.std.specs.Int.{is_in_range}
use Rattle.std.specs.Map.{lookup}
use Rattle.std.specs.Ordering.{nat_cmp}
use Rattle.std.proofs.Math.ListN.{get_or-append}
use Rattle.std.proofs.Math.Seq.{get_or-append_seam}
use Rattle.std.proofs.lemmas.Bool.Decides.{nat_tests}
use Rattle.std.proofs.lemmas.Option.{slice_get-get_or, slice_get_read}
use Rattle.class_ranges.specs.Ranges.{Range, covers}
use Rattle.class_ranges.proofs.Pages.{get-append}
use Rattle.class_ranges.specs.Maps.{image, key_ranges, block_gives, IsFixedOutside, IsPagedMap}

-- what the blocks give is kept when one is added
pub kept_blocks : (blocks : List (List ℕ)) (block : List ℕ) (n k w v : ℕ) → block_gives blocks n k w ≡ Some v → block_gives (blocks ++ block ∷ []) n k w ≡ Some v
kept_blocks blocks block n k w v =
    let Q : Bool → Type 0 = λ none. cond none (Some w) (option_map (λ b. slice_index b k) (slice_get blocks (n - 1))) ≡ Some v → cond none (Some w) (option_map (λ b. slice_index b k) (slice_get (blocks ++ block ∷ []) (n - 1))) ≡ Some v in
    elim (nat_eq n 0) as Q [
      | true ↦ λ h. h
      | false ↦ (elim (slice_get blocks (n - 1)) as (λ found. slice_get blocks (n - 1) ≡ found → option_map (λ b. slice_index b k) (slice_get blocks (n - 1)) ≡ Some v → option_map (λ b. slice_index b k) (slice_get (blocks ++ block ∷ []) (n - 1)) ≡ Some v) [
        | None ↦ λ is h. absurd (cc)
        | Some other ↦ λ is h. ap (option_map (λ b. slice_index b k)) (get-append blocks block other (n - 1) is) ∙ sym (ap (option_map (λ b. slice_index b k)) is) ∙ h
      ]) refl
    ]

-- what the block that is added gives
pub added_block : (blocks : List (List ℕ)) (block : List ℕ) (n k w v : ℕ) → n ≡ length blocks + 1 → slice_index block k ≡ v → block_gives (blocks ++ block ∷ []) n k w ≡ Some v
added_block blocks block n k w v is gives =
    let some : nat_eq n 0 ≡ false = grind (arith, nat_tests) in
    let at : n - 1 ≡ length blocks = omega arith in
    let longer : length blocks < length (blocks ++ block ∷ []) = omega (arith, length-append blocks (block ∷ [])) in
    let there : slice_get (blocks ++ block ∷ []) (n - 1) ≡ Some block = ap (slice_get (blocks ++ block ∷ [])) at ∙ slice_get-get_or (blocks ++ block ∷ []) (length blocks) [] longer ∙ ap Some (get_or-append_seam blocks block [] []) in
    ap (λ none. cond none (Some w) (option_map (λ b. slice_index b k) (slice_get (blocks ++ block ∷ []) (n - 1)))) some
    ∙ ap (option_map (λ b. slice_index b k)) there ∙ ap Some gives

-- a table with one block more
pub more_blocks : (entries : List (ℕ × ℕ)) (numbers : List ℕ) (blocks more : List (List ℕ)) (n : ℕ)
    → IsPagedMap numbers blocks entries
    → ((m k w v : ℕ) → block_gives blocks m k w ≡ Some v → block_gives more m k w ≡ Some v)
    → ((k : ℕ) → k < 64 → block_gives more n k (length numbers * 64 + k) ≡ Some (image entries (length numbers * 64 + k)))
    → IsPagedMap (numbers ++ n ∷ []) more entries
more_blocks entries numbers blocks more n right kept gives w below =
    let low : w % 64 < 64 = omega arith in
    let old : w / 64 < length numbers → block_gives more (slice_index (numbers ++ n ∷ []) (w / 64)) (w % 64) w ≡ Some (image entries w) = λ within.
    ap (λ m. block_gives more m (w % 64) w) (get_or-append numbers (n ∷ []) 0 (w / 64) within) ∙ kept (slice_index numbers (w / 64)) (w % 64) w (image entries w) (right w within) in
    let here : w / 64 ≡ length numbers → block_gives more (slice_index (numbers ++ n ∷ []) (w / 64)) (w % 64) w ≡ Some (image entries w) = λ is.
    let at : length numbers * 64 + w % 64 ≡ w = omega arith in
    let P : ℕ → Type 0 = λ v. block_gives more n (w % 64) v ≡ Some (image entries v) in
    ap (λ m. block_gives more m (w % 64) w) (ap (slice_index (numbers ++ n ∷ [])) is ∙ get_or-append_seam numbers n [] 0) ∙ subst P at (gives (w % 64) low) in
    let longer : length (numbers ++ n ∷ []) ≡ length numbers + 1 = length-append numbers (n ∷ []) in
    let Q : Bool → Type 0 = λ b. nat_lt (w / 64) (length numbers) ≡ b → block_gives more (slice_index (numbers ++ n ∷ []) (w / 64)) (w % 64) w ≡ Some (image entries w) in
    (elim (nat_lt (w / 64) (length numbers)) as Q [
      | true ↦ λ is. old (grind (arith, nat_tests))
      | false ↦ λ is. here (grind (arith, nat_tests))
    ]) refl

-- what a block with images gives, as code reads it
pub images_give : (blocks : List (List ℕ)) (block : List ℕ) (n k w : ℕ) → 1 ≤ n → n - 1 < length blocks → block ≡ get_or blocks (n - 1) block
    → Some (slice_index block k) ≡ block_gives blocks n k w
images_give blocks block n k w some within is =
    let not_none : nat_eq n 0 ≡ false = grind (arith, nat_tests) in
    let there : slice_get blocks (n - 1) ≡ Some block = slice_get_read blocks (length blocks) (n - 1) block refl within is in
    sym (ap (option_map (λ b. slice_index b k)) there)
    ∙ sym (ap (λ none. cond none (Some w) (option_map (λ b. slice_index b k) (slice_get blocks (n - 1)))) not_none)

-- each of the ranges of keys is one value
pub keys_forward : (entries : List (ℕ × ℕ)) → All (λ range. range.0 ≤ range.1) (key_ranges entries)
keys_forward [] k d within = absurd (omega arith)
keys_forward (e ∷ es) zero d within = omega arith
keys_forward (e ∷ es) (suc k) d within = keys_forward es k d (omega arith)

-- a value that is no key is not found
not_found : (entries : List (ℕ × ℕ)) (w : ℕ) → covers (key_ranges entries) w ≡ false → lookup (is_at (nat_cmp w)) entries ≡ None
not_found [] w = λ h. refl
not_found (e ∷ es) w =
    let other : is_in_range e.0 e.0 w ≡ false → is_at (nat_cmp w) e.0 ≡ false = λ out. grind (arith, nat_tests) in
    let Q : Bool → Type 0 = λ b. is_in_range e.0 e.0 w ≡ b → (b || covers (key_ranges es) w) ≡ false → lookup (is_at (nat_cmp w)) (e ∷ es) ≡ None in
    (elim (is_in_range e.0 e.0 w) as Q [
      | true ↦ λ is h. absurd (cc)
      | false ↦ λ out h. ap (λ b. cond b (Some e.1) (lookup (is_at (nat_cmp w)) es)) (other out) ∙ not_found es w h
    ]) refl

pub fixed_outside : (ranges : List Range) (entries : List (ℕ × ℕ)) → ((w : ℕ) → covers ranges w ≡ covers (key_ranges entries) w) → IsFixedOutside ranges entries
fixed_outside ranges entries same w out = ap (λ found. unwrap_or found w) (not_found entries w (sym (same w) ∙ out))
