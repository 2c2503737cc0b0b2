-- Values stay as they are where pairs and bytes come behind those that are there.
use Rattle.std.proofs.Common.{◌≡◌, ℕ, ◌+◌, ◌<◌, ◌≤◌, List, [], ◌∷◌, ◌++◌, length, get_or, take, All, refl, sym, ap, ◌∙◌, arith, length-take}
use Rattle.std.specs.Prelude.{slice_range}
use Rattle.std.proofs.lemmas.List.{get_or-take, map-append}
use Rattle.std.proofs.lemmas.List.Elements.{All-tail, All-push}
use Rattle.lc_base.proofs.Slices.{range-take, map_same}
use Rattle.keywords.specs.declared.source.Value.{Value}
use Rattle.keywords.specs.declared.cells.Content.{Content}
use Rattle.keywords.specs.declared.cells.Content.TheVariants.{Short, Long, Number as Whole, One, Range, Pair as Two}
use Rattle.keywords.specs.declared.cells.Cell.{Cell}
use Rattle.keywords.specs.Cells.{Pairs, pair_at, value_in, cell_in, values_in, IsWithin, IsCellWithin, Extends}

-- what is there stays there
longer : {A : Type 0} (xs more : List A) → take (length xs) more ≡ xs → length xs ≤ length more
longer {A} xs more e = omega (arith, length-take {A = A} (length xs) more, ap length e)

pair_stays : (pairs more : Pairs) (i : ℕ) → take (length pairs) more ≡ pairs → i < length pairs → pair_at more i ≡ pair_at pairs i
pair_stays pairs more i e lt = sym (get_or-take (length pairs) more i (0, 0) lt) ∙ ap (λ (ps : Pairs). get_or ps i (0, 0)) e

range_stays : (bytes more : List ℕ) (a b : ℕ) → take (length bytes) more ≡ bytes → a ≤ b → b ≤ length bytes → slice_range more a b ≡ slice_range bytes a b
range_stays bytes more a b e order within = sym (range-take more (length bytes) a b order within) ∙ ap (λ (bs : List ℕ). slice_range bs a b) e

-- the value of a cell
value_stays : (pairs : Pairs) (bytes : List ℕ) (more_pairs : Pairs) (more_bytes : List ℕ) → Extends pairs bytes more_pairs more_bytes
    → (content : Content) → IsWithin pairs bytes content → value_in more_pairs more_bytes content ≡ value_in pairs bytes content
value_stays pairs bytes more_pairs more_bytes e (Short n start) h = rw (range_stays bytes more_bytes start (start + n) e.bytes_stay (omega arith) h) refl
value_stays pairs bytes more_pairs more_bytes e (Long i) h =
    rw (pair_stays pairs more_pairs i e.pairs_stay h.there, range_stays bytes more_bytes (pair_at pairs i).0 (pair_at pairs i).1 e.bytes_stay h.in_order h.within) refl
value_stays pairs bytes more_pairs more_bytes e (Whole n) h = refl
value_stays pairs bytes more_pairs more_bytes e (One a) h = refl
value_stays pairs bytes more_pairs more_bytes e (Range i) h = rw (pair_stays pairs more_pairs i e.pairs_stay h) refl
value_stays pairs bytes more_pairs more_bytes e (Two i) h = rw (pair_stays pairs more_pairs i e.pairs_stay h) refl

within_stays : (pairs : Pairs) (bytes : List ℕ) (more_pairs : Pairs) (more_bytes : List ℕ) → Extends pairs bytes more_pairs more_bytes
    → (content : Content) → IsWithin pairs bytes content → IsWithin more_pairs more_bytes content
within_stays pairs bytes more_pairs more_bytes e (Short n start) h = omega (arith, longer bytes more_bytes e.bytes_stay)
within_stays pairs bytes more_pairs more_bytes e (Long i) h =
    let same : pair_at more_pairs i ≡ pair_at pairs i = pair_stays pairs more_pairs i e.pairs_stay h.there in
    record {
      there = omega (arith, longer pairs more_pairs e.pairs_stay, h.there);
      in_order = rw same h.in_order;
      within = rw same (omega (arith, longer bytes more_bytes e.bytes_stay, h.within));
    }
within_stays pairs bytes more_pairs more_bytes e (Whole n) h = tt
within_stays pairs bytes more_pairs more_bytes e (One a) h = tt
within_stays pairs bytes more_pairs more_bytes e (Range i) h = omega (arith, longer pairs more_pairs e.pairs_stay)
within_stays pairs bytes more_pairs more_bytes e (Two i) h = omega (arith, longer pairs more_pairs e.pairs_stay)

-- the values of cells, and what they point to
values_stay : (pairs : Pairs) (bytes : List ℕ) (more_pairs : Pairs) (more_bytes : List ℕ) → Extends pairs bytes more_pairs more_bytes
    → (cells : List Cell) → All (IsCellWithin pairs bytes) cells → values_in more_pairs more_bytes cells ≡ values_in pairs bytes cells
values_stay pairs bytes more_pairs more_bytes e cells h =
    map_same (cell_in more_pairs more_bytes) (cell_in pairs bytes) (IsCellWithin pairs bytes)
    (λ c w. ap (λ (v : Value). (c.place, v)) (value_stays pairs bytes more_pairs more_bytes e c.content w)) cells h

all_stay : (pairs : Pairs) (bytes : List ℕ) (more_pairs : Pairs) (more_bytes : List ℕ) → Extends pairs bytes more_pairs more_bytes
    → (cells : List Cell) → All (IsCellWithin pairs bytes) cells → All (IsCellWithin more_pairs more_bytes) cells
all_stay pairs bytes more_pairs more_bytes e cells h = λ k d lt. within_stays pairs bytes more_pairs more_bytes e (get_or cells k d).content (h k d lt)

-- one more cell
pub values_push : (pairs : Pairs) (bytes : List ℕ) (more_pairs : Pairs) (more_bytes : List ℕ) → Extends pairs bytes more_pairs more_bytes
    → (cells more : List Cell) (c : Cell) (value : Value) → All (IsCellWithin pairs bytes) cells → more ≡ cells ++ c ∷ [] → value_in more_pairs more_bytes c.content ≡ value
    → values_in more_pairs more_bytes more ≡ values_in pairs bytes cells ++ (c.place, value) ∷ []
values_push pairs bytes more_pairs more_bytes e cells more c value h added is =
    ap (values_in more_pairs more_bytes) added
    ∙ map-append (cell_in more_pairs more_bytes) cells (c ∷ [])
    ∙ rw (values_stay pairs bytes more_pairs more_bytes e cells h, is) refl

pub all_push : (pairs : Pairs) (bytes : List ℕ) (more_pairs : Pairs) (more_bytes : List ℕ) → Extends pairs bytes more_pairs more_bytes
    → (cells more : List Cell) (c : Cell) → All (IsCellWithin pairs bytes) cells → more ≡ cells ++ c ∷ [] → IsWithin more_pairs more_bytes c.content
    → All (IsCellWithin more_pairs more_bytes) more
all_push pairs bytes more_pairs more_bytes e cells more c h added within =
    rw added (All-push (IsCellWithin more_pairs more_bytes) cells c (all_stay pairs bytes more_pairs more_bytes e cells h) within)

-- all but the first
pub all_later : (pairs : Pairs) (bytes : List ℕ) (cells rest : List Cell) (c : Cell) → cells ≡ c ∷ rest → All (IsCellWithin pairs bytes) cells → All (IsCellWithin pairs bytes) rest
all_later pairs bytes cells rest c e h = All-tail (IsCellWithin pairs bytes) c rest (rw e at h)
