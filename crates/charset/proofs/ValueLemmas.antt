-- The wide values of names, as ranges.
use Rattle.std.proofs.Common.{◌≡◌, ℕ, zero, suc, ◌+◌, ◌<◌, ◌≤◌, Bool, true, false, leb, ltb, ◌&&◌, ◌||◌, List, [], ◌∷◌, ◌++◌, length, get_or, take, map, refl, sym, ◌∙◌, ap, arith}
use Rattle.std.specs.Bool.{◌==◌}
use Rattle.std.specs.Int.{is_in_range}
use Rattle.std.specs.List.{list_any, range_with_len}
use Rattle.std.proofs.lemmas.Bool.Decides.{nat_tests}
use Rattle.std.proofs.lemmas.List.{take_all}
use Rattle.std.proofs.lemmas.List.Folds.{list_any-append, list_any_more}
use Rattle.charset.specs.declared.spans.Block.{Block}
use Rattle.charset.specs.declared.spans.Span.{Span}
use Rattle.charset.specs.Portable.{Name}
use Rattle.charset.specs.CodedSet.{has_value}
use Rattle.charset.specs.CharacterNames.{block_entry, block_entries, span_entries, all_entries}
use Rattle.class_ranges.specs.Ranges.{covers}
use Rattle.charset.proofs.ShortBytes.{big_endian-shortest}

-- tests of values that count up, one more in front
count_more : (low high w : ℕ) → low < high → ((low == w) || (leb (low + 1) w && ltb w high)) ≡ (leb low w && ltb w high)
count_more low high w some = grind (arith, nat_tests)

-- no value is in an empty count
count_none : (low w : ℕ) → false ≡ (leb low w && ltb w low)
count_none low w = grind (arith, nat_tests)

-- the values of a block from a place on
block_values : (start : Name) (b : Block) (w a n : ℕ) → list_any (has_value w) (map (block_entry start b) (range_with_len a n)) ≡ (leb (b.value + a) w && ltb w (b.value + a + n))
block_values start b w a zero =
    let none : b.value + a + 0 ≡ b.value + a = omega arith in
    count_none (b.value + a) w ∙ ap (λ k. leb (b.value + a) w && ltb w k) (sym none)
block_values start b w a (suc n) =
    let next : b.value + (a + 1) ≡ b.value + a + 1 = omega arith in
    let end : b.value + (a + 1) + n ≡ b.value + a + suc n = omega arith in
    ap (λ k. (k == w) || list_any (has_value w) (map (block_entry start b) (range_with_len (a + 1) n))) (big_endian-shortest (b.value + a))
    ∙ ap (λ t. ((b.value + a) == w) || t) (block_values start b w (a + 1) n ∙ ap (λ k. leb k w && ltb w (b.value + (a + 1) + n)) next ∙ ap (λ k. leb (b.value + a + 1) w && ltb w k) end)
    ∙ count_more (b.value + a) (b.value + a + suc n) w (omega arith)

-- the values of a block are a range
block_range : (start : Name) (b : Block) (w : ℕ) → list_any (has_value w) (block_entries start b) ≡ is_in_range b.value (b.value + b.more) w
block_range start b w = block_values start b w 0 (b.more + 1) ∙ grind (arith, nat_tests)

-- a test and nothing more
or_nothing : (a b : Bool) → (a || (b || false)) ≡ (a || b)
or_nothing true b = refl
or_nothing false true = refl
or_nothing false false = refl

-- whether a span has a value
abbrev pub has_in : ℕ → Span → Bool
has_in w s = is_in_range s.block.value (s.block.value + s.block.more) w

-- one more range, that of the next span
pub ranges_more : (spans : List Span) (i : ℕ) (s d : Span) (ranges : List (ℕ × ℕ)) (w : ℕ) → i < length spans → s ≡ get_or spans i d → covers ranges w ≡ list_any (has_in w) (take i spans)
    → covers (ranges ++ (s.block.value, s.block.value + s.block.more) ∷ []) w ≡ list_any (has_in w) (take (i + 1) spans)
ranges_more spans i s d ranges w within is so_far =
    list_any-append (λ (range : ℕ × ℕ). is_in_range range.0 range.1 w) ranges ((s.block.value, s.block.value + s.block.more) ∷ [])
    ∙ or_nothing (covers ranges w) (has_in w s)
    ∙ ap (λ t. t || has_in w s) so_far
    ∙ ap (λ (t : Span). list_any (has_in w) (take i spans) || has_in w t) is
    ∙ sym (list_any_more (has_in w) spans i d within)

-- the values of spans are those of their names
spans_values : (fronts : List Name) (spans : List Span) (w : ℕ) → list_any (has_in w) spans ≡ list_any (has_value w) (all_entries fronts spans)
spans_values fronts [] w = refl
spans_values fronts (s ∷ spans) w =
    ap (λ t. t || list_any (has_in w) spans) (sym (block_range (get_or fronts s.front []) s.block w))
    ∙ ap (λ t. list_any (has_value w) (span_entries fronts s) || t) (spans_values fronts spans w)
    ∙ sym (list_any-append (has_value w) (span_entries fronts s) (all_entries fronts spans))

-- the ranges of all spans have the values of all names
pub ranges_all : (fronts : List Name) (spans : List Span) (i : ℕ) (ranges : List (ℕ × ℕ)) (w : ℕ) → length spans ≤ i → covers ranges w ≡ list_any (has_in w) (take i spans) → covers ranges w ≡ list_any (has_value w) (all_entries fronts spans)
ranges_all fronts spans i ranges w all so_far = so_far ∙ ap (λ (ss : List Span). list_any (has_in w) ss) (take_all i spans all) ∙ spans_values fronts spans w
