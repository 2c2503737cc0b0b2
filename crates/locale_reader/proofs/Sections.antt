-- Sections, read one by one.
use Rattle.std.proofs.Common.{◌≡◌, ℕ, zero, suc, ◌+◌, ◌-◌, ◌<◌, List, [], ◌∷◌, length, take, drop, get_or, position, Option, Some, None, Ok, Err, refl, sym, ap, ◌∙◌, arith}
use Rattle.std.specs.Prelude.{option_map}
use Rattle.std.proofs.lemmas.List.{drop_more, drop-drop}
use Rattle.lc_base.specs.Categories.{category_named}
use Rattle.lc_base.specs.declared.reason.Reason.TheVariants.{NoEnd}
use Rattle.lc_base.specs.Reading.{Reads, ◌>>=◌}
use Rattle.src_lines.specs.Words.{first_word}
use Rattle.src_lines.specs.Places.{Logical, start, closes_line}
use Rattle.charset.specs.CodedSet.{CodedSet}
use Rattle.keywords.specs.declared.source.Section.{Section}
use Rattle.locale_reader.specs.Source.{with_section, closed_at, section_from, outside, sections_of}

-- the place of an end, counted from the first line of the text
none_from : (k : ℕ) (o : Option ℕ) → None ≡ option_map (λ (n : ℕ). k + n) o → o ≡ None
none_from k None h = refl
none_from k (Some m) h = cc

-- the same of an end that is there
some_from : (k n : ℕ) (o : Option ℕ) → Some n ≡ option_map (λ (m : ℕ). k + m) o → o ≡ Some (n - k)
some_from k n None h = cc
some_from k n (Some m) h =
    let same : n ≡ k + m = cc in
    let count : m ≡ n - k = omega arith in
    ap {B = Option ℕ} (λ (x : ℕ). Some x) count

-- a section without an end
pub section_open : (set : CodedSet) (ss : List Section) (l : Logical) (ls : List Logical) (name : List ℕ) (k : ℕ) → name ≡ first_word l.bytes → None ≡ option_map (λ (n : ℕ). k + n) (position (closes_line name) ls)
    → section_from set ss l ls ≡ Err (start l, NoEnd)
unfolding section_from
section_open set ss l ls name k e none =
    ap (closed_at set ss l ls) (ap (λ (w : List ℕ). position (closes_line w) ls) (sym e) ∙ none_from k (position (closes_line name) ls) none)

-- what follows the lines of a section
abbrev pub behind : ℕ → List Section → Reads (List Section × ℕ)
behind n more = Ok (more, n + 1)

-- a section with an end
pub section_closed : (set : CodedSet) (ss : List Section) (l : Logical) (ls : List Logical) (name : List ℕ) (k n : ℕ) → name ≡ first_word l.bytes → Some n ≡ option_map (λ (n : ℕ). k + n) (position (closes_line name) ls)
    → section_from set ss l ls ≡ (with_section set ss (start l) (take (n - k) ls) (category_named name) >>= behind (n - k))
unfolding section_from
section_closed set ss l ls name k n e some =
    ap (closed_at set ss l ls) (ap (λ (w : List ℕ). position (closes_line w) ls) (sym e) ∙ some_from k n (position (closes_line name) ls) some)
    ∙ ap (λ (w : List ℕ). with_section set ss (start l) (take (n - k) ls) (category_named w) >>= behind (n - k)) (sym e)

-- lines that belong to the section before are skipped
pub sections_skip : (set : CodedSet) (ss : List Section) (n : ℕ) (ls : List Logical) → sections_of set ss n ls ≡ sections_of set ss 0 (drop n ls)
sections_skip set ss zero ls = refl
sections_skip set ss (suc n) [] = refl
sections_skip set ss (suc n) (l ∷ ls) = sections_skip set ss n ls

-- after a line outside of sections, and the lines that belong to it, the others are left
pub sections_step : (set : CodedSet) (ss more : List Section) (ls : List Logical) (i next : ℕ) (d : Logical) (total : Reads (List Section)) → i < length ls → i < next
    → outside set ss (get_or ls i d) (drop (i + 1) ls) ≡ Ok (more, next - (i + 1)) → sections_of set ss 0 (drop i ls) ≡ total → sections_of set more 0 (drop next ls) ≡ total
sections_step set ss more ls i next d total within forward read so_far =
    let first : drop i ls ≡ get_or ls i d ∷ drop (i + 1) ls = drop_more ls i d within in
    let one : sections_of set ss 0 (drop i ls) ≡ sections_of set more (next - (i + 1)) (drop (i + 1) ls) = ap (sections_of set ss 0) first ∙ rw read refl in
    let at : i + 1 + (next - (i + 1)) ≡ next = omega arith in
    let later : drop (next - (i + 1)) (drop (i + 1) ls) ≡ drop next ls = drop-drop (next - (i + 1)) (i + 1) ls ∙ ap (λ (k : ℕ). drop k ls) at in
    ap (sections_of set more 0) (sym later) ∙ sym (sections_skip set more (next - (i + 1)) (drop (i + 1) ls)) ∙ sym one ∙ so_far
