-- A charmap, part by part.
use Rattle.std.proofs.Common.{◌≡◌, ℕ, ◌+◌, ◌-◌, List, [], ◌∷◌, take, drop, position, Option, Some, None, Ok, Err, refl, sym, ap, ◌∙◌, arith}
use Rattle.std.specs.Prelude.{option_map}
use Rattle.lc_base.specs.declared.place.Place.{Place}
use Rattle.lc_base.specs.declared.reason.Reason.{Reason}
use Rattle.lc_base.specs.declared.reason.Reason.TheVariants.{NoEnd}
use Rattle.lc_base.specs.Reading.{Reads, ◌>>=◌}
use Rattle.src_lines.specs.declared.signs.Kind.TheVariants.{Charmap}
use Rattle.src_lines.specs.Places.{Logical, start, line_at}
use Rattle.src_lines.specs.Logical.{front}
use Rattle.charset.specs.CodedSet.{CodedSet, listed}
use Rattle.charset.specs.Entries.{Entry}
use Rattle.charmap_reader.specs.Charmap.{headers, mapping, mappings, opens_body, closes_body, body_of, body, text_start, charset_of, front_charset, charmap}

-- one more line of the body
pub mappings_more : (given : List Entry) (ls rest : List Logical) (l : Logical) → ls ≡ l ∷ rest → mappings given ls ≡ (mapping given l >>= λ more. mappings more rest)
mappings_more given ls rest l e = rw e refl

-- after a line that is read the others are left
pub mappings_step : (given after : List Entry) (ls rest : List Logical) (l : Logical) (total : Reads (List Entry)) → ls ≡ l ∷ rest → mapping given l ≡ Ok after → mappings given ls ≡ total → mappings after rest ≡ total
mappings_step given after ls rest l total e read so_far =
    let one : mappings given ls ≡ mappings after rest = mappings_more given ls rest l e ∙ rw read refl in
    sym one ∙ so_far

-- what follows the header lines
abbrev pub rest_of : List Logical → ℕ → List ℕ → Reads CodedSet
rest_of ls k set_name = body (start (line_at ls k)) (drop (k + 1) ls) >>= λ es. Ok (listed set_name es)

-- without a line before the body
pub charset_bare : (name : List ℕ) (begin : Place) (ls : List Logical) → None ≡ position opens_body ls → charset_of name begin ls (position opens_body ls) ≡ Err (begin, NoEnd)
charset_bare name begin ls none = ap (charset_of name begin ls) (sym none)

-- with one
pub charset_opened : (name : List ℕ) (begin : Place) (ls : List Logical) (k : ℕ) → Some k ≡ position opens_body ls → charset_of name begin ls (position opens_body ls) ≡ (headers name (take k ls) >>= rest_of ls k)
charset_opened name begin ls k some = ap (charset_of name begin ls) (sym some)

-- the whole is that of the lines and of the fault behind them
pub charmap_is : (name text : List ℕ) (first : ℕ) (ls : List Logical) (fault : Option (Place × Reason)) → ls ≡ (front text first Charmap).lines → fault ≡ (front text first Charmap).fault
    → charmap name text first ≡ front_charset name (text_start text first) ls fault
unfolding charmap
charmap_is name text first ls fault a b = rw (← a, ← b) refl

-- the place where a body ends, counted from the first line of the text
none_from : (k : ℕ) (o : Option ℕ) → None ≡ option_map (λ (n : ℕ). k + n) o → o ≡ None
none_from k None h = refl
none_from k (Some m) h = cc

-- the same of an end that is there
some_from : (k n : ℕ) (o : Option ℕ) → Some n ≡ option_map (λ (m : ℕ). k + m) o → o ≡ Some (n - k)
some_from k n None h = cc
some_from k n (Some m) h =
    let same : n ≡ k + m = cc in
    let count : m ≡ n - k = omega arith in
    ap {B = Option ℕ} (λ (x : ℕ). Some x) count

-- a body without an end
pub rest_open : (ls : List Logical) (k : ℕ) (set_name : List ℕ) → None ≡ option_map (λ (n : ℕ). k + 1 + n) (position closes_body (drop (k + 1) ls)) → rest_of ls k set_name ≡ Err (start (line_at ls k), NoEnd)
rest_open ls k set_name none =
    ap (λ (o : Option ℕ). body_of (start (line_at ls k)) (drop (k + 1) ls) o >>= λ es. Ok (listed set_name es)) (none_from (k + 1) (position closes_body (drop (k + 1) ls)) none)

-- a body with one
pub rest_closed : (ls : List Logical) (k n : ℕ) (set_name : List ℕ) → Some n ≡ option_map (λ (n : ℕ). k + 1 + n) (position closes_body (drop (k + 1) ls)) → rest_of ls k set_name ≡ (mappings [] (take (n - (k + 1)) (drop (k + 1) ls)) >>= λ es. Ok (listed set_name es))
rest_closed ls k n set_name some =
    ap (λ (o : Option ℕ). body_of (start (line_at ls k)) (drop (k + 1) ls) o >>= λ es. Ok (listed set_name es)) (some_from (k + 1) n (position closes_body (drop (k + 1) ls)) some)
