-- What the pieces of a format give that are left at a place.
use Rattle.std.proofs.Common.{◌≡◌, ℕ, zero, suc, ◌+◌, ◌-◌, ◌<◌, Bool, true, false, cond, ◌&&◌, List, [], ◌∷◌, ◌++◌, Option, Some, None, refl, ap, ◌∙◌, arith, flat_map}
use Rattle.std.specs.List.{list_all}
use Rattle.std.proofs.lemmas.List.Folds.{list_all-append}
use Rattle.std.proofs.lemmas.List.Sums.{fold-append}
use Rattle.time_cat.specs.Formats.{Piece, Literal, Converted, Wrong, pieces, rest_of, is_conversion}
use Rattle.time_cat.specs.TimeValues.{TimeValues}
use Rattle.strptime_fields.specs.declared.item.Item.{Item}
use Rattle.strptime_fields.specs.declared.item.Item.TheVariants.{White, Sign}
use Rattle.strptime_fields.specs.Items.{is_white, item, item_of}
use Rattle.strptime_fields.specs.Scans.{within, followed_piece, followed, is_known, has_item, Progress, by_item, onward, run, if_known, through, through_item, one_if, reads}

-- ---- lists of pieces

abbrev pub then : Option Progress → (Progress → Option Progress) → Option Progress
then None f = None
then (Some p) f = f p

if_both : (v : TimeValues) (a b : Bool) (ps qs : List Piece) (progress : Progress) → if_known (a && b) (run v (run v progress ps) qs) ≡ then (if_known a (run v progress ps)) (λ p. if_known b (run v p qs))
if_both v true b ps qs progress = refl
if_both v false b ps qs progress = refl

-- pieces behind pieces
pub through_append : (v : TimeValues) (ps qs : List Piece) (progress : Progress) → through v (ps ++ qs) progress ≡ then (through v ps progress) (through v qs)
through_append v ps qs progress =
    let known = list_all-append is_known ps qs in
    let read : run v progress (ps ++ qs) ≡ run v (run v progress ps) qs = fold-append (onward v) progress ps qs in
    rw (known, read) (if_both v (list_all is_known ps) (list_all is_known qs) ps qs progress)

reads_by : (b all : Bool) (n m k : ℕ) → n + cond b (m + cond all k 0) 0 ≡ n + cond b m 0 + cond (b && all) k 0
reads_by true all n m k = omega arith
reads_by false all n m k = omega arith

pub reads_append : (ps qs : List Piece) → reads (ps ++ qs) ≡ reads ps + cond (list_all is_known ps) (reads qs) 0
reads_append [] qs = omega arith
reads_append (p ∷ ps) qs = rw (reads_append ps qs) (reads_by (is_known p) (list_all is_known ps) (one_if (is_conversion p)) (reads ps) (reads qs))

-- ---- one piece

by_found : (v : TimeValues) (follow : List ℕ → List Piece) (p : Piece) (o : Option Item) (progress : Progress)
    → if_known (has_item o && list_all is_known (within v follow o)) (run v (by_item v progress o) (within v follow o)) ≡ through_item v follow o progress
by_found v follow p None progress = refl
by_found v follow p (Some i) progress = refl

pub through_piece : (v : TimeValues) (follow : List ℕ → List Piece) (p : Piece) (progress : Progress) → through v (followed_piece v follow p) progress ≡ through_item v follow (item_of p) progress
through_piece v follow p progress = by_found v follow p (item_of p) progress

known_by : (b : Bool) (progress : Progress) → if_known b progress ≡ None → b ≡ false
known_by true progress is = absurd cc
known_by false progress is = refl

known_from : (b : Bool) (progress progress' : Progress) → if_known b progress ≡ Some progress' → b ≡ true
known_from true progress progress' is = refl
known_from false progress progress' is = absurd cc

-- where a conversion is not read, nothing is behind it
pub conversion_none : (v : TimeValues) (follow : List ℕ → List Piece) (p : Piece) (qs : List Piece) (progress : Progress) → through_item v follow (item_of p) progress ≡ None
    → through v (followed_piece v follow p ++ qs) progress ≡ None
conversion_none v follow p qs progress none =
    through_append v (followed_piece v follow p) qs progress ∙ (ap (λ (o : Option Progress). then o (through v qs)) (through_piece v follow p progress ∙ none))

pub conversion_some : (v : TimeValues) (follow : List ℕ → List Piece) (p : Piece) (qs : List Piece) (progress further : Progress) → through_item v follow (item_of p) progress ≡ Some further
    → through v (followed_piece v follow p ++ qs) progress ≡ through v qs further
conversion_some v follow p qs progress further some =
    through_append v (followed_piece v follow p) qs progress ∙ (ap (λ (o : Option Progress). then o (through v qs)) (through_piece v follow p progress ∙ some))

pub unknown_piece : (v : TimeValues) (follow : List ℕ → List Piece) (p : Piece) (progress : Progress) → through_item v follow (item_of p) progress ≡ None → list_all is_known (followed_piece v follow p) ≡ false
unknown_piece v follow p progress none = known_by (list_all is_known (followed_piece v follow p)) (run v progress (followed_piece v follow p)) (through_piece v follow p progress ∙ none)

pub known_piece : (v : TimeValues) (follow : List ℕ → List Piece) (p : Piece) (progress further : Progress) → through_item v follow (item_of p) progress ≡ Some further → list_all is_known (followed_piece v follow p) ≡ true
known_piece v follow p progress further some = known_from (list_all is_known (followed_piece v follow p)) (run v progress (followed_piece v follow p)) further (through_piece v follow p progress ∙ some)

-- what a conversion costs, with the pieces of its format
reads_found : (v : TimeValues) (follow : List ℕ → List Piece) (o : Option Item) → 1 + cond (has_item o) (reads (within v follow o)) 0 ≡ 1 + reads (within v follow o)
reads_found v follow None = refl
reads_found v follow (Some i) = refl

pub reads_piece : (v : TimeValues) (follow : List ℕ → List Piece) (modifier letter rank : ℕ) → reads (followed_piece v follow (Converted modifier letter rank)) ≡ 1 + reads (within v follow (item modifier letter))
reads_piece v follow modifier letter rank = reads_found v follow (item modifier letter)

pub reads_none : (v : TimeValues) (follow : List ℕ → List Piece) (modifier letter rank : ℕ) (qs : List Piece) (progress : Progress) → through_item v follow (item modifier letter) progress ≡ None
    → reads (followed_piece v follow (Converted modifier letter rank) ++ qs) ≡ 1 + reads (within v follow (item modifier letter))
reads_none v follow modifier letter rank qs progress none =
    let p : Piece = Converted modifier letter rank in
    let unknown : list_all is_known (followed_piece v follow p) ≡ false = unknown_piece v follow p progress none in
    let nothing : cond (list_all is_known (followed_piece v follow p)) (reads qs) 0 ≡ 0 = rw unknown refl in
    omega (arith, reads_append (followed_piece v follow p) qs, reads_piece v follow modifier letter rank, nothing)

pub reads_some : (v : TimeValues) (follow : List ℕ → List Piece) (modifier letter rank : ℕ) (qs : List Piece) (progress further : Progress) → through_item v follow (item modifier letter) progress ≡ Some further
    → reads (followed_piece v follow (Converted modifier letter rank) ++ qs) ≡ 1 + reads (within v follow (item modifier letter)) + reads qs
reads_some v follow modifier letter rank qs progress further some =
    let p : Piece = Converted modifier letter rank in
    let known : list_all is_known (followed_piece v follow p) ≡ true = known_piece v follow p progress further some in
    let rest : cond (list_all is_known (followed_piece v follow p)) (reads qs) 0 ≡ reads qs = rw known refl in
    omega (arith, reads_append (followed_piece v follow p) qs, reads_piece v follow modifier letter rank, rest)

-- a byte stands for no format
none_within : (v : TimeValues) (follow : List ℕ → List Piece) (c : ℕ) (b : Bool) → within v follow (Some (cond b White (Sign c))) ≡ []
none_within v follow c true = refl
none_within v follow c false = refl

pub byte_piece : (v : TimeValues) (follow : List ℕ → List Piece) (c : ℕ) → followed_piece v follow (Literal c) ≡ Literal c ∷ []
byte_piece v follow c = ap (λ (ps : List Piece). Literal c ∷ ps) (none_within v follow c (is_white c))

-- ---- what is left of a format

-- where a format for which a conversion stands lies one level deeper
unfoldable pub followed_left : ℕ → TimeValues → List ℕ → ℕ → List Piece
followed_left levels v format at = flat_map (followed_piece v (followed (levels - 1) v)) (rest_of format at)

pub left_at_start : (levels : ℕ) (v : TimeValues) (format : List ℕ) → 0 < levels → followed_left levels v format 0 ≡ followed levels v format
unfolding followed_left followed rest_of pieces
left_at_start zero v format some = absurd (omega arith)
left_at_start (suc levels) v format some = let one : suc levels - 1 ≡ levels = omega arith in rw one refl

pub left_at_end : (levels : ℕ) (v : TimeValues) (format : List ℕ) (at : ℕ) → rest_of format at ≡ [] → followed_left levels v format at ≡ []
unfolding followed_left
left_at_end levels v format at is = rw is refl

pub left_at_wrong : (levels : ℕ) (v : TimeValues) (format : List ℕ) (at : ℕ) → rest_of format at ≡ Wrong at ∷ [] → followed_left levels v format at ≡ Wrong at ∷ []
unfolding followed_left
left_at_wrong levels v format at is = rw is refl

pub left_at_byte : (levels : ℕ) (v : TimeValues) (format : List ℕ) (at c next : ℕ) → rest_of format at ≡ Literal c ∷ rest_of format next → followed_left levels v format at ≡ Literal c ∷ followed_left levels v format next
unfolding followed_left
left_at_byte levels v format at c next is =
    rw is (ap (λ (ps : List Piece). ps ++ flat_map (followed_piece v (followed (levels - 1) v)) (rest_of format next)) (byte_piece v (followed (levels - 1) v) c))

pub left_at_conversion : (levels : ℕ) (v : TimeValues) (format : List ℕ) (at modifier letter rank next : ℕ) → rest_of format at ≡ Converted modifier letter rank ∷ rest_of format next
    → followed_left levels v format at ≡ followed_piece v (followed (levels - 1) v) (Converted modifier letter rank) ++ followed_left levels v format next
unfolding followed_left
left_at_conversion levels v format at modifier letter rank next is = rw is refl

-- a whole format is what is left at its beginning
pub pieces_at_start : (format : List ℕ) → rest_of format 0 ≡ pieces format
unfolding rest_of pieces
pieces_at_start format = refl

-- a format without levels has no pieces
pub no_levels : (levels : ℕ) (v : TimeValues) (format : List ℕ) → levels ≡ 0 → followed levels v format ≡ []
unfolding followed
no_levels levels v format none = rw none refl
