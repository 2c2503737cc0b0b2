-- The bytes of a source with their places, and its lines.
use Rattle.std.proofs.Common.{◌≡◌, ℕ, ◌+◌, ◌<◌, ◌≤◌, Bool, true, false, List, [], ◌∷◌, drop, length, refl, arith}
use Rattle.lc_base.specs.Lines.{is_newline}
use Rattle.lc_base.specs.Reading.{◌>>=◌}
use Rattle.msg_catalog.specs.declared.cursor.Spot.{Spot}
use Rattle.msg_catalog.specs.declared.reader.Draft.{Draft}
use Rattle.msg_catalog.specs.Messages.{line_read, lines_read}
use Rattle.msg_catalog.specs.Spots.{spot, joins_here, spots, onto_front, lines, front, behind}

either : {A : Type 0} (b : Bool) → (b ≡ true → A) → (b ≡ false → A) → A
either true f g = f refl
either false f g = g refl

-- behind a \ and an LF the text goes on in the next line
pub spots_joined : (line column : ℕ) (bs : List ℕ) → joins_here bs ≡ true → spots line column bs ≡ spots (line + 1) 1 (drop 2 bs)
spots_joined line column [] h = absurd cc
spots_joined line column (b ∷ []) h = absurd cc
spots_joined line column (b ∷ c ∷ bs) h = rw h refl

-- a newline is followed by the next line
pub spots_newline : (line column b : ℕ) (bs : List ℕ) → joins_here (b ∷ bs) ≡ false → is_newline b ≡ true → spots line column (b ∷ bs) ≡ spot line column b ∷ spots (line + 1) 1 bs
spots_newline line column b [] h k = refl
spots_newline line column b (c ∷ bs) h k = rw (h, k) refl

-- and another byte by what follows it in its line
pub spots_other : (line column b : ℕ) (bs : List ℕ) → joins_here (b ∷ bs) ≡ false → is_newline b ≡ false → spots line column (b ∷ bs) ≡ spot line column b ∷ spots line (column + 1) bs
spots_other line column b [] h k = refl
spots_other line column b (c ∷ bs) h k = rw (h, k) refl

onto_more : (s : Spot) (ss : List Spot) (ls : List (List Spot)) → ls ≡ front ss ∷ lines (behind ss) → onto_front s ls ≡ (s ∷ front ss) ∷ lines (behind ss)
onto_more s ss ls e = rw e refl

-- the lines of what is there are the one at the front and those behind it
pub lines_more : (s : Spot) (ss : List Spot) → lines (s ∷ ss) ≡ front (s ∷ ss) ∷ lines (behind (s ∷ ss))
lines_more s [] = either (is_newline s.byte) (λ h. rw h refl) (λ h. rw h refl)
lines_more s (t ∷ ts) = either (is_newline s.byte) (λ h. rw h refl) (λ h. rw h (onto_more s (t ∷ ts) (lines (t ∷ ts)) (lines_more t ts)))

-- what is behind a line is shorter
pub behind_shorter : (s : Spot) (ss : List Spot) → length (behind (s ∷ ss)) ≤ length ss
behind_shorter s [] = either (is_newline s.byte) (λ h. rw h (omega arith)) (λ h. rw h (omega arith))
behind_shorter s (t ∷ ts) = either (is_newline s.byte) (λ h. rw h (omega arith)) (λ h. rw h (let le = behind_shorter t ts in omega (arith, le)))

-- a text that is not at its end has a line
pub lines_there : (ss : List Spot) → (ss ≡ [] → ⊥) → lines ss ≡ front ss ∷ lines (behind ss)
lines_there [] some = absurd (some refl)
lines_there (s ∷ ss) some = lines_more s ss

pub behind_less : (ss : List Spot) → (ss ≡ [] → ⊥) → length (behind ss) < length ss
behind_less [] some = absurd (some refl)
behind_less (s ∷ ss) some = let le = behind_shorter s ss in omega (arith, le)

-- a line is read, and then those behind it
pub read_more : (d : Draft) (ss : List Spot) → (ss ≡ [] → ⊥) → lines_read d (lines ss) ≡ (line_read d (front ss) >>= λ e. lines_read e (lines (behind ss)))
read_more d ss some = rw (lines_there ss some) refl
