-- The definitions at worked examples: handles of two threads with two rows each.
use Rattle.std.proofs.Common.{◌≡◌, ℕ, Bool, true, false, ◌==◌, ◌||◌, List, [], ◌∷◌, Option, None, Some, refl, ap, lit<}
use Rattle.std.proofs.lemmas.Bool.{eq-eqb}
use Rattle.std.specs.Prelude.{if◌then◌else◌}
use Rattle.generations.specs.declared.numbers.Numbers.{Numbers}
use Rattle.generations.specs.Kind.{Kind, same_handle, is_in_row, numbered}
use Rattle.generations.specs.Making.{Making, made, handles, makes, newest, IsNumbered, AreThreads}
use Rattle.generations.specs.Least.{least_below}
use Rattle.generations.specs.Store.{Store, is_free, free_row, AllNew, NoneComesBack, IsInOrder}
use Rattle.generations.specs.Grid.{GridData, cell, with_cell}
use Rattle.generations.specs.Rows.{Counts, is_newest, says_made, is_free_row, RowSays}

-- handles that are their numbers
abbrev plain : Kind Numbers
plain = record { numbers = λ n. n; handle_of = λ n. n; same_handle = λ n. refl; same_numbers = λ n. refl }

abbrev at : ℕ → ℕ → ℕ → Numbers
at t r n = record { owner = t; row = r; generation = n }

-- ---- what was made

-- a call of a thread that made a handle, or none
abbrev called : ℕ → Option Numbers → Making Numbers
called t o = record { who = t; handle = o }

-- thread 0 made two handles in row 0 and one in row 1, thread 1 one in its row 0, and a call in between made none
abbrev session : List (Making Numbers)
session =
    called 0 (Some (at 0 0 2)) ∷ called 1 (Some (at 1 0 1)) ∷ called 0 None ∷ called 0 (Some (at 0 1 1)) ∷ called 0 (Some (at 0 0 1)) ∷ []

in_first_row : handles plain session 0 0 ≡ at 0 0 2 ∷ at 0 0 1 ∷ []
in_first_row = refl

in_row_of_another : handles plain session 1 0 ≡ at 1 0 1 ∷ []
in_row_of_another = refl

in_unused_row : makes plain session 1 1 ≡ 0
in_unused_row = refl

numbered_row : numbered plain 0 0 2 ≡ handles plain session 0 0
numbered_row = refl

newest_of_first_row : newest plain session 0 0 ≡ at 0 0 2
newest_of_first_row = refl

older_made : made plain session (at 0 0 1) ≡ true
older_made = refl

not_made_yet : made plain session (at 0 0 3) ≡ false
not_made_yet = refl

never_made : made plain session (at 1 1 0) ≡ false
never_made = refl

all_in_turn : IsNumbered plain session
all_in_turn = (refl, (refl, (tt, (refl, (refl, tt)))))

-- a generation is left out
not_in_turn : IsNumbered plain (called 0 (Some (at 0 0 2)) ∷ []) → ⊥
not_in_turn each = let wrong = eq-eqb 2 1 (ap (λ (x : Numbers). x.generation) each.0) in cc wrong

-- a thread makes a handle for another
not_its_own : IsNumbered plain (called 1 (Some (at 0 0 1)) ∷ []) → ⊥
not_its_own each = let wrong = eq-eqb 0 1 (ap (λ (x : Numbers). x.owner) each.0) in cc wrong

other_generation : same_handle plain (at 0 0 1) (at 0 0 2) ≡ false
other_generation = refl

row_of_its_owner : is_in_row plain 1 0 (at 0 0 1) ≡ false
row_of_its_owner = refl

-- ---- rows that are used again

-- entries that make a handle for a thread, or let one go
data Entry : Type 0 where
  Makes : Numbers → Entry
  LetsGo : Numbers → Entry

abbrev making_of : Entry → Making Numbers
making_of (Makes h) = called h.owner (Some h)
making_of (LetsGo h) = called h.owner None

abbrev keeps_after : Entry → Numbers → Bool → Bool
keeps_after (Makes g) h before = if same_handle plain g h then true else before
keeps_after (LetsGo g) h before = if same_handle plain g h then false else before

abbrev keeps : List Entry → Numbers → Bool
keeps [] h = false
keeps (e ∷ H) h = keeps_after e h (keeps H h)

-- two rows with two generations each
abbrev narrow : Store Numbers Entry
narrow = record { kind = plain; making = making_of; is_kept = keeps; rows = 2; generations = 2 }

first_row_at_first : free_row narrow [] 0 ≡ Some 0
first_row_at_first = refl

second_row_while_kept : free_row narrow (Makes (at 0 0 1) ∷ []) 0 ≡ Some 1
second_row_while_kept = refl

rows_of_another : free_row narrow (Makes (at 0 0 1) ∷ []) 1 ≡ Some 0
rows_of_another = refl

first_row_again : free_row narrow (LetsGo (at 0 0 1) ∷ Makes (at 0 0 1) ∷ []) 0 ≡ Some 0
first_row_again = refl

-- the row has made both of its generations
spent_row : is_free narrow (LetsGo (at 0 0 2) ∷ Makes (at 0 0 2) ∷ LetsGo (at 0 0 1) ∷ Makes (at 0 0 1) ∷ []) 0 0 ≡ false
spent_row = refl

no_row_left : free_row narrow (Makes (at 0 1 1) ∷ Makes (at 0 0 1) ∷ []) 0 ≡ None
no_row_left = refl

used_again : AllNew narrow (Makes (at 0 0 2) ∷ LetsGo (at 0 0 1) ∷ Makes (at 0 0 1) ∷ [])
used_again = ((refl, refl), ((tt, tt), ((refl, refl), tt)))

-- the second row is taken where the first is free
not_least : AllNew narrow (Makes (at 0 1 1) ∷ []) → ⊥
not_least new = let row = new.0.0 in cc row

-- a handle that was let go is made once more
comes_back : NoneComesBack narrow (Makes (at 0 0 1) ∷ LetsGo (at 0 0 1) ∷ Makes (at 0 0 1) ∷ []) → ⊥
comes_back gone = let kept = gone.0 (at 0 0 1) refl refl in cc kept

-- a handle that nobody made is kept
kept_unmade : IsInOrder (record narrow { is_kept = λ H h. true }) [] → ⊥
kept_unmade order = let kept = order.known (at 0 0 1) refl in cc kept

least_of_some : least_below 9 (λ n. n == 4 || n == 7) ≡ Some 4
least_of_some = refl

least_of_none : least_below 4 (λ n. n == 4) ≡ None
least_of_none = refl

callers_known : AreThreads 2 session
callers_known = (lit< tt, (lit< tt, (lit< tt, (lit< tt, (lit< tt, tt)))))

-- ---- rows of a table

-- a row as a pair of how many were made in it, and whether the newest is kept
abbrev pairs : Counts (ℕ × Bool)
pairs = record { makes = λ row. row.0; is_kept = λ row. row.1; no_row = (0, false) }

abbrev rows : GridData (ℕ × Bool)
rows = record { lines = 2; width = 2; items = (2, false) ∷ (1, true) ∷ (0, false) ∷ (0, false) ∷ [] }

second_of_first_thread : cell rows 0 1 (0, false) ≡ (1, true)
second_of_first_thread = refl

written : cell (with_cell rows 1 0 (1, true)) 1 0 (0, false) ≡ (1, true)
written = refl

row_with_one : RowSays narrow pairs (Makes (at 0 0 1) ∷ []) 0 0 (1, true)
row_with_one = record { makes = refl; kept = refl }

row_without_it : RowSays narrow pairs (LetsGo (at 0 0 1) ∷ Makes (at 0 0 1) ∷ []) 0 0 (1, true) → ⊥
row_without_it says = let kept = says.kept in cc kept

older_said_made : says_made pairs rows (at 0 0 1) ≡ true
older_said_made = refl

older_not_newest : is_newest pairs rows (at 0 0 1) ≡ false
older_not_newest = refl

newest_said : is_newest pairs rows (at 0 0 2) ≡ true
newest_said = refl

generation_of_none : says_made pairs rows (at 1 0 0) ≡ false
generation_of_none = refl

outside : is_newest pairs rows (at 2 0 0) ≡ false
outside = refl

free_by_the_row : is_free_row pairs 3 (2, false) ≡ true
free_by_the_row = refl

spent_by_the_row : is_free_row pairs 2 (2, false) ≡ false
spent_by_the_row = refl

kept_by_the_row : is_free_row pairs 3 (1, true) ≡ false
kept_by_the_row = refl
