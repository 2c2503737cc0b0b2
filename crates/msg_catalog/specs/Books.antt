-- The messages of a catalog, in order (XCU gencat).
use Rattle.std.specs.Prelude.{◌≡◌, ℕ, suc, Bool, true, ◌&&◌, ◌||◌, ◌==◌, not, nat_lt, List, [], ◌∷◌, ◌++◌, filter, Option, Some, None, if◌then◌else◌}
use Rattle.std.specs.List.{list_any}
use Rattle.msg_catalog.specs.declared.book.Message.{Message}

-- whether a message comes before this number of this set
abbrev pub comes_before : ℕ → ℕ → Message → Bool
comes_before set number m = nat_lt m.set set || ((m.set == set) && nat_lt m.number number)

-- whether a message comes behind it
abbrev pub comes_behind : ℕ → ℕ → Message → Bool
comes_behind set number m = nat_lt set m.set || ((set == m.set) && nat_lt number m.number)

-- whether a message has this set and number
abbrev pub stands_at : ℕ → ℕ → Message → Bool
stands_at set number m = (m.set == set) && (m.number == number)

-- the messages with one more, in place of an earlier one with its set and number
abbrev pub with_message : Message → List Message → List Message
with_message m ms = filter (comes_before m.set m.number) ms ++ m ∷ filter (comes_behind m.set m.number) ms

-- the messages without the one with this set and number
abbrev pub without_message : ℕ → ℕ → List Message → List Message
without_message set number ms = filter (λ m. not (stands_at set number m)) ms

-- the messages without those of a set
abbrev pub without_set : ℕ → List Message → List Message
without_set set ms = filter (λ m. not (m.set == set)) ms

-- the text of the message with this set and number, if there is one
abbrev pub text_at : ℕ → ℕ → List Message → Option (List ℕ)
text_at set number [] = None
text_at set number (m ∷ ms) = if stands_at set number m then Some m.text else text_at set number ms

-- whether there is a message with this set and number
abbrev pub has_message : ℕ → ℕ → List Message → Bool
has_message set number ms = list_any (stands_at set number) ms

-- how many messages at the front come before this number of this set
abbrev pub number_before : ℕ → ℕ → List Message → ℕ
number_before set number [] = 0
number_before set number (m ∷ ms) = if comes_before set number m then suc (number_before set number ms) else 0

-- all of these messages come behind one
abbrev pub AllBehind : Message → List Message → Type 0
AllBehind m [] = Unit {0}
AllBehind m (n ∷ ns) = (comes_before n.set n.number m ≡ true) × AllBehind m ns

-- each message comes before those that follow it
abbrev pub IsInOrder : List Message → Type 0
IsInOrder [] = Unit {0}
IsInOrder (m ∷ ms) = AllBehind m ms × IsInOrder ms
