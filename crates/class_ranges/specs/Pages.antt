-- Tables of pages: what is said of a value by the page that it is on (our own).
use Rattle.std.specs.Prelude.{◌≡◌, ℕ, ◌-◌, ◌/◌, ◌%◌, ◌<◌, ◌≤◌, ◌==◌, nat_lt, Bool, List, length, slice_get, slice_index, Option, Some, option_map, if◌then◌else◌}
use Rattle.std.specs.Int.{bit_at}

-- a test gives the same answer of all values from one to another
abbrev pub IsAlike : (ℕ → Bool) → ℕ → ℕ → Bool → Type 0
IsAlike test first last answer = (w : ℕ) → first ≤ w → w ≤ last → test w ≡ answer

-- whether a word has a bit
abbrev pub has_bit : ℕ → ℕ → Bool
has_bit word k = bit_at word k == 1

-- the bits of words of 64 values each
abbrev pub Page : Type 0
Page = List ℕ

-- whether the value at a place of a page is in the set
abbrev pub in_page : Page → ℕ → Bool
in_page page k = has_bit (slice_index page (k / 64)) (k % 64)

-- what the page with a number says of the value at a place: 0 has no value, 1 has all, and the others have bits
abbrev pub page_says : List Page → ℕ → ℕ → Option Bool
page_says pages number k =
    if nat_lt number 2 then Some (number == 1)
    else option_map (λ page. in_page page k) (slice_get pages (number - 2))

-- the pages that are numbered say of each of their values whether the test holds of it
abbrev pub IsPaged : List ℕ → List Page → (ℕ → Bool) → Type 0
IsPaged numbers pages test = (w : ℕ) → w / 256 < length numbers → page_says pages (slice_index numbers (w / 256)) (w % 256) ≡ Some (test w)
