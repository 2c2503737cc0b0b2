-- Blocks of texts.
use Rattle.std.proofs.Common.{◌≡◌, ℕ, zero, suc, ◌+◌, ◌<◌, ◌≤◌, ◌^◌, List, [], ◌∷◌, ◌++◌, length, drop, refl, ap, arith}
use Rattle.std.proofs.lemmas.List.{take_at, drop_at, take_all, drop_all, take-append-le, drop-append-le, length-drop, length-append}
use Rattle.std.proofs.lemmas.Nat.{from_le_bytes-to_le_bytes_8}
use Rattle.script_out.specs.Texts.{header, header_length, framed, first_length, first_text, behind_first, texts_in, HasTexts}

header_said : (n : ℕ) → n < 2 ^ 64 → header_length (header n) ≡ n
unfolding header header_length
header_said n lt = from_le_bytes-to_le_bytes_8 n lt

header_bytes : (n : ℕ) → length (header n) ≡ 8
unfolding header
header_bytes n = refl

-- ---- a block of one text

alone_length : (text : List ℕ) → length text < 2 ^ 64 → first_length (framed text) ≡ length text
alone_length text lt = rw (take_at (header (length text)) text 8 (header_bytes (length text))) (header_said (length text) lt)

alone_body : (text : List ℕ) → drop 8 (framed text) ≡ text
alone_body text = drop_at (header (length text)) text 8 (header_bytes (length text))

alone_text : (text : List ℕ) → length text < 2 ^ 64 → first_text (framed text) ≡ text
alone_text text lt = rw (alone_length text lt, alone_body text) (take_all (length text) text (omega arith))

alone_behind : (text : List ℕ) → length text < 2 ^ 64 → behind_first (framed text) ≡ []
alone_behind text lt = rw (alone_length text lt, alone_body text) (drop_all (length text) text (omega arith))

alone_room : (text : List ℕ) → length text < 2 ^ 64 → 8 + first_length (framed text) ≤ length (framed text)
alone_room text lt = rw (alone_length text lt) (omega (arith, length-append (header (length text)) text, header_bytes (length text)))

-- ---- a block with more behind it

more_length : (block more : List ℕ) → 8 ≤ length block → first_length (block ++ more) ≡ first_length block
more_length block more le = ap header_length (take-append-le 8 block more le)

more_text : (block more : List ℕ) → 8 + first_length block ≤ length block → first_text (block ++ more) ≡ first_text block
more_text block more le =
    let eight : 8 ≤ length block = omega (arith, le) in
    let fits : first_length block ≤ length (drop 8 block) = omega (arith, le, length-drop 8 block) in
    rw (more_length block more eight, drop-append-le 8 block more eight) (take-append-le (first_length block) (drop 8 block) more fits)

more_behind : (block more : List ℕ) → 8 + first_length block ≤ length block → behind_first (block ++ more) ≡ behind_first block ++ more
more_behind block more le =
    let eight : 8 ≤ length block = omega (arith, le) in
    let fits : first_length block ≤ length (drop 8 block) = omega (arith, le, length-drop 8 block) in
    rw (more_length block more eight, drop-append-le 8 block more eight) (drop-append-le (first_length block) (drop 8 block) more fits)

more_room : (block more : List ℕ) → 8 + first_length block ≤ length block → 8 + first_length (block ++ more) ≤ length (block ++ more)
more_room block more le =
    let eight : 8 ≤ length block = omega (arith, le) in
    rw (more_length block more eight) (omega (arith, le, length-append block more))

-- ---- one more text

pub texts_pushed : (count : ℕ) (block text : List ℕ) → HasTexts count block → length text < 2 ^ 64 → texts_in (suc count) (block ++ framed text) ≡ texts_in count block ++ text ∷ []
texts_pushed zero block text whole lt = rw (whole, alone_text text lt) refl
texts_pushed (suc count) block text whole lt =
    rw (more_text block (framed text) whole.0, more_behind block (framed text) whole.0)
    (ap (λ (ts : List (List ℕ)). first_text block ∷ ts) (texts_pushed count (behind_first block) text whole.1 lt))

pub has_pushed : (count : ℕ) (block text : List ℕ) → HasTexts count block → length text < 2 ^ 64 → HasTexts (suc count) (block ++ framed text)
has_pushed zero block text whole lt = rw whole (alone_room text lt, alone_behind text lt)
has_pushed (suc count) block text whole lt =
    (more_room block (framed text) whole.0, rw (more_behind block (framed text) whole.0) (has_pushed count (behind_first block) text whole.1 lt))

-- each text takes a byte at least
pub has_room : (count : ℕ) (block : List ℕ) → HasTexts count block → count ≤ length block
has_room zero block whole = omega arith
has_room (suc count) block whole =
    let first = whole.0 in
    let later = has_room count (behind_first block) whole.1 in
    omega (arith, first, later, length-drop (first_length block) (drop 8 block), length-drop 8 block)
