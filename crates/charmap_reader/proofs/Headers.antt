-- Header lines, read one after the other.
use Rattle.std.proofs.Common.{◌≡◌, true, false, List, ℕ, Err, refl}
use Rattle.lc_base.specs.declared.reason.Reason.TheVariants.{BadHeader}
use Rattle.lc_base.specs.Reading.{◌>>=◌}
use Rattle.src_lines.specs.Words.{first_word}
use Rattle.src_lines.specs.Places.{Logical, start}
use Rattle.charmap_reader.specs.Charmap.{gives_name, gives_count, line_bytes, named_by, counted_by, header}

-- a line with the code set name
pub header_named : (name : List ℕ) (l : Logical) → gives_name (first_word l.bytes) ≡ true → header name l ≡ (line_bytes l >>= named_by (start l))
unfolding header
header_named name l h = rw h refl

-- a line with a count
pub header_counted : (name : List ℕ) (l : Logical) → gives_name (first_word l.bytes) ≡ false → gives_count (first_word l.bytes) ≡ true → header name l ≡ (line_bytes l >>= counted_by (start l) name)
unfolding header
header_counted name l h k = rw (h, k) refl

-- any other line
pub header_unknown : (name : List ℕ) (l : Logical) → gives_name (first_word l.bytes) ≡ false → gives_count (first_word l.bytes) ≡ false → header name l ≡ Err (start l, BadHeader)
unfolding header
header_unknown name l h k = rw (h, k) refl
