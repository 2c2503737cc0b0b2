-- Laws of the lines and of the keys of parts (our own).
use Rattle.std.specs.Prelude.{◌≡◌, ◌↔◌, ℕ, ◌+◌, ◌<◌, ◌≤◌, true, List, ◌∷◌, ◌++◌, length}
use Rattle.library_parts.specs.declared.part.LibraryPart.{LibraryPart}
use Rattle.library_parts.specs.declared.part.PartKind.TheVariants.{Catalog}
use Rattle.library_parts.specs.Lines.{line_count}
use Rattle.library_parts.specs.Parts.{is_named, key}
use Rattle.library_parts.specs.Places.{befores, own_line, lines_behind}

-- the k-th line of a part, or the one behind its last, is told of that part as its k-th line
abbrev pub LinesAreOwn : Type 0
LinesAreOwn =
    (ps : List LibraryPart) (p : LibraryPart) (qs : List LibraryPart) (k : ℕ) → 0 < k → k ≤ line_count p.text + 1
    → own_line (befores 0 (ps ++ p ∷ qs)) (lines_behind 0 ps + k) ≡ (length ps, k)

-- two parts have one name, and as catalogs one locale
abbrev pub HaveOneName : LibraryPart → LibraryPart → Type 0
HaveOneName p q = (p.name ≡ q.name) × (p.kind ≡ Catalog → p.label ≡ q.label)

-- parts of a kind whose names are formed have one key exactly if they have one name, and as catalogs one locale
abbrev pub KeysAreOwn : Type 0
KeysAreOwn = (p q : LibraryPart) → p.kind ≡ q.kind → is_named p ≡ true → is_named q ≡ true → (key p ≡ key q) ↔ HaveOneName p q
