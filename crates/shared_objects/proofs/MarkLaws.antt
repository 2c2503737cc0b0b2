-- What the bytes of marks tell.
use Rattle.std.proofs.Common.{◌≡◌, ℕ, suc, ◌<◌, ◌^◌, List, [], ◌∷◌, ◌++◌, length, append_assoc, refl, sym, ◌∙◌, ap, arith}
use Rattle.std.specs.Int.{w64, from_le_bytes}
use Rattle.std.specs.List.{All}
use Rattle.std.specs.Hash.DefaultHasher as sip
use Rattle.std.specs.declared.hash.DefaultHasher.{DefaultHasher}
use Rattle.std.proofs.lemmas.List.Sums.{fold-append}
use Rattle.std.proofs.lemmas.Nat.{from_le_bytes-to_le_bytes_8}
use Rattle.library_parts.specs.declared.part.LibraryPart.{LibraryPart}
use Rattle.library_parts.specs.declared.part.PartKind.{PartKind}
use Rattle.library_parts.specs.declared.part.PartKind.TheVariants.{Charmap, Source, Catalog}
use Rattle.shared_objects.specs.Marks.{IsCounted, BytesTell, fed, word, sized, kind_number, part_bytes, parts_bytes}
use Rattle.shared_objects.specs.Marks.Origin.{OfText, OfParts, OfLibraries}

-- ---- hashers

-- what is fed in two pieces
pub fed_both : (hasher : DefaultHasher) (xs ys : List ℕ) → fed hasher (xs ++ ys) ≡ fed (fed hasher xs) ys
unfolding sip.write
fed_both hasher xs ys = fold-append sip.write_byte hasher xs ys

pub fed_nothing : (hasher : DefaultHasher) → fed hasher [] ≡ hasher
unfolding sip.write
fed_nothing hasher = refl

-- a hasher behind two pieces has taken both
pub fed_behind : (first second third : DefaultHasher) (xs ys : List ℕ) → second ≡ fed first xs → third ≡ fed second ys → third ≡ fed first (xs ++ ys)
fed_behind first second third xs ys h k = k ∙ (ap (λ (s : DefaultHasher). fed s ys) h ∙ sym (fed_both first xs ys))

-- ---- what two streams have in common

word_told : (n m : ℕ) → n < 2 ^ 64 → m < 2 ^ 64 → word n ≡ word m → n ≡ m
word_told n m h k e = sym (from_le_bytes-to_le_bytes_8 n h) ∙ (ap (from_le_bytes w64) e ∙ from_le_bytes-to_le_bytes_8 m k)

-- pieces of one length before others
pieces_told : (a b r s : List ℕ) → length a ≡ length b → a ++ r ≡ b ++ s → (a ≡ b) × (r ≡ s)
pieces_told [] [] r s n e = (refl, e)
pieces_told [] (y ∷ b) r s n e = absurd cc
pieces_told (x ∷ a) [] r s n e = absurd cc
pieces_told (x ∷ a) (y ∷ b) r s n e =
    let rest = pieces_told a b r s (omega arith) cc in
    (cc, rest.1)

words_told : (n m : ℕ) (r s : List ℕ) → n < 2 ^ 64 → m < 2 ^ 64 → word n ++ r ≡ word m ++ s → (n ≡ m) × (r ≡ s)
words_told n m r s h k e =
    let parted = pieces_told (word n) (word m) r s refl e in
    (word_told n m h k parted.0, parted.1)

sized_told : (a b r s : List ℕ) → length a < 2 ^ 64 → length b < 2 ^ 64 → sized a ++ r ≡ sized b ++ s → (a ≡ b) × (r ≡ s)
sized_told a b r s h k e =
    let parted = words_told (length a) (length b) (a ++ r) (b ++ s) h k e in
    pieces_told a b r s parted.0 parted.1

counted_parted : (p : LibraryPart) (ps : List LibraryPart) → All IsCounted (p ∷ ps) → IsCounted p × All IsCounted ps
counted_parted p ps h = (h 0 p (omega arith), λ k d small. h (suc k) d (omega arith))

kind_told : (k m : PartKind) → kind_number k ≡ kind_number m → k ≡ m
kind_told Charmap Charmap e = refl
kind_told Charmap Source e = absurd cc
kind_told Charmap Catalog e = absurd cc
kind_told Source Charmap e = absurd cc
kind_told Source Source e = refl
kind_told Source Catalog e = absurd cc
kind_told Catalog Charmap e = absurd cc
kind_told Catalog Source e = absurd cc
kind_told Catalog Catalog e = refl

part_is : (p q : LibraryPart) → p.kind ≡ q.kind → p.name ≡ q.name → p.label ≡ q.label → p.text ≡ q.text → p ≡ q
part_is p q kind name label text = λ i. record { kind = kind i; name = name i; label = label i; text = text i }

part_told : (p q : LibraryPart) (r s : List ℕ) → IsCounted p → IsCounted q → part_bytes p ++ r ≡ part_bytes q ++ s → (p ≡ q) × (r ≡ s)
part_told p q r s h k e =
    let kind : kind_number p.kind ≡ kind_number q.kind = cc in
    let rest : (sized p.name ++ (sized p.label ++ sized p.text)) ++ r ≡ (sized q.name ++ (sized q.label ++ sized q.text)) ++ s = cc in
    let name = sized_told p.name q.name ((sized p.label ++ sized p.text) ++ r) ((sized q.label ++ sized q.text) ++ s) h.0 k.0
    (sym (append_assoc (sized p.name) (sized p.label ++ sized p.text) r) ∙ (rest ∙ append_assoc (sized q.name) (sized q.label ++ sized q.text) s)) in
    let label = sized_told p.label q.label (sized p.text ++ r) (sized q.text ++ s) h.1 k.1
    (sym (append_assoc (sized p.label) (sized p.text) r) ∙ (name.1 ∙ append_assoc (sized q.label) (sized q.text) s)) in
    let text = sized_told p.text q.text r s h.2 k.2 label.1 in
    (part_is p q (kind_told p.kind q.kind kind) name.0 label.0 text.0, text.1)

parts_told : (ps qs : List LibraryPart) → All IsCounted ps → All IsCounted qs → parts_bytes ps ≡ parts_bytes qs → ps ≡ qs
parts_told [] [] h k e = refl
parts_told [] (q ∷ qs) h k e = absurd cc
parts_told (p ∷ ps) [] h k e = absurd cc
parts_told (p ∷ ps) (q ∷ qs) h k e =
    let p_is = counted_parted p ps h in
    let q_is = counted_parted q qs k in
    let first = part_told p q (parts_bytes ps) (parts_bytes qs) p_is.0 q_is.0 e in
    let rest = parts_told ps qs p_is.1 q_is.1 first.1 in
    cc (first.0, rest)

-- ---- the law

pub bytes_tell : BytesTell
bytes_tell (OfText text) (OfText other) h k e = cc e
bytes_tell (OfText text) (OfParts ps) h k e = absurd cc
bytes_tell (OfText text) (OfLibraries first second) h k e = absurd cc
bytes_tell (OfParts ps) (OfText other) h k e = absurd cc
bytes_tell (OfParts ps) (OfParts qs) h k e = ap OfParts (parts_told ps qs h k cc)
bytes_tell (OfParts ps) (OfLibraries first second) h k e = absurd cc
bytes_tell (OfLibraries first second) (OfText other) h k e = absurd cc
bytes_tell (OfLibraries first second) (OfParts ps) h k e = absurd cc
bytes_tell (OfLibraries first second) (OfLibraries third fourth) h k e =
    let both : word first ++ word second ≡ word third ++ word fourth = cc in
    let parted = words_told first third (word second) (word fourth) h.0 k.0 both in
    cc (parted.0, word_told second fourth h.1 k.1 parted.1)
