-- Streams and marks, and published values of SipHash-1-3.
use Rattle.std.specs.Prelude.{◌≡◌, ℕ, List, [], ◌∷◌, codes, refl}
use Rattle.std.specs.Hash.DefaultHasher as sip
use Rattle.library_parts.specs.declared.part.LibraryPart.{LibraryPart}
use Rattle.library_parts.specs.declared.part.PartKind.TheVariants.{Catalog}
use Rattle.shared_objects.specs.Marks.{stream, mark_of}
use Rattle.shared_objects.specs.Marks.Origin.{OfText, OfParts, OfLibraries}

-- ---- streams

abbrev part : LibraryPart
part = record { kind = Catalog; name = codes "m"; label = codes "de"; text = codes "1 x" }

-- the kind, and each text behind its length, behind the byte of parts
one_part : stream (OfParts (part ∷ [])) ≡
    1 ∷ 2 ∷ 1 ∷ 0 ∷ 0 ∷ 0 ∷ 0 ∷ 0 ∷ 0 ∷ 0 ∷ 109 ∷ 2 ∷ 0 ∷ 0 ∷ 0 ∷ 0 ∷ 0 ∷ 0 ∷ 0 ∷ 100 ∷ 101 ∷ 3 ∷ 0 ∷ 0 ∷ 0 ∷ 0 ∷ 0 ∷ 0 ∷ 0 ∷ 49 ∷ 32 ∷ 120 ∷ []
one_part = refl

-- two marks, the lowest byte first
two_libraries : stream (OfLibraries 258 3) ≡ 2 ∷ 2 ∷ 1 ∷ 0 ∷ 0 ∷ 0 ∷ 0 ∷ 0 ∷ 0 ∷ 3 ∷ 0 ∷ 0 ∷ 0 ∷ 0 ∷ 0 ∷ 0 ∷ 0 ∷ []
two_libraries = refl

-- ---- marks

-- bytes under the key 00 01 .. 0f of the published values
abbrev keyed : List ℕ → ℕ
keyed bytes = sip.finish (sip.write (sip.with_keys 0x0706050403020100 0x0f0e0d0c0b0a0908) bytes)

published : keyed [] ∷ keyed (0 ∷ []) ∷ [] ≡ 0xabac0158050fc4dc ∷ 0xc9f49bf37d57ca93 ∷ []
unfolding sip.write sip.write_byte sip.write_word sip.round sip.finish sip.with_keys
published = refl

-- an empty text, and no parts
empty_marks : mark_of (OfText []) ∷ mark_of (OfParts []) ∷ [] ≡ 0x68a914128e01e473 ∷ 0x44bc103b1f8540ed ∷ []
unfolding mark_of sip.initial sip.write sip.write_byte sip.write_word sip.round sip.finish
empty_marks = refl

-- two libraries in either order
joined_marks : mark_of (OfLibraries 258 3) ∷ mark_of (OfLibraries 3 258) ∷ [] ≡ 0xe305ed5ced6ea8dd ∷ 0x4a2a087ca7b153a1 ∷ []
unfolding mark_of sip.initial sip.write sip.write_byte sip.write_word sip.round sip.finish
joined_marks = refl
