-- Texts, byte by byte.
use Rattle.std.proofs.Common.{◌≡◌, ℕ, zero, suc, false, List, [], ◌∷◌, ◌++◌, drop, Option, Some, None, refl, sym, ap, ◌∙◌, append_assoc}
use Rattle.lc_base.specs.declared.place.Place.{Place}
use Rattle.msg_catalog.specs.declared.cursor.Spot.{Spot}
use Rattle.msg_catalog.specs.Texts.{Said, first_place, joined, said, piece_of, is_quote, decoded}

-- bytes that belong to an escape are passed
pub decoded_drop : (end : Option ℕ) (k : ℕ) (ss : List Spot) → decoded end k ss ≡ decoded end 0 (drop k ss)
decoded_drop end zero ss = refl
decoded_drop end (suc k) [] = refl
decoded_drop end (suc k) (s ∷ ss) = decoded_drop end k ss

first_assoc : (a b c : Option Place) → first_place (first_place a b) c ≡ first_place a (first_place b c)
first_assoc None b c = refl
first_assoc (Some p) b c = refl

pub joined_assoc : (t u v : Said) → joined (joined t u) v ≡ joined t (joined u v)
joined_assoc t u v =
    ap {B = Said} (λ (bs : List ℕ). record { bytes = bs; wrong = first_place (first_place t.wrong u.wrong) v.wrong }) (append_assoc t.bytes u.bytes v.bytes)
    ∙ ap {B = Said} (λ (p : Option Place). record { bytes = t.bytes ++ (u.bytes ++ v.bytes); wrong = p }) (first_assoc t.wrong u.wrong v.wrong)

-- one step of a text: what was read and what stands here, and then the rest
pub decoded_more : (t : Said) (end : Option ℕ) (s : Spot) (ss line rest : List Spot) → line ≡ s ∷ ss → is_quote end s.byte ≡ false → rest ≡ drop (piece_of s ss).1 ss
    → joined (joined t (said (piece_of s ss).0)) (decoded end 0 rest) ≡ joined t (decoded end 0 line)
decoded_more t end s ss line rest e bare r =
    joined_assoc t (said (piece_of s ss).0) (decoded end 0 rest)
    ∙ rw (e, bare, r) (ap (λ (u : Said). joined t (joined (said (piece_of s ss).0) u)) (sym (decoded_drop end (piece_of s ss).1 ss)))
