-- Lines that are read one by one.
use Rattle.std.proofs.Common.{◌≡◌, Bool, true, false, List, ◌∷◌, Ok, refl, sym, ap, ◌∙◌}
use Rattle.std.specs.List.{list_any}
use Rattle.lc_base.specs.declared.category.Category.{Category}
use Rattle.lc_base.specs.Reading.{Reads, ◌>>=◌}
use Rattle.src_lines.specs.Places.{Logical}
use Rattle.charset.specs.CodedSet.{CodedSet}
use Rattle.locale_reader.specs.Opened.{Opened}
use Rattle.locale_reader.specs.Section.{keyword_line, keyword_lines}

-- one more line of a section
pub lines_more : (category : Category) (set : CodedSet) (copies : Bool) (s : Opened) (ls rest : List Logical) (l : Logical) → ls ≡ l ∷ rest
    → keyword_lines category set copies s ls ≡ (keyword_line category set copies s l >>= λ more. keyword_lines category set copies more rest)
lines_more category set copies s ls rest l e = rw e refl

-- after a line that is read the others are left
pub lines_step : (category : Category) (set : CodedSet) (copies : Bool) (s after : Opened) (ls rest : List Logical) (l : Logical) (total : Reads Opened) → ls ≡ l ∷ rest → keyword_line category set copies s l ≡ Ok after
    → keyword_lines category set copies s ls ≡ total → keyword_lines category set copies after rest ≡ total
lines_step category set copies s after ls rest l total e read so_far =
    let one : keyword_lines category set copies s ls ≡ keyword_lines category set copies after rest = lines_more category set copies s ls rest l e ∙ rw read refl in
    sym one ∙ so_far

-- a test that the first passes holds of some
pub any_first : {X : Type 0} (p : X → Bool) (xs rest : List X) (x : X) → xs ≡ x ∷ rest → p x ≡ true → list_any p xs ≡ true
any_first p xs rest x e h = ap (list_any p) e ∙ rw h refl

-- and else it is left to the others
pub any_later : {X : Type 0} (p : X → Bool) (xs rest : List X) (x : X) → xs ≡ x ∷ rest → p x ≡ false → list_any p xs ≡ list_any p rest
any_later p xs rest x e h = ap (list_any p) e ∙ rw h refl
