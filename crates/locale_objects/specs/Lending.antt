-- What a caller lends for a call: a share of the lifetime of the lending, and what is lent for it.
use Rattle.std.specs.Prelude.{ℕ, zero, suc, [], ◌∷◌}
use base.Fraction.{full_share}
use base.Share as half
use base.Fml.{Fml, Share, fsep, flft}
use base.Stored.{Coded}
use denote.RattleType.{RattleType}
use denote.RawPtr.{Ptr}
use denote.Struct.Lending.{lent_at}
use Rattle.shared_objects.specs.contracts.draft.Draft.{the_row as draft_row}
use Rattle.shared_objects.specs.contracts.marked_library.MarkedLibrary.{the_row}

-- one of the shares of a token that are without number and apart from each other
abbrev pub share_of : ℕ → Share → Share
share_of zero e = half.right e
share_of (suc n) e = share_of n (half.left e)

-- a share of the token of a lifetime, and what lies at p for that lifetime
abbrev pub lending_owns : (T : RattleType) → Ptr → ℕ → ℕ → T.Denot → Fml
lending_owns T p life part x = fsep (flft (life ∷ []) (share_of part full_share)) (lent_at T p x (life ∷ []))

-- the same of a library
abbrev pub library_lent : Ptr → ℕ → ℕ → the_row.Denot → Fml
library_lent p life part library = lending_owns the_row p life part library

abbrev pub library_coded : Coded the_row.Denot
library_coded = the_row.coded

-- the same of parts
abbrev pub parts_lent : Ptr → ℕ → ℕ → draft_row.Denot → Fml
parts_lent p life part parts = lending_owns draft_row p life part parts

abbrev pub parts_coded : Coded draft_row.Denot
parts_coded = draft_row.coded
