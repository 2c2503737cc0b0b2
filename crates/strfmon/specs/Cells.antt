-- What stands before and behind the number (XBD 7.3.3 cs_precedes, sep_by_space and sign_posn; which text each triple gives is our own choice where the standard leaves one).
use Rattle.std.specs.Prelude.{ℕ, ◌+◌, ◌*◌, List, [], ◌∷◌, slice_get, unwrap_or}
use Rattle.strfmon.specs.declared.cells.MoneyPart.{MoneyPart}
use Rattle.strfmon.specs.declared.cells.MoneyPart.TheVariants.{Open, Sign, Symbol, Space, Close}

-- by cs_precedes, in it by sign_posn, and in it by sep_by_space: what stands before the number, and what behind it
abbrev pub cells : List (List MoneyPart × List MoneyPart)
cells =
    (Open ∷ [], Symbol ∷ Close ∷ []) ∷
    (Open ∷ [], Space ∷ Symbol ∷ Close ∷ []) ∷
    (Open ∷ [], Symbol ∷ Close ∷ []) ∷
    (Sign ∷ [], Symbol ∷ []) ∷
    (Sign ∷ [], Space ∷ Symbol ∷ []) ∷
    (Sign ∷ Space ∷ [], Symbol ∷ []) ∷
    ([], Symbol ∷ Sign ∷ []) ∷
    ([], Space ∷ Symbol ∷ Sign ∷ []) ∷
    ([], Symbol ∷ Space ∷ Sign ∷ []) ∷
    ([], Sign ∷ Symbol ∷ []) ∷
    ([], Space ∷ Sign ∷ Symbol ∷ []) ∷
    ([], Sign ∷ Space ∷ Symbol ∷ []) ∷
    ([], Symbol ∷ Sign ∷ []) ∷
    ([], Space ∷ Symbol ∷ Sign ∷ []) ∷
    ([], Symbol ∷ Space ∷ Sign ∷ []) ∷
    (Open ∷ Symbol ∷ [], Close ∷ []) ∷
    (Open ∷ Symbol ∷ Space ∷ [], Close ∷ []) ∷
    (Open ∷ Symbol ∷ [], Close ∷ []) ∷
    (Sign ∷ Symbol ∷ [], []) ∷
    (Sign ∷ Symbol ∷ Space ∷ [], []) ∷
    (Sign ∷ Space ∷ Symbol ∷ [], []) ∷
    (Symbol ∷ [], Sign ∷ []) ∷
    (Symbol ∷ Space ∷ [], Sign ∷ []) ∷
    (Symbol ∷ [], Space ∷ Sign ∷ []) ∷
    (Sign ∷ Symbol ∷ [], []) ∷
    (Sign ∷ Symbol ∷ Space ∷ [], []) ∷
    (Sign ∷ Space ∷ Symbol ∷ [], []) ∷
    (Symbol ∷ Sign ∷ [], []) ∷
    (Symbol ∷ Sign ∷ Space ∷ [], []) ∷
    (Symbol ∷ Space ∷ Sign ∷ [], []) ∷ []

-- a cell of a list; past its end nothing stands beside the number
abbrev pub cell_at : List (List MoneyPart × List MoneyPart) → ℕ → List MoneyPart × List MoneyPart
cell_at cells n = unwrap_or (slice_get cells n) ([], [])

-- the cell of three numbers
unfoldable pub cell : ℕ → ℕ → ℕ → List MoneyPart × List MoneyPart
cell precedes position separation = cell_at cells (15 * precedes + 3 * position + separation)
