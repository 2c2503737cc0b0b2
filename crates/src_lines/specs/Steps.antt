-- How a text is split, line by line.
use Rattle.std.specs.Prelude.{ℕ, ◌-◌, Bool, List, [], ◌∷◌, ◌++◌, length, take, Ok, Err, if◌then◌else◌}
use Rattle.lc_base.specs.Reading.{Reads, ◌>>=◌}
use Rattle.src_lines.specs.declared.signs.Kind.{Kind}
use Rattle.src_lines.specs.Places.{Logical, fresh, extended, continued}
use Rattle.src_lines.specs.Logical.{takes_next, fate}

-- whether head lines may still come, the lines that are kept, and the line that is being joined
abbrev pub State : Type 0
State = Bool × List Logical × Logical

-- the state after a step that says whether head lines may still come, or the step's fault
abbrev pub state_of : Reads Bool → List Logical → Logical → Reads State
state_of (Ok heads) kept draft = Ok (heads, kept, draft)
state_of (Err fault) kept draft = Err fault

-- after a whole logical line, where the next one begins at this line of the text
unfoldable pub ended_draft : Kind → Bool → ℕ → List Logical → Logical → Reads State
ended_draft kind heads next kept l =
    fate kind heads l >>= λ f. Ok (f.heads, (if f.kept then kept ++ l ∷ [] else kept), fresh f.signs next)

-- after a line of the text that ends with LF
unfoldable pub taken : Kind → Bool → ℕ → List Logical → Logical → List ℕ → Reads State
taken kind heads next kept l part =
    if takes_next l.signs.escape part then Ok (heads, kept, continued (extended l (take (length part - 1) part)) next)
    else ended_draft kind heads next kept (extended l part)
