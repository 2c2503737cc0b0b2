-- Texts that grow piece by piece, up to a limit.
use Rattle.std.proofs.Common.{◌≡◌, ℕ, ◌+◌, ◌≤◌, List, ◌++◌, [], length, Ok, Err, sym, ap, ◌∙◌, arith, append_assoc, append-nil, length-append}
use Rattle.strftime_fields.specs.declared.stop.Stop.{Stop}
use Rattle.strftime_fields.specs.declared.stop.Stop.TheVariants.{TooBig, Memory}
use Rattle.strftime_fields.specs.Appending.{Appends}
use Rattle.strftime_fields.specs.Kept.{Kind, kept}
use Rattle.strftime_fields.proofs.Keeping.{kept_nothing, kept_append, kept_length}

-- how long a text is behind one more that is kept
pub longer : (kind : Kind) (out new piece : List ℕ) → new ≡ out ++ kept kind piece → length new ≡ length out + length piece
longer kind out new piece is = omega (arith, ap length is, length-append out (kept kind piece), kept_length kind piece)

-- a piece more is added
pub goes_on : (kind : Kind) (old text out new piece rest : List ℕ) → out ++ kept kind (piece ++ rest) ≡ old ++ text → new ≡ out ++ kept kind piece → new ++ kept kind rest ≡ old ++ text
goes_on kind old text out new piece rest whole is =
    ap (λ (x : List ℕ). x ++ kept kind rest) is ∙ (append_assoc out (kept kind piece) (kept kind rest) ∙ (ap (λ (x : List ℕ). out ++ x) (sym (kept_append kind piece rest)) ∙ whole))

-- where a piece can't be added, the whole can't
pub stops : (kind : Kind) (max : ℕ) (old text out new new' piece rest : List ℕ) (e : Stop) → out ++ kept kind (piece ++ rest) ≡ old ++ kept kind text → Appends kind max out piece new (Err e) → Appends kind max old text new' (Err e)
stops kind max old text out new new' piece rest TooBig whole is =
    omega (arith, ap length whole, length-append out (kept kind (piece ++ rest)), kept_length kind (piece ++ rest), length-append piece rest, length-append old (kept kind text), kept_length kind text, is)
stops kind max old text out new new' piece rest Memory whole is = is

-- where no piece is left, the whole is added
pub ends : (kind : Kind) (max : ℕ) (old text out rest : List ℕ) → out ++ kept kind rest ≡ old ++ kept kind text → rest ≡ [] → length out ≤ max → Appends kind max old text out (Ok tt)
ends kind max old text out rest whole none short =
    let nothing : kept kind rest ≡ [] = ap (kept kind) none ∙ kept_nothing kind in
    (sym (append-nil out) ∙ (ap (λ (x : List ℕ). out ++ x) (sym nothing) ∙ whole), short)
