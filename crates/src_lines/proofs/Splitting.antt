-- Splitting a text, line by line.
use Rattle.std.proofs.Common.{◌≡◌, ℕ, ◌+◌, Bool, true, false, cond, List, [], ◌∷◌, ◌++◌, Option, Some, None, Ok, Err, refl, sym, ap, subst, ◌∙◌, append_assoc}
use Rattle.std.specs.List.{list_any}
use Rattle.std.specs.Result.{OnErr, result_err}
use Rattle.std.proofs.lemmas.List.{append-nil}
use Rattle.lc_base.specs.declared.place.Place.{Place}
use Rattle.lc_base.specs.declared.reason.Reason.{Reason}
use Rattle.lc_base.specs.Lines.{is_newline, onto_first, lines_of, ended, EndsLine}
use Rattle.lc_base.proofs.LineLemmas.{lines_of-ended}
use Rattle.lc_base.specs.Reading.{Reads, ◌>>=◌}
use Rattle.src_lines.specs.declared.signs.Kind.{Kind}
use Rattle.src_lines.specs.declared.head.Fate.{Fate}
use Rattle.src_lines.specs.Places.{Logical, fresh, extended}
use Rattle.src_lines.specs.Logical.{takes_next, fate, Front, nothing_more, before, after_fate, front_from}
use Rattle.src_lines.specs.Steps.{State, state_of, ended_draft, taken}

-- the lines that are kept, and what is still to come
abbrev pub after_kept : List Logical → Front → Front
after_kept kept later = record { lines = kept ++ later.lines; fault = later.fault }

-- no line is lost by a fault, and after it nothing follows
abbrev pub after_step : List Logical → Reads State → (State → Front) → Front
after_step kept (Ok s) later = later s
after_step kept (Err fault) later = record { lines = kept; fault = Some fault }

-- a line that is kept stands behind those that were
pick : (f : Bool) (kept : List Logical) (l : Logical) (ls : List Logical) → kept ++ cond f (l ∷ ls) ls ≡ cond f (kept ++ l ∷ []) kept ++ ls
pick true kept l ls = sym (append_assoc kept (l ∷ []) ls)
pick false kept l ls = refl

-- a line before others, behind the lines that are kept
after_kept-before : (f : Fate) (l : Logical) (kept : List Logical) (later : Front) → after_kept kept (before f l later) ≡ after_kept (cond f.kept (kept ++ l ∷ []) kept) later
after_kept-before f l kept later = ap {B = Front} (λ (ls : List Logical). record { lines = ls; fault = later.fault }) (pick f.kept kept l later.lines)

-- nothing more, behind the lines that are kept
after_kept-nil : (kept : List Logical) (fault : Option (Place × Reason)) → after_kept kept (record { lines = []; fault = fault }) ≡ record { lines = kept; fault = fault }
after_kept-nil kept fault = ap {B = Front} (λ (ls : List Logical). record { lines = ls; fault = fault }) (append-nil kept)

-- the further lines of the text, after a step
abbrev later_lines : Kind → ℕ → List (List ℕ) → State → Front
later_lines kind n ps s = after_kept s.1 (front_from kind s.0 s.2 n ps)

-- the state after a line of this fate
abbrev state_after : ℕ → List Logical → Logical → Fate → Reads State
state_after n kept l f = Ok (f.heads, cond f.kept (kept ++ l ∷ []) kept, fresh f.signs n)

-- what a fate and the rest give is one step, and the rest after it
fate_step : (kind : Kind) (n : ℕ) (kept : List Logical) (l : Logical) (ps : List (List ℕ)) (r : Reads Fate)
    → after_kept kept (after_fate l (λ f. front_from kind f.heads (fresh f.signs n) n ps) r) ≡ after_step kept (r >>= state_after n kept l) (later_lines kind n ps)
fate_step kind n kept l ps (Ok f) = after_kept-before f l kept (front_from kind f.heads (fresh f.signs n) n ps)
fate_step kind n kept l ps (Err fault) = after_kept-nil kept (Some fault)

-- a line that is joined to the next one, or ended, is one step
either_step : (b : Bool) (kept : List Logical) (x y : Front) (s : State) (t : Reads State) (f : State → Front)
    → after_kept kept x ≡ f s → after_kept kept y ≡ after_step kept t f → after_kept kept (cond b x y) ≡ after_step kept (cond b (Ok s) t) f
either_step true kept x y s t f h k = h
either_step false kept x y s t f h k = k

-- a line that another one follows is one step
step : (kind : Kind) (heads : Bool) (n : ℕ) (kept : List Logical) (l : Logical) (p q : List ℕ) (ps : List (List ℕ))
    → after_kept kept (front_from kind heads l n (p ∷ q ∷ ps)) ≡ after_step kept (taken kind heads (n + 1) kept l p) (later_lines kind (n + 1) (q ∷ ps))
unfolding front_from taken ended_draft
step kind heads n kept l p q ps =
    either_step (takes_next l.signs.escape p) kept _ _ _ _ (later_lines kind (n + 1) (q ∷ ps)) refl
    (fate_step kind (n + 1) kept (extended l p) (q ∷ ps) (fate kind heads (extended l p)))

-- a line with a newline behind it is there, perhaps empty
some_more : (c : ℕ) (b : Bool) (ls ms : List (List ℕ)) → ls ≡ ms → ((q : List ℕ) × (ps : List (List ℕ)) × (ms ≡ q ∷ ps)) → (q : List ℕ) × (ps : List (List ℕ)) × (cond b ([] ∷ ls) (onto_first c ls) ≡ q ∷ ps)
some_more c true ls ms e some = ([], ls, refl)
some_more c false ls ms e some = (c ∷ some.0, some.1, rw (e, some.2) refl)

some_line : (xs : List ℕ) → (q : List ℕ) × (ps : List (List ℕ)) × (lines_of (ended xs) ≡ q ∷ ps)
some_line [] = ([], [], refl)
some_line (x ∷ xs) = some_more x (is_newline x) (lines_of (ended xs)) (lines_of (ended xs)) refl (some_line xs)

-- the rest of a text after a line
abbrev pub rest_lines : Kind → ℕ → List ℕ → State → Front
rest_lines kind n rest s = after_kept s.1 (front_from kind s.0 s.2 n (lines_of (ended rest)))

-- a line of the text with its LF is taken in one step
step_is : (kind : Kind) (heads : Bool) (n : ℕ) (kept : List Logical) (l : Logical) (rest part later : List ℕ) → EndsLine rest part later
    → after_kept kept (front_from kind heads l n (lines_of (ended rest))) ≡ after_step kept (taken kind heads (n + 1) kept l part) (rest_lines kind (n + 1) later)
step_is kind heads n kept l rest part later cut =
    let some = some_line later in
    let f : lines_of (ended rest) ≡ part ∷ lines_of (ended later) = ap (λ (xs : List ℕ). lines_of (ended xs)) cut.parts ∙ ap lines_of (append_assoc (ended part) later (10 ∷ [])) ∙ lines_of-ended part (ended later) cut.bare in
    let one : (ps : List (List ℕ)) → some.0 ∷ some.1 ≡ ps → after_kept kept (front_from kind heads l n (part ∷ ps)) ≡ after_step kept (taken kind heads (n + 1) kept l part) (later_lines kind (n + 1) ps) =
    λ ps same. subst (λ (ps : List (List ℕ)). after_kept kept (front_from kind heads l n (part ∷ ps)) ≡ after_step kept (taken kind heads (n + 1) kept l part) (later_lines kind (n + 1) ps)) same (step kind heads n kept l part some.0 some.1) in
    rw f (one (lines_of (ended later)) (sym some.2))

-- the lines that are kept, without a fault
abbrev kept_lines : State → Front
kept_lines s = record { lines = s.1; fault = None }

-- what a fate gives at the end of the text is the last step
fate_last : (n : ℕ) (kept : List Logical) (l : Logical) (r : Reads Fate)
    → after_kept kept (after_fate l (λ f. nothing_more) r) ≡ after_step kept (r >>= state_after n kept l) kept_lines
fate_last n kept l (Ok f) = after_kept-before f l kept nothing_more ∙ after_kept-nil (cond f.kept (kept ++ l ∷ []) kept) None
fate_last n kept l (Err fault) = after_kept-nil kept (Some fault)

-- the last line of the text
last_is : (kind : Kind) (heads : Bool) (n : ℕ) (kept : List Logical) (l : Logical) (rest : List ℕ) → list_any is_newline rest ≡ false
    → after_kept kept (front_from kind heads l n (lines_of (ended rest))) ≡ after_step kept (ended_draft kind heads n kept (extended l rest)) kept_lines
unfolding front_from ended_draft
last_is kind heads n kept l rest bare =
    let f : lines_of (ended rest) ≡ rest ∷ [] = ap lines_of (sym (append-nil (ended rest))) ∙ lines_of-ended rest [] bare in
    rw f (fate_last n kept (extended l rest) (fate kind heads (extended l rest)))

-- what a step answers, and what follows it, give what the whole gives
answer_step : (kept new : List Logical) (draft : Logical) (answer : Reads Bool) (reads : Reads State) (later : State → Front) (sofar total : Front)
    → sofar ≡ after_step kept reads later → sofar ≡ total → state_of answer new draft ≡ reads → OnErr answer (new ≡ kept) → after_step new (state_of answer new draft) later ≡ total
answer_step kept new draft (Ok heads) reads later sofar total one so_far e same = ap (λ (r : Reads State). after_step kept r later) e ∙ sym one ∙ so_far
answer_step kept new draft (Err fault) reads later sofar total one so_far e same =
    ap {B = Front} (λ (ls : List Logical). record { lines = ls; fault = Some fault }) same ∙ ap (λ (r : Reads State). after_step kept r later) e ∙ sym one ∙ so_far

-- what is answered for a line of the text, and the rest of the text, give what the whole gives
pub line_step : (kind : Kind) (heads : Bool) (n : ℕ) (kept : List Logical) (l : Logical) (rest part later : List ℕ) (new : List Logical) (draft : Logical) (answer : Reads Bool) (total : Front)
    → EndsLine rest part later → after_kept kept (front_from kind heads l n (lines_of (ended rest))) ≡ total
    → state_of answer new draft ≡ taken kind heads (n + 1) kept l part → OnErr answer (new ≡ kept)
    → after_step new (state_of answer new draft) (rest_lines kind (n + 1) later) ≡ total
line_step kind heads n kept l rest part later new draft answer total cut so_far e same =
    answer_step kept new draft answer _ (rest_lines kind (n + 1) later) _ total (step_is kind heads n kept l rest part later cut) so_far e same

-- after the last step its answer says whether there is a fault
last_answer : (new : List Logical) (draft : Logical) (answer : Reads Bool) → after_step new (state_of answer new draft) kept_lines ≡ record { lines = new; fault = result_err answer }
last_answer new draft (Ok heads) = refl
last_answer new draft (Err fault) = refl

-- what is answered for the last line of the text gives what the whole gives
pub last_step : (kind : Kind) (heads : Bool) (n : ℕ) (kept : List Logical) (l : Logical) (rest : List ℕ) (new : List Logical) (draft : Logical) (answer : Reads Bool) (total : Front)
    → list_any is_newline rest ≡ false → after_kept kept (front_from kind heads l n (lines_of (ended rest))) ≡ total
    → state_of answer new draft ≡ ended_draft kind heads n kept (extended l rest) → OnErr answer (new ≡ kept)
    → record { lines = new; fault = result_err answer } ≡ total
last_step kind heads n kept l rest new draft answer total bare so_far e same =
    sym (last_answer new draft answer) ∙ answer_step kept new draft answer _ kept_lines _ total (last_is kind heads n kept l rest bare) so_far e same
