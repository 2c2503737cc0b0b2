-- What the table replies to an op after a history, and the histories that it makes.
use Rattle.std.specs.Prelude.{◌≡◌, ℕ, ◌+◌, ◌==◌, not, ◌&&◌, if◌then◌else◌, List, [], ◌∷◌, Option, None, Some}
use Rattle.std.specs.Option.{option_map}
use Rattle.mask_compose.specs.Parts.{Parts, composed}
use Rattle.lc_base.specs.declared.handle.Handle.{Handle}
use Rattle.lc_base.specs.declared.handle.Named.{Named}
use Rattle.lc_base.specs.declared.handle.Named.TheVariants.{Global, Of}
use Rattle.handle_table.specs.declared.op.Refusal.{Refusal}
use Rattle.handle_table.specs.declared.op.Refusal.TheVariants.{NoData, GlobalHandle, NeverMade, Stale, TooMany, AlreadyHeld, NotHeld, EmptyCell}
use Rattle.handle_table.specs.Entry.{Op, New, Dup, Free, Use, Hold, Release, SetGlobal, Install, Post, Fetch, Pins, End, Reply, Made, Freed, Was, Held, Released, Set, Installed, Posted, Got, Pinned, Ended, Refused, Entry, History, Setting}
use Rattle.handle_table.specs.Shelf.{from_shelf, lacking, installs}
use Rattle.handle_table.specs.History.{made, live, makes, sets, global, object, selection, holding, pins, free_row, posted}

-- ---- reasons against an op: each is there exactly where its condition holds

-- the offer of a name lacks a category of the mask
abbrev pub no_data : Setting → History → ℕ → List ℕ → Option Refusal
no_data c H mask numbers = option_map NoData (lacking c H mask numbers)

-- the op needs an object, and names the global locale
abbrev pub global_handle : Named → Option Refusal
global_handle Global = Some GlobalHandle
global_handle (Of h) = None

-- no entry made the handle
abbrev pub never_made : History → Named → Option Refusal
never_made H Global = None
never_made H (Of h) = if made H h then None else Some NeverMade

-- the handle was made, and is not live
abbrev pub stale : History → Named → Option Refusal
stale H Global = None
stale H (Of h) = if made H h && not (live H h) then Some Stale else None

-- the thread has no free row
abbrev pub too_many : Option ℕ → Option Refusal
too_many None = Some TooMany
too_many (Some row) = None

-- the thread has an open Hold of the handle
abbrev pub already_held : History → ℕ → Named → Option Refusal
already_held H t Global = None
already_held H t (Of h) = if holding H t h then Some AlreadyHeld else None

-- the thread has no open Hold of the handle
abbrev pub not_held : History → ℕ → Named → Option Refusal
not_held H t Global = None
not_held H t (Of h) = if holding H t h then None else Some NotHeld

-- the cell has no accepted Post
abbrev pub empty_cell : Option Handle → Option Refusal
empty_cell None = Some EmptyCell
empty_cell (Some h) = None

-- the reasons that can stand against each op, in their order
abbrev pub reasons : Setting → History → ℕ → Op → List (Option Refusal)
reasons c H t (New mask numbers None) = no_data c H mask numbers ∷ too_many (free_row c H t) ∷ []
reasons c H t (New mask numbers (Some n)) = no_data c H mask numbers ∷ global_handle n ∷ never_made H n ∷ stale H n ∷ []
reasons c H t (Dup n) = never_made H n ∷ stale H n ∷ too_many (free_row c H t) ∷ []
reasons c H t (Free n) = global_handle n ∷ never_made H n ∷ stale H n ∷ []
reasons c H t (Use n) = never_made H n ∷ stale H n ∷ []
reasons c H t (Hold n) = global_handle n ∷ never_made H n ∷ stale H n ∷ already_held H t n ∷ []
reasons c H t (Release n) = global_handle n ∷ not_held H t n ∷ []
reasons c H t (SetGlobal mask numbers) = no_data c H mask numbers ∷ []
reasons c H t (Install m offer) = []
reasons c H t (Post k n) = global_handle n ∷ never_made H n ∷ stale H n ∷ []
reasons c H t (Fetch owner k) = empty_cell (posted H owner k) ∷ []
reasons c H t (Pins n) = global_handle n ∷ never_made H n ∷ []
reasons c H t End = []

-- the first that is there
abbrev pub first_reason : List (Option Refusal) → Option Refusal
first_reason [] = None
first_reason (Some refusal ∷ others) = Some refusal
first_reason (None ∷ others) = first_reason others

-- ---- replies to an op with nothing against it

-- a new handle of the thread in its free row, with the next generation of the row
abbrev pub made_in : History → ℕ → Option ℕ → Reply
made_in H t None = Refused TooMany
made_in H t (Some r) = Made (record { owner = t; row = r; generation = makes H t r + 1 })

-- the object of a target, none for the global locale
abbrev pub target_object : Setting → History → Named → Option Parts
target_object c H Global = None
target_object c H (Of h) = Some (object c H h)

-- a reply that speaks of the handle that was named
abbrev pub of_handle : Named → (Handle → Reply) → Reply
of_handle Global reply = Refused GlobalHandle
of_handle (Of h) reply = reply h

-- what stands in a cell
abbrev pub got : Option Handle → Reply
got None = Refused EmptyCell
got (Some h) = Got h

-- what each op asks for
abbrev pub reply_to : Setting → History → ℕ → Op → Reply
reply_to c H t (New mask numbers None) = made_in H t (free_row c H t)
reply_to c H t (New mask numbers (Some n)) = of_handle n (λ h. Made h)
reply_to c H t (Dup n) = made_in H t (free_row c H t)
reply_to c H t (Free n) = Freed
reply_to c H t (Use n) = Was (selection H t) (target_object c H n)
reply_to c H t (Hold n) = of_handle n (λ h. Held (object c H h))
reply_to c H t (Release n) = Released
reply_to c H t (SetGlobal mask numbers) = Set (sets H + 1) (composed mask (from_shelf c H mask numbers) (global c H))
reply_to c H t (Install m offer) = Installed (installs H + 1)
reply_to c H t (Post k n) = Posted
reply_to c H t (Fetch owner k) = got (posted H owner k)
reply_to c H t (Pins n) = of_handle n (λ h. Pinned (pins c H h))
reply_to c H t End = Ended

-- ---- answers and legal histories

-- the refusal where there is one, else the reply
abbrev pub unless : Option Refusal → Reply → Reply
unless (Some refusal) reply = Refused refusal
unless None reply = reply

-- the answer to thread t's op after the history: the first reason against it, else what it asks for
abbrev pub answer : Setting → History → ℕ → Op → Reply
answer c H t op = unless (first_reason (reasons c H t op)) (reply_to c H t op)

-- the entry of a call, with the reply that it gets
abbrev pub entry : Setting → History → ℕ → Op → Entry
entry c H t op = record { who = t; op = op; reply = answer c H t op }

-- a legal history: the reply of each entry is the answer at what came before it
abbrev pub IsLegal : Setting → History → Type 0
IsLegal c [] = Unit {0}
IsLegal c (e ∷ H) = (e.reply ≡ answer c H e.who e.op) × IsLegal c H

-- a thread's own object after its call: an accepted Use gives what it selected, an End the global locale
abbrev pub own_after : Reply → Option Parts → Option Parts
own_after (Was former now) before = now
own_after Ended before = None
own_after _ before = before

-- the object that the thread took up at its last accepted Use since its last End, as it was then;
-- none where it selected the global locale, or nothing
abbrev pub own : History → ℕ → Option Parts
own [] t = None
own (e ∷ H) t = if e.who == t then own_after e.reply (own H t) else own H t
