-- What commands that keep to their thread ask for, and what its variables stand for.
use Rattle.std.proofs.Common.{◌≡◌, ℕ, Bool, true, false, cond, List, [], ◌∷◌, map, Option, Some, None, Result, Ok, Err, refl, sym, subst, ◌∙◌}
use Rattle.std.specs.Prelude.{◌==◌, filter, zip, All}
use Rattle.std.proofs.lemmas.Bool.{eqb-true, eq-eqb, false≢true, or_left}
use Rattle.std.proofs.lemmas.List.Elements.{All-nil, All-cons, All-head, All-tail, All-map}
use Rattle.lc_base.specs.Reading.{◌>>=◌}
use Rattle.mask_compose.specs.Parts.{Parts}
use Rattle.category_store.specs.LibraryData.{LibraryData}
use Rattle.lc_base.specs.declared.handle.Handle.{Handle}
use Rattle.lc_base.specs.declared.handle.Named.{Named}
use Rattle.lc_base.specs.declared.handle.Named.TheVariants as names
use Rattle.handle_table.specs.declared.op.Refusal.{Refusal}
use Rattle.handle_table.specs.Entry as table
use Rattle.handle_table.specs.Entry.{History, Setting}
use Rattle.handle_table.specs.History.{handle_named, object, pins, free_row}
use Rattle.handle_table.specs.Answer.{reasons, first_reason, made_in, of_handle, reply_to, unless, answer, own}
use Rattle.handle_table.specs.Isolation.{is_own}
use Rattle.script_words.specs.declared.categories.CategoryArgument.{CategoryArgument}
use Rattle.script_words.specs.declared.categories.CategoryArgument.TheVariants.{All as AllCategories}
use Rattle.script_commands.specs.declared.command.Command.{Command}
use Rattle.script_commands.specs.declared.command.Command.TheVariants as commands
use Rattle.script_commands.specs.declared.command.Read.{Read}
use Rattle.script_commands.specs.declared.command.Target.{Target}
use Rattle.script_commands.specs.declared.command.Target.TheVariants as targets
use Rattle.script_out.specs.declared.output.OutLine.{OutLine}
use Rattle.script_out.specs.declared.output.Places.{Places}
use Rattle.script_out.specs.declared.output.Why.{Why}
use Rattle.script_wishes.specs.Turns.{Task, Runs, Releases, Ends}
use Rattle.script_wishes.specs.Variables.{Variable, locale_variable, is_same_variable, Bindings, bound, Bound, bindings_of, variable_bound, handle_said, with_binding}
use Rattle.script_wishes.specs.Wishes.{handle_or_unset, named, base_named, mask_of, named_numbers, op_on, Wish, Calls, ReadsOf, Reads, AsksSelection, AsksName, OpensCatalog, GetsMessage, ClosesCatalog, called, wish, wish_of, ops_of}
use Rattle.script_lines.specs.Lines.{Caller, shown}
use Rattle.script_plan.specs.Prints.{places_in, call_of, Around, past, seen, IsRead, IsGranted}
use Rattle.script_plan.proofs.PlacedCalls.{place_of}
use Rattle.script_plan.specs.Private.{is_own_target, is_own_base, keeps_to_itself}
use Rattle.script_plan.proofs.Parts.{IsPrivate, IsPrivateCall, thread_is}

-- ---- variables stand for handles of their thread

abbrev pub IsOwnBound : Bound → Type 0
IsOwnBound b = b.handle.owner ≡ b.thread

abbrev IsBoundBy : ℕ → Variable × Handle → Type 0
IsBoundBy t binding = binding.1.owner ≡ t

abbrev IsOwnerOf : ℕ → Bound → Type 0
IsOwnerOf t b = b.handle.owner ≡ t

kept_own : (t : ℕ) (b : Bound) (kept : List Bound) (x : Bool) → (b.thread == t) ≡ x → IsOwnBound b → All (IsOwnerOf t) kept → All (IsOwnerOf t) (cond x (b ∷ kept) kept)
kept_own t b kept true is own rest = All-cons (IsOwnerOf t) b kept (own ∙ eqb-true b.thread t is) rest
kept_own t b kept false is own rest = rest

filter_own : (t : ℕ) (bounds : List Bound) → All IsOwnBound bounds → All (IsOwnerOf t) (filter (λ (b : Bound). b.thread == t) bounds)
filter_own t [] own = All-nil (IsOwnerOf t)
filter_own t (b ∷ bounds) own =
    kept_own t b (filter (λ (a : Bound). a.thread == t) bounds) (b.thread == t) refl (All-head IsOwnBound b bounds own) (filter_own t bounds (All-tail IsOwnBound b bounds own))

bindings_own : (t : ℕ) (bounds : List Bound) → All IsOwnBound bounds → All (IsBoundBy t) (bindings_of t bounds)
bindings_own t bounds own = All-map (IsBoundBy t) (λ (b : Bound). (b.variable, b.handle)) (filter (λ (b : Bound). b.thread == t) bounds) (filter_own t bounds own)

-- what is named is the thread's own, where something is
abbrev IsOwnNamed : ℕ → Result Named Why → Type 0
IsOwnNamed t (Err why) = Unit {0}
IsOwnNamed t (Ok n) = is_own (t ∷ []) (handle_named n) ≡ true

bound_own_if : (t : ℕ) (h : Handle) (o : Option Handle) (b : Bool) → h.owner ≡ t → IsOwnNamed t (handle_or_unset o) → IsOwnNamed t (handle_or_unset (cond b (Some h) o))
bound_own_if t h o true own rest = or_left (t == h.owner) false (eq-eqb t h.owner (sym own))
bound_own_if t h o false own rest = rest

bound_own : (t : ℕ) (bs : Bindings) (variable : Variable) → All (IsBoundBy t) bs → IsOwnNamed t (handle_or_unset (bound bs variable))
bound_own t [] variable own = tt
bound_own t (b ∷ bs) variable own =
    bound_own_if t b.1 (bound bs variable) (is_same_variable b.0 variable) (All-head (IsBoundBy t) b bs own) (bound_own t bs variable (All-tail (IsBoundBy t) b bs own))

target_own : (t : ℕ) (bs : Bindings) (target : Target) → All (IsBoundBy t) bs → is_own_target target ≡ true → IsOwnNamed t (named bs target)
target_own t bs targets.Global own is = refl
target_own t bs (targets.Variable variable) own is = bound_own t bs (locale_variable variable) own
target_own t bs (targets.Handle h) own is = absurd (false≢true is)

abbrev IsOwnBase : ℕ → Result (Option Named) Why → Type 0
IsOwnBase t (Err why) = Unit {0}
IsOwnBase t (Ok None) = Unit {0}
IsOwnBase t (Ok (Some n)) = is_own (t ∷ []) (handle_named n) ≡ true

some_own : (t : ℕ) (r : Result Named Why) → IsOwnNamed t r → IsOwnBase t (r >>= λ n. Ok (Some n))
some_own t (Err why) own = tt
some_own t (Ok n) own = own

base_own : (t : ℕ) (bs : Bindings) (base : Option Target) → All (IsBoundBy t) bs → is_own_base base ≡ true → IsOwnBase t (base_named bs base)
base_own t bs None own is = tt
base_own t bs (Some target) own is = some_own t (named bs target) (target_own t bs target own is)

-- ---- what is asked for

-- a call that is private, or a read that makes no call and binds no variable
abbrev pub IsOwnWish : ℕ → Option Variable → Result Wish Why → Type 0
IsOwnWish t variable (Err why) = Unit {0}
IsOwnWish t variable (Ok (Calls categories op)) = IsPrivate t op
IsOwnWish t variable (Ok (ReadsOf n read)) = ⊥
IsOwnWish t variable (Ok (Reads read)) = variable ≡ None
IsOwnWish t variable (Ok AsksSelection) = variable ≡ None
IsOwnWish t variable (Ok (AsksName categories)) = variable ≡ None
IsOwnWish t variable (Ok (OpensCatalog name)) = ⊥
IsOwnWish t variable (Ok (GetsMessage h set message default)) = ⊥
IsOwnWish t variable (Ok (ClosesCatalog h)) = ⊥

op_own : (t : ℕ) (variable : Option Variable) (op : Named → table.Op) (r : Result Named Why) → ((n : Named) → is_own (t ∷ []) (handle_named n) ≡ true → IsPrivate t (op n)) → IsOwnNamed t r
    → IsOwnWish t variable (called AllCategories (op_on op r))
op_own t variable op (Err why) one own = tt
op_own t variable op (Ok n) one own = one n own

new_private : (t mask : ℕ) (ns : List ℕ) (base : Option Named) → IsOwnBase t (Ok base) → IsPrivate t (table.New mask ns base)
new_private t mask ns None own = record { own = refl; quiet = refl }
new_private t mask ns (Some n) own = record { own = own; quiet = refl }

new_numbered : (t : ℕ) (variable : Option Variable) (mask : ℕ) (base : Option Named) (r : Result (List ℕ) Why) → IsOwnBase t (Ok base)
    → IsOwnWish t variable (called AllCategories (r >>= λ ns. Ok (table.New mask ns base)))
new_numbered t variable mask base (Err why) own = tt
new_numbered t variable mask base (Ok ns) own = new_private t mask ns base own

new_masked : (library : LibraryData) (t : ℕ) (variable : Option Variable) (locale : List ℕ) (base : Option Named) (r : Result ℕ Why) → IsOwnBase t (Ok base)
    → IsOwnWish t variable (called AllCategories (r >>= λ mask. named_numbers library locale mask >>= λ ns. Ok (table.New mask ns base)))
new_masked library t variable locale base (Err why) own = tt
new_masked library t variable locale base (Ok mask) own = new_numbered t variable mask base (named_numbers library locale mask) own

new_own : (library : LibraryData) (t : ℕ) (variable : Option Variable) (bits : ℕ) (locale : List ℕ) (r : Result (Option Named) Why) → IsOwnBase t r
    → IsOwnWish t variable (called AllCategories (r >>= λ n. mask_of bits >>= λ mask. named_numbers library locale mask >>= λ ns. Ok (table.New mask ns n)))
new_own library t variable bits locale (Err why) own = tt
new_own library t variable bits locale (Ok base) own = new_masked library t variable locale base (mask_of bits) own

command_own : (library : LibraryData) (t : ℕ) (bs : Bindings) (command : Command) → All (IsBoundBy t) bs → keeps_to_itself command ≡ true
    → IsOwnWish t (variable_bound (Runs command)) (wish library bs command)
command_own library t bs (commands.New variable bits locale base) own is = new_own library t (Some (locale_variable variable)) bits locale (base_named bs base) (base_own t bs base own is)
command_own library t bs (commands.Dup variable from) own is =
    op_own t (Some (locale_variable variable)) table.Dup (named bs from) (λ n its. record { own = its; quiet = refl }) (target_own t bs from own is)
command_own library t bs (commands.Free target) own is = op_own t None table.Free (named bs target) (λ n its. record { own = its; quiet = refl }) (target_own t bs target own is)
command_own library t bs (commands.Use target) own is = op_own t None table.Use (named bs target) (λ n its. record { own = its; quiet = refl }) (target_own t bs target own is)
command_own library t bs commands.Selected own is = refl
command_own library t bs (commands.Hold target) own is = absurd (false≢true is)
command_own library t bs (commands.Release target) own is = absurd (false≢true is)
command_own library t bs (commands.Setlocale categories locale) own is = absurd (false≢true is)
command_own library t bs (commands.LocaleName categories) own is = refl
command_own library t bs (commands.Install key) own is = absurd (false≢true is)
command_own library t bs (commands.Post cell target) own is = absurd (false≢true is)
command_own library t bs (commands.Fetch variable owner cell) own is = absurd (false≢true is)
command_own library t bs (commands.Pins target) own is = op_own t None table.Pins (named bs target) (λ n its. record { own = its; quiet = refl }) (target_own t bs target own is)
command_own library t bs (commands.Read read) own is = refl
command_own library t bs (commands.ReadOf target read) own is = absurd (false≢true is)
command_own library t bs (commands.CatOpen variable name) own is = absurd (false≢true is)
command_own library t bs (commands.CatGets catalog set message default) own is = absurd (false≢true is)
command_own library t bs (commands.CatClose catalog) own is = absurd (false≢true is)

-- a command that keeps to its thread, or the end of the thread
abbrev pub keeps : Task → Bool
keeps (Runs command) = keeps_to_itself command
keeps (Releases h) = false
keeps Ends = true

pub task_own : (library : LibraryData) (t : ℕ) (bounds : List Bound) (task : Task) → All IsOwnBound bounds → keeps task ≡ true → IsOwnWish t (variable_bound task) (wish_of library (bindings_of t bounds) task)
task_own library t bounds (Runs command) own is = command_own library t (bindings_of t bounds) command (bindings_own t bounds own) is
task_own library t bounds (Releases h) own is = absurd (false≢true is)
task_own library t bounds Ends own is = record { own = refl; quiet = refl }

-- ---- a private call makes handles of its thread alone

abbrev IsOwnHandle : ℕ → Option Handle → Type 0
IsOwnHandle t None = Unit {0}
IsOwnHandle t (Some h) = h.owner ≡ t

abbrev handle_shown : LibraryData → CategoryArgument → table.Reply → Option Handle
handle_shown library categories reply = handle_said (shown library categories reply)

made_own : (library : LibraryData) (categories : CategoryArgument) (H : History) (t : ℕ) (row : Option ℕ) → IsOwnHandle t (handle_shown library categories (made_in H t row))
made_own library categories H t None = tt
made_own library categories H t (Some row) = refl

based_own : (library : LibraryData) (categories : CategoryArgument) (t : ℕ) (n : Named) → is_own (t ∷ []) (handle_named n) ≡ true → IsOwnHandle t (handle_shown library categories (of_handle n (λ h. table.Made h)))
based_own library categories t names.Global own = tt
based_own library categories t (names.Of h) own = sym (thread_is t h.owner own)

pinned_own : (library : LibraryData) (categories : CategoryArgument) (t : ℕ) (n : Named) (count : Handle → ℕ) → IsOwnHandle t (handle_shown library categories (of_handle n (λ h. table.Pinned (count h))))
pinned_own library categories t names.Global count = tt
pinned_own library categories t (names.Of h) count = tt

accepted_own : (c : Setting) (library : LibraryData) (categories : CategoryArgument) (H : History) (t : ℕ) (op : table.Op) → IsPrivate t op → IsOwnHandle t (handle_shown library categories (reply_to c H t op))
accepted_own c library categories H t (table.New mask ns None) private = made_own library categories H t (free_row c H t)
accepted_own c library categories H t (table.New mask ns (Some n)) private = based_own library categories t n private.own
accepted_own c library categories H t (table.Dup n) private = made_own library categories H t (free_row c H t)
accepted_own c library categories H t (table.Pins n) private = pinned_own library categories t n (pins c H)
accepted_own c library categories H t (table.Free n) private = tt
accepted_own c library categories H t (table.Use n) private = tt
accepted_own c library categories H t table.End private = tt
accepted_own c library categories H t _ private = absurd (false≢true private.quiet)

unless_own : (library : LibraryData) (categories : CategoryArgument) (t : ℕ) (reason : Option Refusal) (reply : table.Reply) → IsOwnHandle t (handle_shown library categories reply)
    → IsOwnHandle t (handle_shown library categories (unless reason reply))
unless_own library categories t (Some refusal) reply own = tt
unless_own library categories t None reply own = own

answer_own : (c : Setting) (library : LibraryData) (categories : CategoryArgument) (H : History) (t : ℕ) (op : table.Op) → IsPrivate t op → IsOwnHandle t (handle_shown library categories (answer c H t op))
answer_own c library categories H t op private =
    unless_own library categories t (first_reason (reasons c H t op)) (reply_to c H t op) (accepted_own c library categories H t op private)

with_own : (t : ℕ) (bounds : List Bound) (variable : Option Variable) (h : Option Handle) → All IsOwnBound bounds → IsOwnHandle t h → All IsOwnBound (with_binding t bounds variable h)
with_own t bounds None h own its = own
with_own t bounds (Some variable) None own its = own
with_own t bounds (Some variable) (Some h) own its = All-cons IsOwnBound (record { thread = t; variable = variable; handle = h }) bounds its own

-- so its variables stand for its own handles after one more line
pub own_next : (x : Around) (at : Caller) (l : OutLine) (bounds : List Bound) (variable : Option Variable) (w : Result Wish Why) → IsGranted x at l w → IsOwnWish at.thread variable w → All IsOwnBound bounds
    → All IsOwnBound (with_binding at.thread bounds variable (handle_said l.reply))
own_next x at l bounds variable (Err why) is wished own =
    with_own at.thread bounds variable (handle_said l.reply) own (subst (λ (k : OutLine). IsOwnHandle at.thread (handle_said k.reply)) (sym is) tt)
own_next x at l bounds variable (Ok (Calls categories op)) r wished own =
    with_own at.thread bounds variable (handle_said l.reply) own
    (subst (λ (k : OutLine). IsOwnHandle at.thread (handle_said k.reply)) (sym r.is) (answer_own x.setting x.plan.library categories (past x r.place) at.thread op wished))
own_next x at l bounds variable (Ok (ReadsOf n read)) is wished own = absurd wished
own_next x at l bounds variable (Ok (Reads read)) is wished own = subst (λ (v : Option Variable). All IsOwnBound (with_binding at.thread bounds v (handle_said l.reply))) (sym wished) own
own_next x at l bounds variable (Ok AsksSelection) is wished own = subst (λ (v : Option Variable). All IsOwnBound (with_binding at.thread bounds v (handle_said l.reply))) (sym wished) own
own_next x at l bounds variable (Ok (AsksName categories)) is wished own = subst (λ (v : Option Variable). All IsOwnBound (with_binding at.thread bounds v (handle_said l.reply))) (sym wished) own
own_next x at l bounds variable (Ok (OpensCatalog name)) is wished own = absurd wished
own_next x at l bounds variable (Ok (GetsMessage h set message default)) is wished own = absurd wished
own_next x at l bounds variable (Ok (ClosesCatalog h)) is wished own = absurd wished

-- ---- the calls of a line

-- they are private
pub private_calls : (t : ℕ) (variable : Option Variable) (ps : List ℕ) (w : Result Wish Why) → IsOwnWish t variable w → All IsPrivateCall (map (call_of t) (zip ps (ops_of w)))
private_calls t variable [] w wished = All-nil IsPrivateCall
private_calls t variable (p ∷ []) (Ok (Calls categories op)) wished = All-cons IsPrivateCall (call_of t (p, op)) [] wished (All-nil IsPrivateCall)
private_calls t variable (p ∷ q ∷ ps) (Ok (Calls categories op)) wished = All-cons IsPrivateCall (call_of t (p, op)) [] wished (All-nil IsPrivateCall)
private_calls t variable (p ∷ ps) (Err why) wished = All-nil IsPrivateCall
private_calls t variable (p ∷ ps) (Ok (ReadsOf n read)) wished = absurd wished
private_calls t variable (p ∷ ps) (Ok (Reads read)) wished = All-nil IsPrivateCall
private_calls t variable (p ∷ ps) (Ok AsksSelection) wished = All-nil IsPrivateCall
private_calls t variable (p ∷ ps) (Ok (AsksName categories)) wished = All-nil IsPrivateCall
private_calls t variable (p ∷ ps) (Ok (OpensCatalog name)) wished = absurd wished
private_calls t variable (p ∷ ps) (Ok (GetsMessage h set message default)) wished = absurd wished
private_calls t variable (p ∷ ps) (Ok (ClosesCatalog h)) wished = absurd wished

-- and their places are those of the line
abbrev HasPlaces : ℕ → Result Wish Why → Places → Type 0
HasPlaces t w at = map place_of (map (call_of t) (zip (places_in at) (ops_of w))) ≡ places_in at

read_places : (x : Around) (at : Caller) (l : OutLine) (read : Read) (o : Option Parts) → IsRead x at l read o → HasPlaces at.thread (Ok (Reads read)) l.places
read_places x at l read (Some object) is = subst (λ (k : OutLine). HasPlaces at.thread (Ok (Reads read)) k.places) (sym is) refl
read_places x at l read None r = subst (λ (k : OutLine). HasPlaces at.thread (Ok (Reads read)) k.places) (sym r.is) refl

pub line_places : (x : Around) (at : Caller) (l : OutLine) (variable : Option Variable) (w : Result Wish Why) → IsGranted x at l w → IsOwnWish at.thread variable w → HasPlaces at.thread w l.places
line_places x at l variable (Err why) is wished = subst (λ (k : OutLine). HasPlaces at.thread (Err why) k.places) (sym is) refl
line_places x at l variable (Ok (Calls categories op)) r wished = subst (λ (k : OutLine). HasPlaces at.thread (Ok (Calls categories op)) k.places) (sym r.is) refl
line_places x at l variable (Ok (ReadsOf n read)) is wished = absurd wished
line_places x at l variable (Ok (Reads read)) is wished = read_places x at l read (own (seen x at.thread) at.thread) is
line_places x at l variable (Ok AsksSelection) is wished = subst (λ (k : OutLine). HasPlaces at.thread (Ok AsksSelection) k.places) (sym is) refl
line_places x at l variable (Ok (AsksName categories)) r wished = subst (λ (k : OutLine). HasPlaces at.thread (Ok (AsksName categories)) k.places) (sym r.is) refl
line_places x at l variable (Ok (OpensCatalog name)) is wished = absurd wished
line_places x at l variable (Ok (GetsMessage h set message default)) is wished = absurd wished
line_places x at l variable (Ok (ClosesCatalog h)) is wished = absurd wished
