-- Lines that a script may print, and lines that it may not: versions, places and replies, at worked examples.
use Rattle.std.proofs.Common.{◌≡◌, ℕ, ◌<◌, ◌≤◌, List, [], ◌∷◌, ◌++◌, get_or, Some, None, refl, sym, ap, ◌∙◌, arith, ⊎_elim}
use Rattle.std.specs.Prelude.{map, codes, All}
use Rattle.std.proofs.lemmas.Option.{same_Some}
use Rattle.std.proofs.lemmas.List.Elements.{All-nil, All-cons, All-head}
use Rattle.lc_base.specs.declared.category.Category.TheVariants as categories
use Rattle.lc_base.specs.declared.item.Item.TheVariants.{Radixchar}
use Rattle.catalog_handles.specs.declared.setting.CatalogSetting.{CatalogSetting}
use Rattle.catalog_handles.specs.Entry.{History as CatalogHistory}
use Rattle.handle_table.specs.declared.op.Refusal.TheVariants as refusals
use Rattle.handle_table.specs.Entry as table
use Rattle.handle_table.specs.Entry.{Setting}
use Rattle.mask_compose.specs.Parts.{Parts}
use Rattle.handle_table.specs.Answer.{answer}
use Rattle.lc_base.specs.declared.handle.Named.{Named}
use Rattle.lc_base.specs.declared.handle.Named.TheVariants as named
use Rattle.script_words.specs.declared.categories.CategoryArgument.TheVariants.{All as AllCategories, One}
use Rattle.script_commands.specs.declared.command.Read.{Read as Reading}
use Rattle.script_commands.specs.declared.command.Read.TheVariants.{Info}
use Rattle.script_commands.specs.declared.command.Target.TheVariants as targets
use Rattle.script_commands.specs.declared.command.Command.{Command}
use Rattle.script_commands.specs.declared.command.Command.TheVariants.{New, Free, Use, Setlocale, Read}
use Rattle.script_out.specs.declared.output.OutLine.{OutLine}
use Rattle.script_out.specs.declared.output.Places.{Places}
use Rattle.script_out.specs.declared.output.Places.TheVariants as places
use Rattle.script_out.specs.declared.output.Said.{Said}
use Rattle.script_out.specs.declared.output.Said.TheVariants as said
use Rattle.script_out.specs.declared.output.Why.TheVariants as whys
use Rattle.script_plan.specs.Plan.{PlanData}
use Rattle.script_wishes.specs.Holds.{object_held}
use Rattle.script_lines.specs.Lines.{Caller, shown}
use Rattle.script_reads.specs.Reads.{local}
use Rattle.script_plan.specs.Serial.{setting}
use Rattle.script_plan.specs.Prints.{with_tasks, calls_after, all_turns, caller_of, callers_after, Around, past, global_of, AreAnswered, IsGlobalRead, IsReadBetween, IsHoldRefused, AreCatalogsPlaced, ArePlaced}
use Rattle.script_plan.proofs.Examples.{library, plan, placed, line_of, first_of}
use Rattle.script_plan.proofs.PrintsExamples.{shared}

abbrev set_numeric : Command
set_numeric = Setlocale (One categories.Numeric) (codes "a")

abbrev read_radix : Command
read_radix = Read (Info Radixchar)

abbrev two : ℕ → List Command → List Command → PlanData
two round of_a of_b = plan (codes "A" ∷ codes "B" ∷ []) round (placed 1 0 of_a ++ placed round 1 of_b)

abbrev c : PlanData → Setting
c p = setting p 16 65535

-- the line of a read of the radix character under the global locale
abbrev read_line : ℕ → ℕ → ℕ → ℕ → List ℕ → OutLine
read_line round thread index version text = line_of round thread index places.None (Some version) (said.Text text)

abbrev set_line : ℕ → OutLine
set_line place = line_of 1 0 1 (places.One place) (Some 1) (said.Name (codes "a"))

abbrev end_line : ℕ → ℕ → ℕ → ℕ → OutLine
end_line round thread index place = line_of round thread index (places.One place) None said.Ended

-- each line prints what its task asks for
abbrev AllAnswered : PlanData → List OutLine → Type 0
AllAnswered p lines = let ds = with_tasks (all_turns (c p) p lines) lines in AreAnswered (c p) p lines [] (calls_after p.library [] ds) [] ds

abbrev first_byte : Said → ℕ
first_byte (said.Text text) = get_or text 0 0
first_byte _ = 0

other_text : said.Text (codes ",") ≡ said.Text (codes ".") → ⊥
other_text same = let byte : 44 ≡ 46 = ap first_byte same in omega (arith, byte)

-- ---- A sets the global locale and reads it; B reads it twice in the same round

abbrev looks : PlanData
looks = two 1 (set_numeric ∷ read_radix ∷ []) (read_radix ∷ read_radix ∷ [])

-- the lines, where the three reads print these versions and texts
abbrev look_lines : ℕ × List ℕ → ℕ × List ℕ → ℕ × List ℕ → List OutLine
look_lines a b d =
    set_line 0
    ∷ read_line 1 0 2 a.0 a.1
    ∷ read_line 1 1 1 b.0 b.1
    ∷ read_line 1 1 2 d.0 d.1
    ∷ end_line 2 0 3 1
    ∷ end_line 2 1 3 2 ∷ []

abbrev old : ℕ × List ℕ
old = (0, codes ".")

abbrev new : ℕ × List ℕ
new = (1, codes ",")

whose_looks : map caller_of (look_lines new old new) ≡ callers_after [] (all_turns (c looks) looks (look_lines new old new))
whose_looks = refl

-- what a read of the global locale says, where its line prints this version
version_is : {x : Around} {at : Caller} {l : OutLine} {read : Reading} (r : IsGlobalRead x at l read) (v : ℕ) → l.global ≡ Some v → v ≡ r.version
version_is r v is = same_Some v r.version (sym is ∙ ap (λ (l : OutLine). l.global) r.is)

text_is : {x : Around} {at : Caller} {l : OutLine} {read : Reading} (r : IsGlobalRead x at l read) (v : ℕ) → l.global ≡ Some v → l.reply ≡ local x.plan.library (global_of x v) read
text_is {x} {at} {l} {read} r v is = ap (λ (k : OutLine). k.reply) r.is ∙ ap (λ (k : ℕ). local x.plan.library (global_of x k) read) (sym (version_is r v is))

-- B may see the old version first and then the new one
seen_in_between : AllAnswered looks (look_lines new old new)
seen_in_between = (
  record { place = 0; is = refl },
  (
    record { version = 1; bounds = record { seen = at_1; rounds = at_0; next = at_1; round = at_1; printed = All-cons (λ (v : ℕ). v ≤ 1) 1 [] at_1 (All-nil (λ (v : ℕ). v ≤ 1)); printed_earlier = All-nil (λ (v : ℕ). v ≤ 1) }; is = refl },
    (
      record { version = 0; bounds = record { seen = at_00; rounds = at_00; next = at_0; round = at_0; printed = All-nil (λ (v : ℕ). v ≤ 0); printed_earlier = All-nil (λ (v : ℕ). v ≤ 0) }; is = refl },
      (
        record { version = 1; bounds = record { seen = at_0; rounds = at_0; next = at_1; round = at_1; printed = All-cons (λ (v : ℕ). v ≤ 1) 0 [] at_0 (All-nil (λ (v : ℕ). v ≤ 1)); printed_earlier = All-nil (λ (v : ℕ). v ≤ 1) }; is = refl },
        (
          record { place = 1; is = refl },
          (
            record { place = 2; is = refl },
            tt,
          ),
        ),
      ),
    ),
  ),
)
  where
    at_00 : 0 ≤ 0
    at_00 = omega arith

    at_0 : 0 ≤ 1
    at_0 = omega arith

    at_1 : 1 ≤ 1
    at_1 = omega arith

-- a thread does not see what was before its own call
before_its_own : AllAnswered looks (look_lines old old new) → ⊥
before_its_own t =
    let same = version_is t.1.0 0 refl in
    let low : 1 ≤ t.1.0.version = t.1.0.bounds.seen in
    omega (arith, same, low)

-- nor what nothing made in its round
not_yet_made : AllAnswered looks (look_lines new old (2, codes ",")) → ⊥
not_yet_made t =
    let same = version_is t.1.1.1.0 2 refl in
    let high : t.1.1.1.0.version ≤ 1 = t.1.1.1.0.bounds.round in
    omega (arith, same, high)

-- nor goes it back behind what it printed
goes_back : AllAnswered looks (look_lines new new old) → ⊥
goes_back t =
    let same = version_is t.1.1.1.0 0 refl in
    let low : 1 ≤ t.1.1.1.0.version = All-head (λ (v : ℕ). v ≤ t.1.1.1.0.version) 1 [] t.1.1.1.0.bounds.printed in
    omega (arith, same, low)

-- the text is that of the version
text_of_another : AllAnswered looks (look_lines new (0, codes ",") new) → ⊥
text_of_another t = other_text (text_is t.1.1.0 0 refl)

-- ---- B reads the global locale, and then makes a call before A sets it

abbrev reads_first : PlanData
reads_first = two 1 (set_numeric ∷ []) (read_radix ∷ Free targets.Global ∷ [])

abbrev first_lines : ℕ × List ℕ → List OutLine
first_lines a =
    set_line 1
    ∷ read_line 1 1 1 a.0 a.1
    ∷ line_of 1 1 2 (places.One 0) None (shown library AllCategories (table.Refused refusals.GlobalHandle))
    ∷ end_line 2 0 2 2
    ∷ end_line 2 1 3 3 ∷ []

before_the_call : AllAnswered reads_first (first_lines old)
before_the_call = (
  record { place = 1; is = refl },
  (
    record { version = 0; bounds = record { seen = at_0; rounds = at_0; next = at_0; round = at_1; printed = All-nil (λ (v : ℕ). v ≤ 0); printed_earlier = All-nil (λ (v : ℕ). v ≤ 0) }; is = refl },
    (
      record { place = 0; is = refl },
      (
        record { place = 2; is = refl },
        (
          record { place = 3; is = refl },
          tt,
        ),
      ),
    ),
  ),
)
  where
    at_0 : 0 ≤ 0
    at_0 = omega arith

    at_1 : 0 ≤ 1
    at_1 = omega arith

-- what A sets only after the call is not seen before it
after_its_next_call : AllAnswered reads_first (first_lines new) → ⊥
after_its_next_call t =
    let same = version_is t.1.0 1 refl in
    let high : t.1.0.version ≤ 0 = t.1.0.bounds.next in
    omega (arith, same, high)

-- ---- A sets the global locale in the first round, and B reads it in the second

abbrev next_round : PlanData
next_round = two 2 (set_numeric ∷ []) (read_radix ∷ [])

abbrev round_lines : ℕ × List ℕ → List OutLine
round_lines a = set_line 0 ∷ read_line 2 1 1 a.0 a.1 ∷ end_line 3 0 2 1 ∷ end_line 3 1 2 2 ∷ []

-- a round sees what the rounds before it did
before_its_round : AllAnswered next_round (round_lines old) → ⊥
before_its_round t =
    let same = version_is t.1.0 0 refl in
    let low : 1 ≤ t.1.0.version = t.1.0.bounds.rounds in
    omega (arith, same, low)

-- ---- a variable that a refused command would have bound, and an object of one's own

abbrev refused_new : PlanData
refused_new = plan (codes "A" ∷ []) 1 (placed 1 0 (New (codes "x") 8 (codes "a") None ∷ Use (targets.Variable (codes "x")) ∷ []))

abbrev refused_lines : Places → Said → List OutLine
refused_lines at reply =
    line_of 1 0 1 (places.One 0) None (shown library AllCategories (table.Refused (refusals.NoData categories.Time)))
    ∷ line_of 1 0 2 at None reply
    ∷ end_line 2 0 3 1 ∷ []

unset_after_refusal : AllAnswered refused_new (refused_lines places.None (said.Refused whys.Unset))
unset_after_refusal = (record { place = 0; is = refl }, (refl, (record { place = 1; is = refl }, tt)))

-- a command that was refused binds nothing
bound_by_a_refusal : AllAnswered refused_new (refused_lines (places.One 1) (said.Was named.Global)) → ⊥
bound_by_a_refusal t = absurd (cc (ap (λ (l : OutLine). l.reply) t.1.0))

abbrev own_object : PlanData
own_object = plan (codes "A" ∷ []) 1 (placed 1 0 (New (codes "x") 2 (codes "a") None ∷ Use (targets.Variable (codes "x")) ∷ read_radix ∷ []))

-- a read of an own object prints no version
version_of_an_own_object : AllAnswered own_object (
    line_of 1 0 1 (places.One 0) None (said.Handle (first_of 0))
    ∷ line_of 1 0 2 (places.One 1) None (said.Was named.Global)
    ∷ read_line 1 0 3 0 (codes ",")
    ∷ end_line 2 0 4 2 ∷ []) → ⊥
version_of_an_own_object t = absurd (cc (ap (λ (l : OutLine). l.global) t.1.1.0))

-- ---- a read of what is named, without an open Hold

abbrev one_place : List OutLine
one_place =
    line_of 1 0 1 (places.One 0) None (said.Handle (first_of 0))
    ∷ line_of 1 0 2 (places.One 1) None said.Posted
    ∷ line_of 1 1 1 (places.One 2) None (said.Text (codes ","))
    ∷ end_line 2 0 3 3
    ∷ end_line 2 1 2 4 ∷ []

abbrev place_in : Places → ℕ
place_in places.None = 0
place_in (places.One place) = place
place_in (places.Two hold release) = hold
place_in (places.Catalog place) = place

two_for_one : {x : Around} {at : Caller} {n : Named} {read : Reading} (place : ℕ) (l : OutLine) → l.places ≡ places.One place → IsReadBetween x at l n read → ⊥
two_for_one place l is r = absurd (cc (sym is ∙ ap (λ (k : OutLine). k.places) r.is))

some_is_none : {A : Type 0} (x : A) → Some x ≡ None → ⊥
some_is_none x same = absurd (cc same)

hold_is_accepted : {x : Around} {at : Caller} {l : OutLine} {n : Named} (place : ℕ) (object : Parts) → l.places ≡ places.One place
    → object_held (answer x.setting (past x place) at.thread (table.Hold n)) ≡ Some object → IsHoldRefused x at l n → ⊥
hold_is_accepted {x} {at} {l} {n} place object is held r =
    let same : place ≡ r.place = ap place_in (sym is ∙ ap (λ (k : OutLine). k.places) r.is) in
    some_is_none object (sym held ∙ ap (λ (p : ℕ). object_held (answer x.setting (past x p) at.thread (table.Hold n))) same ∙ r.held)

abbrev numeric_a : Parts
numeric_a = record { ctype = 0; numeric = 1; monetary = 0; time = 0; messages = 0 }

-- its Hold is accepted, so it has a Release, too
one_place_of_two : AllAnswered shared one_place → ⊥
one_place_of_two t = ⊎_elim (two_for_one 2 (line_of 1 1 1 (places.One 2) None (said.Text (codes ","))) refl) (hold_is_accepted 2 numeric_a refl refl) t.1.1.0

-- ---- places

-- the lines of a thread's commands, with these places of a read of what is named
abbrev shared_lines : ℕ → Places → List OutLine
shared_lines post at =
    line_of 1 0 1 (places.One 0) None (said.Handle (first_of 0))
    ∷ line_of 1 0 2 (places.One post) None said.Posted
    ∷ line_of 1 1 1 at None (said.Text (codes ","))
    ∷ end_line 2 0 3 4
    ∷ end_line 2 1 2 5 ∷ []

-- the Hold stands before the Release
release_first : ArePlaced 1 (shared_lines 2 (places.Two 3 1)) → ⊥
release_first p = let low : 3 < 1 = p.threads 1 0 (omega arith) in omega (arith, low)

-- no place is there twice
place_twice : ArePlaced 1 (shared_lines 2 (places.Two 2 3)) → ⊥
place_twice p = let once : 2 ≡ 1 = p.once 2 (omega arith) in omega (arith, once)

-- the places of a thread go up
thread_goes_back : ArePlaced 1 (
    line_of 1 0 1 (places.One 1) None (said.Handle (first_of 0))
    ∷ line_of 1 0 2 (places.One 0) None said.Posted
    ∷ end_line 2 0 3 2 ∷ []) → ⊥
thread_goes_back p = let low : 1 < 0 = p.threads 0 0 (omega arith) in omega (arith, low)

-- no place of a round stands behind one of a later round
round_behind : ArePlaced 2 (set_line 1 ∷ line_of 2 1 1 (places.One 0) None said.Posted ∷ end_line 3 0 2 2 ∷ end_line 3 1 2 3 ∷ []) → ⊥
round_behind p =
    let all : All (λ (q : ℕ). 1 < q) (0 ∷ 2 ∷ 3 ∷ []) = All-head (λ (k : ℕ). All (λ (q : ℕ). k < q) (0 ∷ 2 ∷ 3 ∷ [])) 1 [] (p.rounds 2) in
    let low : 1 < 0 = All-head (λ (q : ℕ). 1 < q) 0 (2 ∷ 3 ∷ []) all in
    omega (arith, low)

-- nor do the closing lines end a later thread before an earlier one
ended_first : ArePlaced 1 (end_line 2 0 1 1 ∷ end_line 2 1 1 0 ∷ []) → ⊥
ended_first p = let low : 1 < 0 = p.closing 0 (omega arith) in omega (arith, low)

-- no place of the catalogs is there twice, and the places of a thread go up
catalog_place_twice : {k : CatalogSetting} {M : CatalogHistory} → AreCatalogsPlaced k M (line_of 1 0 1 (places.Catalog 0) None said.Closed ∷ line_of 1 1 1 (places.Catalog 0) None said.Closed ∷ []) → ⊥
catalog_place_twice p = let once : 2 ≡ 1 = p.once 0 (omega arith) in omega (arith, once)

catalogs_go_back : {k : CatalogSetting} {M : CatalogHistory} → AreCatalogsPlaced k M (line_of 1 0 1 (places.Catalog 1) None said.Closed ∷ line_of 1 0 2 (places.Catalog 0) None said.Closed ∷ []) → ⊥
catalogs_go_back p = let low : 1 < 0 = p.threads 0 0 (omega arith) in omega (arith, low)
