-- Threads that share handles with nobody, and threads that do, at worked examples.
use Rattle.std.proofs.Common.{◌≡◌, ℕ, List, [], ◌∷◌, ◌++◌, None, refl, ap}
use Rattle.std.specs.Prelude.{map, codes}
use Rattle.std.proofs.lemmas.Bool.{false≢true}
use Rattle.lc_base.specs.declared.category.Category.TheVariants as categories
use Rattle.lc_base.specs.declared.item.Item.TheVariants.{Radixchar}
use Rattle.handle_table.specs.Entry.{Entry, Reply, Made, Held, Released, Posted, Got, Ended, History, Setting, is_accepted}
use Rattle.handle_table.specs.Answer.{IsLegal}
use Rattle.handle_table.specs.Isolation.{part_of, replies_of, IsClosed}
use Rattle.script_words.specs.declared.categories.CategoryArgument.TheVariants.{One}
use Rattle.script_commands.specs.declared.command.Read.TheVariants.{Info}
use Rattle.script_commands.specs.declared.command.Target.TheVariants as targets
use Rattle.script_commands.specs.declared.command.Command.{Command}
use Rattle.script_commands.specs.declared.command.Command.TheVariants.{New, Free, Use, Setlocale, Post, Fetch, ReadOf}
use Rattle.script_out.specs.declared.output.OutLine.{OutLine}
use Rattle.script_plan.specs.Plan.{PlanData}
use Rattle.script_plan.specs.Serial.{setting, serial_lines}
use Rattle.script_plan.specs.Isolation.{front, whole}
use Rattle.script_plan.proofs.Examples.{plan, placed, first_of}

abbrev c : PlanData → Setting
c p = setting p 16 65535

abbrev lines : PlanData → List OutLine
lines p = serial_lines 16 65535 p

-- the history of a script, and its front of so many calls
abbrev history : PlanData → History
history p = whole (c p) p (lines p)

abbrev begins : PlanData → ℕ → History
begins p n = front (c p) p (lines p) n

abbrev whose : History → List ℕ
whose H = map (λ (e : Entry). e.who) H

-- ---- A hands B a handle, and C shares none: it makes objects of its own, and sets the global locale

abbrev of_a : List Command
of_a = New (codes "x") 2 (codes "a") None ∷ Post 0 (targets.Variable (codes "x")) ∷ []

abbrev of_b : List Command
of_b = Fetch (codes "y") 0 0 ∷ ReadOf (targets.Variable (codes "y")) (Info Radixchar) ∷ []

abbrev of_c : List Command
of_c = New (codes "z") 2 (codes "b") None ∷ Setlocale (One categories.Numeric) (codes "a") ∷ []

abbrev beside : PlanData
beside = plan (codes "A" ∷ codes "B" ∷ codes "C" ∷ []) 1 (placed 1 0 of_a ++ placed 1 1 of_b ++ placed 1 2 of_c)

all_that_called : whose (history beside) ≡ 2 ∷ 1 ∷ 0 ∷ 2 ∷ 2 ∷ 1 ∷ 1 ∷ 1 ∷ 0 ∷ 0 ∷ []
all_that_called = refl

-- the part of A and B has the setlocale of C, and none of its other calls
part_of_a_and_b : whose (part_of (0 ∷ 1 ∷ []) (history beside)) ≡ 1 ∷ 0 ∷ 2 ∷ 1 ∷ 1 ∷ 1 ∷ 0 ∷ 0 ∷ []
part_of_a_and_b = refl

share_with_nobody : IsClosed (1 ∷ 0 ∷ []) (history beside)
share_with_nobody = (refl, (refl, (refl, (refl, (refl, (refl, (refl, (refl, (refl, (refl, tt))))))))))

-- a front has the first calls
first_calls : whose (begins beside 3) ≡ 1 ∷ 0 ∷ 0 ∷ []
first_calls = refl

-- B without A does share: it fetches from A's cell, and names A's handle
shares_with_a : IsClosed (1 ∷ []) (history beside) → ⊥
shares_with_a closed = false≢true closed.1.1.1.1.1.0

-- where C only makes and frees objects of its own, A and B are replied what they are replied without C
abbrev quiet : PlanData
quiet = plan (codes "A" ∷ codes "B" ∷ codes "C" ∷ []) 1 (placed 1 0 of_a ++ placed 1 1 of_b ++ placed 1 2 (New (codes "z") 2 (codes "b") None ∷ Free (targets.Variable (codes "z")) ∷ []))

abbrev alone : PlanData
alone = plan (codes "A" ∷ codes "B" ∷ []) 1 (placed 1 0 of_a ++ placed 1 1 of_b)

abbrev replies : List Reply
replies =
    Ended
    ∷ Ended
    ∷ Released
    ∷ Held (record { ctype = 0; numeric = 1; monetary = 0; time = 0; messages = 0 })
    ∷ Got (first_of 0)
    ∷ Posted
    ∷ Made (first_of 0) ∷ []

of_the_part : replies_of (part_of (0 ∷ 1 ∷ []) (history quiet)) ≡ replies
of_the_part = refl

of_both_alone : replies_of (history alone) ≡ replies
of_both_alone = refl

-- ---- where B frees what A made, A's part alone is no legal history, and A's line does not print what it says

abbrev freed : PlanData
freed = plan (codes "A" ∷ codes "B" ∷ []) 2 (placed 1 0 of_a ++ placed 1 1 (Free (targets.Handle (first_of 0)) ∷ []) ++ placed 2 0 (Use (targets.Variable (codes "x")) ∷ []))

share : IsClosed (0 ∷ []) (history freed) → ⊥
share closed = false≢true closed.1.1.1.0

not_legal : IsLegal (c freed) (part_of (0 ∷ []) (history freed)) → ⊥
not_legal legal = false≢true (ap is_accepted legal.1.0)
