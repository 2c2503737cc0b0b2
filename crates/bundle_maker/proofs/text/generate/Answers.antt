use Rattle.std.proofs.Common.{◌≡◌, ℕ, ◌≤◌, List, ◌++◌, length, sym, ap, subst, ◌∙◌, append_assoc, arith}
use Rattle.std.specs.Prelude.{flat_map}
use Rattle.std.specs.List.{range_with_len}
use Rattle.std.proofs.lemmas.List.{append-nil}
use Rattle.bundle_maker.specs.declared.locales.TheConstants.{LOCALES}
use Rattle.bundle_maker.specs.Generated.{locales_text, thread_text, generated}
use Rattle.bundle_maker.proofs.Lengths.{generated_short}
use Rattle.bundle_maker.proofs.LocaleBytes.{locales_are}
use Rattle.bundle_maker.proofs.Numbers.{pieces_more}
use Rattle.bundle_maker.proofs.text.generate.Goals as goal

pub loop-thread-init : goal.loop-thread-init
loop-thread-init c =
    c.in_ok-extend_from_slice.ensures.items
    ∙ ap (λ (xs : List ℕ). xs ++ LOCALES.now) c.new-text.ensures.items
    ∙ locales_are
    ∙ sym (append-nil locales_text)

pub loop-thread-preserved : goal.loop-thread-preserved
loop-thread-preserved c =
    let f : ℕ → List ℕ = thread_text c.args.seed c.args.commands in
    let so_far : List ℕ = flat_map f (range_with_len 0 c.loop-thread.thread) in
    c.in_ok-push_thread.ensures
    ∙ ap (λ (xs : List ℕ). xs ++ f c.loop-thread.thread) c.loop-thread.invariant
    ∙ append_assoc locales_text so_far (f c.loop-thread.thread)
    ∙ ap (λ (xs : List ℕ). locales_text ++ xs) (sym (pieces_more f c.loop-thread.thread))

pub returns-clause-is : goal.returns-clause-is
unfolding generated
returns-clause-is c =
    let f : ℕ → List ℕ = thread_text c.args.seed c.args.commands in
    let all : c.loop-thread.thread ≡ 4 = omega (arith, c.loop-thread-test.false, c.loop-thread.auto.thread-end) in
    c.from_vec.ensures ∙ c.loop-thread.invariant ∙ ap (λ (n : ℕ). locales_text ++ flat_map f (range_with_len 0 n)) all

pub returns-clause-short : goal.returns-clause-short
returns-clause-short c =
    let P : List ℕ → Type 0 = λ xs. length xs ≤ 16777216 in
    subst P (sym (returns-clause-is c)) (generated_short c.args.seed c.args.commands c.requires.most)
