use Rattle.std.proofs.Common.{◌≡◌, ℕ, List, Ok, refl, ap, sym, ◌∙◌}
use Rattle.std.specs.Prelude.{codes}
use Rattle.std.proofs.lemmas.Result.{err_from_is_err_and}
use Rattle.lc_base.specs.declared.handle.Named.{Named}
use Rattle.lc_base.specs.declared.handle.Named.TheVariants.{Global, Of}
use Rattle.script_out.specs.Output.{named_text}
use Rattle.output_reader.specs.Ranges.{IsNamed}
use Rattle.output_reader.specs.Reading.{GivesFor}
use Rattle.output_reader.proofs.Giving.{given}
use Rattle.output_reader.proofs.HandleTexts.{no_handle}
use Rattle.output_reader.proofs.items.named.Goals as goal

is_global : (names : List (List ℕ)) (bytes : List ℕ) (n : Named) → bytes ≡ codes "GLOBAL" → named_text names n ≡ bytes → Global ≡ n
is_global names bytes Global global is = refl
is_global names bytes (Of h) global is = absurd (no_handle names h (is ∙ global))

pub returns-then-is_word-clause-back : goal.returns-then-is_word-clause-back
returns-then-is_word-clause-back c = λ n fits is. given (named_text c.args.threads.now) c.args.threads.now n Global (is_global c.args.threads.now c.args.bytes.now n (c.is_word.ensures.is c.if-is_word.true) is)

pub returns-in_err-named-clause-back : goal.returns-in_err-named-clause-back
returns-in_err-named-clause-back c = λ n.
    elim n as (λ n. IsNamed c.args.threads.now n → named_text c.args.threads.now n ≡ c.args.bytes.now → GivesFor (named_text c.args.threads.now) c.args.threads.now n c.from_residual.result) [
      | Global ↦ λ fits is. absurd (cc (c.is_word.ensures.back (sym is), c.if-is_word.false))
      | Of h ↦ λ fits is.
          let p = err_from_is_err_and c.from_residual.result c.from_residual.ensures.1 in
          rw (p.1, p.2) (c.in_err-named.ensures.back h fits is)
    ]

pub returns-clause-back : goal.returns-clause-back
returns-clause-back c = λ n.
    elim n as (λ n. IsNamed c.args.threads.now n → named_text c.args.threads.now n ≡ c.args.bytes.now → GivesFor (named_text c.args.threads.now) c.args.threads.now n (Ok (Of c.in_ok-named.named))) [
      | Global ↦ λ fits is. absurd (cc (c.is_word.ensures.back (sym is), c.if-is_word.false))
      | Of h ↦ λ fits is.
          let read = c.in_ok-named.ensures.back h fits is in
          (read.0, λ distinct. ap (λ k. Of k) (read.1 distinct))
    ]
