use Rattle.std.proofs.Common.{◌≡◌, ℕ, ◌+◌, ◌<◌, ◌≤◌, ◌++◌, List, [], length, Option, Ok, refl, sym, ap, ◌∙◌, arith, length-append, inl, inr}
use Rattle.std.specs.Prelude.{◌⊎◌}
use Rattle.std.proofs.lemmas.Result.{err_from_is_err_and}
use Rattle.lc_base.specs.Lines.{lines_of, ended, CutsLine}
use Rattle.lc_base.specs.Reading.{Reads}
use Rattle.lc_base.proofs.ReadingLemmas.{fails_first}
use Rattle.script_commands.specs.declared.known.Known.{Known}
use Rattle.script_lang.specs.declared.reading.Reading.{Reading}
use Rattle.script_lang.specs.Reading.{lines_read}
use Rattle.script_lang.specs.Kept.{begun_size, IsReading}
use Rattle.script_lang.proofs.ReadLemmas.{lines_more, lines_step}
use Rattle.script_lang.proofs.lines.lines_read.Goals as goal

-- a line is no longer than the text that begins with it
within : (text line rest : List ℕ) → (text ≡ ended line ++ rest) ⊎ ((text ≡ line) × (rest ≡ [])) → length line ≤ length text
within text line rest (inl e) = omega (arith, simp length-append at (ap length e))
within text line rest (inr e) = omega (arith, ap length e.0)

line_within : (text line rest : List ℕ) → CutsLine text line rest → length line ≤ length text
line_within text line rest cut = within text line rest cut.parts

-- and where something follows it, a newline stands between them
both : (text line rest : List ℕ) → (text ≡ ended line ++ rest) ⊎ ((text ≡ line) × (rest ≡ [])) → 0 < length rest → length line + 1 + length rest ≤ length text
both text line rest (inl e) some = omega (arith, simp length-append at (ap length e))
both text line rest (inr e) some = absurd (omega (arith, some, ap length e.1))

both_within : (text line rest : List ℕ) → CutsLine text line rest → 0 < length rest → length line + 1 + length rest ≤ length text
both_within text line rest cut some = both text line rest cut.parts some

-- what holds with a bound holds with the size itself
kept_own : (n : ℕ) (r : Reading) → IsReading n r → IsReading (begun_size r.begun) r
kept_own n r k = record { accepted = k.accepted; current = k.current; begun = k.begun; size = omega arith }

-- behind the last line
lines_end : (known : Option Known) (r : Reading) (n : ℕ) (rest : List ℕ) (total : Reads Reading) → rest ≡ [] → lines_read known r n (lines_of rest) ≡ total → total ≡ Ok r
lines_end known r n rest total e so_far =
    let one : lines_read known r n (lines_of rest) ≡ Ok r = rw e refl in
    sym so_far ∙ one

pub loop-line-init : goal.loop-line-init
loop-line-init c = record {
  so_far = refl;
  some = omega arith;
  number = omega arith;
  kept = kept_own 0 _ c.requires.kept;
  size = λ some. omega (arith, c.requires.kept.size);
}

pub line_read-requires : goal.line_read-requires
line_read-requires c =
    let cut = c.in-Some.ensures.line in
    record {
      short = omega (arith, line_within _ _ _ cut);
      number = omega (arith, line_within _ _ _ cut);
      text = omega (arith, c.in-Some.ensures.shorter, c.loop-line.invariant.size (omega (arith, c.in-Some.ensures.shorter)));
      kept = c.loop-line.invariant.kept;
    }

pub returns-in_err-line_read-clause-is : goal.returns-in_err-line_read-clause-is
returns-in_err-line_read-clause-is c =
    let p = err_from_is_err_and c.from_residual.result c.from_residual.ensures.1 in
    rw (p.1, p.2) (fails_first c.in_err-line_read.field-0.0 _ _ _ (sym c.loop-line.invariant.so_far ∙ lines_more _ _ _ _ _ _ c.in-Some.ensures.line) c.in_err-line_read.ensures.is)

pub loop-line-preserved : goal.loop-line-preserved
loop-line-preserved c =
    let cut = c.in-Some.ensures.line in
    record {
      so_far = lines_step _ _ _ _ _ _ _ _ cut c.in_ok-line_read.ensures.is c.loop-line.invariant.so_far;
      some = omega arith;
      number = omega (arith, c.in-Some.ensures.shorter);
      kept = kept_own _ _ c.in_ok-line_read.ensures.kept;
      size = λ some. omega (arith, both_within _ _ _ cut some, c.in-Some.ensures.shorter, c.in_ok-line_read.ensures.kept.size, c.loop-line.invariant.size (omega (arith, c.in-Some.ensures.shorter)));
    }

pub returns : goal.returns
returns c = record {
  is = lines_end _ _ _ _ _ (c.in_default.ensures.«end».0 refl) c.loop-line.invariant.so_far;
  accepted = c.loop-line.invariant.kept.accepted;
  begun = c.loop-line.invariant.kept.begun;
}
