-- Lines that are read one by one.
use Rattle.std.proofs.Common.{◌≡◌, ℕ, ◌+◌, List, Option, Ok, refl, sym, ◌∙◌}
use Rattle.lc_base.specs.Lines.{lines_of, CutsLine}
use Rattle.lc_base.specs.Reading.{Reads, ◌>>=◌}
use Rattle.script_commands.specs.declared.known.Known.{Known}
use Rattle.script_lang.specs.declared.reading.Reading.{Reading}
use Rattle.script_lang.specs.Reading.{line_read, lines_read}

-- one more line
pub lines_more : (known : Option Known) (r : Reading) (n : ℕ) (rest line following : List ℕ) → CutsLine rest line following
    → lines_read known r n (lines_of rest) ≡ (line_read known r n line >>= λ more. lines_read known more (n + 1) (lines_of following))
lines_more known r n rest line following cut = rw cut.lines refl

-- after a line that is read the others are left
pub lines_step : (known : Option Known) (r more : Reading) (n : ℕ) (rest line following : List ℕ) (total : Reads Reading) → CutsLine rest line following → line_read known r n line ≡ Ok more
    → lines_read known r n (lines_of rest) ≡ total → lines_read known more (n + 1) (lines_of following) ≡ total
lines_step known r more n rest line following total cut read so_far =
    let one : lines_read known r n (lines_of rest) ≡ lines_read known more (n + 1) (lines_of following) = lines_more known r n rest line following cut ∙ rw read refl in
    sym one ∙ so_far
