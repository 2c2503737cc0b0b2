-- What a line makes of what was read before it.
use Rattle.std.proofs.Common.{◌≡◌, ℕ, ◌<◌, length, Option, Some, None, Ok, Err, Bool, false, cond, sym, ap, subst, arith}
use Rattle.std.specs.Prelude.{nat_le}
use Rattle.std.proofs.lemmas.Bool.Decides.{nat_tests}
use Rattle.lc_base.specs.declared.reason.Reason.TheVariants.{BadLine, OverLimit}
use Rattle.lc_base.specs.declared.reason.LinePart.TheVariants.{Thread}
use Rattle.lc_base.specs.declared.reason.Limit.TheVariants.{Commands}
use Rattle.lc_base.specs.Reading.{Reads, ◌>>=◌}
use Rattle.script_lang.specs.Limits.{COMMAND_LIMIT}
use Rattle.script_commands.specs.declared.command.Command.{Command}
use Rattle.script_commands.specs.declared.known.Known.{Known}
use Rattle.script_lang.specs.declared.reading.Reading.{Reading}
use Rattle.script_commands.specs.Commands.{command}
use Rattle.script_words.specs.Spans.{Span}
use Rattle.script_lang.specs.Reading.{with_command, command_line}
use Rattle.script_lang.specs.Kept.{IsCurrent, IsReading}

-- what is known of the current thread
pub thread_there : (n : ℕ) (r : Reading) (t : ℕ) → r.current ≡ Some t → IsReading n r → t < length r.bundle.threads
thread_there n r t e k = subst (λ (x : Option ℕ). IsCurrent x r.bundle) e k.current

not_full : (n : ℕ) → n < COMMAND_LIMIT → nat_le COMMAND_LIMIT n ≡ false
not_full n lt = grind (arith, nat_tests)

abbrev given : Reading → Reads Reading
given r = Ok r

-- the line of a command, by the current thread
abbrev by_thread : Option Known → Reading → Span → Span → Option ℕ → Reads Reading
by_thread known r w s current = elim current [
  | None ↦ Err (w.place, BadLine Thread)
  | Some t ↦ cond (nat_le COMMAND_LIMIT (length r.bundle.commands)) (Err (w.place, OverLimit Commands)) (command known r.bundle.threads w s >>= λ (d : Command). given (with_command r t d))
]

-- the line of a command that is right
pub command_read : (known : Option Known) (r made : Reading) (w s : Span) (t : ℕ) (c : Command) → r.current ≡ Some t → length r.bundle.commands < COMMAND_LIMIT → command known r.bundle.threads w s ≡ Ok c → made ≡ with_command r t c
    → command_line known r w s ≡ Ok made
unfolding command_line
command_read known r made w s t c there few read is =
    let last : (command known r.bundle.threads w s >>= λ (d : Command). given (with_command r t d)) ≡ given made =
    subst (λ (x : Reads Command). (x >>= (λ (d : Command). given (with_command r t d))) ≡ given made) (sym read) (ap (λ (x : Reading). given x) (sym is)) in
    let full : nat_le COMMAND_LIMIT (length r.bundle.commands) ≡ false = not_full _ few in
    subst (λ (x : Option ℕ). by_thread known r w s x ≡ given made) (sym there)
    (subst (λ (b : Bool). cond b (Err (w.place, OverLimit Commands)) (command known r.bundle.threads w s >>= λ (d : Command). given (with_command r t d)) ≡ given made) (sym full) last)
