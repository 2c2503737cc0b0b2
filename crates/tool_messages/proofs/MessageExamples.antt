-- What messages begin with, tried on a small example.
use Rattle.std.proofs.Common.{◌≡◌, codes, refl}
use Rattle.std.specs.Fmt.{digits}
use Rattle.tool_messages.specs.declared.answer.Problem.TheVariants.{Memory, Refused}
use Rattle.tool_messages.specs.Message.{fault_line}
use Rattle.tool_messages.specs.Status.{problem_message}

-- the line stands before the column, and the reason before its rule
first_line : fault_line (codes "de\tDE") 30 7 (codes "NoEnd") (codes "a section ends") ≡ codes "de\\x09DE:30:7: NoEnd: a section ends\n"
unfolding digits
first_line = refl

out_of_memory : problem_message Memory ≡ codes "locale_tool: out of memory\n"
out_of_memory = refl

refused : problem_message (Refused (codes "x")) ≡ codes "x"
refused = refl
