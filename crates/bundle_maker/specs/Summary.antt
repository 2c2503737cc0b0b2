-- What the lines of a made bundle come to (our own).
use Rattle.std.specs.Prelude.{ℕ, ◌==◌, ◌&&◌, nat_le, Bool, List, ◌++◌, codes, length, count_by, if◌then◌else◌}
use Rattle.std.specs.List.{sum_by, starts_with}
use Rattle.std.specs.Fmt.{decimal}
use Rattle.script_out.specs.declared.output.OutLine.{OutLine}
use Rattle.script_out.specs.Output.{newline, reply_text}

-- whether a reply begins with `refused`
abbrev pub is_refusal : List ℕ → Bool
is_refusal reply = starts_with (λ (a b : ℕ). a == b) reply (codes "refused")

-- whether a line is a command's, with a reply that begins so. The lines that close the threads stand behind the last round
abbrev pub is_refused : ℕ → List (List ℕ) → OutLine → Bool
is_refused rounds names l = nat_le l.round rounds && is_refusal (reply_text names l.reply)

-- the bytes of the reply of a line that is a command's
abbrev pub bytes_of : ℕ → List (List ℕ) → OutLine → ℕ
bytes_of rounds names l = if nat_le l.round rounds then length (reply_text names l.reply) else 0

-- how many commands were refused, and how many bytes the replies of all commands have
abbrev pub refused_count : ℕ → List (List ℕ) → List OutLine → ℕ
refused_count rounds names lines = count_by (is_refused rounds names) lines

abbrev pub reply_bytes : ℕ → List (List ℕ) → List OutLine → ℕ
reply_bytes rounds names lines = sum_by (bytes_of rounds names) lines

-- the line of so many commands in so many rounds: how many were refused, and the bytes of their replies
abbrev pub summary : ℕ → ℕ → List (List ℕ) → List OutLine → List ℕ
summary commands rounds names lines =
    codes "made: threads " ++ decimal 4 ++
    codes " commands " ++ decimal commands ++
    codes " refused " ++ decimal (refused_count rounds names lines) ++
    codes " bytes " ++ decimal (reply_bytes rounds names lines) ++ newline
