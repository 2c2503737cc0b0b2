-- What one more line adds.
use Rattle.std.proofs.Common.{◌≡◌, ℕ, ◌+◌, ◌<◌, List, length, take, get_or}
use Rattle.std.specs.Prelude.{if◌then◌else◌}
use Rattle.std.proofs.lemmas.List.Sums.{sum_by_more}
use Rattle.script_out.specs.declared.output.OutLine.{OutLine}
use Rattle.bundle_maker.specs.Summary.{is_refused, bytes_of, refused_count, reply_bytes}

pub refused_more : (rounds : ℕ) (names : List (List ℕ)) (lines : List OutLine) (i : ℕ) (d : OutLine) → i < length lines
    → refused_count rounds names (take (i + 1) lines) ≡ refused_count rounds names (take i lines) + (if is_refused rounds names (get_or lines i d) then 1 else 0)
refused_more rounds names lines i d within = sum_by_more (λ (l : OutLine). if is_refused rounds names l then 1 else 0) lines i d within

pub bytes_more : (rounds : ℕ) (names : List (List ℕ)) (lines : List OutLine) (i : ℕ) (d : OutLine) → i < length lines
    → reply_bytes rounds names (take (i + 1) lines) ≡ reply_bytes rounds names (take i lines) + bytes_of rounds names (get_or lines i d)
bytes_more rounds names lines i d within = sum_by_more (bytes_of rounds names) lines i d within
