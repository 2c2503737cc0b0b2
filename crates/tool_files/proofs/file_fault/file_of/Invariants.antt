use Rattle.std.proofs.Common.{◌≡◌, drop}
use Rattle.tool_files.specs.Told.{file_from, file_of}
use Rattle.tool_files.proofs.file_fault.file_of.Given as goal

-- the last file so far, and those that are left
abbrev pub invariant-loop-file : goal.invariant-loop-file
invariant-loop-file l = file_from (l.found.path.now, l.found.first_line) l.line (drop l.file-index l.paths) ≡ file_of l.paths l.line
