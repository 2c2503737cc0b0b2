-- The message of a file that cannot be read, tried on a small example.
use Rattle.std.proofs.Common.{◌≡◌, codes, refl}
use Rattle.tool_files.specs.Files.{unreadable}

not_there : unreadable (codes "x\ty") (codes "there is no such file") ≡ codes "locale_tool: x\\x09y: there is no such file\n"
not_there = refl
