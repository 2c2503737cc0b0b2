-- Files that cannot be read (our own).
use Rattle.std.specs.Prelude.{ℕ, List, ◌++◌, codes}
use Rattle.tool_messages.specs.Shown.{shown_word}

-- the message of a file that cannot be read
abbrev pub unreadable : List ℕ → List ℕ → List ℕ
unreadable path cause = codes "locale_tool: " ++ shown_word path ++ codes ": " ++ cause ++ codes "\n"
