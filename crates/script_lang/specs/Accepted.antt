-- The accepted bundle, or the bundle's first fault (our own).
use Rattle.std.specs.Prelude.{◌≡◌, ℕ, ◌-◌, ◌<◌, ◌≤◌, true, List, [], length, Option, Some, None, Ok, Err}
use Rattle.std.specs.List.{All}
use Rattle.lc_base.specs.declared.block.Later.{Later}
use Rattle.lc_base.specs.declared.reason.Reason.TheVariants.{NoEnd}
use Rattle.lc_base.specs.Blocks.{IsSized}
use Rattle.lc_base.specs.Lines.{lines_of}
use Rattle.lc_base.specs.Reading.{Reads, ◌>>=◌}
use Rattle.script_lang.specs.Limits.{CHARMAP_LIMIT, LOCALE_LIMIT, LATER_LIMIT, CATALOG_LIMIT, ROUND_LIMIT, COMMAND_LIMIT}
use Rattle.script_commands.specs.Limits.{THREAD_LIMIT}
use Rattle.script_lang.specs.declared.bundle.Bundle.{Bundle}
use Rattle.script_commands.specs.declared.command.Command.TheVariants.{Install}
use Rattle.script_commands.specs.declared.command.Placed.{Placed}
use Rattle.script_commands.specs.declared.known.Known.{Known}
use Rattle.script_commands.specs.InRange.{IsInRange}
use Rattle.script_commands.specs.Known.{has_key}
use Rattle.script_lang.specs.declared.reading.Reading.{Reading}
use Rattle.script_lang.specs.Reading.{at_first, lines_read}
use Rattle.script_words.specs.Spans.{start}

-- what the lines give, unless a block is still open: its directive is at fault, which stands on the line before its text
abbrev pub finished : Reading → Reads Bundle
finished r = elim r.begun [ None ↦ Ok r.bundle | Some o ↦ Err (start (o.block.first_line - 1), NoEnd) ]

-- the bundle that lines spell: without known blocks no name is looked for, and with them, and with the names of all threads,
-- each is
unfoldable pub bundle_with : Option Known → List (List ℕ) → List (List ℕ) → Reads Bundle
bundle_with known threads lines = lines_read known (at_first threads) 1 lines >>= finished

-- the blocks of a bundle that are named
abbrev pub known_of : Bundle → Known
known_of b = record { charmaps = b.charmaps; locales = b.locales; later = b.later }

-- the bundle that a text spells, or its first fault: first the lines are read as such, then, where they have no fault, once
-- more with each name looked for in the whole bundle
unfoldable pub bundle_of : List ℕ → Reads Bundle
bundle_of text = bundle_with None [] (lines_of text) >>= λ first. bundle_with (Some (known_of first)) first.threads (lines_of text)

-- ---- what holds of each accepted bundle

-- a command is one of so many threads', in one of so many rounds, and its numbers are in range
pub record IsPlaced (threads rounds : ℕ) (p : Placed) : Type 0 where
  pub thread : p.thread < threads
  pub round : (0 < p.round) × (p.round ≤ rounds)
  pub in_range : IsInRange threads p.command

-- the numbers and sizes of what is in a bundle, and the threads of its commands
pub record IsAccepted (b : Bundle) : Type 0 where
  pub few_charmaps : length b.charmaps ≤ CHARMAP_LIMIT
  pub few_locales : length b.locales ≤ LOCALE_LIMIT
  pub few_later : length b.later ≤ LATER_LIMIT
  pub few_catalogs : length b.catalogs ≤ CATALOG_LIMIT
  pub few_threads : length b.threads ≤ THREAD_LIMIT
  pub some_round : 0 < b.rounds
  pub few_rounds : b.rounds ≤ ROUND_LIMIT
  pub few_commands : length b.commands ≤ COMMAND_LIMIT
  pub charmaps : All IsSized b.charmaps
  pub locales : All IsSized b.locales
  pub later : All (λ (l : Later). IsSized l.block) b.later
  pub catalogs : All IsSized b.catalogs
  pub commands : All (IsPlaced (length b.threads) b.rounds) b.commands

-- where a command installs a key, one of these later versions has it
abbrev pub HasItsBlock : List Later → Placed → Type 0
HasItsBlock later p = (key : List ℕ) → p.command ≡ Install key → has_key later key ≡ true

-- each key that the bundle installs has a block of the bundle
abbrev pub HasItsKeys : Bundle → Type 0
HasItsKeys b = All (HasItsBlock b.later) b.commands
