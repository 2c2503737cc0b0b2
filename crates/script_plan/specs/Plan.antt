-- The accepted bundle with its compiled locales and its message catalogs (our own).
use Rattle.std.specs.Prelude.{◌≡◌, ℕ, List, [], ◌∷◌, length, Ok, IsSome}
use Rattle.std.specs.List.{All}
use Rattle.lc_base.specs.declared.block.Block.{Block}
use Rattle.lc_base.specs.Reading.{Reads, ◌>>=◌}
use Rattle.category_store.specs.LibraryData.{LibraryData}
use Rattle.category_store.specs.Library.{catalog, later}
use Rattle.category_store.specs.Shelf.{IsNumbered, IsInstallable}
use Rattle.msg_catalog.specs.declared.book.Message.{Message}
use Rattle.msg_catalog.specs.Messages.{messages}
use Rattle.script_commands.specs.declared.command.Command.TheVariants.{Install}
use Rattle.script_commands.specs.declared.command.Placed.{Placed}
use Rattle.script_lang.specs.declared.bundle.Bundle.{Bundle}
use Rattle.script_lang.specs.Accepted.{IsAccepted, bundle_of}
use Rattle.script_lines.specs.Catalogs.{Books}
use Rattle.script_plan.specs.declared.plan.Counts.{Counts}

-- a bundle, what its charmaps, locales and later versions make, and the messages of each of its catalogs
pub record PlanData : Type 0 where
  pub bundle : Bundle
  pub library : LibraryData
  pub books : List (List Message)

-- the messages of catalogs, one catalog after another, or their first fault (XCU gencat)
abbrev pub books_read : List Block → Reads (List (List Message))
books_read [] = Ok []
books_read (block ∷ blocks) = messages block.text block.first_line >>= λ book. books_read blocks >>= λ books. Ok (book ∷ books)

-- the plan of a bundle, or the first fault of its charmaps, sources, copies and categories, and behind all of them the first one
-- of its catalogs
abbrev pub compiled : Bundle → Reads PlanData
compiled bundle =
    catalog bundle.charmaps bundle.locales bundle.later bundle.native >>= λ library. books_read bundle.catalogs >>= λ books.
    Ok (record { bundle = bundle; library = library; books = books })

-- the plan of a text: the faults of its lines come first, then those of its names, and then those of what it compiles
abbrev pub plan_of : List ℕ → Reads PlanData
plan_of text = bundle_of text >>= compiled

-- the catalogs of a plan: their blocks and their messages
abbrev pub books_of : PlanData → Books
books_of plan = record { blocks = plan.bundle.catalogs; books = plan.books }

-- how many blocks of locales and charmaps, threads, rounds and commands a bundle has; later versions and catalogs are not counted
abbrev pub counts : Bundle → Counts
counts bundle = record {
  locales = length bundle.locales;
  charmaps = length bundle.charmaps;
  threads = length bundle.threads;
  rounds = bundle.rounds;
  commands = length bundle.commands;
}

-- the counts of a text whose plan has no fault
abbrev pub counts_of : List ℕ → Reads Counts
counts_of text = plan_of text >>= λ plan. Ok (counts plan.bundle)

-- ---- what holds of each plan

-- what a command installs is there: it is never looked up in vain
abbrev pub HasVersion : LibraryData → Placed → Type 0
HasVersion library p = (key : List ℕ) → p.command ≡ Install key → IsSome (later library key)

-- the bundle is accepted, its names and keys are numbered, and each key that it installs has its version
pub record IsSound (plan : PlanData) : Type 0 where
  pub accepted : IsAccepted plan.bundle
  pub numbered : IsNumbered plan.library
  pub installable : IsInstallable plan.library
  pub installed : All (HasVersion plan.library) plan.bundle.commands
