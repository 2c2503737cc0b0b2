-- What holds while a bundle is read is kept by each step.
use Rattle.std.proofs.Common.{ℕ, ◌+◌, ◌<◌, ◌≤◌, ◌^◌, List, [], ◌∷◌, ◌++◌, length, Option, Some, None, arith, length-append}
use Rattle.std.specs.List.{All}
use Rattle.std.proofs.lemmas.List.Elements.{All-push, All-nil}
use Rattle.script_commands.specs.Limits.{THREAD_LIMIT}
use Rattle.script_lang.specs.Limits.{ROUND_LIMIT, COMMAND_LIMIT}
use Rattle.script_commands.specs.declared.command.Command.{Command}
use Rattle.script_commands.specs.declared.command.Command.TheVariants.{New, Dup, Free, Use, Selected, Hold, Release, Setlocale, LocaleName, Install, Post, Fetch, Pins, Read, ReadOf, CatOpen, CatGets, CatClose}
use Rattle.script_commands.specs.declared.command.OpenCatalog.{OpenCatalog}
use Rattle.script_commands.specs.declared.command.OpenCatalog.TheVariants as catalogs
use Rattle.script_commands.specs.declared.command.Placed.{Placed}
use Rattle.script_commands.specs.declared.command.Target.{Target}
use Rattle.script_commands.specs.declared.command.Target.TheVariants.{Global, Variable, Handle}
use Rattle.script_lang.specs.declared.reading.BlockKind.{BlockKind}
use Rattle.script_lang.specs.declared.reading.BlockKind.TheVariants.{Charmap, Locale, Later as LaterKind, Catalog as CatalogKind}
use Rattle.script_lang.specs.declared.reading.Opened.{Opened}
use Rattle.script_lang.specs.declared.reading.Reading.{Reading}
use Rattle.script_lang.specs.Reading.{at_first, with_open, with_native, with_current, with_thread, with_round, with_command}
use Rattle.script_lang.specs.Accepted.{IsPlaced}
use Rattle.script_commands.specs.InRange.{IsOwned, IsBaseOwned, IsCatalogOwned, IsInRange}
use Rattle.script_lang.specs.Kept.{HasRoomFor, IsBegun, IsCurrent, IsReading}

pub kept_at_first : (threads : List (List ℕ)) → length threads ≤ THREAD_LIMIT → IsReading 0 (at_first threads)
kept_at_first threads few = record {
  accepted = record {
    few_charmaps = omega arith;
    few_locales = omega arith;
    few_later = omega arith;
    few_catalogs = omega arith;
    few_threads = few;
    some_round = omega arith;
    few_rounds = omega arith;
    few_commands = omega arith;
    charmaps = All-nil _;
    locales = All-nil _;
    later = All-nil _;
    catalogs = All-nil _;
    commands = All-nil _;
  };
  current = tt;
  begun = tt;
  size = omega arith;
}

pub kept_with_open : (r : Reading) (kind : BlockKind) (name charset : List ℕ) (n : ℕ) → n + 1 < 2 ^ 31 → HasRoomFor kind r.bundle → IsReading 0 r → IsReading 0 (with_open r kind name charset n)
kept_with_open r kind name charset n small room k = record { accepted = k.accepted; current = k.current; begun = (room, omega arith, small); size = omega arith }

pub kept_with_native : (r : Reading) (name : List ℕ) → IsReading 0 r → IsReading 0 (with_native r name)
kept_with_native r name k = record {
  accepted = record {
    few_charmaps = k.accepted.few_charmaps;
    few_locales = k.accepted.few_locales;
    few_later = k.accepted.few_later;
    few_catalogs = k.accepted.few_catalogs;
    few_threads = k.accepted.few_threads;
    some_round = k.accepted.some_round;
    few_rounds = k.accepted.few_rounds;
    few_commands = k.accepted.few_commands;
    charmaps = k.accepted.charmaps;
    locales = k.accepted.locales;
    later = k.accepted.later;
    catalogs = k.accepted.catalogs;
    commands = k.accepted.commands;
  };
  current = still r.current k.current;
  begun = same r.begun k.begun;
  size = k.size;
} where
  still : (current : Option ℕ) → IsCurrent current r.bundle → IsCurrent current (with_native r name).bundle
  still None h = tt
  still (Some t) h = h

  room : (kind : BlockKind) → HasRoomFor kind r.bundle → HasRoomFor kind (with_native r name).bundle
  room Charmap h = h
  room Locale h = h
  room (LaterKind key) h = h
  room CatalogKind h = h

  same : (begun : Option Opened) → IsBegun begun r.bundle → IsBegun begun (with_native r name).bundle
  same None h = tt
  same (Some o) h = (room o.kind h.0, h.1, h.2)

pub kept_with_current : (r : Reading) (t : ℕ) → t < length r.bundle.threads → IsReading 0 r → IsReading 0 (with_current r t)
kept_with_current r t lt k = record { accepted = k.accepted; current = lt; begun = k.begun; size = k.size }

-- handles of threads are of more threads, too
owned_more : (n m : ℕ) → n ≤ m → (t : Target) → IsOwned n t → IsOwned m t
owned_more n m le Global h = tt
owned_more n m le (Variable name) h = tt
owned_more n m le (Handle x) h = omega arith

base_owned_more : (n m : ℕ) → n ≤ m → (base : Option Target) → IsBaseOwned n base → IsBaseOwned m base
base_owned_more n m le None h = tt
base_owned_more n m le (Some t) h = owned_more n m le t h

catalog_owned_more : (n m : ℕ) → n ≤ m → (c : OpenCatalog) → IsCatalogOwned n c → IsCatalogOwned m c
catalog_owned_more n m le (catalogs.Variable name) h = tt
catalog_owned_more n m le (catalogs.Handle x) h = omega arith

in_range_more : (n m : ℕ) → n ≤ m → (c : Command) → IsInRange n c → IsInRange m c
in_range_more n m le (New variable mask locale base) h = base_owned_more n m le base h
in_range_more n m le (Dup variable t) h = owned_more n m le t h
in_range_more n m le (Free t) h = owned_more n m le t h
in_range_more n m le (Use t) h = owned_more n m le t h
in_range_more n m le Selected h = tt
in_range_more n m le (Hold t) h = owned_more n m le t h
in_range_more n m le (Release t) h = owned_more n m le t h
in_range_more n m le (Setlocale categories locale) h = tt
in_range_more n m le (LocaleName categories) h = tt
in_range_more n m le (Install key) h = tt
in_range_more n m le (Post cell t) h = (h.0, owned_more n m le t h.1)
in_range_more n m le (Fetch variable owner cell) h = (omega (arith, h.0), h.1)
in_range_more n m le (Pins t) h = owned_more n m le t h
in_range_more n m le (Read read) h = tt
in_range_more n m le (ReadOf t read) h = owned_more n m le t h
in_range_more n m le (CatOpen variable name) h = tt
in_range_more n m le (CatGets catalog set message default) h = catalog_owned_more n m le catalog h
in_range_more n m le (CatClose catalog) h = catalog_owned_more n m le catalog h

-- commands among some threads are among more, too
more_threads : (n m rounds : ℕ) → n ≤ m → (ps : List Placed) → All (IsPlaced n rounds) ps → All (IsPlaced m rounds) ps
more_threads n m rounds le ps all k d lt = let p = all k d lt in record { thread = omega (arith, p.thread); round = p.round; in_range = in_range_more n m le _ p.in_range }

-- and those in some rounds are in more
more_rounds : (threads n m : ℕ) → n ≤ m → (ps : List Placed) → All (IsPlaced threads n) ps → All (IsPlaced threads m) ps
more_rounds threads n m le ps all k d lt = let p = all k d lt in record { thread = p.thread; round = (p.round.0, omega (arith, p.round.1)); in_range = p.in_range }

pub kept_with_thread : (r : Reading) (name : List ℕ) → length r.bundle.threads < THREAD_LIMIT → IsReading 0 r → IsReading 0 (with_thread r name)
kept_with_thread r name lt k = record {
  accepted = record {
    few_charmaps = k.accepted.few_charmaps;
    few_locales = k.accepted.few_locales;
    few_later = k.accepted.few_later;
    few_catalogs = k.accepted.few_catalogs;
    few_threads = simp length-append (omega arith);
    some_round = k.accepted.some_round;
    few_rounds = k.accepted.few_rounds;
    few_commands = k.accepted.few_commands;
    charmaps = k.accepted.charmaps;
    locales = k.accepted.locales;
    later = k.accepted.later;
    catalogs = k.accepted.catalogs;
    commands = more_threads (length r.bundle.threads) (length (r.bundle.threads ++ name ∷ [])) r.bundle.rounds (simp length-append (omega arith)) r.bundle.commands k.accepted.commands;
  };
  current = simp length-append (omega arith);
  begun = same r.begun k.begun;
  size = k.size;
} where
  room : (kind : BlockKind) → HasRoomFor kind r.bundle → HasRoomFor kind (with_thread r name).bundle
  room Charmap h = h
  room Locale h = h
  room (LaterKind key) h = h
  room CatalogKind h = h

  same : (begun : Option Opened) → IsBegun begun r.bundle → IsBegun begun (with_thread r name).bundle
  same None h = tt
  same (Some o) h = (room o.kind h.0, h.1, h.2)

pub kept_with_round : (r : Reading) → r.bundle.rounds < ROUND_LIMIT → IsReading 0 r → IsReading 0 (with_round r)
kept_with_round r lt k = record {
  accepted = record {
    few_charmaps = k.accepted.few_charmaps;
    few_locales = k.accepted.few_locales;
    few_later = k.accepted.few_later;
    few_catalogs = k.accepted.few_catalogs;
    few_threads = k.accepted.few_threads;
    some_round = omega arith;
    few_rounds = omega arith;
    few_commands = k.accepted.few_commands;
    charmaps = k.accepted.charmaps;
    locales = k.accepted.locales;
    later = k.accepted.later;
    catalogs = k.accepted.catalogs;
    commands = more_rounds (length r.bundle.threads) r.bundle.rounds (r.bundle.rounds + 1) (omega arith) r.bundle.commands k.accepted.commands;
  };
  current = tt;
  begun = same r.begun k.begun;
  size = k.size;
} where
  room : (kind : BlockKind) → HasRoomFor kind r.bundle → HasRoomFor kind (with_round r).bundle
  room Charmap h = h
  room Locale h = h
  room (LaterKind key) h = h
  room CatalogKind h = h

  same : (begun : Option Opened) → IsBegun begun r.bundle → IsBegun begun (with_round r).bundle
  same None h = tt
  same (Some o) h = (room o.kind h.0, h.1, h.2)

pub kept_with_command : (r : Reading) (t : ℕ) (c : Command) → length r.bundle.commands < COMMAND_LIMIT → t < length r.bundle.threads → IsInRange (length r.bundle.threads) c → IsReading 0 r → IsReading 0 (with_command r t c)
kept_with_command r t c lt thread in_range k = record {
  accepted = record {
    few_charmaps = k.accepted.few_charmaps;
    few_locales = k.accepted.few_locales;
    few_later = k.accepted.few_later;
    few_catalogs = k.accepted.few_catalogs;
    few_threads = k.accepted.few_threads;
    some_round = k.accepted.some_round;
    few_rounds = k.accepted.few_rounds;
    few_commands = simp length-append (omega arith);
    charmaps = k.accepted.charmaps;
    locales = k.accepted.locales;
    later = k.accepted.later;
    catalogs = k.accepted.catalogs;
    commands = All-push (IsPlaced (length r.bundle.threads) r.bundle.rounds) r.bundle.commands (record { round = r.bundle.rounds; thread = t; command = c }) k.accepted.commands (record { thread = thread; round = (k.accepted.some_round, omega arith); in_range = in_range });
  };
  current = still r.current k.current;
  begun = same r.begun k.begun;
  size = k.size;
} where
  still : (current : Option ℕ) → IsCurrent current r.bundle → IsCurrent current (with_command r t c).bundle
  still None h = tt
  still (Some t) h = h

  room : (kind : BlockKind) → HasRoomFor kind r.bundle → HasRoomFor kind (with_command r t c).bundle
  room Charmap h = h
  room Locale h = h
  room (LaterKind key) h = h
  room CatalogKind h = h

  same : (begun : Option Opened) → IsBegun begun r.bundle → IsBegun begun (with_command r t c).bundle
  same None h = tt
  same (Some o) h = (room o.kind h.0, h.1, h.2)
