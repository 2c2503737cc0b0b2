-- What lines have asked of the catalogs, at worked examples.
use Rattle.std.proofs.Common.{◌≡◌, ℕ, ◌≤◌, ◌<◌, List, [], ◌∷◌, Some, None, refl, arith}
use Rattle.std.proofs.lemmas.List.Elements.{All-nil, All-cons, All-head}
use Rattle.catalog_handles.specs.declared.handle.CatalogHandle.{CatalogHandle}
use Rattle.catalog_handles.specs.declared.setting.CatalogSetting.{CatalogSetting}
use Rattle.catalog_handles.specs.Entry as catalogs
use Rattle.catalog_handles.specs.Entry.{History as CatalogHistory}
use Rattle.catalog_handles.specs.Answer as catalog_answers
use Rattle.script_out.specs.declared.output.Places.TheVariants as places
use Rattle.script_out.specs.declared.output.Said.TheVariants as said
use Rattle.script_lines.specs.Lines.{line}
use Rattle.script_wishes.specs.Turns.{Ends}
use Rattle.script_run.specs.Timed.{Timed, catalog_places_by, asked_back, StandsAsked, IsWithin, IsAskedInRound}

abbrev c : CatalogSetting
c = record { threads = 2; rows = 1; generations = 1 }

abbrev h : CatalogHandle
h = record { owner = 0; row = 0; generation = 1 }

-- A opens a catalog, B reads it, and A closes it
abbrev opened : CatalogHistory
opened = catalog_answers.entry c [] 0 (catalogs.Open 5) 2 ∷ []

abbrev read : CatalogHistory
read = catalog_answers.entry c opened 1 (catalogs.Get h) 2 ∷ opened

abbrev all : CatalogHistory
all = catalog_answers.entry c read 0 (catalogs.Close h) 4 ∷ read

of_the_first : catalog_places_by 0 all ≡ 2 ∷ 0 ∷ []
of_the_first = refl

of_the_second : catalog_places_by 1 all ≡ 1 ∷ []
of_the_second = refl

-- the read stands in the history, with the catalog's number
the_read : StandsAsked c all 1 (Some (catalogs.Get h)) (record { place = 1; reply = catalogs.Book 5 }) 2
the_read = record { before = opened; behind = catalog_answers.entry c read 0 (catalogs.Close h) 4 ∷ []; whole = refl; place = refl; reply = refl }

-- what asks nothing stands in each
nothing : StandsAsked c [] 1 None (record { place = 7; reply = catalogs.Closed }) 3
nothing = tt

-- ---- lines of rounds

abbrev asks : ℕ → ℕ → ℕ → Timed
asks round thread place = record {
  task_line = record { task = Ends; line = line (record { round = round; thread = thread; index = 1 }) (places.Catalog place) None said.Closed };
  moment = 0;
  stamp = 0;
  op = Some (catalogs.Close h);
  asked = record { place = place; reply = catalogs.Closed };
}

abbrev lines : List Timed
lines = asks 2 0 2 ∷ asks 1 1 0 ∷ asks 1 0 1 ∷ []

back : asked_back lines ≡ 2 ∷ 0 ∷ 1 ∷ []
back = refl

in_its_round : IsAskedInRound lines (asks 2 0 2)
in_its_round = All-cons (IsWithin 2 3) 2 [] (record { since = omega arith; until = omega arith }) (All-nil (IsWithin 2 3))

-- a place that stands among those of the round before
too_early : IsAskedInRound lines (asks 2 0 1) → ⊥
too_early is = let within = All-head (IsWithin 2 3) 1 [] is in let since : 2 ≤ 1 = within.since in omega (arith, since)

-- one that stands behind those of its round
too_late : IsAskedInRound lines (asks 1 0 2) → ⊥
too_late is = let within = All-head (IsWithin 0 2) 2 [] is in let until : 2 < 2 = within.until in omega (arith, until)
