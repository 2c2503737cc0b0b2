-- The lines of the commands of catalogs: whose they are, that they make no entry of the table, and one of the catalogs where one is asked for.
use Rattle.std.proofs.Common.{◌≡◌, ℕ, List, [], ◌∷◌, ◌++◌, Option, Some, None, refl, sym, ap, ◌∙◌, append_assoc}
use Rattle.mask_compose.specs.Parts.{Parts}
use Rattle.catalog_handles.specs.declared.setting.CatalogSetting.{CatalogSetting}
use Rattle.catalog_handles.specs.Entry as catalog
use Rattle.catalog_handles.specs.Entry.{Entry, History as CatalogHistory}
use Rattle.catalog_handles.specs.Answer.{entry, IsLegal}
use Rattle.category_store.specs.LibraryData.{LibraryData}
use Rattle.handle_table.specs.Entry.{History, Setting}
use Rattle.handle_table.specs.History.{global}
use Rattle.script_lines.specs.Catalogs.{Books, Asked, book_for, catalogs_after, open_line}
use Rattle.script_lines.specs.Lines.{Caller}
use Rattle.script_lines.specs.Outcome.{opens_line}
use Rattle.script_plan.specs.Prints.{places_in, caller_of}

-- ---- the line of a catopen

pub open_caller : (at : Caller) (version : Option ℕ) (asked : Asked) (n : Option ℕ) → caller_of (open_line at version asked n) ≡ at
open_caller at version asked None = refl
open_caller at version asked (Some n) = refl

pub open_places : (at : Caller) (version : Option ℕ) (asked : Asked) (n : Option ℕ) → places_in (open_line at version asked n).places ≡ []
open_places at version asked None = refl
open_places at version asked (Some n) = refl

pub open_version : (at : Caller) (version : Option ℕ) (asked : Asked) (n : Option ℕ) → (open_line at version asked n).global ≡ version
open_version at version asked None = refl
open_version at version asked (Some n) = refl

pub opens_caller : (c : Setting) (library : LibraryData) (books : Books) (H : History) (at : Caller) (name : List ℕ) (asked : Asked) (object : Option Parts) → caller_of (opens_line c library books H at name asked object) ≡ at
opens_caller c library books H at name asked (Some object) = open_caller at None asked (book_for library books object name)
opens_caller c library books H at name asked None = open_caller at _ asked (book_for library books (global c H) name)

pub opens_places : (c : Setting) (library : LibraryData) (books : Books) (H : History) (at : Caller) (name : List ℕ) (asked : Asked) (object : Option Parts) → places_in (opens_line c library books H at name asked object).places ≡ []
opens_places c library books H at name asked (Some object) = open_places at None asked (book_for library books object name)
opens_places c library books H at name asked None = open_places at _ asked (book_for library books (global c H) name)

-- ---- histories of catalogs that go on

pub record GoOnFrom (M F : CatalogHistory) : Type 0 where
  pub more : CatalogHistory
  pub is : F ≡ more ++ M

pub go_nowhere : (M : CatalogHistory) → GoOnFrom M M
go_nowhere M = record { more = []; is = refl }

pub go_on : (M N F : CatalogHistory) → GoOnFrom M N → GoOnFrom N F → GoOnFrom M F
go_on M N F first second = record {
  more = second.more ++ first.more;
  is = second.is ∙ ap (λ (K : CatalogHistory). second.more ++ K) first.is ∙ sym (append_assoc second.more first.more M);
}

pub op_on : (c : CatalogSetting) (M : CatalogHistory) (thread stamp : ℕ) (op : Option catalog.Op) → GoOnFrom M (catalogs_after c M thread stamp op)
op_on c M thread stamp None = go_nowhere M
op_on c M thread stamp (Some op) = record { more = entry c M thread op stamp ∷ []; is = refl }

pub op_legal : (c : CatalogSetting) (M : CatalogHistory) (thread stamp : ℕ) (op : Option catalog.Op) → IsLegal c M → IsLegal c (catalogs_after c M thread stamp op)
op_legal c M thread stamp None legal = legal
op_legal c M thread stamp (Some op) legal = (refl, legal)
