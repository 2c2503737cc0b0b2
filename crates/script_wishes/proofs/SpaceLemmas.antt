-- Names of two spaces as the variables of one thread.
use Rattle.std.proofs.Common.{◌≡◌, ℕ, cond, List, [], ◌∷◌, ◌++◌, Option, Some, None, refl, sym, ◌∙◌, ap}
use Rattle.std.specs.Str.{bytes_eq}
use Rattle.lc_base.specs.declared.handle.Handle.{Handle}
use Rattle.script_wishes.specs.declared.variables.Space.{Space}
use Rattle.script_wishes.specs.declared.variables.Space.TheVariants.{Locales, Catalogs}
use Rattle.script_wishes.specs.Variables.{Variable, Bindings, bound, bound_name, in_space}

abbrev pub Names : Type 0
Names = List (List ℕ × Handle)

-- what the names of locale objects and those of catalogs stand for
abbrev pub both : Names → Names → Bindings
both ls cs = in_space Locales ls ++ in_space Catalogs cs

-- no variable of locale objects is among the names of catalogs
no_catalog : (cs : Names) (name : List ℕ) → bound (in_space Catalogs cs) (record { space = Locales; name = name }) ≡ None
no_catalog [] name = refl
no_catalog (c ∷ cs) name = no_catalog cs name

own_catalog : (cs : Names) (name : List ℕ) → bound (in_space Catalogs cs) (record { space = Catalogs; name = name }) ≡ bound_name cs name
own_catalog [] name = refl
own_catalog (c ∷ cs) name = ap (λ (o : Option Handle). cond (bytes_eq c.0 name) (Some c.1) o) (own_catalog cs name)

pub bound_locale : (ls cs : Names) (name : List ℕ) → bound (both ls cs) (record { space = Locales; name = name }) ≡ bound_name ls name
bound_locale [] cs name = no_catalog cs name
bound_locale (l ∷ ls) cs name = ap (λ (o : Option Handle). cond (bytes_eq l.0 name) (Some l.1) o) (bound_locale ls cs name)

pub bound_catalog : (ls cs : Names) (name : List ℕ) → bound (both ls cs) (record { space = Catalogs; name = name }) ≡ bound_name cs name
bound_catalog [] cs name = own_catalog cs name
bound_catalog (l ∷ ls) cs name = bound_catalog ls cs name

-- one more name of a locale object
more_locale : (ls ls' cs : Names) (name : List ℕ) (h : Handle) → ((n : List ℕ) → bound_name ls' n ≡ bound_name ((name, h) ∷ ls) n)
    → (space : Space) (n : List ℕ) → bound (both ls' cs) (record { space = space; name = n }) ≡ bound ((record { space = Locales; name = name }, h) ∷ both ls cs) (record { space = space; name = n })
more_locale ls ls' cs name h grown Locales n =
    bound_locale ls' cs n ∙ grown n ∙ ap (λ (o : Option Handle). cond (bytes_eq name n) (Some h) o) (sym (bound_locale ls cs n))
more_locale ls ls' cs name h grown Catalogs n = bound_catalog ls' cs n ∙ sym (bound_catalog ls cs n)

-- one more name of a catalog
more_catalog : (ls cs cs' : Names) (name : List ℕ) (h : Handle) → ((n : List ℕ) → bound_name cs' n ≡ bound_name ((name, h) ∷ cs) n)
    → (space : Space) (n : List ℕ) → bound (both ls cs') (record { space = space; name = n }) ≡ bound ((record { space = Catalogs; name = name }, h) ∷ both ls cs) (record { space = space; name = n })
more_catalog ls cs cs' name h grown Locales n = bound_locale ls cs' n ∙ sym (bound_locale ls cs n)
more_catalog ls cs cs' name h grown Catalogs n =
    bound_catalog ls cs' n ∙ grown n ∙ ap (λ (o : Option Handle). cond (bytes_eq name n) (Some h) o) (sym (bound_catalog ls cs n))

pub locale_bound : (ls ls' cs : Names) (name : List ℕ) (h : Handle) → ((n : List ℕ) → bound_name ls' n ≡ bound_name ((name, h) ∷ ls) n)
    → (v : Variable) → bound (both ls' cs) v ≡ bound ((record { space = Locales; name = name }, h) ∷ both ls cs) v
locale_bound ls ls' cs name h grown v = more_locale ls ls' cs name h grown v.space v.name

pub catalog_bound : (ls cs cs' : Names) (name : List ℕ) (h : Handle) → ((n : List ℕ) → bound_name cs' n ≡ bound_name ((name, h) ∷ cs) n)
    → (v : Variable) → bound (both ls cs') v ≡ bound ((record { space = Catalogs; name = name }, h) ∷ both ls cs) v
catalog_bound ls cs cs' name h grown v = more_catalog ls cs cs' name h grown v.space v.name
