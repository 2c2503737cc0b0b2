-- Locales that are compiled from what is kept of their categories.
use Rattle.std.proofs.Common.{◌≡◌, ℕ, zero, suc, ◌+◌, List, [], ◌∷◌, map, Option, Some, None, Ok, Err, refl, ◌∙◌, ap}
use Rattle.std.specs.Prelude.{option_map}
use Rattle.std.specs.Option.{option_or}
use Rattle.std.specs.List.{slice_get}
use Rattle.lc_base.specs.declared.place.Place.{Place}
use Rattle.lc_base.specs.declared.reason.Reason.{Reason}
use Rattle.lc_base.specs.declared.category.Category.{Category}
use Rattle.lc_base.specs.declared.category.Category.TheVariants.{Ctype, Numeric, Monetary, Time, Messages}
use Rattle.lc_base.specs.Lines.{◌>>=◌ as ◌then◌}
use Rattle.lc_base.specs.Reading.{Reads, ◌>>=◌}
use Rattle.ctype_classes.specs.Ctype.{posix_values as posix_classes}
use Rattle.numeric_cat.specs.Numeric.{posix_values}
use Rattle.monetary_cat.specs.Monetary.{posix_values as posix_money}
use Rattle.time_cat.specs.Values.{posix_values as posix_times}
use Rattle.messages_cat.specs.Messages.{posix_values as posix_messages}
use Rattle.category_store.specs.declared.kept.CategoryLists.{CategoryLists}
use Rattle.locale_sources.specs.declared.rows.LocaleRow.{LocaleRow}
use Rattle.locale_sources.specs.Sources.{Source}
use Rattle.locale_sources.specs.Copies.{end_of}
use Rattle.category_store.specs.Written.{Written, written_for, written_at}
use Rattle.category_store.specs.Compiled.{ctype_of, numeric_of, monetary_of, time_of, messages_of, read_or, category_of, locale_of, locales_from}
use Rattle.locale_sources.specs.Rows.{available, row_of, rows_from, given_unless}
use Rattle.category_store.specs.Locale.{Locale}
use Rattle.category_store.specs.Kept.{slots, kept, given_or, kept_or, value_or, fault_in, kept_of, ends_fault, locale_in, rows_fault}

abbrev Fault : Type 0
Fault = Place × Reason

-- ---- one category

got : {V : Type 0} (read : Written → Reads V) (category : Category) (S : List Source) (k : ℕ) → (slice_get (slots read S category) k then λ slot. slot) ≡ option_map read (slice_get S k then written_for category)
got read category [] k = refl
got read category (s ∷ S) zero = refl
got read category (s ∷ S) (suc k) = got read category S k

kept_is : {V : Type 0} (read : Written → Reads V) (category : Category) (S : List Source) (n : ℕ) → kept (slots read S category) n ≡ option_map read (written_at S category n)
kept_is read category S zero = refl
kept_is read category S (suc k) = got read category S k

given_is : {V : Type 0} (posix : V) (read : Written → Reads V) (o : Option Written) → given_or posix (option_map read o) ≡ read_or posix read o
given_is posix read None = refl
given_is posix read (Some w) = refl

-- what is kept under a number is what is written there
kept_or-is : {V : Type 0} (posix : V) (read : Written → Reads V) (S : List Source) (category : Category) (n : ℕ) → kept_or posix (slots read S category) n ≡ read_or posix read (written_at S category n)
kept_or-is posix read S category n = ap (given_or posix) (kept_is read category S n) ∙ given_is posix read (written_at S category n)

-- ---- five categories

-- five parts are there, or the first fault in them
five : {A B C D E R : Type 0} (p : A) (q : B) (r : C) (s : D) (t : E) (make : A → B → C → D → E → R) (a : Reads A) (b : Reads B) (c : Reads C) (d : Reads D) (e : Reads E)
    → (a >>= λ x. b >>= λ y. c >>= λ z. d >>= λ u. e >>= λ v. Ok (make x y z u v))
    ≡ given_unless (option_or (option_or (option_or (option_or (fault_in a) (fault_in b)) (fault_in c)) (fault_in d)) (fault_in e)) (make (value_or p a) (value_or q b) (value_or r c) (value_or s d) (value_or t e))
five p q r s t make (Err f) b c d e = refl
five p q r s t make (Ok x) (Err f) c d e = refl
five p q r s t make (Ok x) (Ok y) (Err f) d e = refl
five p q r s t make (Ok x) (Ok y) (Ok z) (Err f) e = refl
five p q r s t make (Ok x) (Ok y) (Ok z) (Ok u) (Err f) = refl
five p q r s t make (Ok x) (Ok y) (Ok z) (Ok u) (Ok v) = refl

-- the same of equal parts
five_same : {A B C D E R : Type 0} (p : A) (q : B) (r : C) (s : D) (t : E) (make : A → B → C → D → E → R) (a x : Reads A) (b y : Reads B) (c z : Reads C) (d u : Reads D) (e v : Reads E)
    → a ≡ x → b ≡ y → c ≡ z → d ≡ u → e ≡ v
    → (x >>= λ x. y >>= λ y. z >>= λ z. u >>= λ u. v >>= λ v. Ok (make x y z u v))
    ≡ given_unless (option_or (option_or (option_or (option_or (fault_in a) (fault_in b)) (fault_in c)) (fault_in d)) (fault_in e)) (make (value_or p a) (value_or q b) (value_or r c) (value_or s d) (value_or t e))
five_same p q r s t make a x b y c z d u e v ea eb ec ed ee = rw (ea, eb, ec, ed, ee) (five p q r s t make x y z u v)

-- a locale, or its first fault
locale_told : (S : List Source) (n : ℕ) (s : Source) → locale_of S n s ≡ given_unless (ends_fault (kept_of S) (row_of S n s).ends) (locale_in (kept_of S) (row_of S n s))
locale_told S n s =
    five_same posix_classes posix_values posix_money posix_times posix_messages (λ ctype numeric monetary time messages. record { name = s.name; available = available S n; ctype = ctype; numeric = numeric; monetary = monetary; time = time; messages = messages })
    (kept_or posix_classes (slots ctype_of S Ctype) (end_of S Ctype n)) (category_of posix_classes ctype_of S Ctype n)
    (kept_or posix_values (slots numeric_of S Numeric) (end_of S Numeric n)) (category_of posix_values numeric_of S Numeric n)
    (kept_or posix_money (slots monetary_of S Monetary) (end_of S Monetary n)) (category_of posix_money monetary_of S Monetary n)
    (kept_or posix_times (slots time_of S Time) (end_of S Time n)) (category_of posix_times time_of S Time n)
    (kept_or posix_messages (slots messages_of S Messages) (end_of S Messages n)) (category_of posix_messages messages_of S Messages n)
    (kept_or-is posix_classes ctype_of S Ctype (end_of S Ctype n))
    (kept_or-is posix_values numeric_of S Numeric (end_of S Numeric n))
    (kept_or-is posix_money monetary_of S Monetary (end_of S Monetary n))
    (kept_or-is posix_times time_of S Time (end_of S Time n))
    (kept_or-is posix_messages messages_of S Messages (end_of S Messages n))

-- ---- all locales

more : (first rest : Option Fault) (l : Locale) (ls : List Locale) → (given_unless first l >>= λ (x : Locale). given_unless rest ls >>= λ xs. Ok (x ∷ xs)) ≡ given_unless (option_or first rest) (l ∷ ls)
more None None l ls = refl
more None (Some f) l ls = refl
more (Some f) rest l ls = refl

from_told : (S : List Source) (n : ℕ) (ss : List Source) → locales_from S n ss ≡ given_unless (rows_fault (kept_of S) (rows_from S n ss)) (map (locale_in (kept_of S)) (rows_from S n ss))
from_told S n [] = refl
from_told S n (s ∷ ss) =
    ap (λ (r : Reads Locale). r >>= λ (l : Locale). locales_from S (n + 1) ss >>= λ ls. Ok (l ∷ ls)) (locale_told S n s)
    ∙ (ap (λ (r : Reads (List Locale)). given_unless (ends_fault (kept_of S) (row_of S n s).ends) (locale_in (kept_of S) (row_of S n s)) >>= λ (l : Locale). r >>= λ ls. Ok (l ∷ ls)) (from_told S (n + 1) ss)
    ∙ more (ends_fault (kept_of S) (row_of S n s).ends) (rows_fault (kept_of S) (rows_from S (n + 1) ss)) (locale_in (kept_of S) (row_of S n s)) (map (locale_in (kept_of S)) (rows_from S (n + 1) ss)))

-- the locales of what is kept, or the first fault in it
pub told : (S : List Source) (k : CategoryLists) (rows : List LocaleRow) (fault : Option Fault) → k ≡ kept_of S → rows ≡ rows_from S 1 S → fault ≡ rows_fault k rows → locales_from S 1 S ≡ given_unless fault (map (locale_in k) rows)
told S k rows fault are_kept are_rows is = rw (is, are_kept, are_rows) (from_told S 1 S)
