-- All items and all texts of localeconv at once, in a buffer of the caller (our own).
use Rattle.std.specs.Prelude.{◌≡◌, ℕ, ◌+◌, ◌<◌, Bool, true, false, not, nat_lt, List, [], ◌∷◌, ◌++◌, length, map, take, drop, slice_get, slice_index, Option, None, Some}
use Rattle.lc_base.specs.declared.item.Item.{Item}
use Rattle.text_buffer.specs.Written.{over}
use Rattle.langinfo.specs.Items.{info}
use Rattle.langinfo.specs.Conv.{bare_texts}
use Rattle.langinfo.specs.declared.categories.LentCategories.{LentCategories}
use Rattle.shared_objects.specs.Shared.{Shared}
use Rattle.shared_objects.specs.Objects.{ctype_in, numeric_in, monetary_in, time_in, messages_in}
use Rattle.c_values.specs.declared.answer.LobjAnswer.{LobjAnswer}
use Rattle.c_values.specs.Codes.{OK, NO_LOCALE, TOO_SMALL}
use Rattle.c_values.specs.Answers.{answered}
use Rattle.c_values.specs.Cased.{length_told}
use Rattle.c_values.specs.Conv.{conv_in}
use Rattle.c_values.specs.Items.{items}

-- the text of an item
abbrev pub item_text : Shared → Item → List ℕ
item_text o item = info (ctype_in o) (numeric_in o) (monetary_in o) (time_in o) (messages_in o) item

-- the texts of the items in the order of their numbers, and behind them those of localeconv
abbrev pub all_texts : Shared → List (List ℕ)
all_texts o = map (item_text o) items ++ bare_texts (conv_in o).texts

-- the same by categories that are lent
abbrev pub texts_by : Shared → LentCategories → List (List ℕ)
texts_by o g = map (info g.ctype.now g.numeric.now g.monetary.now g.time.now g.messages.now) items ++ bare_texts (conv_in o).texts

-- texts one behind the other, each with a NUL behind it
abbrev pub laid : List (List ℕ) → List ℕ
laid [] = []
laid (text ∷ texts) = text ++ (0 ∷ laid texts)

-- what is answered of texts that have room or not, and the buffer and the starts before and after: each text begins behind those before it
abbrev pub Tabled : Bool → List (List ℕ) → LobjAnswer → List ℕ → List ℕ → List ℕ → List ℕ → Type 0
Tabled true texts a old new starts starts' =
    (a ≡ answered OK (length (laid texts))) × (new ≡ over old 0 (laid texts)) × ((k : ℕ) → k < 66 → slice_index starts' k ≡ length (laid (take k texts)))
Tabled false texts a old new starts starts' = (a ≡ answered TOO_SMALL (length_told (length (laid texts)))) × (new ≡ old) × (starts' ≡ starts)

-- whether a buffer has room for texts
abbrev pub has_room : List ℕ → List (List ℕ) → Bool
has_room buffer texts = not (nat_lt (length buffer) (length (laid texts)))

-- all texts of a locale are put; what is no locale of the library leaves all as it was
abbrev pub IsTabled : Option Shared → LobjAnswer → List ℕ → List ℕ → List ℕ → List ℕ → Type 0
IsTabled None a old new starts starts' = (a ≡ answered NO_LOCALE 0) × (new ≡ old) × (starts' ≡ starts)
IsTabled (Some o) a old new starts starts' = Tabled (has_room old (all_texts o)) (all_texts o) a old new starts starts'

-- at the start that the table has for a number stands the text with that number, with a NUL behind it
abbrev pub HasTexts : Option Shared → LobjAnswer → List ℕ → List ℕ → Type 0
HasTexts None a new starts = Unit {0}
HasTexts (Some o) a new starts = (k : ℕ) (text : List ℕ) → slice_get (all_texts o) k ≡ Some text → a.code ≡ OK → take (length text + 1) (drop (slice_index starts k) new) ≡ text ++ 0 ∷ []
