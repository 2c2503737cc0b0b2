-- The first words of replies and of reasons, and what stands behind them.
use Rattle.std.proofs.Common.{◌≡◌, ℕ, true, false, List, [], ◌∷◌, ◌++◌, map, Option, Some, None, refl, ap, sym, subst, ◌∙◌}
use Rattle.std.specs.Prelude.{codes}
use Rattle.std.specs.Fmt.{decimal}
use Rattle.lc_base.specs.declared.category.Category.{Category}
use Rattle.lc_base.specs.declared.category.Category.TheVariants as categories
use Rattle.lc_base.specs.Categories.{category_name}
use Rattle.time_cat.specs.declared.tm.TmField.{TmField}
use Rattle.time_cat.specs.declared.tm.TmField.TheVariants as fields
use Rattle.lc_base.specs.declared.handle.Handle.{Handle}
use Rattle.lc_base.specs.declared.handle.Named.{Named}
use Rattle.handle_table.specs.declared.op.Refusal.TheVariants as refusals
use Rattle.time_cat.specs.declared.parsed.Parsed.{Parsed}
use Rattle.lc_base.specs.Tables.{first_named}
use Rattle.script_out.specs.declared.output.Said.{Said}
use Rattle.script_out.specs.declared.output.Said.TheVariants as said
use Rattle.script_out.specs.declared.output.Why.{Why}
use Rattle.script_out.specs.declared.output.Why.TheVariants as whys
use Rattle.script_out.specs.Output.{space, quoted, handle_text, named_text, field_text, year_text, fields_text, fields_behind_year, why_text, texts_text, numbers_text, reply_text}
use Rattle.output_reader.specs.declared.words.ReplyForm.{ReplyForm}
use Rattle.output_reader.specs.declared.words.ReplyForm.TheVariants as replies
use Rattle.output_reader.specs.declared.words.WhyForm.{WhyForm}
use Rattle.output_reader.specs.declared.words.WhyForm.TheVariants as forms
use Rattle.output_reader.specs.declared.words.TheConstants.{REPLIES, WHYS, CATEGORY_NAMES, FIELDS}
use Rattle.output_reader.specs.Reading.{Lacks, IsBehindWord}

pub category_found : (k : Category) → first_named (map (λ row. (row.0.now, row.1)) CATEGORY_NAMES) (category_name k) ≡ Some k
category_found categories.Ctype = refl
category_found categories.Numeric = refl
category_found categories.Monetary = refl
category_found categories.Time = refl
category_found categories.Messages = refl

pub field_found : (f : TmField) → first_named (map (λ row. (row.0.now, row.1)) FIELDS) (field_text f) ≡ Some f
field_found fields.Year = refl
field_found fields.Mon = refl
field_found fields.Mday = refl
field_found fields.Hour = refl
field_found fields.Min = refl
field_found fields.Sec = refl
field_found fields.Wday = refl
field_found fields.Yday = refl
field_found fields.Offset = refl

-- ---- replies

abbrev reply_word : Said → List ℕ
reply_word (said.Handle h) = codes "handle"
reply_word said.Freed = codes "freed"
reply_word (said.Was former) = codes "was"
reply_word (said.Is selected) = codes "is"
reply_word said.Held = codes "held"
reply_word said.Released = codes "released"
reply_word (said.Name name) = codes "name"
reply_word (said.Installed count) = codes "installed"
reply_word said.Posted = codes "posted"
reply_word (said.Pins count) = codes "pins"
reply_word (said.Text text) = codes "text"
reply_word (said.Parsed fields at) = codes "parsed"
reply_word (said.Conv texts numbers) = codes "conv"
reply_word (said.Class true) = codes "yes"
reply_word (said.Class false) = codes "no"
reply_word (said.Value value) = codes "value"
reply_word (said.Opened h) = codes "opened"
reply_word said.Closed = codes "closed"
reply_word said.Ended = codes "ended"
reply_word (said.Refused why) = codes "refused"

abbrev reply_rest : List (List ℕ) → Said → List ℕ
reply_rest names (said.Handle h) = 32 ∷ handle_text names h
reply_rest names said.Freed = []
reply_rest names (said.Was former) = 32 ∷ named_text names former
reply_rest names (said.Is selected) = 32 ∷ named_text names selected
reply_rest names said.Held = []
reply_rest names said.Released = []
reply_rest names (said.Name name) = 32 ∷ name
reply_rest names (said.Installed count) = 32 ∷ decimal count
reply_rest names said.Posted = []
reply_rest names (said.Pins count) = 32 ∷ decimal count
reply_rest names (said.Text text) = 32 ∷ quoted text
reply_rest names (said.Parsed fields at) = 32 ∷ (year_text fields.year ++ fields_text (fields_behind_year fields) ++ space ++ decimal at)
reply_rest names (said.Conv texts numbers) = texts_text texts ++ numbers_text numbers
reply_rest names (said.Class true) = []
reply_rest names (said.Class false) = []
reply_rest names (said.Value value) = 32 ∷ decimal value
reply_rest names (said.Opened h) = 32 ∷ handle_text names h
reply_rest names said.Closed = []
reply_rest names said.Ended = []
reply_rest names (said.Refused why) = 32 ∷ why_text why

abbrev reply_kind : Said → ReplyForm
reply_kind (said.Handle h) = replies.Handle
reply_kind said.Freed = replies.Freed
reply_kind (said.Was former) = replies.Was
reply_kind (said.Is selected) = replies.Is
reply_kind said.Held = replies.Held
reply_kind said.Released = replies.Released
reply_kind (said.Name name) = replies.Name
reply_kind (said.Installed count) = replies.Installed
reply_kind said.Posted = replies.Posted
reply_kind (said.Pins count) = replies.Pins
reply_kind (said.Text text) = replies.Text
reply_kind (said.Parsed fields at) = replies.Parsed
reply_kind (said.Conv texts numbers) = replies.Conv
reply_kind (said.Class true) = replies.Yes
reply_kind (said.Class false) = replies.No
reply_kind (said.Value value) = replies.Value
reply_kind (said.Opened h) = replies.Opened
reply_kind said.Closed = replies.Closed
reply_kind said.Ended = replies.Ended
reply_kind (said.Refused why) = replies.Refused

reply_parts : (names : List (List ℕ)) (v : Said) → reply_text names v ≡ reply_word v ++ reply_rest names v
reply_parts names (said.Handle h) = refl
reply_parts names said.Freed = refl
reply_parts names (said.Was former) = refl
reply_parts names (said.Is selected) = refl
reply_parts names said.Held = refl
reply_parts names said.Released = refl
reply_parts names (said.Name name) = refl
reply_parts names (said.Installed count) = refl
reply_parts names said.Posted = refl
reply_parts names (said.Pins count) = refl
reply_parts names (said.Text text) = refl
reply_parts names (said.Parsed fields at) = refl
reply_parts names (said.Conv texts numbers) = refl
reply_parts names (said.Class true) = refl
reply_parts names (said.Class false) = refl
reply_parts names (said.Value value) = refl
reply_parts names (said.Opened h) = refl
reply_parts names said.Closed = refl
reply_parts names said.Ended = refl
reply_parts names (said.Refused why) = refl

reply_word_lacks : (v : Said) → Lacks (reply_word v) 32
reply_word_lacks (said.Handle h) = refl
reply_word_lacks said.Freed = refl
reply_word_lacks (said.Was former) = refl
reply_word_lacks (said.Is selected) = refl
reply_word_lacks said.Held = refl
reply_word_lacks said.Released = refl
reply_word_lacks (said.Name name) = refl
reply_word_lacks (said.Installed count) = refl
reply_word_lacks said.Posted = refl
reply_word_lacks (said.Pins count) = refl
reply_word_lacks (said.Text text) = refl
reply_word_lacks (said.Parsed fields at) = refl
reply_word_lacks (said.Conv texts numbers) = refl
reply_word_lacks (said.Class true) = refl
reply_word_lacks (said.Class false) = refl
reply_word_lacks (said.Value value) = refl
reply_word_lacks (said.Opened h) = refl
reply_word_lacks said.Closed = refl
reply_word_lacks said.Ended = refl
reply_word_lacks (said.Refused why) = refl

lists_behind : (texts : List (List ℕ)) (numbers : List ℕ) → IsBehindWord (texts_text texts ++ numbers_text numbers)
lists_behind [] [] = refl
lists_behind [] (n ∷ ns) = refl
lists_behind (t ∷ ts) ns = refl

reply_rest_behind : (names : List (List ℕ)) (v : Said) → IsBehindWord (reply_rest names v)
reply_rest_behind names (said.Handle h) = refl
reply_rest_behind names said.Freed = refl
reply_rest_behind names (said.Was former) = refl
reply_rest_behind names (said.Is selected) = refl
reply_rest_behind names said.Held = refl
reply_rest_behind names said.Released = refl
reply_rest_behind names (said.Name name) = refl
reply_rest_behind names (said.Installed count) = refl
reply_rest_behind names said.Posted = refl
reply_rest_behind names (said.Pins count) = refl
reply_rest_behind names (said.Text text) = refl
reply_rest_behind names (said.Parsed fields at) = refl
reply_rest_behind names (said.Conv texts numbers) = lists_behind texts numbers
reply_rest_behind names (said.Class true) = refl
reply_rest_behind names (said.Class false) = refl
reply_rest_behind names (said.Value value) = refl
reply_rest_behind names (said.Opened h) = refl
reply_rest_behind names said.Closed = refl
reply_rest_behind names said.Ended = refl
reply_rest_behind names (said.Refused why) = refl

reply_found : (v : Said) → first_named (map (λ row. (row.0.now, row.1)) REPLIES) (reply_word v) ≡ Some (reply_kind v)
reply_found (said.Handle h) = refl
reply_found said.Freed = refl
reply_found (said.Was former) = refl
reply_found (said.Is selected) = refl
reply_found said.Held = refl
reply_found said.Released = refl
reply_found (said.Name name) = refl
reply_found (said.Installed count) = refl
reply_found said.Posted = refl
reply_found (said.Pins count) = refl
reply_found (said.Text text) = refl
reply_found (said.Parsed fields at) = refl
reply_found (said.Conv texts numbers) = refl
reply_found (said.Class true) = refl
reply_found (said.Class false) = refl
reply_found (said.Value value) = refl
reply_found (said.Opened h) = refl
reply_found said.Closed = refl
reply_found said.Ended = refl
reply_found (said.Refused why) = refl

-- what a reply of a form is, and what stands behind its first word
abbrev pub ReplyIs : List (List ℕ) → Said → List ℕ → ReplyForm → Type 0
ReplyIs names v rest replies.Handle = (h : Handle) × (v ≡ said.Handle h) × (rest ≡ 32 ∷ handle_text names h)
ReplyIs names v rest replies.Freed = v ≡ said.Freed
ReplyIs names v rest replies.Was = (former : Named) × (v ≡ said.Was former) × (rest ≡ 32 ∷ named_text names former)
ReplyIs names v rest replies.Is = (selected : Named) × (v ≡ said.Is selected) × (rest ≡ 32 ∷ named_text names selected)
ReplyIs names v rest replies.Held = v ≡ said.Held
ReplyIs names v rest replies.Released = v ≡ said.Released
ReplyIs names v rest replies.Name = (name : List ℕ) × (v ≡ said.Name name) × (rest ≡ 32 ∷ name)
ReplyIs names v rest replies.Installed = (count : ℕ) × (v ≡ said.Installed count) × (rest ≡ 32 ∷ decimal count)
ReplyIs names v rest replies.Posted = v ≡ said.Posted
ReplyIs names v rest replies.Pins = (count : ℕ) × (v ≡ said.Pins count) × (rest ≡ 32 ∷ decimal count)
ReplyIs names v rest replies.Text = (text : List ℕ) × (v ≡ said.Text text) × (rest ≡ 32 ∷ quoted text)
ReplyIs names v rest replies.Parsed = (fields : Parsed) × (at : ℕ) × (v ≡ said.Parsed fields at) × (rest ≡ 32 ∷ (year_text fields.year ++ fields_text (fields_behind_year fields) ++ space ++ decimal at))
ReplyIs names v rest replies.Conv = (texts : List (List ℕ)) × (numbers : List ℕ) × (v ≡ said.Conv texts numbers) × (rest ≡ texts_text texts ++ numbers_text numbers)
ReplyIs names v rest replies.Yes = v ≡ said.Class true
ReplyIs names v rest replies.No = v ≡ said.Class false
ReplyIs names v rest replies.Value = (value : ℕ) × (v ≡ said.Value value) × (rest ≡ 32 ∷ decimal value)
ReplyIs names v rest replies.Opened = (h : Handle) × (v ≡ said.Opened h) × (rest ≡ 32 ∷ handle_text names h)
ReplyIs names v rest replies.Closed = v ≡ said.Closed
ReplyIs names v rest replies.Ended = v ≡ said.Ended
ReplyIs names v rest replies.Refused = (why : Why) × (v ≡ said.Refused why) × (rest ≡ 32 ∷ why_text why)

reply_is : (names : List (List ℕ)) (v : Said) → ReplyIs names v (reply_rest names v) (reply_kind v)
reply_is names (said.Handle h) = (h, refl, refl)
reply_is names said.Freed = refl
reply_is names (said.Was former) = (former, refl, refl)
reply_is names (said.Is selected) = (selected, refl, refl)
reply_is names said.Held = refl
reply_is names said.Released = refl
reply_is names (said.Name name) = (name, refl, refl)
reply_is names (said.Installed count) = (count, refl, refl)
reply_is names said.Posted = refl
reply_is names (said.Pins count) = (count, refl, refl)
reply_is names (said.Text text) = (text, refl, refl)
reply_is names (said.Parsed fields at) = (fields, at, refl, refl)
reply_is names (said.Conv texts numbers) = (texts, numbers, refl, refl)
reply_is names (said.Class true) = refl
reply_is names (said.Class false) = refl
reply_is names (said.Value value) = (value, refl, refl)
reply_is names (said.Opened h) = (h, refl, refl)
reply_is names said.Closed = refl
reply_is names said.Ended = refl
reply_is names (said.Refused why) = (why, refl, refl)

reply_tells : (names : List (List ℕ)) (v : Said) (bytes word rest : List ℕ) (o : Option ReplyForm) → reply_text names v ≡ bytes → ((w r : List ℕ) → Lacks w 32 → IsBehindWord r → bytes ≡ w ++ r → (word ≡ w) × (rest ≡ r)) → o ≡ first_named (map (λ row. (row.0.now, row.1)) REPLIES) word → (o ≡ Some (reply_kind v)) × (rest ≡ reply_rest names v)
reply_tells names v bytes word rest o is back found =
    let both = back (reply_word v) (reply_rest names v) (reply_word_lacks v) (reply_rest_behind names v) (sym is ∙ reply_parts names v) in
    (found ∙ ap (λ w. first_named (map (λ row. (row.0.now, row.1)) REPLIES) w) both.0 ∙ reply_found v, both.1)

-- each reply begins with one of the words
pub reply_has_form : (names : List (List ℕ)) (v : Said) (bytes word rest : List ℕ) (o : Option ReplyForm) → reply_text names v ≡ bytes → ((w r : List ℕ) → Lacks w 32 → IsBehindWord r → bytes ≡ w ++ r → (word ≡ w) × (rest ≡ r)) → o ≡ first_named (map (λ row. (row.0.now, row.1)) REPLIES) word → o ≡ None → ⊥
reply_has_form names v bytes word rest o is back found none =
    let told : o ≡ Some (reply_kind v) = (reply_tells names v bytes word rest o is back found).0 in
    cc (told, none)

-- a reply that begins with the word of a form is of that form
pub reply_of_form : (names : List (List ℕ)) (v : Said) (bytes word rest : List ℕ) (o : Option ReplyForm) (form : ReplyForm) → reply_text names v ≡ bytes → ((w r : List ℕ) → Lacks w 32 → IsBehindWord r → bytes ≡ w ++ r → (word ≡ w) × (rest ≡ r)) → o ≡ first_named (map (λ row. (row.0.now, row.1)) REPLIES) word → o ≡ Some form → ReplyIs names v rest form
reply_of_form names v bytes word rest o form is back found at =
    let told = reply_tells names v bytes word rest o is back found in
    let kind : o ≡ Some (reply_kind v) = told.0 in
    let same : reply_kind v ≡ form = cc (kind, at) in
    subst (λ (f : ReplyForm). ReplyIs names v rest f) same (subst (λ (r : List ℕ). ReplyIs names v r (reply_kind v)) (sym told.1) (reply_is names v))

-- ---- reasons of refused commands

abbrev why_word : Why → List ℕ
why_word whys.Unset = codes "Unset"
why_word whys.BadMask = codes "BadMask"
why_word (whys.Table (refusals.NoData category)) = codes "NoData"
why_word (whys.Table refusals.GlobalHandle) = codes "GlobalHandle"
why_word (whys.Table refusals.NeverMade) = codes "NeverMade"
why_word (whys.Table refusals.Stale) = codes "Stale"
why_word (whys.Table refusals.TooMany) = codes "TooMany"
why_word (whys.Table refusals.AlreadyHeld) = codes "AlreadyHeld"
why_word (whys.Table refusals.NotHeld) = codes "NotHeld"
why_word (whys.Table refusals.EmptyCell) = codes "EmptyCell"
why_word whys.NoClass = codes "NoClass"
why_word (whys.TmRange field) = codes "TmRange"
why_word (whys.BadFormat at) = codes "BadFormat"
why_word (whys.MissingAmount at) = codes "MissingAmount"
why_word (whys.MissingNumber at) = codes "MissingNumber"
why_word (whys.Mismatch at) = codes "Mismatch"
why_word whys.TooBig = codes "TooBig"
why_word whys.NoCatalog = codes "NoCatalog"

abbrev why_rest : Why → List ℕ
why_rest whys.Unset = []
why_rest whys.BadMask = []
why_rest (whys.Table (refusals.NoData category)) = 32 ∷ category_name category
why_rest (whys.Table refusals.GlobalHandle) = []
why_rest (whys.Table refusals.NeverMade) = []
why_rest (whys.Table refusals.Stale) = []
why_rest (whys.Table refusals.TooMany) = []
why_rest (whys.Table refusals.AlreadyHeld) = []
why_rest (whys.Table refusals.NotHeld) = []
why_rest (whys.Table refusals.EmptyCell) = []
why_rest whys.NoClass = []
why_rest (whys.TmRange field) = 32 ∷ field_text field
why_rest (whys.BadFormat at) = 32 ∷ decimal at
why_rest (whys.MissingAmount at) = 32 ∷ decimal at
why_rest (whys.MissingNumber at) = 32 ∷ decimal at
why_rest (whys.Mismatch at) = 32 ∷ decimal at
why_rest whys.TooBig = []
why_rest whys.NoCatalog = []

abbrev why_kind : Why → WhyForm
why_kind whys.Unset = forms.Whole whys.Unset
why_kind whys.BadMask = forms.Whole whys.BadMask
why_kind (whys.Table (refusals.NoData category)) = forms.NoData
why_kind (whys.Table refusals.GlobalHandle) = forms.Whole (whys.Table refusals.GlobalHandle)
why_kind (whys.Table refusals.NeverMade) = forms.Whole (whys.Table refusals.NeverMade)
why_kind (whys.Table refusals.Stale) = forms.Whole (whys.Table refusals.Stale)
why_kind (whys.Table refusals.TooMany) = forms.Whole (whys.Table refusals.TooMany)
why_kind (whys.Table refusals.AlreadyHeld) = forms.Whole (whys.Table refusals.AlreadyHeld)
why_kind (whys.Table refusals.NotHeld) = forms.Whole (whys.Table refusals.NotHeld)
why_kind (whys.Table refusals.EmptyCell) = forms.Whole (whys.Table refusals.EmptyCell)
why_kind whys.NoClass = forms.Whole whys.NoClass
why_kind (whys.TmRange field) = forms.TmRange
why_kind (whys.BadFormat at) = forms.BadFormat
why_kind (whys.MissingAmount at) = forms.MissingAmount
why_kind (whys.MissingNumber at) = forms.MissingNumber
why_kind (whys.Mismatch at) = forms.Mismatch
why_kind whys.TooBig = forms.Whole whys.TooBig
why_kind whys.NoCatalog = forms.Whole whys.NoCatalog

why_parts : (v : Why) → why_text v ≡ why_word v ++ why_rest v
why_parts whys.Unset = refl
why_parts whys.BadMask = refl
why_parts (whys.Table (refusals.NoData category)) = refl
why_parts (whys.Table refusals.GlobalHandle) = refl
why_parts (whys.Table refusals.NeverMade) = refl
why_parts (whys.Table refusals.Stale) = refl
why_parts (whys.Table refusals.TooMany) = refl
why_parts (whys.Table refusals.AlreadyHeld) = refl
why_parts (whys.Table refusals.NotHeld) = refl
why_parts (whys.Table refusals.EmptyCell) = refl
why_parts whys.NoClass = refl
why_parts (whys.TmRange field) = refl
why_parts (whys.BadFormat at) = refl
why_parts (whys.MissingAmount at) = refl
why_parts (whys.MissingNumber at) = refl
why_parts (whys.Mismatch at) = refl
why_parts whys.TooBig = refl
why_parts whys.NoCatalog = refl

why_word_lacks : (v : Why) → Lacks (why_word v) 32
why_word_lacks whys.Unset = refl
why_word_lacks whys.BadMask = refl
why_word_lacks (whys.Table (refusals.NoData category)) = refl
why_word_lacks (whys.Table refusals.GlobalHandle) = refl
why_word_lacks (whys.Table refusals.NeverMade) = refl
why_word_lacks (whys.Table refusals.Stale) = refl
why_word_lacks (whys.Table refusals.TooMany) = refl
why_word_lacks (whys.Table refusals.AlreadyHeld) = refl
why_word_lacks (whys.Table refusals.NotHeld) = refl
why_word_lacks (whys.Table refusals.EmptyCell) = refl
why_word_lacks whys.NoClass = refl
why_word_lacks (whys.TmRange field) = refl
why_word_lacks (whys.BadFormat at) = refl
why_word_lacks (whys.MissingAmount at) = refl
why_word_lacks (whys.MissingNumber at) = refl
why_word_lacks (whys.Mismatch at) = refl
why_word_lacks whys.TooBig = refl
why_word_lacks whys.NoCatalog = refl

why_rest_behind : (v : Why) → IsBehindWord (why_rest v)
why_rest_behind whys.Unset = refl
why_rest_behind whys.BadMask = refl
why_rest_behind (whys.Table (refusals.NoData category)) = refl
why_rest_behind (whys.Table refusals.GlobalHandle) = refl
why_rest_behind (whys.Table refusals.NeverMade) = refl
why_rest_behind (whys.Table refusals.Stale) = refl
why_rest_behind (whys.Table refusals.TooMany) = refl
why_rest_behind (whys.Table refusals.AlreadyHeld) = refl
why_rest_behind (whys.Table refusals.NotHeld) = refl
why_rest_behind (whys.Table refusals.EmptyCell) = refl
why_rest_behind whys.NoClass = refl
why_rest_behind (whys.TmRange field) = refl
why_rest_behind (whys.BadFormat at) = refl
why_rest_behind (whys.MissingAmount at) = refl
why_rest_behind (whys.MissingNumber at) = refl
why_rest_behind (whys.Mismatch at) = refl
why_rest_behind whys.TooBig = refl
why_rest_behind whys.NoCatalog = refl

why_found : (v : Why) → first_named (map (λ row. (row.0.now, row.1)) WHYS) (why_word v) ≡ Some (why_kind v)
why_found whys.Unset = refl
why_found whys.BadMask = refl
why_found (whys.Table (refusals.NoData category)) = refl
why_found (whys.Table refusals.GlobalHandle) = refl
why_found (whys.Table refusals.NeverMade) = refl
why_found (whys.Table refusals.Stale) = refl
why_found (whys.Table refusals.TooMany) = refl
why_found (whys.Table refusals.AlreadyHeld) = refl
why_found (whys.Table refusals.NotHeld) = refl
why_found (whys.Table refusals.EmptyCell) = refl
why_found whys.NoClass = refl
why_found (whys.TmRange field) = refl
why_found (whys.BadFormat at) = refl
why_found (whys.MissingAmount at) = refl
why_found (whys.MissingNumber at) = refl
why_found (whys.Mismatch at) = refl
why_found whys.TooBig = refl
why_found whys.NoCatalog = refl

-- what a reason of a form is, and what stands behind its first word
abbrev pub WhyIs : Why → List ℕ → WhyForm → Type 0
WhyIs v rest (forms.Whole why) = v ≡ why
WhyIs v rest forms.NoData = (category : Category) × (v ≡ whys.Table (refusals.NoData category)) × (rest ≡ 32 ∷ category_name category)
WhyIs v rest forms.TmRange = (field : TmField) × (v ≡ whys.TmRange field) × (rest ≡ 32 ∷ field_text field)
WhyIs v rest forms.BadFormat = (at : ℕ) × (v ≡ whys.BadFormat at) × (rest ≡ 32 ∷ decimal at)
WhyIs v rest forms.MissingAmount = (at : ℕ) × (v ≡ whys.MissingAmount at) × (rest ≡ 32 ∷ decimal at)
WhyIs v rest forms.MissingNumber = (at : ℕ) × (v ≡ whys.MissingNumber at) × (rest ≡ 32 ∷ decimal at)
WhyIs v rest forms.Mismatch = (at : ℕ) × (v ≡ whys.Mismatch at) × (rest ≡ 32 ∷ decimal at)

why_is : (v : Why) → WhyIs v (why_rest v) (why_kind v)
why_is whys.Unset = refl
why_is whys.BadMask = refl
why_is (whys.Table (refusals.NoData category)) = (category, refl, refl)
why_is (whys.Table refusals.GlobalHandle) = refl
why_is (whys.Table refusals.NeverMade) = refl
why_is (whys.Table refusals.Stale) = refl
why_is (whys.Table refusals.TooMany) = refl
why_is (whys.Table refusals.AlreadyHeld) = refl
why_is (whys.Table refusals.NotHeld) = refl
why_is (whys.Table refusals.EmptyCell) = refl
why_is whys.NoClass = refl
why_is (whys.TmRange field) = (field, refl, refl)
why_is (whys.BadFormat at) = (at, refl, refl)
why_is (whys.MissingAmount at) = (at, refl, refl)
why_is (whys.MissingNumber at) = (at, refl, refl)
why_is (whys.Mismatch at) = (at, refl, refl)
why_is whys.TooBig = refl
why_is whys.NoCatalog = refl

why_tells : (v : Why) (bytes word rest : List ℕ) (o : Option WhyForm) → why_text v ≡ bytes → ((w r : List ℕ) → Lacks w 32 → IsBehindWord r → bytes ≡ w ++ r → (word ≡ w) × (rest ≡ r)) → o ≡ first_named (map (λ row. (row.0.now, row.1)) WHYS) word → (o ≡ Some (why_kind v)) × (rest ≡ why_rest v)
why_tells v bytes word rest o is back found =
    let both = back (why_word v) (why_rest v) (why_word_lacks v) (why_rest_behind v) (sym is ∙ why_parts v) in
    (found ∙ ap (λ w. first_named (map (λ row. (row.0.now, row.1)) WHYS) w) both.0 ∙ why_found v, both.1)

pub why_has_form : (v : Why) (bytes word rest : List ℕ) (o : Option WhyForm) → why_text v ≡ bytes → ((w r : List ℕ) → Lacks w 32 → IsBehindWord r → bytes ≡ w ++ r → (word ≡ w) × (rest ≡ r)) → o ≡ first_named (map (λ row. (row.0.now, row.1)) WHYS) word → o ≡ None → ⊥
why_has_form v bytes word rest o is back found none =
    let told : o ≡ Some (why_kind v) = (why_tells v bytes word rest o is back found).0 in
    cc (told, none)

pub why_of_form : (v : Why) (bytes word rest : List ℕ) (o : Option WhyForm) (form : WhyForm) → why_text v ≡ bytes → ((w r : List ℕ) → Lacks w 32 → IsBehindWord r → bytes ≡ w ++ r → (word ≡ w) × (rest ≡ r)) → o ≡ first_named (map (λ row. (row.0.now, row.1)) WHYS) word → o ≡ Some form → WhyIs v rest form
why_of_form v bytes word rest o form is back found at =
    let told = why_tells v bytes word rest o is back found in
    let kind : o ≡ Some (why_kind v) = told.0 in
    let same : why_kind v ≡ form = cc (kind, at) in
    subst (λ (f : WhyForm). WhyIs v rest f) same (subst (λ (r : List ℕ). WhyIs v r (why_kind v)) (sym told.1) (why_is v))
