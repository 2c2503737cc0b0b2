-- Each key that an accepted bundle installs is that of one of its later versions.
use Rattle.std.proofs.Common.{◌≡◌, ℕ, ◌+◌, Bool, true, false, not, cond, List, [], ◌∷◌, ◌++◌, length, Option, Some, None, Result, Ok, Err, refl, sym, ap, subst, ◌∙◌}
use Rattle.std.specs.Prelude.{◌-◌, ◌&&◌, IfOk, nat_le, is_some, position, codes}
use Rattle.std.specs.List.{All}
use Rattle.std.specs.Str.{bytes_eq}
use Rattle.std.proofs.lemmas.List.Elements.{All-push, All-nil}
use Rattle.lc_base.specs.declared.block.Block.{Block}
use Rattle.lc_base.specs.declared.block.Later.{Later}
use Rattle.lc_base.specs.declared.fault.TextFault.{TextFault}
use Rattle.lc_base.specs.declared.place.Place.{Place}
use Rattle.lc_base.specs.declared.reason.Reason.{Reason}
use Rattle.lc_base.specs.declared.reason.Reason.TheVariants.{BadLine, OverLimit, NoEnd, NoLater}
use Rattle.lc_base.specs.declared.reason.LinePart.TheVariants.{Command as CommandPart, Thread as ThreadPart}
use Rattle.lc_base.specs.declared.reason.Limit.TheVariants.{Commands}
use Rattle.lc_base.specs.Lines.{lines_of}
use Rattle.lc_base.specs.Reading.{Reads, ◌>>=◌, Gives}
use Rattle.lc_base.proofs.ReadingLemmas.{value_of}
use Rattle.script_commands.specs.declared.command.Command.{Command}
use Rattle.script_commands.specs.declared.command.Command.TheVariants.{Install, Selected, Use, LocaleName}
use Rattle.script_commands.specs.declared.command.Placed.{Placed}
use Rattle.script_commands.specs.declared.command.Read.{Read}
use Rattle.script_commands.specs.declared.known.Known.{Known}
use Rattle.script_commands.specs.Limits.{THREAD_LIMIT}
use Rattle.script_commands.specs.Known.{has_block, has_key, lacks_charset, lacks_locale}
use Rattle.script_commands.specs.Commands.{or_wrong, argument, read_as, no_more, is_over, target, target_word, lone_target, catalog_word, cell, known_key, key, command_text, base, new_command, dup_command, selection, use_command, setlocale_command, install_command, post_command, fetch_command, read_command, read_of_command, info_words, conv_words, class_words, upper_words, lower_words, money_words, time_words, number_words, parse_words, catopen_command, catgets_command, catclose_command, command_among, handle_read_command, own_read_command, catalog_command, shared_command, command, objects_table, shared_table, catalogs_table, own_reads_table, handle_reads_table}
use Rattle.script_words.specs.declared.table.Directive.{Directive}
use Rattle.script_words.specs.declared.table.Directive.TheVariants as directives
use Rattle.script_words.specs.Spans.{Span, start, whole_line, next_word}
use Rattle.lc_base.specs.Tables.{first_named}
use Rattle.script_words.specs.Tables.{directives_table}
use Rattle.script_words.specs.Names.{is_formed, is_locale_name, is_part_name, is_charmap_name, is_thread_name}
use Rattle.lc_base.specs.Numbers.{decimal_number}
use Rattle.script_words.specs.Words.{text_of_word, categories_of_word, mask_of_word, variable_of_word, key_of_word, cell_number}
use Rattle.script_lang.specs.Limits.{CHARMAP_LIMIT, LOCALE_LIMIT, LATER_LIMIT, CATALOG_LIMIT, ROUND_LIMIT, COMMAND_LIMIT}
use Rattle.script_lang.specs.declared.bundle.Bundle.{Bundle}
use Rattle.script_lang.specs.declared.reading.BlockKind.{BlockKind}
use Rattle.script_lang.specs.declared.reading.BlockKind.TheVariants as kinds
use Rattle.script_lang.specs.declared.reading.Opened.{Opened}
use Rattle.script_lang.specs.declared.reading.Reading.{Reading}
use Rattle.script_lang.specs.Reading.{at_first, one_word, two_words, three_words, with_open, or_no_directive, has_catalog, charmap_line, locale_line, later_line, catalog_line, native_line, with_current, new_thread, thread_line, round_line, line_of_directive, directive_line, with_command, command_line, begins_with, outside, with_block, with_line, inside, line_read, lines_read}
use Rattle.script_lang.specs.Accepted.{HasItsBlock, HasItsKeys, finished, known_of, bundle_with, bundle_of}

-- ---- what holds of all that is read

-- whatever the first part is
through : {A B : Type 0} (P : B → Type 0) (r : Reads A) (f : A → Reads B) → ((a : A) → IfOk (f a) P) → IfOk (r >>= f) P
through P (Ok a) f h = h a
through P (Err e) f h = tt

-- where something holds of the first part
after : {A B : Type 0} (Q : A → Type 0) (P : B → Type 0) (r : Reads A) (f : A → Reads B) → IfOk r Q → ((a : A) → Q a → IfOk (f a) P) → IfOk (r >>= f) P
after Q P (Ok a) f first h = h a first
after Q P (Err e) f first h = tt

unless : {A : Type 0} (P : A → Type 0) (b : Bool) (e : Place × Reason) (x : Reads A) → IfOk x P → IfOk (cond b (Err e) x) P
unless P true e x h = tt
unless P false e x h = h

either : {A : Type 0} (P : A → Type 0) (b : Bool) (x y : Reads A) → IfOk x P → IfOk y P → IfOk (cond b x y) P
either P true x y h k = h
either P false x y h k = k

-- ---- commands whose names are looked for

-- the key that a command installs is among these later versions'
abbrev IsKeyed : List Later → Command → Type 0
IsKeyed later c = (k : List ℕ) → c ≡ Install k → has_key later k ≡ true

install_key : (later : List Later) (k : List ℕ) → has_key later k ≡ true → IsKeyed later (Install k)
install_key later k there j e =
    let same : k ≡ j = cc in
    subst (λ (x : List ℕ). has_key later x ≡ true) same there

new_keyed : (later : List Later) (known : Option Known) (threads : List (List ℕ)) (s : Span) → IfOk (new_command known threads s) (IsKeyed later)
unfolding new_command
new_keyed later known threads s =
    through (IsKeyed later) (read_as variable_of_word s) _ (λ variable.
    through (IsKeyed later) (read_as mask_of_word variable.1) _ (λ mask.
    through (IsKeyed later) (read_as text_of_word mask.1) _ (λ locale.
    through (IsKeyed later) (base known threads locale.1) _ (λ named k e. absurd cc))))

dup_keyed : (later : List Later) (known : Option Known) (threads : List (List ℕ)) (s : Span) → IfOk (dup_command known threads s) (IsKeyed later)
unfolding dup_command
dup_keyed later known threads s =
    through (IsKeyed later) (read_as variable_of_word s) _ (λ variable.
    through (IsKeyed later) (lone_target known threads variable.1) _ (λ from k e. absurd cc))

selection_keyed : (later : List Later) (known : Option Known) (threads : List (List ℕ)) (w : Span) → IfOk (selection known threads w) (IsKeyed later)
selection_keyed later known threads w =
    either (IsKeyed later) (bytes_eq w.bytes (codes "?")) (Ok Selected) (target known threads w >>= λ named. Ok (Use named)) (λ k e. absurd cc)
    (through (IsKeyed later) (target known threads w) (λ named. Ok (Use named)) (λ named k e. absurd cc))

use_keyed : (later : List Later) (known : Option Known) (threads : List (List ℕ)) (s : Span) → IfOk (use_command known threads s) (IsKeyed later)
unfolding use_command
use_keyed later known threads s =
    through (IsKeyed later) (argument s) _ (λ word.
    after (IsKeyed later) (IsKeyed later) (selection known threads word.0) _ (selection_keyed later known threads word.0) (λ c keyed.
    through (IsKeyed later) (no_more word.1) _ (λ over. keyed)))

setlocale_keyed : (later : List Later) (s : Span) → IfOk (setlocale_command s) (IsKeyed later)
unfolding setlocale_command
setlocale_keyed later s =
    through (IsKeyed later) (read_as categories_of_word s) _ (λ categories.
    either (IsKeyed later) (is_over categories.1) (Ok (LocaleName categories.0)) _ (λ k e. absurd cc)
    (through (IsKeyed later) (read_as text_of_word categories.1) _ (λ locale. through (IsKeyed later) (no_more locale.1) _ (λ over k e. absurd cc))))

-- a key that is looked for is there
abbrev IsKeyOf : List Later → List ℕ → Type 0
IsKeyOf later k = has_key later k ≡ true

abbrev no_later : Span → Reads (List ℕ)
no_later w = Err (w.place, NoLater)

abbrev key_read : List ℕ → Reads (List ℕ)
key_read k = Ok k

known_key_there : (known : Known) (w : Span) (k : List ℕ) → IfOk (known_key (Some known) w k) (IsKeyOf known.later)
known_key_there known w k =
    (elim (has_key known.later k) as (λ b. has_key known.later k ≡ b → IfOk (cond (not b) (no_later w) (key_read k)) (IsKeyOf known.later)) [ true ↦ λ e. e | false ↦ λ e. tt ]) refl

key_there : (known : Known) (w : Span) → IfOk (key (Some known) w) (IsKeyOf known.later)
unfolding key
key_there known w = through (IsKeyOf known.later) (or_wrong w (key_of_word w.bytes)) (known_key (Some known) w) (λ k. known_key_there known w k)

install_keyed : (known : Known) (s : Span) → IfOk (install_command (Some known) s) (IsKeyed known.later)
unfolding install_command
install_keyed known s =
    through (IsKeyed known.later) (argument s) _ (λ word.
    after (IsKeyOf known.later) (IsKeyed known.later) (key (Some known) word.0) _ (key_there known word.0) (λ k there.
    through (IsKeyed known.later) (no_more word.1) _ (λ over. install_key known.later k there)))

post_keyed : (later : List Later) (known : Option Known) (threads : List (List ℕ)) (s : Span) → IfOk (post_command known threads s) (IsKeyed later)
unfolding post_command
post_keyed later known threads s =
    through (IsKeyed later) (read_as cell_number s) _ (λ number.
    through (IsKeyed later) (lone_target known threads number.1) _ (λ named k e. absurd cc))

fetch_keyed : (later : List Later) (known : Option Known) (threads : List (List ℕ)) (s : Span) → IfOk (fetch_command known threads s) (IsKeyed later)
unfolding fetch_command
fetch_keyed later known threads s =
    through (IsKeyed later) (read_as variable_of_word s) _ (λ variable.
    through (IsKeyed later) (argument variable.1) _ (λ word.
    through (IsKeyed later) (cell known threads word.0) _ (λ numbers.
    through (IsKeyed later) (no_more word.1) _ (λ over k e. absurd cc))))

read_keyed : (later : List Later) (words : Reads Read) → IfOk (read_command words) (IsKeyed later)
read_keyed later words = through (IsKeyed later) words _ (λ read k e. absurd cc)

read_of_keyed : (later : List Later) (known : Option Known) (threads : List (List ℕ)) (words : Span → Reads Read) (s : Span) → IfOk (read_of_command known threads words s) (IsKeyed later)
unfolding read_of_command
read_of_keyed later known threads words s =
    through (IsKeyed later) (target_word known threads s) _ (λ object.
    through (IsKeyed later) (words object.1) _ (λ read k e. absurd cc))

catopen_keyed : (later : List Later) (s : Span) → IfOk (catopen_command s) (IsKeyed later)
unfolding catopen_command
catopen_keyed later s =
    through (IsKeyed later) (read_as variable_of_word s) _ (λ variable.
    through (IsKeyed later) (read_as key_of_word variable.1) _ (λ name.
    through (IsKeyed later) (no_more name.1) _ (λ over k e. absurd cc)))

catgets_keyed : (later : List Later) (known : Option Known) (threads : List (List ℕ)) (s : Span) → IfOk (catgets_command known threads s) (IsKeyed later)
unfolding catgets_command
catgets_keyed later known threads s =
    through (IsKeyed later) (catalog_word known threads s) _ (λ named.
    through (IsKeyed later) (read_as decimal_number named.1) _ (λ set.
    through (IsKeyed later) (read_as decimal_number set.1) _ (λ message.
    through (IsKeyed later) (command_text message.1) _ (λ default.
    through (IsKeyed later) (no_more default.1) _ (λ over k e. absurd cc)))))

catclose_keyed : (later : List Later) (known : Option Known) (threads : List (List ℕ)) (s : Span) → IfOk (catclose_command known threads s) (IsKeyed later)
unfolding catclose_command
catclose_keyed later known threads s =
    through (IsKeyed later) (catalog_word known threads s) _ (λ named.
    through (IsKeyed later) (no_more named.1) _ (λ over k e. absurd cc))

-- each row of a table says a command whose key is there
abbrev IsKeyedTable : List Later → List (List ℕ × Reads Command) → Type 0
IsKeyedTable later [] = Unit {0}
IsKeyedTable later (row ∷ rows) = IfOk row.1 (IsKeyed later) × IsKeyedTable later rows

-- what a table of them says is so, where what is said otherwise is
among_keyed : (later : List Later) (rows : List (List ℕ × Reads Command)) (word : List ℕ) (otherwise : Reads Command) → IsKeyedTable later rows → IfOk otherwise (IsKeyed later) → IfOk (command_among rows word otherwise) (IsKeyed later)
among_keyed later [] word otherwise are is = is
among_keyed later (row ∷ rows) word otherwise are is = chosen (bytes_eq row.0 word) (among_keyed later rows word otherwise are.1 is) where
  chosen : (b : Bool) → IfOk (command_among rows word otherwise) (IsKeyed later) → IfOk (elim (cond b (Some row.1) (first_named rows word)) [ None ↦ otherwise | Some said ↦ said ]) (IsKeyed later)
  chosen true among = are.0
  chosen false among = among

-- what holds of a row, and of the rows behind it
both : {A B : Type 0} → A → B → A × B
both a b = (a, b)

handle_reads_keyed : (known : Known) (threads : List (List ℕ)) (s : Span) → IsKeyedTable known.later (handle_reads_table (Some known) threads s)
handle_reads_keyed known threads s =
    both (read_of_keyed known.later (Some known) threads info_words s) (
    both (read_of_keyed known.later (Some known) threads class_words s) (
    both (read_of_keyed known.later (Some known) threads upper_words s) (
    both (read_of_keyed known.later (Some known) threads lower_words s) (
    both (read_of_keyed known.later (Some known) threads money_words s) (
    both (read_of_keyed known.later (Some known) threads time_words s) (
    both (read_of_keyed known.later (Some known) threads number_words s) (
    both (read_of_keyed known.later (Some known) threads parse_words s) tt)))))))

own_reads_keyed : (known : Known) (threads : List (List ℕ)) (s : Span) → IsKeyedTable known.later (own_reads_table (Some known) threads s)
own_reads_keyed known threads s =
    both (read_keyed known.later (info_words s)) (
    both (read_keyed known.later (conv_words s)) (
    both (read_keyed known.later (class_words s)) (
    both (read_keyed known.later (upper_words s)) (
    both (read_keyed known.later (lower_words s)) (
    both (read_keyed known.later (money_words s)) (
    both (read_keyed known.later (time_words s)) (
    both (read_keyed known.later (number_words s)) (
    both (read_keyed known.later (parse_words s)) tt))))))))

catalogs_keyed : (known : Known) (threads : List (List ℕ)) (s : Span) → IsKeyedTable known.later (catalogs_table (Some known) threads s)
catalogs_keyed known threads s =
    both (catopen_keyed known.later s) (
    both (catgets_keyed known.later (Some known) threads s) (
    both (catclose_keyed known.later (Some known) threads s) tt))

shared_keyed : (known : Known) (threads : List (List ℕ)) (s : Span) → IsKeyedTable known.later (shared_table (Some known) threads s)
shared_keyed known threads s =
    both (setlocale_keyed known.later s) (
    both (install_keyed known s) (
    both (post_keyed known.later (Some known) threads s) (
    both (fetch_keyed known.later (Some known) threads s) tt)))

objects_keyed : (known : Known) (threads : List (List ℕ)) (s : Span) → IsKeyedTable known.later (objects_table (Some known) threads s)
objects_keyed known threads s =
    both (new_keyed known.later (Some known) threads s) (
    both (dup_keyed known.later (Some known) threads s) (
    both (through (IsKeyed known.later) (lone_target (Some known) threads s) _ (λ named k e. absurd cc)) (
    both (use_keyed known.later (Some known) threads s) (
    both (through (IsKeyed known.later) (lone_target (Some known) threads s) _ (λ named k e. absurd cc)) (
    both (through (IsKeyed known.later) (lone_target (Some known) threads s) _ (λ named k e. absurd cc)) (
    both (through (IsKeyed known.later) (lone_target (Some known) threads s) _ (λ named k e. absurd cc)) tt))))))

handle_read_keyed : (known : Known) (threads : List (List ℕ)) (w s : Span) → IfOk (handle_read_command (Some known) threads w s) (IsKeyed known.later)
unfolding handle_read_command
handle_read_keyed known threads w s =
    among_keyed known.later (handle_reads_table (Some known) threads s) w.bytes (Err (w.place, BadLine CommandPart)) (handle_reads_keyed known threads s) tt

own_read_keyed : (known : Known) (threads : List (List ℕ)) (w s : Span) → IfOk (own_read_command (Some known) threads w s) (IsKeyed known.later)
unfolding own_read_command
own_read_keyed known threads w s =
    among_keyed known.later (own_reads_table (Some known) threads s) w.bytes (handle_read_command (Some known) threads w s) (own_reads_keyed known threads s) (handle_read_keyed known threads w s)

catalog_keyed : (known : Known) (threads : List (List ℕ)) (w s : Span) → IfOk (catalog_command (Some known) threads w s) (IsKeyed known.later)
unfolding catalog_command
catalog_keyed known threads w s =
    among_keyed known.later (catalogs_table (Some known) threads s) w.bytes (own_read_command (Some known) threads w s) (catalogs_keyed known threads s) (own_read_keyed known threads w s)

shared_command_keyed : (known : Known) (threads : List (List ℕ)) (w s : Span) → IfOk (shared_command (Some known) threads w s) (IsKeyed known.later)
unfolding shared_command
shared_command_keyed known threads w s =
    among_keyed known.later (shared_table (Some known) threads s) w.bytes (catalog_command (Some known) threads w s) (shared_keyed known threads s) (catalog_keyed known threads w s)

command_keyed : (known : Known) (threads : List (List ℕ)) (w s : Span) → IfOk (command (Some known) threads w s) (IsKeyed known.later)
unfolding command
command_keyed known threads w s =
    among_keyed known.later (objects_table (Some known) threads s) w.bytes (shared_command (Some known) threads w s) (objects_keyed known threads s) (shared_command_keyed known threads w s)

-- ---- what a directive does

-- what is made of what is there
abbrev IsMadeOf : {A : Type 0} → Option A → (A → Reading) → Reading → Type 0
IsMadeOf None make made = ⊥
IsMadeOf (Some a) make made = made ≡ make a

made_of : {A : Type 0} (n : ℕ) (o : Option A) (f : A → Reads Reading) (make : A → Reading) → ((a : A) → IfOk (f a) (λ made. made ≡ make a)) → IfOk (or_no_directive n o >>= f) (IsMadeOf o make)
made_of n None f make h = tt
made_of n (Some a) f make h = h a

-- the block that each of the lines of blocks begins
abbrev charmap_opened : Reading → ℕ → Span → Reading
charmap_opened r n name = with_open r kinds.Charmap name.bytes [] n

abbrev locale_opened : Reading → ℕ → Span × Span → Reading
locale_opened r n words = with_open r kinds.Locale words.0.bytes words.1.bytes n

abbrev later_opened : Reading → ℕ → Span × Span × Span → Reading
later_opened r n words = with_open r (kinds.Later words.0.bytes) words.1.bytes words.2.bytes n

abbrev catalog_opened : Reading → ℕ → Span × Span → Reading
catalog_opened r n words = with_open r kinds.Catalog words.0.bytes words.1.bytes n

charmap_made : (known : Option Known) (r : Reading) (n : ℕ) (s : Span) → IfOk (charmap_line known r n s) (IsMadeOf (one_word s) (charmap_opened r n))
unfolding charmap_line
charmap_made known r n s =
    made_of n (one_word s) _ (charmap_opened r n) (λ name.
    let Is : Reading → Type 0 = λ made. made ≡ charmap_opened r n name in
    unless Is (not (is_charmap_name name.bytes)) _ _
    (unless Is (nat_le CHARMAP_LIMIT (length r.bundle.charmaps)) _ _
    (unless Is (is_some known && has_block r.bundle.charmaps name.bytes) _ _ refl)))

locale_made : (known : Option Known) (r : Reading) (n : ℕ) (s : Span) → IfOk (locale_line known r n s) (IsMadeOf (two_words s) (locale_opened r n))
unfolding locale_line
locale_made known r n s =
    made_of n (two_words s) _ (locale_opened r n) (λ words.
    let Is : Reading → Type 0 = λ made. made ≡ locale_opened r n words in
    unless Is (not (is_locale_name words.0.bytes && is_formed words.1.bytes)) _ _
    (unless Is (nat_le LOCALE_LIMIT (length r.bundle.locales)) _ _
    (unless Is (is_some known && has_block r.bundle.locales words.0.bytes) _ _
    (unless Is (lacks_charset known words.1.bytes) _ _ refl))))

later_made : (known : Option Known) (r : Reading) (n : ℕ) (s : Span) → IfOk (later_line known r n s) (IsMadeOf (three_words s) (later_opened r n))
unfolding later_line
later_made known r n s =
    made_of n (three_words s) _ (later_opened r n) (λ words.
    let Is : Reading → Type 0 = λ made. made ≡ later_opened r n words in
    unless Is (not (is_locale_name words.0.bytes && is_locale_name words.1.bytes && is_formed words.2.bytes)) _ _
    (unless Is (nat_le LATER_LIMIT (length r.bundle.later)) _ _
    (unless Is (is_some known && has_key r.bundle.later words.0.bytes) _ _
    (unless Is (lacks_charset known words.2.bytes) _ _ refl))))

catalog_made : (known : Option Known) (r : Reading) (n : ℕ) (s : Span) → IfOk (catalog_line known r n s) (IsMadeOf (two_words s) (catalog_opened r n))
unfolding catalog_line
catalog_made known r n s =
    made_of n (two_words s) _ (catalog_opened r n) (λ words.
    let Is : Reading → Type 0 = λ made. made ≡ catalog_opened r n words in
    unless Is (not (is_locale_name words.0.bytes && is_part_name words.1.bytes)) _ _
    (unless Is (nat_le CATALOG_LIMIT (length r.bundle.catalogs)) _ _
    (unless Is (is_some known && has_catalog r.bundle.catalogs words.0.bytes words.1.bytes) _ _ refl)))

-- the later versions so far, and the block that was begun
abbrev Alike : Reading → Reading → Type 0
Alike r s = (r.bundle.later ≡ s.bundle.later) × (r.begun ≡ s.begun)

-- a line that neither begins nor closes a block, and is no command
abbrev Keeps : Reading → Reading → Type 0
Keeps r made = Alike made r × (made.bundle.commands ≡ r.bundle.commands)

native_kept : (known : Option Known) (r : Reading) (n : ℕ) (s : Span) → IfOk (native_line known r n s) (Keeps r)
unfolding native_line
native_kept known r n s =
    through (Keeps r) (or_no_directive n (one_word s)) _ (λ name.
    unless (Keeps r) (not (is_formed name.bytes)) _ _
    (unless (Keeps r) (is_some r.bundle.native) _ _
    (unless (Keeps r) (lacks_locale known name.bytes) _ _ ((refl, refl), refl))))

-- the thread that goes on, or a new one
abbrev by_thread : Reading → ℕ → List ℕ → Option ℕ → Reads Reading
by_thread r n name thread = elim thread [
  | None ↦ new_thread r n name
  | Some t ↦ Ok (with_current r t)
]

by_thread_kept : (r : Reading) (n : ℕ) (name : List ℕ) (thread : Option ℕ) → IfOk (by_thread r n name thread) (Keeps r)
by_thread_kept r n name None = unless (Keeps r) (nat_le THREAD_LIMIT (length r.bundle.threads)) _ _ ((refl, refl), refl)
by_thread_kept r n name (Some t) = ((refl, refl), refl)

thread_kept : (r : Reading) (n : ℕ) (s : Span) → IfOk (thread_line r n s) (Keeps r)
unfolding thread_line
thread_kept r n s =
    through (Keeps r) (or_no_directive n (one_word s)) _ (λ name.
    unless (Keeps r) (not (is_thread_name name.bytes)) _ _ (by_thread_kept r n name.bytes (position (λ t. bytes_eq t name.bytes) r.bundle.threads)))

round_kept : (r : Reading) (n : ℕ) (s : Span) → IfOk (round_line r n s) (Keeps r)
unfolding round_line
round_kept r n s = unless (Keeps r) (not (is_over s)) _ _ (unless (Keeps r) (nat_le ROUND_LIMIT r.bundle.rounds) _ _ ((refl, refl), refl))

-- ---- no line but a command's adds a command

abbrev HasTheSame : Reading → Reading → Type 0
HasTheSame r made = made.bundle.commands ≡ r.bundle.commands

same_made : {A : Type 0} (r : Reading) (o : Option A) (make : A → Reading) (x : Reads Reading) → ((a : A) → HasTheSame r (make a)) → IfOk x (IsMadeOf o make) → IfOk x (HasTheSame r)
same_made r None make (Ok made) same is = absurd is
same_made r (Some a) make (Ok made) same is = ap (λ (m : Reading). m.bundle.commands) is ∙ same a
same_made r o make (Err e) same is = tt

same_kept : (r : Reading) (x : Reads Reading) → IfOk x (Keeps r) → IfOk x (HasTheSame r)
same_kept r (Ok made) kept = kept.1
same_kept r (Err e) kept = tt

of_directive_same : (known : Option Known) (r : Reading) (n : ℕ) (d : Directive) (s : Span) → IfOk (line_of_directive known r n d s) (HasTheSame r)
of_directive_same known r n directives.Charmap s = same_made r (one_word s) (charmap_opened r n) (charmap_line known r n s) (λ name. refl) (charmap_made known r n s)
of_directive_same known r n directives.Locale s = same_made r (two_words s) (locale_opened r n) (locale_line known r n s) (λ words. refl) (locale_made known r n s)
of_directive_same known r n directives.Later s = same_made r (three_words s) (later_opened r n) (later_line known r n s) (λ words. refl) (later_made known r n s)
of_directive_same known r n directives.Catalog s = same_made r (two_words s) (catalog_opened r n) (catalog_line known r n s) (λ words. refl) (catalog_made known r n s)
of_directive_same known r n directives.Native s = same_kept r (native_line known r n s) (native_kept known r n s)
of_directive_same known r n directives.Thread s = same_kept r (thread_line r n s) (thread_kept r n s)
of_directive_same known r n directives.Round s = same_kept r (round_line r n s) (round_kept r n s)

directive_same : (known : Option Known) (r : Reading) (n : ℕ) (line : List ℕ) → IfOk (directive_line known r n line) (HasTheSame r)
unfolding directive_line
directive_same known r n line =
    through (HasTheSame r) (or_no_directive n (next_word (whole_line n line))) _ (λ words.
    through (HasTheSame r) (or_no_directive n (first_named directives_table words.0.bytes)) _ (λ directive. of_directive_same known r n directive words.1))

-- ---- lines whose names are looked for

-- each command so far that installs a key installs one of these later versions
abbrev AreKeyed : List Later → Reading → Type 0
AreKeyed later r = All (HasItsBlock later) r.bundle.commands

directive_keyed : (later : List Later) (known : Option Known) (r : Reading) (n : ℕ) (line : List ℕ) → AreKeyed later r → IfOk (directive_line known r n line) (AreKeyed later)
directive_keyed later known r n line all = still (directive_line known r n line) (directive_same known r n line) where
  still : (x : Reads Reading) → IfOk x (HasTheSame r) → IfOk x (AreKeyed later)
  still (Ok made) same = subst (λ (ps : List Placed). All (HasItsBlock later) ps) (sym same) all
  still (Err e) same = tt

-- the line of a command, by the current thread
abbrev by_current : Option Known → Reading → Span → Span → Option ℕ → Reads Reading
by_current known r w s current = elim current [
  | None ↦ Err (w.place, BadLine ThreadPart)
  | Some t ↦ cond (nat_le COMMAND_LIMIT (length r.bundle.commands)) (Err (w.place, OverLimit Commands)) (command known r.bundle.threads w s >>= λ (c : Command). Ok (with_command r t c))
]

by_current_keyed : (known : Known) (r : Reading) (w s : Span) (current : Option ℕ) → AreKeyed known.later r → IfOk (by_current (Some known) r w s current) (AreKeyed known.later)
by_current_keyed known r w s None all = tt
by_current_keyed known r w s (Some t) all =
    unless (AreKeyed known.later) (nat_le COMMAND_LIMIT (length r.bundle.commands)) _ _
    (after (IsKeyed known.later) (AreKeyed known.later) (command (Some known) r.bundle.threads w s) _ (command_keyed known r.bundle.threads w s)
    (λ c keyed. All-push (HasItsBlock known.later) r.bundle.commands (record { round = r.bundle.rounds; thread = t; command = c }) all keyed))

command_line_keyed : (known : Known) (r : Reading) (w s : Span) → AreKeyed known.later r → IfOk (command_line (Some known) r w s) (AreKeyed known.later)
unfolding command_line
command_line_keyed known r w s all = by_current_keyed known r w s r.current all

-- a line outside of blocks, by its first word
abbrev by_word : Option Known → Reading → Option (Span × Span) → Reads Reading
by_word known r words = elim words [
  | None ↦ Ok r
  | Some x ↦ cond (begins_with 35 x.0.bytes) (Ok r) (command_line known r x.0 x.1)
]

by_word_keyed : (known : Known) (r : Reading) (words : Option (Span × Span)) → AreKeyed known.later r → IfOk (by_word (Some known) r words) (AreKeyed known.later)
by_word_keyed known r None all = all
by_word_keyed known r (Some x) all = either (AreKeyed known.later) (begins_with 35 x.0.bytes) (Ok r) (command_line (Some known) r x.0 x.1) all (command_line_keyed known r x.0 x.1 all)

outside_keyed : (known : Known) (r : Reading) (n : ℕ) (line : List ℕ) → AreKeyed known.later r → IfOk (outside (Some known) r n line) (AreKeyed known.later)
unfolding outside
outside_keyed known r n line all =
    either (AreKeyed known.later) (begins_with 46 line) (directive_line (Some known) r n line) (by_word (Some known) r (next_word (whole_line n line))) (directive_keyed known.later (Some known) r n line all)
    (by_word_keyed known r (next_word (whole_line n line)) all)

-- a block that is closed adds no command
closed_keyed : (later : List Later) (b : Bundle) (current : Option ℕ) (kind : BlockKind) (block : Block) → All (HasItsBlock later) b.commands → AreKeyed later (with_block b current kind block)
closed_keyed later b current kinds.Charmap block all = all
closed_keyed later b current kinds.Locale block all = all
closed_keyed later b current (kinds.Later key) block all = all
closed_keyed later b current kinds.Catalog block all = all

inside_keyed : (later : List Later) (r : Reading) (o : Opened) (line : List ℕ) → AreKeyed later r → AreKeyed later (inside r o line)
inside_keyed later r o line all =
    elim (bytes_eq line (codes ".end")) as (λ b. AreKeyed later (cond b (with_block r.bundle r.current o.kind o.block) (with_line r.bundle r.current o line))) [
      | true ↦ closed_keyed later r.bundle r.current o.kind o.block all
      | false ↦ all
    ]

-- a line, by the block that was begun
abbrev by_block : Option Known → Reading → ℕ → List ℕ → Option Opened → Reads Reading
by_block known r n line begun = elim begun [
  | None ↦ outside known r n line
  | Some o ↦ Ok (inside r o line)
]

by_block_keyed : (known : Known) (r : Reading) (n : ℕ) (line : List ℕ) (begun : Option Opened) → AreKeyed known.later r → IfOk (by_block (Some known) r n line begun) (AreKeyed known.later)
by_block_keyed known r n line None all = outside_keyed known r n line all
by_block_keyed known r n line (Some o) all = inside_keyed known.later r o line all

line_keyed : (known : Known) (r : Reading) (n : ℕ) (line : List ℕ) → AreKeyed known.later r → IfOk (line_read (Some known) r n line) (AreKeyed known.later)
unfolding line_read
line_keyed known r n line all = by_block_keyed known r n line r.begun all

lines_keyed : (known : Known) (r : Reading) (n : ℕ) (lines : List (List ℕ)) → AreKeyed known.later r → IfOk (lines_read (Some known) r n lines) (AreKeyed known.later)
lines_keyed known r n [] all = all
lines_keyed known r n (line ∷ lines) all =
    after (AreKeyed known.later) (AreKeyed known.later) (line_read (Some known) r n line) _ (line_keyed known r n line all) (λ more keyed. lines_keyed known more (n + 1) lines keyed)

-- ---- two readings of the same lines have the same later versions

-- what is read of both is alike
abbrev Agree : Reads Reading → Reads Reading → Type 0
Agree (Ok r) (Ok s) = Alike r s
Agree (Ok r) (Err e) = Unit {0}
Agree (Err e) y = Unit {0}

none : (x : Reads Reading) (e : Place × Reason) → Agree x (Err e)
none (Ok r) e = tt
none (Err f) e = tt

both_either : (b : Bool) (w x y z : Reads Reading) → Agree w y → Agree x z → Agree (cond b w x) (cond b y z)
both_either true w x y z h k = h
both_either false w x y z h k = k

both_through : {A : Type 0} (r : Reads A) (f g : A → Reads Reading) → ((a : A) → Agree (f a) (g a)) → Agree (r >>= f) (r >>= g)
both_through (Ok a) f g h = h a
both_through (Err e) f g h = tt

both_after : (x y : Reads Reading) (f g : Reading → Reads Reading) → Agree x y → ((r s : Reading) → Alike r s → Agree (f r) (g s)) → Agree (x >>= f) (y >>= g)
both_after (Ok r) (Ok s) f g alike h = h r s alike
both_after (Ok r) (Err e) f g alike h = none (f r) e
both_after (Err e) y f g alike h = tt

both_made : {A : Type 0} (o : Option A) (make other : A → Reading) (x y : Reads Reading) → ((a : A) → Alike (make a) (other a)) → IfOk x (IsMadeOf o make) → IfOk y (IsMadeOf o other) → Agree x y
both_made None make other (Ok r) (Ok s) alike is same = absurd is
both_made (Some a) make other (Ok r) (Ok s) alike is same =
    subst (λ (m : Reading). Alike m s) (sym is) (subst (λ (m : Reading). Alike (make a) m) (sym same) (alike a))
both_made o make other (Ok r) (Err e) alike is same = tt
both_made o make other (Err e) y alike is same = tt

both_kept : (r s : Reading) (x y : Reads Reading) → Alike r s → IfOk x (Keeps r) → IfOk y (Keeps s) → Agree x y
both_kept r s (Ok a) (Ok b) alike k l = (k.0.0 ∙ alike.0 ∙ sym l.0.0, k.0.1 ∙ alike.1 ∙ sym l.0.1)
both_kept r s (Ok a) (Err e) alike k l = tt
both_kept r s (Err e) y alike k l = tt

of_directive_alike : (known other : Option Known) (r s : Reading) (n : ℕ) (d : Directive) (w : Span) → Alike r s → Agree (line_of_directive known r n d w) (line_of_directive other s n d w)
of_directive_alike known other r s n directives.Charmap w alike =
    both_made (one_word w) (charmap_opened r n) (charmap_opened s n) (charmap_line known r n w) (charmap_line other s n w) (λ name. (alike.0, refl)) (charmap_made known r n w) (charmap_made other s n w)
of_directive_alike known other r s n directives.Locale w alike =
    both_made (two_words w) (locale_opened r n) (locale_opened s n) (locale_line known r n w) (locale_line other s n w) (λ words. (alike.0, refl)) (locale_made known r n w) (locale_made other s n w)
of_directive_alike known other r s n directives.Later w alike =
    both_made (three_words w) (later_opened r n) (later_opened s n) (later_line known r n w) (later_line other s n w) (λ words. (alike.0, refl)) (later_made known r n w) (later_made other s n w)
of_directive_alike known other r s n directives.Catalog w alike =
    both_made (two_words w) (catalog_opened r n) (catalog_opened s n) (catalog_line known r n w) (catalog_line other s n w) (λ words. (alike.0, refl)) (catalog_made known r n w) (catalog_made other s n w)
of_directive_alike known other r s n directives.Native w alike = both_kept r s (native_line known r n w) (native_line other s n w) alike (native_kept known r n w) (native_kept other s n w)
of_directive_alike known other r s n directives.Thread w alike = both_kept r s (thread_line r n w) (thread_line s n w) alike (thread_kept r n w) (thread_kept s n w)
of_directive_alike known other r s n directives.Round w alike = both_kept r s (round_line r n w) (round_line s n w) alike (round_kept r n w) (round_kept s n w)

directive_alike : (known other : Option Known) (r s : Reading) (n : ℕ) (line : List ℕ) → Alike r s → Agree (directive_line known r n line) (directive_line other s n line)
unfolding directive_line
directive_alike known other r s n line alike =
    both_through (or_no_directive n (next_word (whole_line n line))) _ _ (λ words.
    both_through (or_no_directive n (first_named directives_table words.0.bytes)) _ _ (λ directive. of_directive_alike known other r s n directive words.1 alike))

by_current_alike : (known other : Option Known) (r s : Reading) (w x : Span) (current others : Option ℕ) → Alike r s → Agree (by_current known r w x current) (by_current other s w x others)
by_current_alike known other r s w x current others alike = both_alike (by_current known r w x current) (by_current other s w x others) (adds known r current) (adds other s others) where
  adds : (known : Option Known) (r : Reading) (current : Option ℕ) → IfOk (by_current known r w x current) (λ made. Alike made r)
  adds known r None = tt
  adds known r (Some t) =
      unless (λ made. Alike made r) (nat_le COMMAND_LIMIT (length r.bundle.commands)) _ _ (through (λ made. Alike made r) (command known r.bundle.threads w x) _ (λ c. (refl, refl)))

  both_alike : (x y : Reads Reading) → IfOk x (λ made. Alike made r) → IfOk y (λ made. Alike made s) → Agree x y
  both_alike (Ok a) (Ok b) k l = (k.0 ∙ alike.0 ∙ sym l.0, k.1 ∙ alike.1 ∙ sym l.1)
  both_alike (Ok a) (Err e) k l = tt
  both_alike (Err e) y k l = tt

command_line_alike : (known other : Option Known) (r s : Reading) (w x : Span) → Alike r s → Agree (command_line known r w x) (command_line other s w x)
unfolding command_line
command_line_alike known other r s w x alike = by_current_alike known other r s w x r.current s.current alike

by_word_alike : (known other : Option Known) (r s : Reading) (words : Option (Span × Span)) → Alike r s → Agree (by_word known r words) (by_word other s words)
by_word_alike known other r s None alike = alike
by_word_alike known other r s (Some x) alike =
    both_either (begins_with 35 x.0.bytes) (Ok r) (command_line known r x.0 x.1) (Ok s) (command_line other s x.0 x.1) alike (command_line_alike known other r s x.0 x.1 alike)

outside_alike : (known other : Option Known) (r s : Reading) (n : ℕ) (line : List ℕ) → Alike r s → Agree (outside known r n line) (outside other s n line)
unfolding outside
outside_alike known other r s n line alike =
    both_either (begins_with 46 line) (directive_line known r n line) (by_word known r (next_word (whole_line n line))) (directive_line other s n line) (by_word other s (next_word (whole_line n line)))
    (directive_alike known other r s n line alike) (by_word_alike known other r s (next_word (whole_line n line)) alike)

closed_alike : (b c : Bundle) (current other : Option ℕ) (kind : BlockKind) (block : Block) → b.later ≡ c.later → Alike (with_block b current kind block) (with_block c other kind block)
closed_alike b c current other kinds.Charmap block same = (same, refl)
closed_alike b c current other kinds.Locale block same = (same, refl)
closed_alike b c current other (kinds.Later key) block same = (ap (λ (ls : List Later). ls ++ (record { key = key; block = block }) ∷ []) same, refl)
closed_alike b c current other kinds.Catalog block same = (same, refl)

inside_alike : (r s : Reading) (o : Opened) (line : List ℕ) → Alike r s → Alike (inside r o line) (inside s o line)
inside_alike r s o line alike =
    elim (bytes_eq line (codes ".end")) as (λ b. Alike (cond b (with_block r.bundle r.current o.kind o.block) (with_line r.bundle r.current o line)) (cond b (with_block s.bundle s.current o.kind o.block) (with_line s.bundle s.current o line))) [
      | true ↦ closed_alike r.bundle s.bundle r.current s.current o.kind o.block alike.0
      | false ↦ (alike.0, refl)
    ]

by_block_alike : (known other : Option Known) (r s : Reading) (n : ℕ) (line : List ℕ) (begun : Option Opened) → Alike r s → Agree (by_block known r n line begun) (by_block other s n line begun)
by_block_alike known other r s n line None alike = outside_alike known other r s n line alike
by_block_alike known other r s n line (Some o) alike = inside_alike r s o line alike

line_alike : (known other : Option Known) (r s : Reading) (n : ℕ) (line : List ℕ) → Alike r s → Agree (line_read known r n line) (line_read other s n line)
unfolding line_read
line_alike known other r s n line alike =
    subst (λ (begun : Option Opened). Agree (by_block known r n line r.begun) (by_block other s n line begun)) alike.1 (by_block_alike known other r s n line r.begun alike)

lines_alike : (known other : Option Known) (r s : Reading) (n : ℕ) (lines : List (List ℕ)) → Alike r s → Agree (lines_read known r n lines) (lines_read other s n lines)
lines_alike known other r s n [] alike = alike
lines_alike known other r s n (line ∷ lines) alike =
    both_after (line_read known r n line) (line_read other s n line) _ _ (line_alike known other r s n line alike) (λ a b more. lines_alike known other a b (n + 1) lines more)

-- ---- bundles

abbrev bundle_read : Bundle → Reads Bundle
bundle_read b = Ok b

same_bundle : (b c : Bundle) → bundle_read b ≡ bundle_read c → b ≡ c
same_bundle b c e = cc

-- the bundle of lines that are finished
abbrev by_end : Reading → Option Opened → Reads Bundle
by_end r begun = elim begun [ None ↦ Ok r.bundle | Some o ↦ Err (start (o.block.first_line - 1), NoEnd) ]

is_finished : (r : Reading) (b : Bundle) → finished r ≡ Ok b → r.bundle ≡ b
is_finished r b e = ended r.begun e where
  ended : (begun : Option Opened) → by_end r begun ≡ Ok b → r.bundle ≡ b
  ended None same = same_bundle r.bundle b same
  ended (Some o) same = absurd cc

both_ok : (x y : Reads Reading) (r s : Reading) → x ≡ Ok r → y ≡ Ok s → Agree x y → Alike r s
both_ok x y r s e f h = subst (λ (z : Reads Reading). Agree (Ok r) z) f (subst (λ (z : Reads Reading). Agree z y) e h)

same_later : (known other : Option Known) (threads others : List (List ℕ)) (lines : List (List ℕ)) (b c : Bundle) → bundle_with known threads lines ≡ Ok b → bundle_with other others lines ≡ Ok c → b.later ≡ c.later
unfolding bundle_with
same_later known other threads others lines b c e f =
    let first = value_of (lines_read known (at_first threads) 1 lines) finished b e in
    let second = value_of (lines_read other (at_first others) 1 lines) finished c f in
    let alike : Alike first.0 second.0 = both_ok _ _ first.0 second.0 first.1 second.1 (lines_alike known other (at_first threads) (at_first others) 1 lines (refl, refl)) in
    sym (ap (λ (x : Bundle). x.later) (is_finished first.0 b first.2)) ∙ alike.0 ∙ ap (λ (x : Bundle). x.later) (is_finished second.0 c second.2)

all_keyed : (known : Known) (threads : List (List ℕ)) (lines : List (List ℕ)) (b : Bundle) → bundle_with (Some known) threads lines ≡ Ok b → All (HasItsBlock known.later) b.commands
unfolding bundle_with
all_keyed known threads lines b e =
    let read = value_of (lines_read (Some known) (at_first threads) 1 lines) finished b e in
    subst (λ (x : Bundle). All (HasItsBlock known.later) x.commands) (is_finished read.0 b read.2)
    (subst (λ (x : Reads Reading). IfOk x (AreKeyed known.later)) read.1 (lines_keyed known (at_first threads) 1 lines (All-nil _)))

-- each key that a bundle installs is that of one of its later versions
pub all_installed : (text : List ℕ) (b : Bundle) → bundle_of text ≡ Ok b → All (HasItsBlock b.later) b.commands
unfolding bundle_of
all_installed text b e =
    let first = value_of (bundle_with None [] (lines_of text)) (λ first. bundle_with (Some (known_of first)) first.threads (lines_of text)) b e in
    let same : first.0.later ≡ b.later = same_later None (Some (known_of first.0)) [] first.0.threads (lines_of text) first.0 b first.1 first.2 in
    subst (λ (later : List Later). All (HasItsBlock later) b.commands) same (all_keyed (known_of first.0) first.0.threads (lines_of text) b first.2)

pub read_installed : (result : Result Bundle TextFault) (text : List ℕ) → Gives (λ (b : Bundle). b) result (bundle_of text) → IfOk result HasItsKeys
read_installed (Ok b) text gives = all_installed text b gives
read_installed (Err e) text gives = tt
