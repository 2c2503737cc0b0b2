-- The lines that are commands, and the commands that are read of them.
use Rattle.std.proofs.Common.{◌≡◌, ℕ, ◌+◌, ◌==◌, ◌&&◌, not, Bool, true, false, List, [], ◌∷◌, length, drop, position, codes, Option, Some, None, Ok, Err, refl, sym, ap, ◌∙◌, arith, rules, length-append, if◌then◌else◌}
use Rattle.std.specs.Prelude.{is_some}
use Rattle.std.specs.List.{position_or_len}
use Rattle.std.specs.Str.{bytes_eq}
use Rattle.lc_base.specs.declared.block.Block.{Block}
use Rattle.lc_base.specs.declared.place.Place.{Place}
use Rattle.lc_base.specs.declared.reason.Reason.{Reason}
use Rattle.lc_base.specs.Lines.{lines_of}
use Rattle.lc_base.specs.Reading.{Reads, ◌>>=◌}
use Rattle.script_words.specs.declared.stretch.Within.TheVariants.{Bare}
use Rattle.script_words.specs.declared.table.Directive.{Directive}
use Rattle.script_words.specs.declared.table.Directive.TheVariants as directives
use Rattle.script_words.specs.Spans.{Span, whole_line, word_length, next_word}
use Rattle.lc_base.specs.Blanks.{is_blank}
use Rattle.lc_base.specs.Tables.{first_named}
use Rattle.script_words.specs.Tables.{directives_table}
use Rattle.script_commands.specs.declared.command.Command.{Command}
use Rattle.script_commands.specs.declared.known.Known.{Known}
use Rattle.script_commands.specs.Commands.{command}
use Rattle.script_lang.specs.declared.bundle.Bundle.{Bundle}
use Rattle.script_lang.specs.declared.reading.BlockKind.{BlockKind}
use Rattle.script_lang.specs.declared.reading.BlockKind.TheVariants as kinds
use Rattle.script_lang.specs.declared.reading.Opened.{Opened}
use Rattle.script_lang.specs.declared.reading.Reading.{Reading}
use Rattle.script_lang.specs.Accepted.{finished, bundle_with, bundle_of, known_of}
use Rattle.script_lang.specs.Reading.{begins_with, at_first, or_no_directive, one_word, two_words, three_words, charmap_line, locale_line, later_line, catalog_line, native_line, with_current, new_thread, thread_named, thread_line, round_line, line_of_directive, directive_line, with_command, command_line, outside, more_blocks, with_block, with_line, inside, line_read, lines_read}
use Rattle.tool_script.specs.Commands.{is_first_of_command, is_command, has_block, is_first_of_block, begins_block, is_inside_behind, command_lines}

-- ---- lines that are no commands

-- where something is read, a block is open behind it or not, and the commands are those before it
record Leads (r : Reading) (is_open : Bool) (reads : Reads Reading) : Type 0 where
  to : (m : Reading) → reads ≡ Ok m → (is_some m.begun ≡ is_open) × (m.bundle.commands ≡ r.bundle.commands)

leads_err : (r : Reading) (is_open : Bool) (e : Place × Reason) → Leads r is_open (Err e)
leads_err r is_open e = record { to = λ m h. absurd cc }

leads_ok : (r n : Reading) (is_open : Bool) → is_some n.begun ≡ is_open → n.bundle.commands ≡ r.bundle.commands → Leads r is_open (Ok n)
leads_ok r n is_open begun same = record {
  to = λ m h.
      let e : n ≡ m = cc in
      (ap (λ (x : Reading). is_some x.begun) (sym e) ∙ begun, ap (λ (x : Reading). x.bundle.commands) (sym e) ∙ same);
}

leads_if : (r : Reading) (is_open c : Bool) (x y : Reads Reading) → Leads r is_open x → Leads r is_open y → Leads r is_open (if c then x else y)
leads_if r is_open true x y at_x at_y = at_x
leads_if r is_open false x y at_x at_y = at_y

leads_then : {A : Type 0} (r : Reading) (is_open : Bool) (o : Reads A) (f : A → Reads Reading) → ((a : A) → Leads r is_open (f a)) → Leads r is_open (o >>= f)
leads_then r is_open (Ok a) f at_each = at_each a
leads_then r is_open (Err e) f at_each = leads_err r is_open e

leads_option : {A : Type 0} (r : Reading) (is_open : Bool) (o : Option A) (x : Reads Reading) (f : A → Reads Reading) → Leads r is_open x → ((a : A) → Leads r is_open (f a))
    → Leads r is_open (elim o [ None ↦ x | Some a ↦ f a ])
leads_option r is_open None x f at_none at_each = at_none
leads_option r is_open (Some a) x f at_none at_each = at_each a

charmap_leads : (known : Option Known) (r : Reading) (n : ℕ) (s : Span) → Leads r true (charmap_line known r n s)
unfolding charmap_line
charmap_leads known r n s = leads_then r true (or_no_directive n (one_word s)) _ (λ name. search (leads_if, leads_err, leads_ok, rules))

locale_leads : (known : Option Known) (r : Reading) (n : ℕ) (s : Span) → Leads r true (locale_line known r n s)
unfolding locale_line
locale_leads known r n s = leads_then r true (or_no_directive n (two_words s)) _ (λ words. search (leads_if, leads_err, leads_ok, rules))

later_leads : (known : Option Known) (r : Reading) (n : ℕ) (s : Span) → Leads r true (later_line known r n s)
unfolding later_line
later_leads known r n s = leads_then r true (or_no_directive n (three_words s)) _ (λ words. search (leads_if, leads_err, leads_ok, rules))

catalog_leads : (known : Option Known) (r : Reading) (n : ℕ) (s : Span) → Leads r true (catalog_line known r n s)
unfolding catalog_line
catalog_leads known r n s = leads_then r true (or_no_directive n (two_words s)) _ (λ words. search (leads_if, leads_err, leads_ok, rules))

native_leads : (known : Option Known) (r : Reading) (n : ℕ) (s : Span) → is_some r.begun ≡ false → Leads r false (native_line known r n s)
unfolding native_line
native_leads known r n s closed = leads_then r false (or_no_directive n (one_word s)) _ (λ name. search (leads_if, leads_err, leads_ok, rules))

named_thread_leads : (r : Reading) (n : ℕ) (name : List ℕ) → is_some r.begun ≡ false → Leads r false (thread_named r n name)
named_thread_leads r n name closed =
    leads_option r false (position (λ t. bytes_eq t name) r.bundle.threads) (new_thread r n name) (λ t. Ok (with_current r t))
    (search (leads_if, leads_err, leads_ok, rules)) (λ t. leads_ok r (with_current r t) false closed refl)

thread_leads : (r : Reading) (n : ℕ) (s : Span) → is_some r.begun ≡ false → Leads r false (thread_line r n s)
unfolding thread_line
thread_leads r n s closed = leads_then r false (or_no_directive n (one_word s)) _ (λ name. search (leads_if, leads_err, named_thread_leads, rules))

round_leads : (r : Reading) (n : ℕ) (s : Span) → is_some r.begun ≡ false → Leads r false (round_line r n s)
unfolding round_line
round_leads r n s closed = search (leads_if, leads_err, leads_ok, rules)

directive_leads : (known : Option Known) (r : Reading) (n : ℕ) (d : Directive) (s : Span) → is_some r.begun ≡ false → Leads r (has_block (Some d)) (line_of_directive known r n d s)
directive_leads known r n directives.Charmap s closed = charmap_leads known r n s
directive_leads known r n directives.Locale s closed = locale_leads known r n s
directive_leads known r n directives.Later s closed = later_leads known r n s
directive_leads known r n directives.Catalog s closed = catalog_leads known r n s
directive_leads known r n directives.Native s closed = native_leads known r n s closed
directive_leads known r n directives.Thread s closed = thread_leads r n s closed
directive_leads known r n directives.Round s closed = round_leads r n s closed

named_leads : (known : Option Known) (r : Reading) (n : ℕ) (named : Option Directive) (s : Span) → is_some r.begun ≡ false
    → Leads r (has_block named) (or_no_directive n named >>= λ d. line_of_directive known r n d s)
named_leads known r n None s closed = leads_err r false _
named_leads known r n (Some d) s closed = directive_leads known r n d s closed

worded_leads : (known : Option Known) (r : Reading) (n : ℕ) (words : Option (Span × Span)) → is_some r.begun ≡ false
    → Leads r (is_first_of_block words) (or_no_directive n words >>= λ w. or_no_directive n (first_named directives_table w.0.bytes) >>= λ d. line_of_directive known r n d w.1)
worded_leads known r n None closed = leads_err r false _
worded_leads known r n (Some w) closed = named_leads known r n (first_named directives_table w.0.bytes) w.1 closed

-- ---- the first word of a line does not depend on its number

command_same : (c : Bool) (a b : Span × Span) → a.0.bytes ≡ b.0.bytes → is_first_of_command (if c then None else Some a) ≡ is_first_of_command (if c then None else Some b)
command_same true a b e = refl
command_same false a b e = ap (λ (bytes : List ℕ). not (begins_with 35 bytes)) e

block_same : (c : Bool) (a b : Span × Span) → a.0.bytes ≡ b.0.bytes → is_first_of_block (if c then None else Some a) ≡ is_first_of_block (if c then None else Some b)
block_same true a b e = refl
block_same false a b e = ap (λ (bytes : List ℕ). has_block (first_named directives_table bytes)) e

command_at_any : (n : ℕ) (line : List ℕ) → is_first_of_command (next_word (whole_line n line)) ≡ is_first_of_command (next_word (whole_line 1 line))
unfolding next_word
command_at_any n line = command_same (word_length Bare (drop (position_or_len (λ c. not (is_blank c)) line) line) == 0) _ _ refl

block_at_any : (n : ℕ) (line : List ℕ) → is_first_of_block (next_word (whole_line n line)) ≡ is_first_of_block (next_word (whole_line 1 line))
unfolding next_word
block_at_any n line = block_same (word_length Bare (drop (position_or_len (λ c. not (is_blank c)) line) line) == 0) _ _ refl

-- ---- a line

-- how many commands a line has
abbrev one_if : Bool → ℕ
one_if b = if b then 1 else 0

-- what reading a line leads to
record Steps (r m : Reading) (is_open has_command : Bool) : Type 0 where
  begun : is_some m.begun ≡ is_open
  count : length m.bundle.commands ≡ length r.bundle.commands + one_if has_command

led : (r m : Reading) (is_open : Bool) (reads : Reads Reading) → Leads r is_open reads → reads ≡ Ok m → Steps r m is_open false
led r m is_open reads leads e = record { begun = (leads.to m e).0; count = omega (arith, ap length (leads.to m e).1) }

same_reading : (r m : Reading) → is_some r.begun ≡ false → ◌≡◌ {A = Reads Reading} (Ok r) (Ok m) → Steps r m false false
same_reading r m closed h = led r m false (Ok r) (leads_ok r r false closed refl) h

-- where a command is read, it is one more
after_command : (r m : Reading) (t : ℕ) (x : Reads Command) → is_some r.begun ≡ false → (x >>= λ c. Ok (with_command r t c)) ≡ Ok m → Steps r m false true
after_command r m t (Err e) closed h = absurd cc
after_command r m t (Ok c) closed h =
    let e : with_command r t c ≡ m = cc in
    record {
      begun = ap (λ (x : Reading). is_some x.begun) (sym e) ∙ closed;
      count = omega (arith, ap (λ (x : Reading). length x.bundle.commands) e, length-append r.bundle.commands ((record { round = r.bundle.rounds; thread = t; command = c }) ∷ []));
    }

after_test : (r m : Reading) (b : Bool) (e : Place × Reason) (t : ℕ) (x : Reads Command) → is_some r.begun ≡ false
    → (if b then Err e else (x >>= λ c. Ok (with_command r t c))) ≡ Ok m → Steps r m false true
after_test r m true e t x closed h = absurd cc
after_test r m false e t x closed h = after_command r m t x closed h

after_thread : (r m : Reading) (current : Option ℕ) (b : Bool) (e e' : Place × Reason) (x : Reads Command) → is_some r.begun ≡ false
    → ◌≡◌ {A = Reads Reading} (elim current [ None ↦ Err e | Some t ↦ if b then Err e' else (x >>= λ c. Ok (with_command r t c)) ]) (Ok m) → Steps r m false true
after_thread r m None b e e' x closed h = absurd cc
after_thread r m (Some t) b e e' x closed h = after_test r m b e' t x closed h

command_steps : (known : Option Known) (r m : Reading) (w s : Span) → is_some r.begun ≡ false → command_line known r w s ≡ Ok m → Steps r m false true
unfolding command_line
command_steps known r m w s closed h = after_thread r m r.current _ _ _ (command known r.bundle.threads w s) closed h

after_mark : (known : Option Known) (r m : Reading) (b : Bool) (w s : Span) → is_some r.begun ≡ false → (if b then Ok r else command_line known r w s) ≡ Ok m → Steps r m false (not b)
after_mark known r m true w s closed h = same_reading r m closed h
after_mark known r m false w s closed h = command_steps known r m w s closed h

plain_steps : (known : Option Known) (r m : Reading) (words : Option (Span × Span)) → is_some r.begun ≡ false
    → ◌≡◌ {A = Reads Reading} (elim words [ None ↦ Ok r | Some x ↦ if begins_with 35 x.0.bytes then Ok r else command_line known r x.0 x.1 ]) (Ok m) → Steps r m false (is_first_of_command words)
plain_steps known r m None closed h = same_reading r m closed h
plain_steps known r m (Some x) closed h = after_mark known r m (begins_with 35 x.0.bytes) x.0 x.1 closed h

by_dot : (known : Option Known) (r m : Reading) (n : ℕ) (words : Option (Span × Span)) (b : Bool) → is_some r.begun ≡ false
    → ◌≡◌ {A = Reads Reading} (if b
    then (or_no_directive n words >>= λ w. or_no_directive n (first_named directives_table w.0.bytes) >>= λ d. line_of_directive known r n d w.1)
    else (elim words [ None ↦ Ok r | Some x ↦ if begins_with 35 x.0.bytes then Ok r else command_line known r x.0 x.1 ])) (Ok m)
    → Steps r m (b && is_first_of_block words) (not b && is_first_of_command words)
by_dot known r m n words true closed h = led r m (is_first_of_block words) _ (worded_leads known r n words closed) h
by_dot known r m n words false closed h = plain_steps known r m words closed h

outside_at : (known : Option Known) (r m : Reading) (n : ℕ) (line : List ℕ) → is_some r.begun ≡ false → outside known r n line ≡ Ok m
    → Steps r m (begins_with 46 line && is_first_of_block (next_word (whole_line n line))) (not (begins_with 46 line) && is_first_of_command (next_word (whole_line n line)))
unfolding outside directive_line
outside_at known r m n line closed h = by_dot known r m n (next_word (whole_line n line)) (begins_with 46 line) closed h

outside_steps : (known : Option Known) (r m : Reading) (n : ℕ) (line : List ℕ) → is_some r.begun ≡ false → outside known r n line ≡ Ok m → Steps r m (begins_block line) (is_command line)
unfolding is_command begins_block
outside_steps known r m n line closed h =
    let steps = outside_at known r m n line closed h in
    record {
      begun = steps.begun ∙ ap (λ (b : Bool). begins_with 46 line && b) (block_at_any n line);
      count = steps.count ∙ ap (λ (b : Bool). length r.bundle.commands + one_if (not (begins_with 46 line) && b)) (command_at_any n line);
    }

more_same : (b : Bundle) (kind : BlockKind) (block : Block) → (more_blocks b kind block).commands ≡ b.commands
more_same b kinds.Charmap block = refl
more_same b kinds.Locale block = refl
more_same b (kinds.Later key) block = refl
more_same b kinds.Catalog block = refl

inside_by : (r m : Reading) (o : Opened) (line : List ℕ) (c : Bool)
    → ◌≡◌ {A = Reads Reading} (Ok (if c then with_block r.bundle r.current o.kind o.block else with_line r.bundle r.current o line)) (Ok m) → Steps r m (not c) false
inside_by r m o line true h =
    led r m false (Ok (with_block r.bundle r.current o.kind o.block)) (leads_ok r (with_block r.bundle r.current o.kind o.block) false refl (more_same r.bundle o.kind o.block)) h
inside_by r m o line false h =
    led r m true (Ok (with_line r.bundle r.current o line)) (leads_ok r (with_line r.bundle r.current o line) true refl refl) h

by_begun : (known : Option Known) (r m : Reading) (n : ℕ) (line : List ℕ) (begun : Option Opened) → is_some r.begun ≡ is_some begun
    → ◌≡◌ {A = Reads Reading} (elim begun [ None ↦ outside known r n line | Some o ↦ Ok (inside r o line) ]) (Ok m) → Steps r m (is_inside_behind (is_some begun) line) (not (is_some begun) && is_command line)
by_begun known r m n line None closed h = outside_steps known r m n line closed h
by_begun known r m n line (Some o) closed h = inside_by r m o line (bytes_eq line (codes ".end")) h

line_steps : (known : Option Known) (r m : Reading) (n : ℕ) (line : List ℕ) → line_read known r n line ≡ Ok m
    → Steps r m (is_inside_behind (is_some r.begun) line) (not (is_some r.begun) && is_command line)
unfolding line_read
line_steps known r m n line h = by_begun known r m n line r.begun refl h

-- ---- lines

record Middle {A B : Type 0} (o : Reads A) (f : A → Reads B) (b : B) : Type 0 where
  mid : A
  is : o ≡ Ok mid
  more : f mid ≡ Ok b

middle : {A B : Type 0} (o : Reads A) (f : A → Reads B) (b : B) → (o >>= f) ≡ Ok b → Middle o f b
middle (Ok a) f b h = record { mid = a; is = refl; more = h }
middle (Err e) f b h = absurd cc

chosen_length : (b : Bool) (line : List ℕ) (lines : List (List ℕ)) → length (if b then line ∷ lines else lines) ≡ one_if b + length lines
chosen_length true line lines = omega arith
chosen_length false line lines = omega arith

counted : (known : Option Known) (r m : Reading) (n : ℕ) (lines : List (List ℕ)) → lines_read known r n lines ≡ Ok m
    → length r.bundle.commands + length (command_lines (is_some r.begun) lines) ≡ length m.bundle.commands
counted known r m n [] h =
    let e : r ≡ m = cc in
    omega (arith, ap (λ (x : Reading). length x.bundle.commands) e)
counted known r m n (line ∷ lines) h =
    let mid = middle (line_read known r n line) (λ more. lines_read known more (n + 1) lines) m h in
    let steps = line_steps known r mid.mid n line mid.is in
    let later = counted known mid.mid m (n + 1) lines mid.more in
    let rest = command_lines (is_inside_behind (is_some r.begun) line) lines in
    let at : length (command_lines (is_some mid.mid.begun) lines) ≡ length rest = ap (λ (b : Bool). length (command_lines b lines)) steps.begun in
    omega (arith, later, steps.count, at, chosen_length (not (is_some r.begun) && is_command line) line rest)

-- ---- a text

finished_is : (r : Reading) (begun : Option Opened) (b : Bundle) (e : Opened → Place × Reason) → ◌≡◌ {A = Reads Bundle} (elim begun [ None ↦ Ok r.bundle | Some o ↦ Err (e o) ]) (Ok b) → r.bundle ≡ b
finished_is r None b e h = cc
finished_is r (Some o) b e h = absurd cc

spelled : (known : Option Known) (threads : List (List ℕ)) (lines : List (List ℕ)) (b : Bundle) → bundle_with known threads lines ≡ Ok b → length (command_lines false lines) ≡ length b.commands
unfolding bundle_with
spelled known threads lines b h =
    let mid = middle (lines_read known (at_first threads) 1 lines) finished b h in
    let all = counted known (at_first threads) mid.mid 1 lines mid.is in
    omega (arith, all, ap (λ (x : Bundle). length x.commands) (finished_is mid.mid mid.mid.begun b _ mid.more))

pub each_has_its_line : (text : List ℕ) (b : Bundle) → bundle_of text ≡ Ok b → length (command_lines false (lines_of text)) ≡ length b.commands
unfolding bundle_of
each_has_its_line text b h =
    let mid = middle (bundle_with None [] (lines_of text)) (λ first. bundle_with (Some (known_of first)) first.threads (lines_of text)) b h in
    spelled (Some (known_of mid.mid)) mid.mid.threads (lines_of text) b mid.more
