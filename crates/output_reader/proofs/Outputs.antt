-- The lines of an output, one after another.
use Rattle.std.proofs.Common.{◌≡◌, ℕ, zero, suc, ◌+◌, ◌<◌, Bool, true, false, List, [], ◌∷◌, ◌++◌, length, map, get_or, nat_eq, refl, ap, sym, subst, ◌∙◌, arith}
use Rattle.std.specs.List.{AllByRecursion}
use Rattle.std.proofs.lemmas.Bool.{eqb-true}
use Rattle.std.proofs.lemmas.List.{nil_from_length, append_assoc, append-nil}
use Rattle.lc_base.specs.declared.fault.TextFault.{TextFault}
use Rattle.lc_base.specs.declared.fault.TextFault.TheVariants.{Memory}
use Rattle.output_reader.specs.declared.unread.Unread.{Unread}
use Rattle.output_reader.specs.declared.unread.Unread.TheVariants as unread
use Rattle.lc_base.specs.Lines.{ended, EndsLine}
use Rattle.script_out.specs.declared.output.OutLine.{OutLine}
use Rattle.script_out.specs.Output.{line_text, printed}
use Rattle.output_reader.specs.Lines.{whole_lines, IsPrinted, IsFirstUnprinted, BeginsUnprinted, FaultOf, fault_of, IsOneLine}
use Rattle.output_reader.specs.Ranges.{IsLine}
use Rattle.output_reader.specs.Reading.{Lacks}
use Rattle.output_reader.proofs.Cuts.{lacks_head, never_lacks, one_cut}
use Rattle.output_reader.proofs.Giving.{false_true}
use Rattle.output_reader.proofs.LineTexts.{pieces, line_pieces}

pub whole_ended : (line more : List ℕ) → Lacks line 10 → whole_lines (ended line ++ more) ≡ ended line ∷ whole_lines more
whole_ended [] more bare = refl
whole_ended (c ∷ cs) more bare =
    let b = lacks_head c cs 10 bare in
    rw (b.0, whole_ended cs more b.1) refl

pub whole_bare : (c : ℕ) (cs : List ℕ) → Lacks (c ∷ cs) 10 → whole_lines (c ∷ cs) ≡ (c ∷ cs) ∷ []
whole_bare c [] bare =
    let b = lacks_head c [] 10 bare in
    rw b.0 refl
whole_bare c (d ∷ ds) bare =
    let b = lacks_head c (d ∷ ds) 10 bare in
    rw (b.0, whole_bare d ds b.1) refl

-- a line's printed form has its newline
pub no_newline_unprinted : (names : List (List ℕ)) (bytes : List ℕ) → Lacks bytes 10 → IsPrinted names bytes → ⊥
no_newline_unprinted names bytes bare found =
    never_lacks (pieces names found.0) [] 10 (subst (λ (t : List ℕ). Lacks t 10) (sym found.2 ∙ line_pieces names found.0) bare)

printed_at : (names : List (List ℕ)) (lines : List OutLine) (tail : List (List ℕ)) (k : ℕ) → AllByRecursion (IsLine names) lines → k < length lines → IsPrinted names (get_or (map (line_text names) lines ++ tail) k [])
printed_at names [] tail k all lt = absurd (omega arith)
printed_at names (l ∷ ls) tail zero all lt = (l, all.0, refl)
printed_at names (l ∷ ls) tail (suc k) all lt = printed_at names ls tail k all.1 (omega arith)

next_at : (names : List (List ℕ)) (lines : List OutLine) (bad : List ℕ) (more : List (List ℕ)) → get_or (map (line_text names) lines ++ bad ∷ more) (length lines) [] ≡ bad
next_at names [] bad more = refl
next_at names (l ∷ ls) bad more = next_at names ls bad more

further : (names : List (List ℕ)) (lines : List OutLine) (bad : List ℕ) (more : List (List ℕ)) → length lines < length (map (line_text names) lines ++ bad ∷ more)
further names [] bad more = omega arith
further names (l ∷ ls) bad more = let later : length ls < length (map (line_text names) ls ++ bad ∷ more) = further names ls bad more in omega arith

-- the line behind those that were read is the first that none prints as
pub first_unprinted : (names : List (List ℕ)) (text : List ℕ) (lines : List OutLine) (bad : List ℕ) (more : List (List ℕ)) → AllByRecursion (IsLine names) lines → whole_lines text ≡ map (line_text names) lines ++ bad ∷ more → (IsPrinted names bad → ⊥) → IsFirstUnprinted names text (length lines)
first_unprinted names text lines bad more all is none = record {
  there = subst (λ (ls : List (List ℕ)). length lines < length ls) (sym is) (further names lines bad more);
  before = λ k lt. subst (λ (ls : List (List ℕ)). IsPrinted names (get_or ls k [])) (sym is) (printed_at names lines (bad ∷ more) k all lt);
  unprinted = λ found. none (subst (λ (b : List ℕ). IsPrinted names b) (next_at names lines bad more) (subst (λ (ls : List (List ℕ)). IsPrinted names (get_or ls (length lines) [])) is found));
}

-- ---- one more line

pub all_lines : (names : List (List ℕ)) (lines : List OutLine) (l : OutLine) → AllByRecursion (IsLine names) lines → IsLine names l → AllByRecursion (IsLine names) (lines ++ l ∷ [])
all_lines names [] l all one = (one, tt)
all_lines names (x ∷ xs) l all one = (all.0, all_lines names xs l all.1 one)

pub map_more : (names : List (List ℕ)) (lines : List OutLine) (l : OutLine) (tail : List (List ℕ)) → map (line_text names) (lines ++ l ∷ []) ++ tail ≡ map (line_text names) lines ++ line_text names l ∷ tail
map_more names [] l tail = refl
map_more names (x ∷ xs) l tail = ap (λ ls. line_text names x ∷ ls) (map_more names xs l tail)

pub printed_more : (names : List (List ℕ)) (lines : List OutLine) (l : OutLine) (tail : List ℕ) → printed (lines ++ l ∷ []) names ++ tail ≡ printed lines names ++ (line_text names l ++ tail)
printed_more names [] l tail = ap (λ t. t ++ tail) (append-nil (line_text names l))
printed_more names (x ∷ xs) l tail =
    append_assoc (line_text names x) (printed (xs ++ l ∷ []) names) tail
    ∙ ap (λ t. line_text names x ++ t) (printed_more names xs l tail)
    ∙ sym (append_assoc (line_text names x) (printed xs names) (line_text names l ++ tail))

-- ---- the first line of a text

pub bare_unprinted : (names : List (List ℕ)) (text : List ℕ) → Lacks text 10 → (text ≡ [] → ⊥) → BeginsUnprinted names text
bare_unprinted names [] bare some = absurd (some refl)
bare_unprinted names (c ∷ cs) bare some = record {
  bad = c ∷ cs;
  more = [];
  lines = whole_bare c cs bare;
  unprinted = no_newline_unprinted names (c ∷ cs) bare;
}

pub ended_unprinted : (names : List (List ℕ)) (text bytes rest : List ℕ) → EndsLine text bytes rest → ((l : OutLine) → IsLine names l → line_text names l ≡ ended bytes → ⊥) → BeginsUnprinted names text
ended_unprinted names text bytes rest cut none = record {
  bad = ended bytes;
  more = whole_lines rest;
  lines = ap (λ t. whole_lines t) cut.parts ∙ whole_ended bytes rest cut.bare;
  unprinted = λ found. none found.0 found.1 found.2;
}

-- ---- the refusal

fault_at : (names : List (List ℕ)) (text rest : List ℕ) (lines : List OutLine) (why : Unread) (number : ℕ) → number ≡ length lines + 1 → AllByRecursion (IsLine names) lines → whole_lines text ≡ map (line_text names) lines ++ whole_lines rest → (why ≡ unread.Unprinted → BeginsUnprinted names rest) → FaultOf names text (fault_of why number)
fault_at names text rest lines unread.Unprinted number counted all is begins =
    let first : BeginsUnprinted names rest = begins refl in
    let next : number ≡ suc (length lines) = omega arith in
    (refl, refl, length lines, next, first_unprinted names text lines first.bad first.more all (is ∙ ap (λ ls. map (line_text names) lines ++ ls) first.lines) first.unprinted)
fault_at names text rest lines unread.Memory number counted all is begins = tt

pub fault_found : (names : List (List ℕ)) (text rest : List ℕ) (lines : List OutLine) (why : Unread) (number : ℕ) (fault : TextFault) → fault ≡ fault_of why number → number ≡ length lines + 1 → AllByRecursion (IsLine names) lines → whole_lines text ≡ map (line_text names) lines ++ whole_lines rest → (why ≡ unread.Unprinted → BeginsUnprinted names rest) → FaultOf names text fault
fault_found names text rest lines why number fault at counted all is begins = subst (λ (f : TextFault). FaultOf names text f) (sym at) (fault_at names text rest lines why number counted all is begins)

pub not_empty : (l : List ℕ) (b : Bool) → b ≡ nat_eq (length l) 0 → b ≡ false → l ≡ [] → ⊥
not_empty l b e full is = false_true (sym full ∙ e ∙ ap (λ (k : List ℕ). nat_eq (length k) 0) is)

-- ---- lines that are found again

pub one_line_cut : (names : List (List ℕ)) (l : OutLine) (text bytes rest more : List ℕ) → EndsLine text bytes rest → IsOneLine names l → text ≡ line_text names l ++ more → (line_text names l ≡ ended bytes) × (rest ≡ more)
one_line_cut names l text bytes rest more cut one is =
    let first : text ≡ bytes ++ 10 ∷ rest = cut.parts ∙ append_assoc bytes (10 ∷ []) rest in
    let second : text ≡ one.bytes ++ 10 ∷ more = is ∙ ap (λ t. t ++ more) one.text ∙ append_assoc one.bytes (10 ∷ []) more in
    let both = one_cut bytes rest one.bytes more 10 cut.bare one.bare (sym first ∙ second) in
    (one.text ∙ ap (λ b. ended b) (sym both.0), both.1)

pub one_line_ends : (names : List (List ℕ)) (l : OutLine) (text more : List ℕ) → Lacks text 10 → IsOneLine names l → text ≡ line_text names l ++ more → ⊥
one_line_ends names l text more bare one is =
    let whole : text ≡ one.bytes ++ 10 ∷ more = is ∙ ap (λ t. t ++ more) one.text ∙ append_assoc one.bytes (10 ∷ []) more in
    never_lacks one.bytes more 10 (subst (λ (t : List ℕ). Lacks t 10) whole bare)

line_some : (names : List (List ℕ)) (l : OutLine) (more : List ℕ) → IsOneLine names l → line_text names l ++ more ≡ [] → ⊥
line_some names l more one is = one_line_ends names l [] more refl one (sym is)

abbrev pub AreLeft : List (List ℕ) → List OutLine → List OutLine → List ℕ → List OutLine → Type 0
AreLeft names all found rest later = (all ≡ found ++ later) × (rest ≡ printed later names) × AllByRecursion (λ l. IsLine names l × IsOneLine names l) later

-- what the first of the lines that are left is, and what follows it
pub record IsNext (names : List (List ℕ)) (all found : List OutLine) (rest : List ℕ) : Type 0 where
  pub line : OutLine
  pub more : List OutLine
  pub whole : all ≡ found ++ line ∷ more
  pub text : rest ≡ line_text names line ++ printed more names
  pub is : IsLine names line
  pub one : IsOneLine names line
  pub others : AllByRecursion (λ l. IsLine names l × IsOneLine names l) more

pub next_line : (names : List (List ℕ)) (all found : List OutLine) (rest : List ℕ) (later : List OutLine) → AreLeft names all found rest later → (rest ≡ [] → ⊥) → IsNext names all found rest
next_line names all found rest [] left some = absurd (some left.1)
next_line names all found rest (l ∷ ls) left some = record { line = l; more = ls; whole = left.0; text = left.1; is = left.2.0.0; one = left.2.0.1; others = left.2.1 }

pub line_read : (names : List (List ℕ)) (all found items : List OutLine) (rest behind : List ℕ) (l : OutLine) (next : IsNext names all found rest) → items ≡ found ++ l ∷ [] → l ≡ next.line → behind ≡ printed next.more names → (later : List OutLine) × AreLeft names all items behind later
line_read names all found items rest behind l next pushed same is =
    (next.more, (next.whole ∙ ap (λ k. found ++ k ∷ next.more) (sym same) ∙ sym (append_assoc found (l ∷ []) next.more) ∙ ap (λ k. k ++ next.more) (sym pushed), is, next.others))

pub all_read : (names : List (List ℕ)) (all found : List OutLine) (rest : List ℕ) (later : List OutLine) → AreLeft names all found rest later → rest ≡ [] → found ≡ all
all_read names all found rest [] left none = sym (left.0 ∙ append-nil found)
all_read names all found rest (l ∷ ls) left none = absurd (line_some names l (printed ls names) left.2.0.1 (sym left.1 ∙ none))

pub fault_memory : (why : Unread) (number : ℕ) (fault : TextFault) → fault ≡ fault_of why number → why ≡ unread.Memory → fault ≡ Memory
fault_memory why number fault at is = at ∙ ap (λ e. fault_of e number) is

pub is_empty_list : (l : List ℕ) (b : Bool) → b ≡ nat_eq (length l) 0 → b ≡ true → l ≡ []
is_empty_list l b e full = nil_from_length l (eqb-true (length l) 0 (sym e ∙ full))
