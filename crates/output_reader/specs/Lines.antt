-- The lines of an output, and which of them some value prints as.
use Rattle.std.specs.Prelude.{◌≡◌, ℕ, suc, ◌<◌, List, [], ◌∷◌, ◌++◌, length, map, slice_index_or, if◌then◌else◌, true, false, Result, MatchResult}
use Rattle.std.specs.List.{AllByRecursion, list_all, list_any}
use Rattle.lc_base.specs.Lines.{is_newline, onto_first, ended}
use Rattle.lc_base.specs.declared.fault.TextFault.{TextFault}
use Rattle.lc_base.specs.declared.fault.TextFault.TheVariants.{At, Memory}
use Rattle.lc_base.specs.declared.reason.Reason.TheVariants.{BadLine}
use Rattle.lc_base.specs.declared.reason.LinePart.TheVariants.{Argument}
use Rattle.script_words.specs.Names.{is_thread_name}
use Rattle.script_out.specs.declared.output.OutLine.{OutLine}
use Rattle.script_out.specs.Output.{line_text}
use Rattle.output_reader.specs.declared.unread.Unread.{Unread}
use Rattle.output_reader.specs.declared.unread.Unread.TheVariants as unread
use Rattle.output_reader.specs.Ranges.{IsLine}
use Rattle.output_reader.specs.Reading.{AreDistinct}

-- the lines of a text, each with its newline, which the last may lack
abbrev pub whole_lines : List ℕ → List (List ℕ)
whole_lines [] = []
whole_lines (c ∷ cs) = if is_newline c then (c ∷ []) ∷ whole_lines cs else onto_first c (whole_lines cs)

-- each name is formed as the name of a thread
abbrev pub AreThreadNames : List (List ℕ) → Type 0
AreThreadNames names = list_all is_thread_name names ≡ true

-- some line prints as these bytes, where the threads have these names
abbrev pub IsPrinted : List (List ℕ) → List ℕ → Type 0
IsPrinted names bytes = (l : OutLine) × IsLine names l × (line_text names l ≡ bytes)

-- each line of the text is the printed form of the one in its place
abbrev pub AreLinesOf : List (List ℕ) → List OutLine → List ℕ → Type 0
AreLinesOf names lines text = AllByRecursion (IsLine names) lines × (map (line_text names) lines ≡ whole_lines text)

-- the printed form of a line has one newline, at its end; that of a name with a newline has more
pub record IsOneLine (names : List (List ℕ)) (l : OutLine) : Type 0 where
  pub bytes : List ℕ
  pub text : line_text names l ≡ ended bytes
  pub bare : list_any is_newline bytes ≡ false

-- lines that are found again in their printed text
abbrev pub AreToldApart : List (List ℕ) → List OutLine → Type 0
AreToldApart names lines = AreDistinct names × AllByRecursion (λ l. IsLine names l × IsOneLine names l) lines

-- just these lines are answered, unless it is out of memory
abbrev pub GivesLines : List OutLine → Result (List OutLine) TextFault → Type 0
GivesLines lines result = MatchResult result (λ found. found ≡ lines) (λ e. e ≡ Memory)

-- the line at this index is the first of the text that no line prints as
pub record IsFirstUnprinted (names : List (List ℕ)) (text : List ℕ) (at : ℕ) : Type 0 where
  pub there : at < length (whole_lines text)
  pub before : (k : ℕ) → k < at → IsPrinted names (slice_index_or (whole_lines text) k [])
  pub unprinted : IsPrinted names (slice_index_or (whole_lines text) at []) → ⊥

-- the refusal of a text: at the first column of its first line that no line prints as; out of memory says nothing
abbrev pub FaultOf : List (List ℕ) → List ℕ → TextFault → Type 0
FaultOf names text Memory = Unit {0}
FaultOf names text (At place reason) = (reason ≡ BadLine Argument) × (place.column ≡ 1) × (at : ℕ) × (place.line ≡ suc at) × IsFirstUnprinted names text at

-- a text is the printed form of a line and what follows it
pub record BeginsWith (names : List (List ℕ)) (text : List ℕ) (l : OutLine) (rest : List ℕ) : Type 0 where
  pub is : IsLine names l
  pub lines : whole_lines text ≡ line_text names l ∷ whole_lines rest
  pub parts : text ≡ line_text names l ++ rest

-- no line prints as the first line of a text
pub record BeginsUnprinted (names : List (List ℕ)) (text : List ℕ) : Type 0 where
  pub bad : List ℕ
  pub more : List (List ℕ)
  pub lines : whole_lines text ≡ bad ∷ more
  pub unprinted : IsPrinted names bad → ⊥

-- the refusal of the line of this number
abbrev pub fault_of : Unread → ℕ → TextFault
fault_of unread.Unprinted number = At (record { line = number; column = 1 }) (BadLine Argument)
fault_of unread.Memory number = Memory
