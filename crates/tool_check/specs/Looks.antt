-- The parts of a source, as far as its lines show them (our own).
use Rattle.std.specs.Prelude.{◌≡◌, ℕ, ◌==◌, nat_eq, nat_le, false, not, ◌&&◌, ◌||◌, Bool, List, [], ◌∷◌, ◌++◌, All, map, take, codes, Option, Some, None, if◌then◌else◌}
use Rattle.std.specs.List.{starts_with, list_all, flat_map, Contains}
use Rattle.lc_base.specs.declared.block.Block.{Block}
use Rattle.lc_base.specs.declared.category.Category.TheVariants.{Ctype, Numeric, Monetary, Time, Messages}
use Rattle.lc_base.specs.Categories.{category_name}
use Rattle.lc_base.specs.Lines.{lines_of, ended}
use Rattle.tool_check.specs.declared.looks.Look.{Look}
use Rattle.tool_check.specs.declared.looks.Look.TheVariants.{Outside, Section}
use Rattle.tool_check.specs.declared.looks.Passed.{Passed}
use Rattle.tool_check.specs.Texts.{from_word, is_alone, operand, from_mark}
use Rattle.lc_base.specs.Blanks.{is_blank}

-- the looks in their order: what stands outside of sections, and each category
abbrev pub look_at : ℕ → Look
look_at n =
    if n == 0 then Outside
    else if n == 1 then Section Ctype
    else if n == 2 then Section Numeric
    else if n == 3 then Section Monetary
    else if n == 4 then Section Time
    else Section Messages

-- a line whose first word begins as the header of a section
abbrev pub is_header : List ℕ → Bool
is_header line = starts_with nat_eq (from_word line) (codes "LC_")

-- whether this is there and is such a line
abbrev pub has_header : Option (List ℕ) → Bool
has_header None = false
has_header (Some line) = is_header line

-- a line that closes a section
abbrev pub is_end : List ℕ → Bool
is_end line = has_header (operand (codes "END") line)

-- whether this is there and is just this word
abbrev pub is_there_alone : List ℕ → Option (List ℕ) → Bool
is_there_alone word None = false
is_there_alone word (Some line) = is_alone word line

-- a line that closes the section with this name
abbrev pub closes : List ℕ → List ℕ → Bool
closes name line = is_there_alone name (operand (codes "END") line)

-- a sign, which is one byte from 0x21 to 0x7E, and blanks
abbrev pub is_sign : List ℕ → Bool
is_sign [] = false
is_sign (c ∷ blanks) = nat_le 33 c && nat_le c 126 && list_all is_blank blanks

-- whether what stands behind a word is there and is one sign
abbrev pub is_sign_operand : Option (List ℕ) → Bool
is_sign_operand None = false
is_sign_operand (Some rest) = is_sign (from_word rest)

-- a line that gives the escape character or the comment character
abbrev pub is_sign_line : List ℕ → Bool
is_sign_line line = is_sign_operand (operand (codes "escape_char") line) || is_sign_operand (operand (codes "comment_char") line)

-- before the first line: no section began
abbrev pub at_first : Passed
at_first = record { has_begun = false; is_inside = false; is_over = false }

-- whether a line opens a section that is looked at: of a category the first
abbrev pub begins : Look → Passed → List ℕ → Bool
begins Outside p line = is_header line
begins (Section category) p line = not p.is_over && is_alone (category_name category) line

-- whether a line closes such a section
abbrev pub ends : Look → List ℕ → Bool
ends Outside line = is_end line
ends (Section category) line = closes (category_name category) line

-- what the lines have up to this one
abbrev pub behind_line : Look → Passed → List ℕ → Passed
behind_line look p line = record {
  has_begun = p.has_begun || is_header line;
  is_inside = if p.is_inside then not (ends look line) else begins look p line;
  is_over = p.is_over || (p.is_inside && ends look line);
}

-- a line as it is taken: outside of sections without a byte order mark
abbrev pub seen_line : Passed → List ℕ → List ℕ
seen_line p line = if p.is_inside then line else from_mark line

-- whether a line is looked at: outside of sections, with the lines that open and close them; or in the first section of the
-- category, and the sign lines, which stand before the first section
abbrev pub is_kept : Look → Passed → List ℕ → Bool
is_kept Outside p line = not p.is_inside || is_end line
is_kept (Section category) p line = p.is_inside || begins (Section category) p line || (not p.has_begun && is_sign_line line)

-- a line that stands there, or an empty one
abbrev pub kept_line : Bool → List ℕ → List ℕ
kept_line kept line = if kept then line else []

-- the lines, with empty ones for those that are not looked at
abbrev pub lines_alone : Look → Passed → List (List ℕ) → List (List ℕ)
lines_alone look p [] = []
lines_alone look p (line ∷ lines) =
    kept_line (is_kept look p (seen_line p line)) (seen_line p line) ∷ lines_alone look (behind_line look p (seen_line p line)) lines

-- a text with what is looked at alone
abbrev pub text_alone : Look → List ℕ → List ℕ
text_alone look text = flat_map ended (lines_alone look at_first (lines_of text))

-- a block with what is looked at alone
abbrev pub block_alone : Look → Block → Block
block_alone look block = record block { text = text_alone look block.text }

-- what is looked at of one of these blocks
pub record IsOneAlone (look : Look) (blocks : List Block) (alone : Block) : Type 0 where
  pub block : Block
  pub there : Contains blocks block
  pub alone_is : alone ≡ block_alone look block

-- behind those before stand blocks with what is looked at, each of one of these
pub record AddsAlone (look : Look) (blocks old new : List Block) : Type 0 where
  pub more : List Block
  pub parts : new ≡ old ++ more
  pub each : All (IsOneAlone look blocks) more

-- what is looked at of the first of these blocks, and behind it of others
abbrev pub AreAlone : Look → List Block → List Block → Type 0
AreAlone look blocks alone = AddsAlone look blocks (map (block_alone look) (take 1 blocks)) alone
