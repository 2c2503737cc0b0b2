-- The lines of refused bundles, and each word of a reason.
use Rattle.std.proofs.Common.{◌≡◌, ℕ, List, [], ◌∷◌, ◌++◌, refl}
use Rattle.std.specs.Prelude.{codes}
use Rattle.std.specs.Fmt.{digits}
use Rattle.std.specs.List.{flat_map}
use Rattle.lc_base.specs.declared.reason.Reason.{Reason}
use Rattle.lc_base.specs.declared.reason.Reason.TheVariants as reasons
use Rattle.lc_base.specs.declared.reason.LinePart.TheVariants as parts
use Rattle.lc_base.specs.declared.reason.Limit.TheVariants as limits
use Rattle.lc_base.specs.declared.reason.Class.TheVariants as classes
use Rattle.script_out.specs.Output.{newline}
use Rattle.reason_rules.specs.Words.{reason_text}
use Rattle.script_out.specs.Refusal.{refusal_line}

abbrev refused : ℕ → ℕ → Reason → List ℕ
refused line column reason = refusal_line (record { line = line; column = column }) reason

-- the line stands before the column
directive_refused : refused 5 1 (reasons.BadLine parts.Directive) ≡ codes "refused: 5:1 BadLine directive\n"
unfolding digits
directive_refused = refl

commands_refused : refused 20002 12 (reasons.OverLimit limits.Commands) ≡ codes "refused: 20002:12 OverLimit commands\n"
unfolding digits
commands_refused = refl

key_refused : refused 2 9 reasons.NoLater ≡ codes "refused: 2:9 NoLater\n"
unfolding digits
key_refused = refl

-- a letter that is of two classes which exclude one another, by its value in decimal
classes_refused : refused 107 1 (reasons.Excluded classes.Upper classes.Cntrl 33280) ≡ codes "refused: 107:1 Excluded upper cntrl 33280\n"
unfolding digits
classes_refused = refl

-- a `%` at the first byte of a format
format_refused : refused 4 9 (reasons.BadFormat 0) ≡ codes "refused: 4:9 BadFormat 0\n"
unfolding digits
format_refused = refl

-- ---- the words, each on a line

abbrev words : List Reason → List ℕ
words rs = flat_map (λ r. reason_text r ++ newline) rs

parts_of_a_line : words (reasons.BadLine parts.Directive ∷ reasons.BadLine parts.Command ∷ reasons.BadLine parts.Argument ∷ reasons.BadLine parts.Thread ∷ []) ≡ codes "BadLine directive\nBadLine command\nBadLine argument\nBadLine thread\n"
parts_of_a_line = refl

limits_of_a_bundle : words (reasons.OverLimit limits.Locales ∷ reasons.OverLimit limits.Later ∷ reasons.OverLimit limits.Charmaps ∷ reasons.OverLimit limits.Threads ∷ reasons.OverLimit limits.Rounds ∷ reasons.OverLimit limits.Commands ∷ reasons.OverLimit limits.Format ∷ reasons.OverLimit limits.Amounts ∷ reasons.OverLimit limits.Numbers ∷ reasons.OverLimit limits.CommandText ∷ reasons.OverLimit limits.Catalogs ∷ []) ≡ codes "OverLimit locales\nOverLimit later\nOverLimit charmaps\nOverLimit threads\nOverLimit rounds\nOverLimit commands\nOverLimit format\nOverLimit amounts\nOverLimit numbers\nOverLimit text\nOverLimit catalogs\n"
limits_of_a_bundle = refl

limits_of_a_source : words (reasons.OverLimit limits.Names ∷ reasons.OverLimit limits.Operands ∷ reasons.OverLimit limits.Text ∷ reasons.OverLimit limits.Texts ∷ reasons.OverLimit limits.Conversions ∷ []) ≡ codes "OverLimit names\nOverLimit operands\nOverLimit string\nOverLimit list\nOverLimit conversions\n"
limits_of_a_source = refl

limits_of_a_catalog : words (reasons.OverLimit limits.Message ∷ reasons.OverLimit limits.Messages ∷ []) ≡ codes "OverLimit message\nOverLimit messages\n"
limits_of_a_catalog = refl

faults_of_a_catalog : words (reasons.BadMessage ∷ []) ≡ codes "BadMessage\n"
faults_of_a_catalog = refl

faults_of_a_bundle : words (reasons.NoEnd ∷ reasons.NameTwice ∷ reasons.NoCharmap ∷ reasons.NoNative ∷ reasons.NoThread ∷ reasons.NoLater ∷ []) ≡ codes "NoEnd\nNameTwice\nNoCharmap\nNoNative\nNoThread\nNoLater\n"
faults_of_a_bundle = refl

faults_of_a_charmap : words (reasons.BadHeader ∷ reasons.BadEncoding ∷ reasons.RangeBackward ∷ reasons.PortableMoved ∷ []) ≡ codes "BadHeader\nBadEncoding\nRangeBackward\nPortableMoved\n"
faults_of_a_charmap = refl

faults_of_a_source : words (reasons.WrongOperand ∷ reasons.BadEscape ∷ reasons.OpenString ∷ reasons.OpenName ∷ reasons.SectionTwice ∷ reasons.UnknownKeyword ∷ reasons.KeywordTwice ∷ reasons.CopyNotAlone ∷ reasons.UnknownCharacter ∷ reasons.CopyMissing ∷ reasons.CopyCycle ∷ []) ≡ codes "WrongOperand\nBadEscape\nOpenString\nOpenName\nSectionTwice\nUnknownKeyword\nKeywordTwice\nCopyNotAlone\nUnknownCharacter\nCopyMissing\nCopyCycle\n"
faults_of_a_source = refl

faults_of_a_category : words (reasons.BadClassName ∷ reasons.DigitsNotTen ∷ reasons.NotCased ∷ reasons.EmptyRadix ∷ reasons.BadCurrency ∷ reasons.BadNumber ∷ reasons.WrongCount ∷ reasons.BadEra ∷ reasons.FormatRank ∷ reasons.TooManyDigits ∷ []) ≡ codes "BadClassName\nDigitsNotTen\nNotCased\nEmptyRadix\nBadCurrency\nBadNumber\nWrongCount\nBadEra\nFormatRank\nTooManyDigits\n"
faults_of_a_category = refl

classes_by_name : words (reasons.Excluded classes.Upper classes.Lower 1 ∷ reasons.Excluded classes.Alpha classes.Digit 2 ∷ reasons.Excluded classes.Space classes.Cntrl 3 ∷ reasons.Excluded classes.Punct classes.Graph 4 ∷ reasons.Excluded classes.Print classes.Xdigit 5 ∷ []) ≡ codes "Excluded upper lower 1\nExcluded alpha digit 2\nExcluded space cntrl 3\nExcluded punct graph 4\nExcluded print xdigit 5\n"
unfolding digits
classes_by_name = refl
