-- The numbers of reasons in the table of rules (our own).
use Rattle.std.specs.Prelude.{ℕ}
use Rattle.lc_base.specs.declared.reason.Limit.{Limit}
use Rattle.lc_base.specs.declared.reason.Limit.TheVariants as limits
use Rattle.lc_base.specs.declared.reason.LinePart.{LinePart}
use Rattle.lc_base.specs.declared.reason.LinePart.TheVariants as line
use Rattle.lc_base.specs.declared.reason.Reason.{Reason}
use Rattle.lc_base.specs.declared.reason.Reason.TheVariants as reasons

-- the row of a part of a line
abbrev pub part_row : LinePart → ℕ
part_row line.Directive = 0
part_row line.Command = 2
part_row line.Argument = 3
part_row line.Thread = 1

-- the row of a limit
abbrev pub limit_row : Limit → ℕ
limit_row limits.Locales = 5
limit_row limits.Later = 6
limit_row limits.Charmaps = 7
limit_row limits.Threads = 8
limit_row limits.Rounds = 9
limit_row limits.Commands = 10
limit_row limits.Format = 11
limit_row limits.Amounts = 12
limit_row limits.Numbers = 13
limit_row limits.CommandText = 14
limit_row limits.Catalogs = 15
limit_row limits.Names = 16
limit_row limits.Operands = 17
limit_row limits.Text = 18
limit_row limits.Texts = 19
limit_row limits.Conversions = 20
limit_row limits.Message = 21
limit_row limits.Messages = 22

-- the row of a reason
abbrev pub row_of : Reason → ℕ
row_of (reasons.BadLine part) = part_row part
row_of reasons.NoEnd = 4
row_of (reasons.OverLimit limit) = limit_row limit
row_of reasons.NameTwice = 23
row_of reasons.NoCharmap = 24
row_of reasons.NoNative = 25
row_of reasons.NoThread = 26
row_of reasons.NoLater = 27
row_of reasons.BadHeader = 28
row_of reasons.BadEncoding = 29
row_of reasons.RangeBackward = 30
row_of reasons.PortableMoved = 31
row_of reasons.WrongOperand = 32
row_of reasons.BadEscape = 33
row_of reasons.OpenString = 34
row_of reasons.OpenName = 35
row_of reasons.SectionTwice = 36
row_of reasons.UnknownKeyword = 37
row_of reasons.KeywordTwice = 38
row_of reasons.CopyNotAlone = 39
row_of reasons.UnknownCharacter = 40
row_of reasons.CopyMissing = 41
row_of reasons.CopyCycle = 42
row_of reasons.BadClassName = 43
row_of reasons.DigitsNotTen = 44
row_of reasons.NotCased = 45
row_of (reasons.Excluded first second value) = 46
row_of reasons.EmptyRadix = 47
row_of reasons.BadCurrency = 48
row_of reasons.BadNumber = 49
row_of reasons.WrongCount = 50
row_of reasons.BadEra = 51
row_of (reasons.BadFormat at) = 52
row_of reasons.FormatRank = 53
row_of reasons.TooManyDigits = 54
row_of reasons.BadMessage = 55
