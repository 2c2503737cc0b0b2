-- The words of reasons (our own).
use Rattle.std.specs.Prelude.{ℕ, List, [], ◌∷◌, ◌++◌, codes}
use Rattle.std.specs.Fmt.{decimal}
use Rattle.lc_base.specs.declared.reason.Reason.{Reason}
use Rattle.lc_base.specs.declared.reason.Reason.TheVariants as reasons
use Rattle.lc_base.specs.declared.reason.LinePart.{LinePart}
use Rattle.lc_base.specs.declared.reason.LinePart.TheVariants as parts
use Rattle.lc_base.specs.declared.reason.Limit.{Limit}
use Rattle.lc_base.specs.declared.reason.Limit.TheVariants as limits
use Rattle.lc_base.specs.Classes.{class_name}

-- what stands between two words
abbrev pub space : List ℕ
space = 32 ∷ []

-- the word for a part of a bundle's line
abbrev pub part_word : LinePart → List ℕ
part_word parts.Directive = codes "directive"
part_word parts.Command = codes "command"
part_word parts.Argument = codes "argument"
part_word parts.Thread = codes "thread"

-- the word for a limit
abbrev pub limit_word : Limit → List ℕ
limit_word limits.Locales = codes "locales"
limit_word limits.Later = codes "later"
limit_word limits.Charmaps = codes "charmaps"
limit_word limits.Threads = codes "threads"
limit_word limits.Rounds = codes "rounds"
limit_word limits.Commands = codes "commands"
limit_word limits.Format = codes "format"
limit_word limits.Amounts = codes "amounts"
limit_word limits.Numbers = codes "numbers"
limit_word limits.CommandText = codes "text"
limit_word limits.Catalogs = codes "catalogs"
limit_word limits.Names = codes "names"
limit_word limits.Operands = codes "operands"
limit_word limits.Text = codes "string"
limit_word limits.Texts = codes "list"
limit_word limits.Conversions = codes "conversions"
limit_word limits.Message = codes "message"
limit_word limits.Messages = codes "messages"

-- a reason, and what it names, each behind a space
abbrev pub reason_text : Reason → List ℕ
reason_text (reasons.BadLine part) = codes "BadLine" ++ space ++ part_word part
reason_text reasons.NoEnd = codes "NoEnd"
reason_text (reasons.OverLimit limit) = codes "OverLimit" ++ space ++ limit_word limit
reason_text reasons.NameTwice = codes "NameTwice"
reason_text reasons.NoCharmap = codes "NoCharmap"
reason_text reasons.NoNative = codes "NoNative"
reason_text reasons.NoThread = codes "NoThread"
reason_text reasons.NoLater = codes "NoLater"
reason_text reasons.BadHeader = codes "BadHeader"
reason_text reasons.BadEncoding = codes "BadEncoding"
reason_text reasons.RangeBackward = codes "RangeBackward"
reason_text reasons.PortableMoved = codes "PortableMoved"
reason_text reasons.WrongOperand = codes "WrongOperand"
reason_text reasons.BadEscape = codes "BadEscape"
reason_text reasons.OpenString = codes "OpenString"
reason_text reasons.OpenName = codes "OpenName"
reason_text reasons.SectionTwice = codes "SectionTwice"
reason_text reasons.UnknownKeyword = codes "UnknownKeyword"
reason_text reasons.KeywordTwice = codes "KeywordTwice"
reason_text reasons.CopyNotAlone = codes "CopyNotAlone"
reason_text reasons.UnknownCharacter = codes "UnknownCharacter"
reason_text reasons.CopyMissing = codes "CopyMissing"
reason_text reasons.CopyCycle = codes "CopyCycle"
reason_text reasons.BadClassName = codes "BadClassName"
reason_text reasons.DigitsNotTen = codes "DigitsNotTen"
reason_text reasons.NotCased = codes "NotCased"
reason_text (reasons.Excluded first second value) = codes "Excluded" ++ space ++ class_name first ++ space ++ class_name second ++ space ++ decimal value
reason_text reasons.EmptyRadix = codes "EmptyRadix"
reason_text reasons.BadCurrency = codes "BadCurrency"
reason_text reasons.BadNumber = codes "BadNumber"
reason_text reasons.WrongCount = codes "WrongCount"
reason_text reasons.BadEra = codes "BadEra"
reason_text (reasons.BadFormat at) = codes "BadFormat" ++ space ++ decimal at
reason_text reasons.FormatRank = codes "FormatRank"
reason_text reasons.TooManyDigits = codes "TooManyDigits"
reason_text reasons.BadMessage = codes "BadMessage"
