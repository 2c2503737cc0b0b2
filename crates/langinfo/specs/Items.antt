-- The items of nl_langinfo, and what they give (XSH nl_langinfo, XBD <langinfo.h>).
use Rattle.std.specs.Prelude.{ℕ, ◌<◌, List}
use Rattle.lc_base.specs.declared.item.Item.{Item}
use Rattle.lc_base.specs.declared.item.Item.TheVariants as items
use Rattle.ctype_classes.specs.CtypeValues.{CtypeValues}
use Rattle.numeric_cat.specs.NumericValues.{NumericValues}
use Rattle.monetary_cat.specs.declared.keys.MonText.TheVariants as texts
use Rattle.monetary_cat.specs.declared.keys.MonNumber.TheVariants as numbers
use Rattle.monetary_cat.specs.Monetary.{MonetaryValues, text_of, number_of}
pub use Rattle.monetary_cat.specs.Currency.{currency}
use Rattle.time_cat.specs.declared.conversion.TimeText.TheVariants.{DateTime, Date, Clock, HalfDayClock, EraDateTime, EraDate, EraClock}
use Rattle.time_cat.specs.TimeValues.{TimeValues, format_text, text_at, joined}
use Rattle.messages_cat.specs.MessagesValues.{MessagesValues}
use Rattle.langinfo.specs.declared.keyword.Keyword.{Keyword}
use Rattle.langinfo.specs.declared.keyword.Keyword.TheVariants as keywords

-- the keyword that an item reads; of several operands with the number of one, from 0
abbrev pub keyword_of : Item → Keyword
keyword_of items.Codeset = keywords.CodeSetName
keyword_of items.DTFmt = keywords.Format DateTime
keyword_of items.DFmt = keywords.Format Date
keyword_of items.TFmt = keywords.Format Clock
keyword_of items.TFmtAmpm = keywords.Format HalfDayClock
keyword_of items.AmStr = keywords.AmPm 0
keyword_of items.PmStr = keywords.AmPm 1
keyword_of items.Day1 = keywords.Day 0
keyword_of items.Day2 = keywords.Day 1
keyword_of items.Day3 = keywords.Day 2
keyword_of items.Day4 = keywords.Day 3
keyword_of items.Day5 = keywords.Day 4
keyword_of items.Day6 = keywords.Day 5
keyword_of items.Day7 = keywords.Day 6
keyword_of items.Abday1 = keywords.Abday 0
keyword_of items.Abday2 = keywords.Abday 1
keyword_of items.Abday3 = keywords.Abday 2
keyword_of items.Abday4 = keywords.Abday 3
keyword_of items.Abday5 = keywords.Abday 4
keyword_of items.Abday6 = keywords.Abday 5
keyword_of items.Abday7 = keywords.Abday 6
keyword_of items.Mon1 = keywords.Mon 0
keyword_of items.Mon2 = keywords.Mon 1
keyword_of items.Mon3 = keywords.Mon 2
keyword_of items.Mon4 = keywords.Mon 3
keyword_of items.Mon5 = keywords.Mon 4
keyword_of items.Mon6 = keywords.Mon 5
keyword_of items.Mon7 = keywords.Mon 6
keyword_of items.Mon8 = keywords.Mon 7
keyword_of items.Mon9 = keywords.Mon 8
keyword_of items.Mon10 = keywords.Mon 9
keyword_of items.Mon11 = keywords.Mon 10
keyword_of items.Mon12 = keywords.Mon 11
keyword_of items.Abmon1 = keywords.Abmon 0
keyword_of items.Abmon2 = keywords.Abmon 1
keyword_of items.Abmon3 = keywords.Abmon 2
keyword_of items.Abmon4 = keywords.Abmon 3
keyword_of items.Abmon5 = keywords.Abmon 4
keyword_of items.Abmon6 = keywords.Abmon 5
keyword_of items.Abmon7 = keywords.Abmon 6
keyword_of items.Abmon8 = keywords.Abmon 7
keyword_of items.Abmon9 = keywords.Abmon 8
keyword_of items.Abmon10 = keywords.Abmon 9
keyword_of items.Abmon11 = keywords.Abmon 10
keyword_of items.Abmon12 = keywords.Abmon 11
keyword_of items.Era = keywords.Era
keyword_of items.EraDFmt = keywords.Format EraDate
keyword_of items.EraDTFmt = keywords.Format EraDateTime
keyword_of items.EraTFmt = keywords.Format EraClock
keyword_of items.AltDigits = keywords.AltDigits
keyword_of items.Radixchar = keywords.DecimalPoint
keyword_of items.Thousep = keywords.ThousandsSep
keyword_of items.Yesexpr = keywords.Yesexpr
keyword_of items.Noexpr = keywords.Noexpr
keyword_of items.Crncystr = keywords.CurrencySymbol

-- an operand of a keyword is one of those that it has
abbrev pub IsWithin : Keyword → Type 0
IsWithin keywords.CodeSetName = Unit {0}
IsWithin (keywords.Format key) = Unit {0}
IsWithin (keywords.AmPm i) = i < 2
IsWithin (keywords.Day i) = i < 7
IsWithin (keywords.Abday i) = i < 7
IsWithin (keywords.Mon i) = i < 12
IsWithin (keywords.Abmon i) = i < 12
IsWithin keywords.Era = Unit {0}
IsWithin keywords.AltDigits = Unit {0}
IsWithin keywords.DecimalPoint = Unit {0}
IsWithin keywords.ThousandsSep = Unit {0}
IsWithin keywords.Yesexpr = Unit {0}
IsWithin keywords.Noexpr = Unit {0}
IsWithin keywords.CurrencySymbol = Unit {0}

-- the text of a keyword
abbrev pub keyword_text : CtypeValues → NumericValues → MonetaryValues → TimeValues → MessagesValues → Keyword → List ℕ
keyword_text ctype numeric monetary time messages keywords.CodeSetName = ctype.codeset
keyword_text ctype numeric monetary time messages (keywords.Format key) = format_text time key
keyword_text ctype numeric monetary time messages (keywords.AmPm i) = text_at time.names.am_pm i
keyword_text ctype numeric monetary time messages (keywords.Day i) = text_at time.names.day i
keyword_text ctype numeric monetary time messages (keywords.Abday i) = text_at time.names.abday i
keyword_text ctype numeric monetary time messages (keywords.Mon i) = text_at time.names.mon i
keyword_text ctype numeric monetary time messages (keywords.Abmon i) = text_at time.names.abmon i
keyword_text ctype numeric monetary time messages keywords.Era = time.era_list
keyword_text ctype numeric monetary time messages keywords.AltDigits = joined time.alt_digits
keyword_text ctype numeric monetary time messages keywords.DecimalPoint = numeric.decimal_point
keyword_text ctype numeric monetary time messages keywords.ThousandsSep = numeric.thousands_sep
keyword_text ctype numeric monetary time messages keywords.Yesexpr = messages.yesexpr
keyword_text ctype numeric monetary time messages keywords.Noexpr = messages.noexpr
keyword_text ctype numeric monetary time messages keywords.CurrencySymbol = currency (number_of monetary numbers.PCsPrecedes) (text_of monetary texts.CurrencySymbol)

-- what nl_langinfo gives for an item
abbrev pub info : CtypeValues → NumericValues → MonetaryValues → TimeValues → MessagesValues → Item → List ℕ
info ctype numeric monetary time messages item = keyword_text ctype numeric monetary time messages (keyword_of item)
