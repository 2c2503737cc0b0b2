-- An item asks its category alone.
use Rattle.std.proofs.Common.{◌≡◌, ℕ, List, ap}
use Rattle.lc_base.specs.declared.item.Item.{Item}
use Rattle.langinfo.specs.declared.keyword.Keyword.{Keyword}
use Rattle.langinfo.specs.declared.keyword.Keyword.TheVariants.{CodeSetName, Format, AmPm, Day, Abday, Mon, Abmon, Era, AltDigits, DecimalPoint, ThousandsSep, Yesexpr, Noexpr, CurrencySymbol}
use Rattle.langinfo.specs.Items.{keyword_of, keyword_text, currency}
use Rattle.monetary_cat.specs.declared.keys.MonText.TheVariants as texts
use Rattle.monetary_cat.specs.declared.keys.MonNumber.TheVariants as numbers
use Rattle.ctype_classes.specs.CtypeValues.{CtypeValues}
use Rattle.numeric_cat.specs.NumericValues.{NumericValues}
use Rattle.monetary_cat.specs.Monetary.{MonetaryValues, text_of, number_of}
use Rattle.time_cat.specs.TimeValues.{TimeValues, format_text, text_at, joined}
use Rattle.messages_cat.specs.MessagesValues.{MessagesValues}
use Rattle.tool_reads.specs.ItemCategories.{LocaleValues, AreAlike, keyword_category, category_of, item_text}

-- what a keyword is in a locale
abbrev text : LocaleValues → Keyword → List ℕ
text v k = keyword_text v.ctype v.numeric v.monetary v.time v.messages k

alike_text : (k : Keyword) (v w : LocaleValues) → AreAlike (keyword_category k) v w → text v k ≡ text w k
alike_text CodeSetName v w e = ap (λ (c : CtypeValues). c.codeset) e
alike_text (Format key) v w e = ap (λ (t : TimeValues). format_text t key) e
alike_text (AmPm i) v w e = ap (λ (t : TimeValues). text_at t.names.am_pm i) e
alike_text (Day i) v w e = ap (λ (t : TimeValues). text_at t.names.day i) e
alike_text (Abday i) v w e = ap (λ (t : TimeValues). text_at t.names.abday i) e
alike_text (Mon i) v w e = ap (λ (t : TimeValues). text_at t.names.mon i) e
alike_text (Abmon i) v w e = ap (λ (t : TimeValues). text_at t.names.abmon i) e
alike_text Era v w e = ap (λ (t : TimeValues). t.era_list) e
alike_text AltDigits v w e = ap (λ (t : TimeValues). joined t.alt_digits) e
alike_text DecimalPoint v w e = ap (λ (n : NumericValues). n.decimal_point) e
alike_text ThousandsSep v w e = ap (λ (n : NumericValues). n.thousands_sep) e
alike_text Yesexpr v w e = ap (λ (m : MessagesValues). m.yesexpr) e
alike_text Noexpr v w e = ap (λ (m : MessagesValues). m.noexpr) e
alike_text CurrencySymbol v w e = ap (λ (m : MonetaryValues). currency (number_of m numbers.PCsPrecedes) (text_of m texts.CurrencySymbol)) e

-- locales that are alike in the category of an item are alike in the item
pub alike_item : (item : Item) (v w : LocaleValues) → AreAlike (category_of item) v w → item_text v item ≡ item_text w item
alike_item item v w e = alike_text (keyword_of item) v w e
