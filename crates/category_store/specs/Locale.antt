-- Compiled locales.
use Rattle.std.specs.Prelude.{ℕ, zero, suc, List, codes, slice_get, unwrap_or}
use Rattle.ctype_classes.specs.CtypeValues.{CtypeValues}
use Rattle.ctype_classes.specs.Ctype.{posix_values as posix_classes}
use Rattle.numeric_cat.specs.NumericValues.{NumericValues}
use Rattle.numeric_cat.specs.Numeric.{posix_values}
use Rattle.monetary_cat.specs.Monetary.{MonetaryValues, posix_values as posix_money}
use Rattle.time_cat.specs.TimeValues.{TimeValues}
use Rattle.time_cat.specs.Values.{posix_values as posix_times}
use Rattle.messages_cat.specs.MessagesValues.{MessagesValues}
use Rattle.messages_cat.specs.Messages.{posix_values as posix_messages}

-- a compiled locale: its name, the mask of the categories that it has, and the values of its categories; a category that it
-- lacks is the POSIX locale's
pub record Locale : Type 0 where
  pub name : List ℕ
  pub available : ℕ
  pub ctype : CtypeValues
  pub numeric : NumericValues
  pub monetary : MonetaryValues
  pub time : TimeValues
  pub messages : MessagesValues

-- the POSIX locale, which has all categories
abbrev pub posix_locale : Locale
posix_locale = record {
  name = codes "C";
  available = 31;
  ctype = posix_classes;
  numeric = posix_values;
  monetary = posix_money;
  time = posix_times;
  messages = posix_messages;
}

-- the compiled locale with a number; 0, and a number that no locale has, are the POSIX locale
abbrev pub locale_among : List Locale → ℕ → Locale
locale_among locales zero = posix_locale
locale_among locales (suc k) = unwrap_or (slice_get locales k) posix_locale
