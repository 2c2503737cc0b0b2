-- The keywords of the categories, a row each (XBD 7.3.1, 7.3.3 to 7.3.6). Which ones are passed over, ranges of numbers, ranks of formats and numbers of texts are our own rules.
use Rattle.std.specs.Prelude.{ℕ, ◌+◌, ℤ, pos, negsuc, List, [], ◌∷◌, map, codes}
use Rattle.std.specs.List.{range_with_len}
use Rattle.lc_base.specs.declared.category.Category.{Category}
use Rattle.lc_base.specs.declared.category.Category.TheVariants.{Ctype, Numeric, Monetary, Time, Messages}
use Rattle.keywords.specs.declared.row.Element.TheVariants.{CasePair, Word, Quote, Whole}
use Rattle.keywords.specs.declared.row.Operands.{Operands}
use Rattle.keywords.specs.declared.row.Operands.TheVariants.{Copied, Characters, One, Several, PassedOver}
use Rattle.keywords.specs.declared.row.Rule.{Rule}
use Rattle.keywords.specs.declared.row.Rule.TheVariants.{Free, NotEmpty, EmptyOrFour, Between, TenDigits, Cased, ClassNames, Names, Format, Segments, Digits}

-- the value of a keyword in the POSIX locale, and where a section lacks it. A number is alone where there may be several
pub data PosixValue : Type 0 where
  Nothing : PosixValue
  Text : List ℕ → PosixValue
  Number : ℤ → PosixValue
  Texts : List (List ℕ) → PosixValue
  Ranges : List (ℕ × ℕ) → PosixValue
  Pairs : List (ℕ × ℕ) → PosixValue
  -- the pairs of toupper the other way round
  TurnedUpper : PosixValue

-- a keyword: what it takes, what its operands must be beyond their kind, and its POSIX value
pub record KeywordRow : Type 0 where
  pub name : List ℕ
  pub takes : Operands
  pub rule : Rule
  pub posix : PosixValue

abbrev pub row : List ℕ → Operands → Rule → PosixValue → KeywordRow
row name takes rule posix = record { name = name; takes = takes; rule = rule; posix = posix }

-- the portable letters, each small one with its capital
abbrev pub letter_pairs : List (ℕ × ℕ)
letter_pairs = map (λ k. (97 + k, 65 + k)) (range_with_len 0 26)

-- the names of the POSIX locale
abbrev pub short_weekdays : List (List ℕ)
short_weekdays = codes "Sun" ∷ codes "Mon" ∷ codes "Tue" ∷ codes "Wed" ∷ codes "Thu" ∷ codes "Fri" ∷ codes "Sat" ∷ []

abbrev pub weekdays : List (List ℕ)
weekdays = codes "Sunday" ∷ codes "Monday" ∷ codes "Tuesday" ∷ codes "Wednesday" ∷ codes "Thursday" ∷ codes "Friday" ∷ codes "Saturday" ∷ []

abbrev pub short_months : List (List ℕ)
short_months = codes "Jan" ∷ codes "Feb" ∷ codes "Mar" ∷ codes "Apr" ∷ codes "May" ∷ codes "Jun" ∷ codes "Jul" ∷ codes "Aug" ∷ codes "Sep" ∷ codes "Oct" ∷ codes "Nov" ∷ codes "Dec" ∷ []

abbrev pub months : List (List ℕ)
months = codes "January" ∷ codes "February" ∷ codes "March" ∷ codes "April" ∷ codes "May" ∷ codes "June" ∷ codes "July" ∷ codes "August" ∷ codes "September" ∷ codes "October" ∷ codes "November" ∷ codes "December" ∷ []

-- the keywords of a category
abbrev pub keywords : Category → List KeywordRow
keywords Ctype =
    row (codes "copy") Copied Free Nothing ∷
    row (codes "upper") Characters Free (Ranges []) ∷
    row (codes "lower") Characters Free (Ranges []) ∷
    row (codes "alpha") Characters Free (Ranges []) ∷
    row (codes "digit") Characters TenDigits (Ranges []) ∷
    row (codes "alnum") Characters Free (Ranges []) ∷
    row (codes "space") Characters Free (Ranges []) ∷
    row (codes "cntrl") Characters Free (Ranges ((0, 31) ∷ (127, 127) ∷ [])) ∷
    row (codes "punct") Characters Free (Ranges ((33, 47) ∷ (58, 64) ∷ (91, 96) ∷ (123, 126) ∷ [])) ∷
    row (codes "graph") Characters Free (Ranges []) ∷
    row (codes "print") Characters Free (Ranges []) ∷
    row (codes "xdigit") Characters Free (Ranges []) ∷
    row (codes "blank") Characters Free (Ranges []) ∷
    row (codes "charclass") (Several Word) ClassNames (Texts []) ∷
    row (codes "toupper") (Several CasePair) Cased (Pairs letter_pairs) ∷
    row (codes "tolower") (Several CasePair) Cased TurnedUpper ∷ []
keywords Numeric =
    row (codes "copy") Copied Free Nothing ∷
    row (codes "decimal_point") (One Quote) NotEmpty (Text (codes ".")) ∷
    row (codes "thousands_sep") (One Quote) Free (Text []) ∷
    row (codes "grouping") (Several Whole) (Between (negsuc 0) (pos 126)) (Number (negsuc 0)) ∷ []
keywords Monetary =
    row (codes "copy") Copied Free Nothing ∷
    row (codes "int_curr_symbol") (One Quote) EmptyOrFour (Text []) ∷
    row (codes "currency_symbol") (One Quote) Free (Text []) ∷
    row (codes "mon_decimal_point") (One Quote) Free (Text []) ∷
    row (codes "mon_thousands_sep") (One Quote) Free (Text []) ∷
    row (codes "mon_grouping") (Several Whole) (Between (negsuc 0) (pos 126)) (Number (negsuc 0)) ∷
    row (codes "positive_sign") (One Quote) Free (Text []) ∷
    row (codes "negative_sign") (One Quote) Free (Text []) ∷
    row (codes "int_frac_digits") (One Whole) (Between (negsuc 0) (pos 18)) (Number (negsuc 0)) ∷
    row (codes "frac_digits") (One Whole) (Between (negsuc 0) (pos 18)) (Number (negsuc 0)) ∷
    row (codes "p_cs_precedes") (One Whole) (Between (negsuc 0) (pos 1)) (Number (negsuc 0)) ∷
    row (codes "p_sep_by_space") (One Whole) (Between (negsuc 0) (pos 2)) (Number (negsuc 0)) ∷
    row (codes "n_cs_precedes") (One Whole) (Between (negsuc 0) (pos 1)) (Number (negsuc 0)) ∷
    row (codes "n_sep_by_space") (One Whole) (Between (negsuc 0) (pos 2)) (Number (negsuc 0)) ∷
    row (codes "p_sign_posn") (One Whole) (Between (negsuc 0) (pos 4)) (Number (negsuc 0)) ∷
    row (codes "n_sign_posn") (One Whole) (Between (negsuc 0) (pos 4)) (Number (negsuc 0)) ∷
    row (codes "int_p_cs_precedes") (One Whole) (Between (negsuc 0) (pos 1)) (Number (negsuc 0)) ∷
    row (codes "int_n_cs_precedes") (One Whole) (Between (negsuc 0) (pos 1)) (Number (negsuc 0)) ∷
    row (codes "int_p_sep_by_space") (One Whole) (Between (negsuc 0) (pos 2)) (Number (negsuc 0)) ∷
    row (codes "int_n_sep_by_space") (One Whole) (Between (negsuc 0) (pos 2)) (Number (negsuc 0)) ∷
    row (codes "int_p_sign_posn") (One Whole) (Between (negsuc 0) (pos 4)) (Number (negsuc 0)) ∷
    row (codes "int_n_sign_posn") (One Whole) (Between (negsuc 0) (pos 4)) (Number (negsuc 0)) ∷ []
keywords Time =
    row (codes "copy") Copied Free Nothing ∷
    row (codes "abday") (Several Quote) (Names 7) (Texts short_weekdays) ∷
    row (codes "day") (Several Quote) (Names 7) (Texts weekdays) ∷
    row (codes "abmon") (Several Quote) (Names 12) (Texts short_months) ∷
    row (codes "mon") (Several Quote) (Names 12) (Texts months) ∷
    row (codes "d_t_fmt") (One Quote) (Format 4) (Text (codes "%a %b %e %H:%M:%S %Y")) ∷
    row (codes "d_fmt") (One Quote) (Format 3) (Text (codes "%m/%d/%y")) ∷
    row (codes "t_fmt") (One Quote) (Format 3) (Text (codes "%H:%M:%S")) ∷
    row (codes "am_pm") (Several Quote) (Names 2) (Texts (codes "AM" ∷ codes "PM" ∷ [])) ∷
    row (codes "t_fmt_ampm") (One Quote) (Format 2) (Text (codes "%I:%M:%S %p")) ∷
    row (codes "era") (Several Quote) Segments (Texts []) ∷
    row (codes "era_d_fmt") (One Quote) (Format 3) (Text []) ∷
    row (codes "era_t_fmt") (One Quote) (Format 3) (Text []) ∷
    row (codes "era_d_t_fmt") (One Quote) (Format 4) (Text []) ∷
    row (codes "alt_digits") (Several Quote) Digits (Texts []) ∷
    row (codes "week") PassedOver Free Nothing ∷
    row (codes "first_weekday") PassedOver Free Nothing ∷
    row (codes "first_workday") PassedOver Free Nothing ∷
    row (codes "cal_direction") PassedOver Free Nothing ∷
    row (codes "date_fmt") PassedOver Free Nothing ∷
    row (codes "timezone") PassedOver Free Nothing ∷
    row (codes "alt_mon") PassedOver Free Nothing ∷
    row (codes "ab_alt_mon") PassedOver Free Nothing ∷ []
keywords Messages =
    row (codes "copy") Copied Free Nothing ∷
    row (codes "yesexpr") (One Quote) Free (Text (codes "^[yY]")) ∷
    row (codes "noexpr") (One Quote) Free (Text (codes "^[nN]")) ∷
    row (codes "yesstr") PassedOver Free Nothing ∷
    row (codes "nostr") PassedOver Free Nothing ∷ []
