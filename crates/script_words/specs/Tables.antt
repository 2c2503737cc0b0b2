-- The words of directives and items (our own; the items are those of XSH nl_langinfo).
use Rattle.std.specs.Prelude.{ℕ, List, [], ◌∷◌, codes}
use Rattle.lc_base.specs.declared.item.Item.{Item}
use Rattle.lc_base.specs.declared.item.Item.TheVariants as items
use Rattle.script_words.specs.declared.table.Directive.{Directive}
use Rattle.script_words.specs.declared.table.Directive.TheVariants as directives

-- the directives; `.end` is none, since it stands in blocks alone
unfoldable pub directives_table : List (List ℕ × Directive)
directives_table =
    (codes ".charmap", directives.Charmap) ∷
    (codes ".locale", directives.Locale) ∷
    (codes ".later", directives.Later) ∷
    (codes ".catalog", directives.Catalog) ∷
    (codes ".native", directives.Native) ∷
    (codes ".thread", directives.Thread) ∷
    (codes ".round", directives.Round) ∷
    []

-- the items
unfoldable pub items_table : List (List ℕ × Item)
items_table =
    (codes "CODESET", items.Codeset) ∷
    (codes "RADIXCHAR", items.Radixchar) ∷
    (codes "THOUSEP", items.Thousep) ∷
    (codes "YESEXPR", items.Yesexpr) ∷
    (codes "NOEXPR", items.Noexpr) ∷
    (codes "CRNCYSTR", items.Crncystr) ∷
    (codes "D_T_FMT", items.DTFmt) ∷
    (codes "D_FMT", items.DFmt) ∷
    (codes "T_FMT", items.TFmt) ∷
    (codes "T_FMT_AMPM", items.TFmtAmpm) ∷
    (codes "AM_STR", items.AmStr) ∷
    (codes "PM_STR", items.PmStr) ∷
    (codes "DAY_1", items.Day1) ∷
    (codes "DAY_2", items.Day2) ∷
    (codes "DAY_3", items.Day3) ∷
    (codes "DAY_4", items.Day4) ∷
    (codes "DAY_5", items.Day5) ∷
    (codes "DAY_6", items.Day6) ∷
    (codes "DAY_7", items.Day7) ∷
    (codes "ABDAY_1", items.Abday1) ∷
    (codes "ABDAY_2", items.Abday2) ∷
    (codes "ABDAY_3", items.Abday3) ∷
    (codes "ABDAY_4", items.Abday4) ∷
    (codes "ABDAY_5", items.Abday5) ∷
    (codes "ABDAY_6", items.Abday6) ∷
    (codes "ABDAY_7", items.Abday7) ∷
    (codes "MON_1", items.Mon1) ∷
    (codes "MON_2", items.Mon2) ∷
    (codes "MON_3", items.Mon3) ∷
    (codes "MON_4", items.Mon4) ∷
    (codes "MON_5", items.Mon5) ∷
    (codes "MON_6", items.Mon6) ∷
    (codes "MON_7", items.Mon7) ∷
    (codes "MON_8", items.Mon8) ∷
    (codes "MON_9", items.Mon9) ∷
    (codes "MON_10", items.Mon10) ∷
    (codes "MON_11", items.Mon11) ∷
    (codes "MON_12", items.Mon12) ∷
    (codes "ABMON_1", items.Abmon1) ∷
    (codes "ABMON_2", items.Abmon2) ∷
    (codes "ABMON_3", items.Abmon3) ∷
    (codes "ABMON_4", items.Abmon4) ∷
    (codes "ABMON_5", items.Abmon5) ∷
    (codes "ABMON_6", items.Abmon6) ∷
    (codes "ABMON_7", items.Abmon7) ∷
    (codes "ABMON_8", items.Abmon8) ∷
    (codes "ABMON_9", items.Abmon9) ∷
    (codes "ABMON_10", items.Abmon10) ∷
    (codes "ABMON_11", items.Abmon11) ∷
    (codes "ABMON_12", items.Abmon12) ∷
    (codes "ERA", items.Era) ∷
    (codes "ALT_DIGITS", items.AltDigits) ∷
    (codes "ERA_D_FMT", items.EraDFmt) ∷
    (codes "ERA_T_FMT", items.EraTFmt) ∷
    (codes "ERA_D_T_FMT", items.EraDTFmt) ∷
    []
