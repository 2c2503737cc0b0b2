-- The fields of localeconv, as categories lend them.
use Rattle.std.specs.Prelude.{ℕ, List, map}
use Rattle.std.specs.Borrow.{Bor}
use Rattle.langinfo.specs.declared.field.ConvText.{ConvText}
use Rattle.langinfo.specs.declared.field.ConvText.TheVariants as texts
use Rattle.langinfo.specs.declared.field.LentText.{LentText}
use Rattle.langinfo.specs.declared.field.LentText.TheVariants as lent_texts
use Rattle.langinfo.specs.declared.conv.Lconv.{Lconv}
use Rattle.langinfo.specs.declared.conv.LentConv.{LentConv}

-- a text that is lent
abbrev pub owned_text : LentText → ConvText
owned_text (lent_texts.Bytes bytes) = texts.Bytes bytes.now
owned_text (lent_texts.Sizes sizes) = texts.Sizes sizes.now

-- texts that are lent, each with its name
abbrev pub owned_texts : List (Bor (List ℕ) × LentText) → List (List ℕ × ConvText)
owned_texts fields = map (λ (f : Bor (List ℕ) × LentText). (f.0.now, owned_text f.1)) fields

-- numbers, each with its name
abbrev pub owned_numbers : List (Bor (List ℕ) × ℕ) → List (List ℕ × ℕ)
owned_numbers fields = map (λ (f : Bor (List ℕ) × ℕ). (f.0.now, f.1)) fields

-- the fields that are lent
abbrev pub lconv_of : LentConv → Lconv
lconv_of lent = record { texts = owned_texts lent.texts; numbers = owned_numbers lent.numbers }
