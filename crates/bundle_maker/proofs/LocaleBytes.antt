-- The locales of the code.
use Rattle.std.proofs.Common.{◌≡◌, refl}
use Rattle.bundle_maker.specs.declared.locales.TheConstants.{LOCALES}
use Rattle.bundle_maker.specs.Generated.{us_locale, fr_locale, locales_text}

-- they are those of the definition, byte for byte
pub locales_are : LOCALES.now ≡ locales_text
unfolding us_locale fr_locale locales_text
locales_are = refl
