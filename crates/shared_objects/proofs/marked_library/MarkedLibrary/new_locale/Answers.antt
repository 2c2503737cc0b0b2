use Rattle.std.proofs.Common.{◌≡◌, Bool, true, Err, ap, sym, ◌∙◌}
use Rattle.std.specs.Prelude.{if◌then◌else◌}
use Rattle.shared_objects.specs.declared.fault.NewFault.TheVariants.{NoLocale}
use Rattle.shared_objects.specs.Shared.{MarkedLibraryData}
use Rattle.shared_objects.specs.Objects.{new_parts}
use Rattle.shared_objects.specs.Locales.{has_locale, parts_of, located, new_from}
use Rattle.shared_objects.proofs.marked_library.MarkedLibrary.new_locale.Goals as goal

pub returns-then-has : goal.returns-then-has
returns-then-has c =
    let has : has_locale c.args.self.now c.args.base.now ≡ true = cc (c.if-has.true, c.has.ensures) in
    let library : c.args.self.now.library ≡ c.self.inside.with_offers = sym (ap (λ (s : MarkedLibraryData). s.library) c.self.view_is) in
    let made : c.compose.result ≡ new_parts c.args.self.now.library c.args.mask c.args.name.now (parts_of c.args.base.now) = cc (c.compose.ensures, c.object_of.ensures, library) in
    c.located.ensures
    ∙ ap (located c.args.self.now) made
    ∙ sym (ap (λ (b : Bool). if b then new_from c.args.self.now c.args.mask c.args.name.now c.args.base.now else Err NoLocale) has)
