use Rattle.std.proofs.Common.{◌≡◌, ℕ, ◌+◌, ◌-◌, List, map, None, Some, get_or, sym, ap, ◌∙◌, arith}
use Rattle.std.specs.Prelude.{slice_get, option_map}
use Rattle.std.specs.Option.{option_copied}
use Rattle.std.proofs.lemmas.Option.{slice_get-get_or, slice_get-map}
use Rattle.lc_base.specs.declared.item.Item.{Item}
use Rattle.lc_base.specs.declared.item.Item.TheVariants.{Codeset}
use Rattle.langinfo.specs.Items.{info}
use Rattle.langinfo.specs.Conv.{bare_texts}
use Rattle.langinfo.specs.declared.categories.LentCategories.{LentCategories}
use Rattle.c_values.specs.Conv.{conv_in}
use Rattle.c_values.specs.Items.{items, item_of}
use Rattle.c_values.specs.Table.{texts_by}
use Rattle.c_values.proofs.TableLemmas.{in_front, behind}
use Rattle.c_values.proofs.table.text_at.Goals as goal

abbrev by : LentCategories → Item → List ℕ
by g item = info g.ctype.now g.numeric.now g.monetary.now g.time.now g.messages.now item

pub unreachable-requires : goal.unreachable-requires
unfolding item_of
unreachable-requires c =
    let some : slice_get items c.args.i ≡ Some (get_or items c.args.i Codeset) = slice_get-get_or items c.args.i Codeset c.if-i-lt-ITEMS.true in
    let none : slice_get items c.args.i ≡ None = sym c.item_of.ensures ∙ c.in-None.is in
    cc (some, none)

pub returns-in-Some : goal.returns-in-Some
unfolding item_of
returns-in-Some c =
    let g : LentCategories = c.args.given.now in
    let found : slice_get items c.args.i ≡ Some c.in-Some.item = sym c.item_of.ensures ∙ c.in-Some.is in
    in_front (map (by g) items) (bare_texts (conv_in c.args.view.now).texts) c.args.i c.lent_item.result.now
    (slice_get-map (by g) items c.args.i ∙ ap (λ o. option_map (by g) o) found ∙ ap (λ t. Some t) (sym c.lent_item.ensures))

pub returns-in-Some-conv_text : goal.returns-in-Some-conv_text
returns-in-Some-conv_text c =
    let g : LentCategories = c.args.given.now in
    let place : c.args.i ≡ 55 + (c.args.i - 55) = omega (arith, c.if-i-lt-ITEMS.false) in
    ap (λ k. slice_get (texts_by c.args.view.now g) k) place
    ∙ behind (map (by g) items) (bare_texts (conv_in c.args.view.now).texts) (c.args.i - 55)
    ∙ sym c.conv_text.ensures
    ∙ ap (λ o. option_copied o) c.in-Some-conv_text.is
