use Rattle.std.proofs.Common.{◌∙◌}
use Rattle.std.proofs.lemmas.Result.{err_from_is_err_and}
use Rattle.lc_base.proofs.ReadingLemmas.{fails_first}
use Rattle.charmap_reader.proofs.Bodies.{charset_bare, charset_opened, rest_open, rest_closed}
use Rattle.charmap_reader.proofs.charmap.read_lines.Goals as goal

pub returns-in_default : goal.returns-in_default
returns-in_default c = charset_bare c.args.name.now c.args.begin c.args.lines.now c.in_default.ensures.is

pub returns-in_err-set_name : goal.returns-in_err-set_name
returns-in_err-set_name c =
    let p = err_from_is_err_and c.from_residual.result c.from_residual.ensures.1 in
    let opened = charset_opened c.args.name.now c.args.begin c.args.lines.now c.in-Some.k c.in-Some.ensures.is in
    rw (p.1, p.2) (fails_first c.in_err-set_name.field-0.0 _ _ _ opened c.in_err-set_name.ensures)

pub returns-in_default-closing : goal.returns-in_default-closing
returns-in_default-closing c =
    let opened = charset_opened c.args.name.now c.args.begin c.args.lines.now c.in-Some.k c.in-Some.ensures.is in
    let named = rw c.in_ok-set_name.ensures at opened in
    rw c.place.ensures (named ∙ rest_open c.args.lines.now c.in-Some.k c.in_ok-set_name.set_name c.in_default-closing.ensures.is)

pub returns-in_err-names : goal.returns-in_err-names
returns-in_err-names c =
    let p = err_from_is_err_and c.from_residual-in_err-names.result c.from_residual-in_err-names.ensures.1 in
    let opened = charset_opened c.args.name.now c.args.begin c.args.lines.now c.in-Some.k c.in-Some.ensures.is in
    let named = rw c.in_ok-set_name.ensures at opened in
    let closed = named ∙ rest_closed c.args.lines.now c.in-Some.k c.in-Some-closing.«end» c.in_ok-set_name.set_name c.in-Some-closing.ensures.is in
    rw (p.1, p.2) (fails_first c.in_err-names.field-0.0 _ _ _ closed c.in_err-names.ensures)

pub returns : goal.returns
returns c =
    let opened = charset_opened c.args.name.now c.args.begin c.args.lines.now c.in-Some.k c.in-Some.ensures.is in
    let named = rw c.in_ok-set_name.ensures at opened in
    let closed = named ∙ rest_closed c.args.lines.now c.in-Some.k c.in-Some-closing.«end» c.in_ok-set_name.set_name c.in-Some-closing.ensures.is in
    let read = rw c.in_ok-names.ensures at closed in
    rw c.in_ok-listed.ensures read
