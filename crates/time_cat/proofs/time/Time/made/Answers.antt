use Rattle.std.proofs.Common.{◌≡◌, sym, subst}
use Rattle.time_cat.specs.TimeValues.{IsWhole}
use Rattle.time_cat.specs.Values.{values_by, values_of}
use Rattle.time_cat.proofs.Whole.{view_is, whole}
use Rattle.time_cat.proofs.time.Time.made.Goals as goal

pub invariant_of-result : goal.invariant_of-result
invariant_of-result c =
    let is : values_by c.in_ok-names.names c.in_ok-formats.formats c.in_ok-era.era c.in_ok-era.era_list c.in_ok-alt_digits.alt_digits ≡ values_of c.args.list.now =
    view_is c.args.list.now _ _ _ _ _ c.in_ok-names.ensures c.in_ok-formats.ensures c.in_ok-era.ensures.segments c.in_ok-era.ensures.joined c.in_ok-alt_digits.ensures.texts in
    record {
      whole = subst IsWhole (sym is) (whole c.args.list.now c.requires);
      alt_list = c.in_ok-alt_digits.ensures.joined;
    }

pub returns : goal.returns
returns c = view_is c.args.list.now _ _ _ _ _ c.in_ok-names.ensures c.in_ok-formats.ensures c.in_ok-era.ensures.segments c.in_ok-era.ensures.joined c.in_ok-alt_digits.ensures.texts
