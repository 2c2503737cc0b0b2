use Rattle.std.proofs.Common.{rules}
use Rattle.std.specs.BTreeMap.{values}
use Rattle.std.proofs.lemmas.Iterator.Consumers.{YieldsList-from_rest, YieldsList-from_copied}
use Rattle.std.proofs.lemmas.Iterator.Adapters.{items_from_extend}
use Rattle.charset.proofs.fronts.joined.Goals as goal

pub returns : goal.returns
returns c =
    let h = items_from_extend c.extend.result c.extend.ensures.ran (YieldsList-from_copied (YieldsList-from_rest (values c.args.recent.now) cc)) in
    search rules
