use Rattle.handle_table.specs.Seen.{reply_of}
use Rattle.thread_current.proofs.Changed.{Changed, changed, of_change}
use Rattle.thread_current.proofs.shared.Shared.setlocale.Given as given
use Rattle.thread_current.proofs.shared.Shared.setlocale.Goals as goal
use Rattle.thread_current.proofs.shared.Shared.setlocale.Goals.{Joined-reply}

pub version_set-requires : goal.version_set-requires
version_set-requires g c = of_change _ _ _ _ c.change-place.ensures.answered.reply_is

done : (g : given.Over) (c : Joined-reply g) → Changed c.args.self.now c.args.mine.now c.change-place.new.mine c.args.mask c.args.names c.version_set.result
done g c =
    changed c.args.self.now c.args.mine.now c.change-place.new.mine c.args.mask c.args.names c.change-place.result.0 (reply_of c.change-place.result.1) c.version_set.result
    c.change-place.ensures.answered c.change-place.ensures.leaves c.version_set.ensures

pub returns-clause-made : goal.returns-clause-made
returns-clause-made g c = (done g c).made

pub returns-clause-fault : goal.returns-clause-fault
returns-clause-fault g c = (done g c).fault

pub returns-clause-version : goal.returns-clause-version
returns-clause-version g c = (done g c).version

pub returns-clause-selection : goal.returns-clause-selection
returns-clause-selection g c = (done g c).selection

pub returns-clause-holds : goal.returns-clause-holds
returns-clause-holds g c = (done g c).holds

pub returns-clause-cached : goal.returns-clause-cached
returns-clause-cached g c = (done g c).cached

pub returns-clause-no_data : goal.returns-clause-no_data
returns-clause-no_data g c = (done g c).no_data
