use Rattle.thread_current.proofs.Calls.{ReadDone, read_done, risen}
use Rattle.thread_current.proofs.shared.Shared.global_now.Given as given
use Rattle.thread_current.proofs.shared.Shared.global_now.Goals as goal
use Rattle.thread_current.proofs.shared.Shared.global_now.Goals.{After-read}

done : (g : given.Over) (c : After-read g) → ReadDone c.args.self.now c.args.mine.now c.read.new.self c.ask-version.result.0 c.ask-version.result.1
done g c =
    let a = c.ask-version.ensures in
    let b = c.cached.ensures in
    read_done c.args.self.now c.args.mine.now c.cached.new.mine c.ask-version.new.mine c.read.new.self c.ask-version.result.0 c.ask-version.result.1
    b.saw b.keeps a.saw a.keeps a.in_order a.version a.object c.read.ensures

pub returns-in-Some-clause-newer : goal.returns-in-Some-clause-newer
returns-in-Some-clause-newer g c = risen c.args.mine.now c.cached.new.mine c.in-Some.read.0 c.cached.ensures.saw c.in-Some.ensures.read.0

pub returns-clause-saw : goal.returns-clause-saw
returns-clause-saw g c = (done g c).saw

pub returns-clause-selection : goal.returns-clause-selection
returns-clause-selection g c = (done g c).selection

pub returns-clause-holds : goal.returns-clause-holds
returns-clause-holds g c = (done g c).holds

pub returns-clause-in_order : goal.returns-clause-in_order
returns-clause-in_order g c = (done g c).in_order

pub returns-clause-version : goal.returns-clause-version
returns-clause-version g c = (done g c).version

pub returns-clause-newer : goal.returns-clause-newer
returns-clause-newer g c = (done g c).newer

pub returns-clause-object : goal.returns-clause-object
returns-clause-object g c = (done g c).object

pub returns-clause-cached : goal.returns-clause-cached
returns-clause-cached g c = (done g c).cached
