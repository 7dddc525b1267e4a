-- `display` meets its contract. Assumes nothing.
use Rattle.std.proofs.Common.{rules}
use Rattle.clock.proofs.Firing as F
use Rattle.clock.proofs.fired.display.Goals as goal

pub loop-event-init : goal.loop-event-init
loop-event-init c = (search F.shows_start, search rules)

pub loop-event-preserved : goal.loop-event-preserved
loop-event-preserved c = (search F.shows_on, search rules)

pub returns : goal.returns
returns c = search F.shows_done
