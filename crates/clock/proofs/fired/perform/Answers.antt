-- `perform` meets its contract. Assumes nothing.
use Rattle.clock.proofs.Firing as F
use Rattle.clock.proofs.fired.perform.Goals as goal

pub loop-event-preserved : goal.loop-event-preserved
loop-event-preserved c = search F.writing_on

pub returns : goal.returns
returns c = search F.writing_done
