-- `repeat` meets its contract. Assumes nothing.
use Rattle.clock.proofs.Running as R
use Rattle.clock.proofs.repeat.Goals as goal

pub loop-done-init : goal.loop-done-init
loop-done-init c = search R.running_start

pub loop-done-preserved : goal.loop-done-preserved
loop-done-preserved c = search R.running_on

pub returns-in-Quiet : goal.returns-in-Quiet
returns-in-Quiet c = search R.running_quiet

pub returns-in-Stuck : goal.returns-in-Stuck
returns-in-Stuck c = search R.running_stuck

pub returns : goal.returns
returns c = search R.running_done
