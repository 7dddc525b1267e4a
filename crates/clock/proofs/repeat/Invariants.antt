-- `repeat` meets its contract. Assumes nothing.
use lib.ListN.{length}
use Rattle.clock.proofs.Running as R
use Rattle.clock.proofs.repeat.Given as goal

abbrev pub invariant-loop-done : goal.invariant-loop-done
invariant-loop-done l = R.Running l.d.file.now l.d.plan.now (length l.initial.fates) l.initial.state l.n l.state l.done
