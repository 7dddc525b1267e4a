-- `params` meets its contract. The invariant: so many locals have the parameters' kinds. Assumes nothing.
use Rattle.checker.proofs.Recorded as R
use Rattle.checker.proofs.bodies.params.Given as goal

abbrev pub invariant-loop-j : goal.invariant-loop-j
invariant-loop-j l = R.Copied l.kinds l.j l.own
