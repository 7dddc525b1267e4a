-- `admit` meets its contract. Assumes nothing.
use Rattle.std.proofs.Common.{rules}
use Rattle.clock.proofs.Opening as O
use Rattle.clock.proofs.admit.Goals as goal

pub returns-in_err-p : goal.returns-in_err-p
returns-in_err-p c = O.admit_refused _ c.in_err-p.ensures c.from_residual.ensures.1

pub returns-then-states-p : goal.returns-then-states-p
returns-then-states-p c = O.admit_unfit c.in_ok-p.ensures c.if-states-p.true

pub returns : goal.returns
returns c = O.admit_open c.in_ok-p.ensures (search rules)
