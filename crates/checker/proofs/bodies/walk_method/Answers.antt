-- `walk_method` meets its contract. Assumes nothing.
use Rattle.checker.proofs.Parts as M
use Rattle.checker.proofs.Recorded as R
use Rattle.checker.proofs.bodies.walk_method.Goals as goal

pub returns-in_err-kind : goal.returns-in_err-kind
returns-in_err-kind c = rw (M.handed c.from_residual.ensures.1) (search (R.method_no, c.in_err-kind.was))

pub returns : goal.returns
returns c = search (R.method_done, c.in_ok-kind.was)
