-- `truth` meets its contract. Assumes nothing.
use Rattle.checker.proofs.Parts as M
use Rattle.checker.proofs.Walking as W
use Rattle.checker.proofs.kinds.truth.Goals as goal

pub returns-in_err-next : goal.returns-in_err-next
returns-in_err-next c = rw (M.handed c.from_residual.ensures.1) (search (W.truth_cut, c.in_err-next.ensures))

pub returns : goal.returns
returns c = search (W.truth_done, c.in_ok-next.ensures)
