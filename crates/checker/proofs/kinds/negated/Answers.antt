-- `negated` meets its contract. Assumes nothing.
use Rattle.checker.proofs.Parts as M
use Rattle.checker.proofs.Wanting as W
use Rattle.checker.proofs.kinds.negated.Goals as goal

pub returns-in_err-wants : goal.returns-in_err-wants
returns-in_err-wants c = rw (M.handed c.from_residual.ensures.1) (search (W.not_other, c.in_err-wants.ensures))

pub returns : goal.returns
returns c = search (W.not_bool, c.in_ok-wants.ensures)
