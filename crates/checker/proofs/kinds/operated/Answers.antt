-- `operated` meets its contract. Assumes nothing.
use Rattle.checker.proofs.Parts as M
use Rattle.checker.proofs.Wanting as W
use Rattle.checker.proofs.kinds.operated.Goals as goal

pub returns-in_err-wants : goal.returns-in_err-wants
returns-in_err-wants c = rw (M.handed c.from_residual.ensures.1) (search (W.first_other, c.in_err-wants.ensures))

pub returns-in_err-wants-2 : goal.returns-in_err-wants-2
returns-in_err-wants-2 c =
    rw (M.handed c.from_residual-in_err-wants-2.ensures.1) (search (W.second_other, c.in_ok-wants.ensures, c.in_err-wants-2.ensures))

pub returns : goal.returns
returns c = search (W.operated, c.in_ok-wants.ensures, c.in_ok-wants-2.ensures)
