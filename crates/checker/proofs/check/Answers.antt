-- `check` meets its contract. Assumes nothing.
use Rattle.checker.proofs.Checking as C
use Rattle.checker.proofs.Files as F
use Rattle.checker.proofs.Near as N
use Rattle.checker.proofs.Parts as M
use Rattle.checker.proofs.check.Goals as goal

pub returns-in_err-p : goal.returns-in_err-p
returns-in_err-p c = rw (M.handed c.from_residual.ensures.1) (search (C.unread, F.unstuck, N.refused_bounded, c.in_err-p.ensures))

pub returns-in_err-walk_all : goal.returns-in_err-walk_all
returns-in_err-walk_all c =
    rw (M.handed c.from_residual-in_err-walk_all.ensures.1) (search (C.walk_fails, F.unstuck, N.bounded, c.in_ok-p.ensures, c.in_err-walk_all.ensures))

pub returns-in-None : goal.returns-in-None
returns-in-None c = search (C.passes, F.unstuck, N.bounded, c.in_ok-p.ensures, c.in_ok-walk_all.ensures, c.in-None.ensures)

pub returns-in-Some : goal.returns-in-Some
returns-in-Some c = search (C.crowds, F.unstuck, N.bounded, c.in_ok-p.ensures, c.in_ok-walk_all.ensures, c.in-Some.ensures)
