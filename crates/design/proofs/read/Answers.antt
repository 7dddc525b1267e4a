-- `read` meets its contract. Assumes nothing.
use Rattle.std.specs.Prelude.{Ok}
use Rattle.design.specs.Reads.{counted}
use Rattle.design.proofs.Rows as F
use Rattle.design.proofs.Whole as W
use Rattle.design.proofs.read.Goals as goal

pub returns-in_err-plan_of : goal.returns-in_err-plan_of
unfolding counted
returns-in_err-plan_of c = rw (F.is_err _ c.from_residual.ensures.1) (W.answers _ c.in_err-plan_of.ensures)

pub returns : goal.returns
unfolding counted
returns c = W.answers (Ok c.in_ok-plan_of.field-0) c.in_ok-plan_of.ensures
