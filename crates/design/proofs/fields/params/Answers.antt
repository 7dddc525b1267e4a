-- `params` meets its contract. Assumes nothing.
use Rattle.design.proofs.Rows as F
use Rattle.design.proofs.fields.params.Goals as goal

pub returns-in_err-next : goal.returns-in_err-next
returns-in_err-next c = rw (F.is_err _ c.from_residual.ensures.1) (F.params_no c.loop.invariant.0 c.loop-test.true c.in_err-next.ensures)

pub loop-preserved : goal.loop-preserved
loop-preserved c = (F.params_go c.loop.invariant.0 c.loop-test.true c.in_ok-next.ensures, F.reaches_within c.in_ok-next.ensures)

pub returns : goal.returns
returns c = F.params_done c.loop.invariant.0 c.loop.invariant.1 c.loop-test.false
