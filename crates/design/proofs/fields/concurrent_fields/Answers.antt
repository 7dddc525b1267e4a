-- `concurrent_fields` meets its contract. Assumes nothing.
use Rattle.design.proofs.Rows as F
use Rattle.design.proofs.fields.concurrent_fields.Goals as goal

pub returns-in_err-ports : goal.returns-in_err-ports
returns-in_err-ports c = rw (F.is_err _ c.from_residual.ensures.1) (F.concurrent_no c.in_err-ports.ensures)

pub returns-in_err-word : goal.returns-in_err-word
returns-in_err-word c = rw (F.is_err _ c.from_residual-in_err-word.ensures.1) (F.concurrent_no_2 c.in_ok-ports.ensures c.in_err-word.ensures)

pub returns : goal.returns
returns c = F.concurrent_done c.in_ok-ports.ensures c.in_ok-word.ensures
