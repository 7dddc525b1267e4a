-- `register_fields` meets its contract. Assumes nothing.
use Rattle.design.proofs.Rows as F
use Rattle.design.proofs.fields.register_fields.Goals as goal

pub returns-in_err-word : goal.returns-in_err-word
returns-in_err-word c = rw (F.is_err _ c.from_residual.ensures.1) (F.register_no c.in_err-word.ensures)

pub returns : goal.returns
returns c = F.register_done c.in_ok-word.ensures
