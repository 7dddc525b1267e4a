-- `schedule_fields` meets its contract. Assumes nothing.
use Rattle.design.proofs.Rows as F
use Rattle.design.proofs.fields.schedule_fields.Goals as goal

pub returns-in_err-count : goal.returns-in_err-count
returns-in_err-count c = rw (F.is_err _ c.from_residual.ensures.1) (F.schedule_no c.in_err-count.ensures)

pub entries-requires : goal.entries-requires
entries-requires c = F.reaches_within c.in_ok-count.ensures

pub returns-in_err-next : goal.returns-in_err-next
returns-in_err-next c = rw (F.is_err _ c.from_residual-in_err-next.ensures.1) (F.schedule_no_2 c.in_ok-count.ensures c.in_err-next.ensures)

pub returns : goal.returns
returns c = F.schedule_done c.in_ok-count.ensures c.in_ok-next.ensures
