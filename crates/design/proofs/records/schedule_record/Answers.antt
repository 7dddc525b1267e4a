-- `schedule_record` meets its contract. Assumes nothing.
use native.Mathlib.Omega.{arith}
use Rattle.design.specs.Steps.{with_schedule}
use Rattle.design.proofs.Returning as N
use Rattle.design.proofs.Rows as F
use Rattle.design.proofs.records.schedule_record.Goals as goal

pub returns-in_err-count : goal.returns-in_err-count
returns-in_err-count c table = rw (F.is_err _ c.from_residual.ensures.1) (N.schedule_no c.in_err-count.ensures table)

pub returns : goal.returns
unfolding with_schedule
returns c table = N.schedule_next c.in_ok-count.ensures table

pub overflow_add-result : goal.overflow_add-result
overflow_add-result c = omega (arith, N.schedule_room c.in_ok-count.ensures, c.args.file.short)
