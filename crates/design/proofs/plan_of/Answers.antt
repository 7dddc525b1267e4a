-- `plan_of` meets its contract. Assumes nothing.
use borrow.Author.Tests.{not-true, not-false}
use Rattle.design.proofs.Rows as F
use Rattle.design.proofs.Whole as W
use Rattle.design.proofs.plan_of.Goals as goal

pub returns-then-file-gt32768 : goal.returns-then-file-gt32768
returns-then-file-gt32768 c = W.long c.if-file-gt32768.true

pub returns-in_err-t : goal.returns-in_err-t
returns-in_err-t c = rw (F.is_err _ c.from_residual.ensures.1) (W.no c.if-file-gt32768.false c.in_err-t.ensures)

pub returns-then-not-t : goal.returns-then-not-t
returns-then-not-t c = W.unended c.if-file-gt32768.false c.in_ok-t.ensures (not-true _ c.if-not-t.true)

pub put_counts-requires : goal.put_counts-requires
put_counts-requires c = W.few_counts c.in_ok-t.ensures (not-false _ c.if-not-t.false)

pub put_schedule-requires : goal.put_schedule-requires
put_schedule-requires c = (W.few_entries c.in_ok-t.ensures (not-false _ c.if-not-t.false), W.entries_within c.in_ok-t.ensures (not-false _ c.if-not-t.false))

pub returns : goal.returns
returns c = W.done c.in_ok-t.ensures (not-false _ c.if-not-t.false) c.if-file-gt32768.false c.put_counts.ensures c.put_schedule.ensures
