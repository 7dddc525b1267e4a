-- `bodies` meets its contract. Assumes nothing.
use Rattle.design.proofs.Rows as F
use Rattle.design.proofs.fields.bodies.Goals as goal

pub returns-in_err-bytes : goal.returns-in_err-bytes
returns-in_err-bytes c = rw (F.is_err _ c.from_residual.ensures.1) (F.bodies_no c.in_err-bytes.ensures)

pub overflow_sub-file : goal.overflow_sub-file
overflow_sub-file c = F.reaches_within c.in_ok-bytes.ensures

pub returns-then-file-start : goal.returns-then-file-start
returns-then-file-start c = F.bodies_cut c.in_ok-bytes.ensures c.if-file-start.true

pub slice_bounds-skip_exprs-end : goal.slice_bounds-skip_exprs-end
slice_bounds-skip_exprs-end c = F.text_length _ _ _ (F.reaches_within c.in_ok-bytes.ensures) c.if-file-start.false

pub skip_exprs-requires : goal.skip_exprs-requires
skip_exprs-requires c = F.text_start _ _ _ (F.reaches_within c.in_ok-bytes.ensures) c.if-file-start.false

pub returns-in_err-last : goal.returns-in_err-last
returns-in_err-last c = rw (F.is_err _ c.from_residual-in_err-last.ensures.1) (F.bodies_bad c.in_ok-bytes.ensures c.if-file-start.false c.skip_exprs.ensures c.in_err-last.ensures.value)

pub returns-then-last-end : goal.returns-then-last-end
returns-then-last-end c = F.bodies_left c.in_ok-bytes.ensures c.if-file-start.false c.skip_exprs.ensures c.in_ok-last.ensures.value c.if-last-end.true

pub returns-else-last-end : goal.returns-else-last-end
returns-else-last-end c = F.bodies_done c.in_ok-bytes.ensures c.if-file-start.false c.skip_exprs.ensures c.in_ok-last.ensures.value c.if-last-end.false
