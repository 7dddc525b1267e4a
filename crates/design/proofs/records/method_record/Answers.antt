-- `method_record` meets its contract. Assumes nothing.
use mathlib.Core.Path.{refl}
use Rattle.design.specs.Steps.{with_method}
use Rattle.design.proofs.Rows as F
use Rattle.design.proofs.Returning as N
use Rattle.design.proofs.records.method_record.Goals as goal

pub returns-in_err-owner : goal.returns-in_err-owner
returns-in_err-owner c = rw (F.is_err _ c.from_residual.ensures.1) (N.method_misplaced c.in_err-owner.ensures.value)

pub returns-then-t-ge128 : goal.returns-then-t-ge128
returns-then-t-ge128 c = N.method_limit c.in_ok-owner.ensures.value c.if-t-ge128.true

pub returns-in_err-shape : goal.returns-in_err-shape
returns-in_err-shape c = rw (F.is_err _ c.from_residual-in_err-shape.ensures.1) (N.method_no c.in_ok-owner.ensures.value c.if-t-ge128.false c.in_err-shape.ensures)

pub put_method-requires : goal.put_method-requires
put_method-requires c = (c.if-t-ge128.false, N.shape_small c.in_ok-shape.ensures, c.requires.place, N.end_small c.in_ok-shape.ensures c.args.file.short, N.owner_small c.requires c.in_ok-owner.ensures.value)

pub returns : goal.returns
unfolding with_method
returns c = N.method_next c.in_ok-owner.ensures.value c.if-t-ge128.false c.in_ok-shape.ensures (refl, c.put_method.ensures)
