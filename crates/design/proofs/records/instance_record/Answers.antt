-- `instance_record` meets its contract. Assumes nothing.
use native.Mathlib.Omega.{arith}
use Rattle.design.specs.Steps.{with_instance}
use Rattle.design.proofs.Rows as F
use Rattle.design.proofs.Returning as N
use Rattle.design.proofs.records.instance_record.Goals as goal

pub returns-then-t-ge64 : goal.returns-then-t-ge64
returns-then-t-ge64 c = N.instance_limit c.if-t-ge64.true

pub returns-in_err-r : goal.returns-in_err-r
returns-in_err-r c = rw (F.is_err _ c.from_residual.ensures.1) (N.instance_no c.if-t-ge64.false c.in_err-r.was)

pub put_instance-requires : goal.put_instance-requires
put_instance-requires c = (c.if-t-ge64.false, N.few_ports c.requires.1 c.in_ok-r.was, omega arith, c.requires.0.few_methods)

pub returns : goal.returns
unfolding with_instance
returns c = N.instance_next c.if-t-ge64.false c.in_ok-r.was (rw c.then_some.ensures, c.put_instance.ensures)
