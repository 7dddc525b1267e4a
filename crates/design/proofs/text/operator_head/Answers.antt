-- `operator_head` meets its contract. Assumes nothing.
use Rattle.std.proofs.Common.{sym}
use Rattle.design.specs.Kinds.{operation}
use Rattle.design.proofs.Heads as H
use Rattle.design.proofs.text.operator_head.Goals as goal

pub returns-in_err-b : goal.returns-in_err-b
returns-in_err-b c = search (H.operator_cut, c.in_err-b.ensures)

pub returns-in_default : goal.returns-in_default
returns-in_default c = H.operator_bad c.in_ok-b.ensures (H.no_operator _ _ c.try_from.ensures c.in_default.not-Ok)

pub returns-in-Not : goal.returns-in-Not
unfolding operation
returns-in-Not c = H.operator_one c.in_ok-b.ensures (sym (rw c.in-Not.is at c.in-Ok.ensures))

pub returns-in_default-operator : goal.returns-in_default-operator
returns-in_default-operator c = H.operator_two _ c.in_ok-b.ensures c.in-Ok.ensures c.in_default-operator.not-Not
