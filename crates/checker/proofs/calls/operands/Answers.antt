-- `operands` meets its contract. Assumes nothing.
use Rattle.design.proofs.Heads as H
use Rattle.checker.proofs.Tallying as T
use Rattle.checker.proofs.calls.operands.Goals as goal

pub returns-in_default : goal.returns-in_default
returns-in_default c = T.no_operands (H.no_operator _ _ c.try_from.ensures c.in_default.not-Ok)

pub returns-in-Not : goal.returns-in-Not
returns-in-Not c = T.one_operand _ c.in-Ok.ensures c.in-Not.is

pub returns-in_default-operator : goal.returns-in_default-operator
returns-in_default-operator c = T.two_operands _ c.in-Ok.ensures c.in_default-operator.not-Not
