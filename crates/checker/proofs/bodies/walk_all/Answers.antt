-- `walk_all` meets its contract. The invariant: the bodies that are left decide. Assumes nothing.
use Rattle.std.proofs.Common.{arith, rules}
use Rattle.checker.proofs.Placing as P
use Rattle.checker.proofs.bodies.walk_all.Goals as goal
use Rattle.checker.proofs.bodies.walk_all.Goals.{then-method_next+in_default, else-method_next+in_default-walk_rule}

pub loop-init : goal.loop-init
loop-init c = search (rules, P.over_starts)

pub returns-in-Err : goal.returns-in-Err
returns-in-Err c = search (P.method_fails, c.in-Err.ensures)

pub returns-in-Err-walk_rule : goal.returns-in-Err-walk_rule
returns-in-Err-walk_rule c = search (P.rule_fails, c.in-Err-walk_rule.ensures)

pub loop-preserved : goal.loop-preserved
loop-preserved c = elim c.if-method_next.branch [
  | then-method_next+in_default w ↦ rw (w.k-is, w.n-is) (search P.method_goes, omega arith)
  | else-method_next+in_default-walk_rule w ↦ rw (w.k-is, w.n-is) (search P.rule_goes, omega arith)
]

pub returns : goal.returns
returns c = search (rules, P.over_done)
