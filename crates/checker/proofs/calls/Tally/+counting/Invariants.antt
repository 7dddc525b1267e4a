-- The measure goes by the levels that are left, and then by the member: an expression calls the others one level down.
use Prim.Native.Nat.{◌+◌, ◌-◌, ◌*◌}
use Rattle.checker.specs.Counted.{several}
use Rattle.checker.proofs.Tallying as T
use Rattle.checker.proofs.calls.Tally.+counting.Given as goal

abbrev pub decreases-count_expr : goal.decreases-count_expr
decreases-count_expr l = l.levels * 2

abbrev pub decreases-count_exprs : goal.decreases-count_exprs
decreases-count_exprs l = l.levels * 2 + 1

abbrev pub decreases-count_if : goal.decreases-count_if
decreases-count_if l = l.levels * 2 + 1

abbrev pub invariant-count_exprs-loop : goal.invariant-count_exprs-loop
invariant-count_exprs-loop l =
    T.Goes (several l.row.lead l.row.count l.row.calls) (several l.row.lead (l.row.count - l.counter) l.calls) l.self.text.now l.self.plan.now l.self.counts.now l.self.me l.at
    l.levels l.here
