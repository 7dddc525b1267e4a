-- The measure goes by the levels that are left, and then by the member: an expression calls the others one level down.
use Rattle.std.proofs.Common.{◌≤◌, ◌+◌, ◌-◌, ◌*◌, length}
use Rattle.design.proofs.Skipping as S
use Rattle.design.specs.Text.{several, statements}
use Rattle.design.proofs.text.+skipping.Given as goal

abbrev pub decreases-skip_expr : goal.decreases-skip_expr
decreases-skip_expr l = l.levels * 4

abbrev pub decreases-skip_exprs : goal.decreases-skip_exprs
decreases-skip_exprs l = l.levels * 4 + 1

abbrev pub decreases-skip_statement : goal.decreases-skip_statement
decreases-skip_statement l = l.levels * 4 + 1

abbrev pub decreases-skip_statements : goal.decreases-skip_statements
decreases-skip_statements l = l.levels * 4 + 2

abbrev pub invariant-skip_exprs-loop : goal.invariant-skip_exprs-loop
invariant-skip_exprs-loop l = S.Goes (several l.count) (several (l.count - l.counter)) l.text l.at l.levels l.here × (l.here ≤ length l.text)

abbrev pub invariant-skip_statements-loop : goal.invariant-skip_statements-loop
invariant-skip_statements-loop l = S.Goes (statements l.more) (statements (l.more - l.counter)) l.text l.at l.levels l.here
