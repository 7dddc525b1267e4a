-- The cycle of the counts: its members' answers, by the measure t of the call. Assumes nothing.
use Rattle.checker.proofs.Tallying as T
use Rattle.checker.proofs.calls.Tally.+counting.Goals as goal

pub count_expr-returns-then-levels-eq0 : goal.count_expr-returns-then-levels-eq0
count_expr-returns-then-levels-eq0 t c = search T.deep

pub count_expr-returns-in-Plain : goal.count_expr-returns-in-Plain
count_expr-returns-in-Plain t c = search T.plain_to

pub count_expr-returns-in-If : goal.count_expr-returns-in-If
count_expr-returns-in-If t c = search T.if_to

pub count_expr-returns-in-Exprs : goal.count_expr-returns-in-Exprs
count_expr-returns-in-Exprs t c = search T.row_to

pub count_exprs-loop-preserved : goal.count_exprs-loop-preserved
count_exprs-loop-preserved t c = search T.turn

pub count_exprs-returns : goal.count_exprs-returns
count_exprs-returns t c = search T.done

pub count_if-returns : goal.count_if-returns
count_if-returns t c = search T.if_done
