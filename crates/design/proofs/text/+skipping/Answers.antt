-- The cycle of the functions that pass over expressions and statements: its members' answers, by the measure t of the call. Assumes nothing.
use Rattle.std.proofs.Common.{rules, arith}
use Rattle.design.proofs.Skipping as S
use Rattle.design.proofs.text.+skipping.Goals as goal

pub skip_expr-returns-in_err-inner : goal.skip_expr-returns-in_err-inner
skip_expr-returns-in_err-inner t c = search (S.deep, c.in_err-inner.ensures)

pub skip_expr-returns-in_err-head : goal.skip_expr-returns-in_err-head
skip_expr-returns-in_err-head t c = S.bad_head c.in_ok-inner.ensures c.in_err-head.ensures c.from_residual-in_err-head.ensures

pub skip_expr-skip_exprs-requires : goal.skip_expr-skip_exprs-requires
skip_expr-skip_exprs-requires t c = search (rules, S.head_within, c.in_ok-inner.ensures, c.in_ok-head.ensures)

pub skip_expr-skip_statements-requires : goal.skip_expr-skip_statements-requires
skip_expr-skip_statements-requires t c = search (rules, c.in_ok-inner.ensures)

pub skip_expr-returns-in-Plain : goal.skip_expr-returns-in-Plain
skip_expr-returns-in-Plain t c = S.plain c.in_ok-inner.ensures c.in_ok-head.ensures c.in-Plain.is

pub skip_expr-returns-in-Exprs : goal.skip_expr-returns-in-Exprs
skip_expr-returns-in-Exprs t c = S.rows_to c.in_ok-inner.ensures c.in_ok-head.ensures c.in-Exprs.is c.skip_exprs.ensures

pub skip_expr-returns-in-Statements : goal.skip_expr-returns-in-Statements
skip_expr-returns-in-Statements t c = S.block_to c.in_ok-inner.ensures c.in_ok-head.ensures c.in-Statements.is c.skip_statements.ensures

pub skip_exprs-returns-in_err-here : goal.skip_exprs-returns-in_err-here
skip_exprs-returns-in_err-here t c = search (S.several_bad, c.in_err-here.ensures)

pub skip_exprs-loop-preserved : goal.skip_exprs-loop-preserved
skip_exprs-loop-preserved t c = search (rules, S.several_more, S.within_to, c.in_ok-here.ensures)

pub skip_exprs-returns : goal.skip_exprs-returns
skip_exprs-returns t c = search S.several_done

pub skip_statement-returns-in_err-b : goal.skip_statement-returns-in_err-b
skip_statement-returns-in_err-b t c = search (S.statement_cut, c.in_err-b.ensures)

pub skip_statement-returns-in-Ok : goal.skip_statement-returns-in-Ok
skip_statement-returns-in-Ok t c = S.statement_to _ c.in_ok-b.ensures c.in-Ok.ensures c.skip_expr.ensures

pub skip_statement-returns-in-Err : goal.skip_statement-returns-in-Err
skip_statement-returns-in-Err t c = S.statement_bad c.in_ok-b.ensures c.in-Err.ensures

pub skip_statements-returns-in_err-here : goal.skip_statements-returns-in_err-here
skip_statements-returns-in_err-here t c = search (S.statements_bad, c.in_err-here.ensures)

pub skip_statements-loop-preserved : goal.skip_statements-loop-preserved
skip_statements-loop-preserved t c = search (S.statements_go, c.in_ok-here.ensures)

pub skip_statements-returns : goal.skip_statements-returns
skip_statements-returns t c = search S.statements_last
