-- `act` meets its contract. Assumes nothing.
use Rattle.rule.proofs.Turning as T
use Rattle.rule.proofs.Falling as F
use Rattle.rule.proofs.Operating as O
use Rattle.rule.proofs.Meaning as M
use Rattle.rule.proofs.act.Goals as goal

pub returns-in_default : goal.returns-in_default
returns-in_default c = search (T.act_halts, M.halts)

pub returns-in_default-v : goal.returns-in_default-v
returns-in_default-v c = search (T.act_kind, O.not_bool)

pub returns-then-not-holds : goal.returns-then-not-holds
returns-then-not-holds c = search T.act_shut

pub eval-answer-requires : goal.eval-answer-requires
eval-answer-requires c = F.ready_then (F.ready_first c.requires) c.eval-condition.ensures c.in-Value.is

pub returns-in_default-answer : goal.returns-in_default-answer
returns-in_default-answer c = search (T.act_body_halts, M.halts)

pub returns-in_default-w : goal.returns-in_default-w
returns-in_default-w c = T.act_no_void _ c.eval-condition.ensures c.in-Value.is c.in-Bool.is c.if-not-holds.false c.eval-answer.ensures c.in-Value-answer.is (T.not_void _ c.in_default-w.not-Void)

pub returns : goal.returns
returns c = T.act_done _ c.eval-condition.ensures c.in-Value.is c.in-Bool.is c.if-not-holds.false c.eval-answer.ensures c.in-Value-answer.is c.in-Void.is
