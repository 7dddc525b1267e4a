-- `named` meets its contract. Assumes nothing.
use Rattle.rule.proofs.Callees as C
use Rattle.rule.proofs.naming.named.Goals as goal

pub returns-then-me-i : goal.returns-then-me-i
returns-then-me-i c = search C.not_below

pub returns-then-instances-i : goal.returns-then-instances-i
returns-then-instances-i c = search C.no_instance

pub returns-then-p-eq0 : goal.returns-then-p-eq0
returns-then-p-eq0 c = search C.of_user

pub returns-else-p-eq0 : goal.returns-else-p-eq0
returns-else-p-eq0 c = search C.of_register
