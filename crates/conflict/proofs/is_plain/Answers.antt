-- `is_plain` meets its contract. Assumes nothing.
use Rattle.conflict.proofs.Looking as L
use Rattle.conflict.proofs.is_plain.Goals as goal

pub returns-then-ports-eq0 : goal.returns-then-ports-eq0
returns-then-ports-eq0 c = search L.plain_user

pub returns-then-ports-method : goal.returns-then-ports-method
returns-then-ports-method c = search L.plain_no_port

pub returns : goal.returns
returns c = search L.plain_port
