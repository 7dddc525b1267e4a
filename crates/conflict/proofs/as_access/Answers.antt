-- `as_access` meets its contract. Assumes nothing.
use Rattle.conflict.proofs.Ports as P
use Rattle.conflict.proofs.as_access.Goals as goal

pub returns-then-method-eq0 : goal.returns-then-method-eq0
returns-then-method-eq0 c = search P.reads

pub returns : goal.returns
returns c = search P.writes
