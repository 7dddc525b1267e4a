-- `set_one` meets its contract. Assumes nothing.
use Rattle.clock.proofs.Starting as S
use Rattle.clock.proofs.starts.set_one.Goals as goal

pub returns-then-ports-eq0 : goal.returns-then-ports-eq0
returns-then-ports-eq0 c = search S.set_user

pub returns : goal.returns
returns c = search S.set_register
