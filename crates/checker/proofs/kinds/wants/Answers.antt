-- `wants` meets its contract. Assumes nothing.
use Rattle.checker.proofs.Wanting as W
use Rattle.checker.proofs.kinds.wants.Goals as goal

pub returns-then-eq : goal.returns-then-eq
returns-then-eq c = search W.is_wanted

pub returns-else-eq : goal.returns-else-eq
returns-else-eq c = search W.is_other
