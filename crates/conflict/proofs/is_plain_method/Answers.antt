-- `is_plain_method` meets its contract. Assumes nothing.
use Rattle.conflict.proofs.Looking as L
use Rattle.conflict.proofs.is_plain_method.Goals as goal

pub returns-then-eq : goal.returns-then-eq
returns-then-eq c = search L.plain_count

pub returns-else-eq : goal.returns-else-eq
returns-else-eq c = search L.plain_role

pub returns-in_default : goal.returns-in_default
returns-in_default c = search L.plain_nowhere
