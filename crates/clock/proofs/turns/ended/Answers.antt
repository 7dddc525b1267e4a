-- `ended` meets its contract. Assumes nothing.
use Rattle.clock.proofs.Settling as S
use Rattle.clock.proofs.turns.ended.Goals as goal

pub returns-then-p : goal.returns-then-p
returns-then-p c = search S.ends_fired

pub returns-else-p : goal.returns-else-p
returns-else-p c = search S.ends_quiet
