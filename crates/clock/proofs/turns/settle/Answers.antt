-- `settle` meets its contract. Assumes nothing.
use Rattle.clock.proofs.Settling as S
use Rattle.clock.proofs.turns.settle.Goals as goal

pub returns-then-not-fires : goal.returns-then-not-fires
returns-then-not-fires c = search (S.settled_held, S.own_part)

pub returns : goal.returns
returns c = search (S.settled_fired, S.own_part)
