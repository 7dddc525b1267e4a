-- `stop` meets its contract. Assumes nothing.
use Rattle.clock.proofs.Settling as S
use Rattle.clock.proofs.turns.stop.Goals as goal

pub returns : goal.returns
returns c = search S.stopped
