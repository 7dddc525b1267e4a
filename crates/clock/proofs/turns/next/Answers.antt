-- `next` meets its contract. Assumes nothing.
use Rattle.clock.proofs.Turning as T
use Rattle.clock.proofs.turns.next.Goals as goal

pub returns : goal.returns
returns c = search T.next_noted
