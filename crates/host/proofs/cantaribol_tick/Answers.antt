use Rattle.host.proofs.Prepared as P
use Rattle.host.proofs.cantaribol_tick.Goals as goal

pub returns-then-state-instances : goal.returns-then-state-instances
returns-then-state-instances c = search P.tick_state
