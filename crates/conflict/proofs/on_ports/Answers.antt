-- `on_ports` meets its contract. Assumes nothing.
use Rattle.conflict.proofs.Pairs as P
use Rattle.conflict.proofs.on_ports.Goals as goal

pub returns-then-clash : goal.returns-then-clash
returns-then-clash c = search P.ports_meet
