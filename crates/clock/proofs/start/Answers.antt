-- `start` meets its contract. Assumes nothing.
use Rattle.clock.proofs.Starting as S
use Rattle.clock.proofs.start.Goals as goal

pub returns-in-Ok : goal.returns-in-Ok
returns-in-Ok c = S.start_done c.in-Ok.ensures c.set_all.ensures

pub returns-in-Err : goal.returns-in-Err
returns-in-Err c = S.start_away c.in-Err.ensures
