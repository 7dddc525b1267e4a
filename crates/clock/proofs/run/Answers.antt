-- `run` meets its contract. Assumes nothing.
use Rattle.clock.proofs.Running as R
use Rattle.clock.proofs.run.Goals as goal

pub returns-in-Err : goal.returns-in-Err
returns-in-Err c = R.run_away c.in-Err.ensures

pub returns-in-Ok : goal.returns-in-Ok
returns-in-Ok c = R.run_done c.in-Ok.ensures c.clocks.ensures
