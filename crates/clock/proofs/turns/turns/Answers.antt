-- `turns` meets its contract. Assumes nothing.
use Rattle.std.proofs.Common.{rules}
use Rattle.clock.proofs.Turning as T
use Rattle.clock.proofs.turns.turns.Goals as goal

pub loop-j-init : goal.loop-j-init
loop-j-init c = (search T.going_start, search rules)

pub returns-in-Err : goal.returns-in-Err
returns-in-Err c = (search T.going_stuck, search T.stuck_small)

pub loop-j-preserved : goal.loop-j-preserved
loop-j-preserved c = (search T.going_on, search T.calls_on)

pub returns : goal.returns
returns c = (search T.going_ended, search T.ended_small)
