use Rattle.std.proofs.Common.{rules}
use Rattle.host.proofs.Prepared as P
use Rattle.host.proofs.cantaribol_prepare.Goals as goal

pub returns-else-plan-lt-PLAN : goal.returns-else-plan-lt-PLAN
returns-else-plan-lt-PLAN c = P.prepare_done c.in-Ok.ensures (search rules) (search rules)

pub returns-in-Err : goal.returns-in-Err
returns-in-Err c = P.prepare_refused c.in-Err.ensures (search rules)
