-- `method_next` meets its contract. Assumes nothing.
use Rattle.checker.proofs.Placing as P
use Rattle.checker.proofs.bodies.method_next.Goals as goal

pub returns-then-methods-k : goal.returns-then-methods-k
returns-then-methods-k c = search P.no_method

pub returns-then-rules-n : goal.returns-then-rules-n
returns-then-rules-n c = search P.no_rule
