-- `byte` meets its contract. Assumes nothing.
use Rattle.checker.proofs.Parts as M
use Rattle.checker.proofs.kinds.byte.Goals as goal

pub returns : goal.returns
returns c = search (M.stands, c.ok_or.ensures.value)
