-- `given` meets its contract. Assumes nothing.
use Rattle.checker.proofs.Wanting as W
use Rattle.checker.proofs.kinds.given.Goals as goal

pub returns-in-Plus : goal.returns-in-Plus
returns-in-Plus c = search W.gives_num

pub returns-in_default : goal.returns-in_default
returns-in_default c = search W.gives_bool
