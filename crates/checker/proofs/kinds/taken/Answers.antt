-- `taken` meets its contract. Assumes nothing.
use Rattle.checker.proofs.Wanting as W
use Rattle.checker.proofs.kinds.taken.Goals as goal

pub returns-in-And : goal.returns-in-And
returns-in-And c = search W.takes_bool

pub returns-in_default : goal.returns-in_default
returns-in_default c = search W.takes_num
