-- `clashes` meets its contract. Assumes nothing.
use Rattle.conflict.proofs.Pairs as P
use Rattle.conflict.proofs.clashes.Goals as goal

pub returns-then-instance : goal.returns-then-instance
returns-then-instance c = search P.apart

pub returns-in-Inside : goal.returns-in-Inside
returns-in-Inside c = search P.clash_inside_of

pub returns-in-Earlier : goal.returns-in-Earlier
returns-in-Earlier c = search P.clash_earlier_of

pub returns-in-Hardware : goal.returns-in-Hardware
returns-in-Hardware c = search P.clash_hardware_of
