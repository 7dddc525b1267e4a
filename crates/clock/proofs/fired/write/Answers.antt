-- `write` meets its contract. Assumes nothing.
use Rattle.clock.proofs.Firing as F
use Rattle.clock.proofs.fired.write.Goals as goal

pub returns-then-method-eq0 : goal.returns-then-method-eq0
returns-then-method-eq0 c = search F.write_even

pub returns-then-state-instance : goal.returns-then-state-instance
returns-then-state-instance c = search F.write_past

pub returns-then-ports-eq0 : goal.returns-then-ports-eq0
returns-then-ports-eq0 c = search F.write_none

pub returns : goal.returns
returns c = search F.write_done
