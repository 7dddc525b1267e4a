-- `ports` meets its contract. Assumes nothing.
use Rattle.design.proofs.Lookups as L
use Rattle.design.proofs.plan.ports.Goals as goal

pub returns-then-instances-instance : goal.returns-then-instances-instance
returns-then-instances-instance c = search L.ports_missing

pub returns : goal.returns
returns c = search L.ports_there
