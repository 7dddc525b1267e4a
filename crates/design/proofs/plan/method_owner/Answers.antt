-- `method_owner` meets its contract. Assumes nothing.
use Rattle.design.proofs.Lookups as L
use Rattle.design.proofs.plan.method_owner.Goals as goal

pub returns : goal.returns
returns c = search L.owner_is
