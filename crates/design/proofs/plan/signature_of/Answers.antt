-- `signature_of` meets its contract. Assumes nothing.
use Rattle.design.proofs.Lookups as L
use Rattle.design.proofs.plan.signature_of.Goals as goal

pub returns : goal.returns
returns c = search L.signature_is
