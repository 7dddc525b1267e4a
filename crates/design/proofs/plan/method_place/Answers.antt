-- `method_place` meets its contract. Assumes nothing.
use Rattle.design.proofs.Lookups as L
use Rattle.design.proofs.plan.method_place.Goals as goal

pub returns : goal.returns
returns c = search L.place_is
