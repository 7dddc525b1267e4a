-- `start_word` meets its contract. Assumes nothing.
use Rattle.design.proofs.Lookups as L
use Rattle.design.proofs.plan.start_word.Goals as goal

pub returns : goal.returns
returns c = search L.start_is
