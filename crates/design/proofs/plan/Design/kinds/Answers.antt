-- `kinds` meets its contract. Assumes nothing.
use Rattle.design.proofs.Lookups as L
use Rattle.design.proofs.plan.Design.kinds.Goals as goal

pub returns-then-start-count : goal.returns-then-start-count
returns-then-start-count c = search L.kinds_cut

pub returns : goal.returns
returns c = search L.kinds_are
