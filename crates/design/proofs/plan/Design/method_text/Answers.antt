-- `method_text` meets its contract. Assumes nothing.
use Rattle.design.proofs.Lookups as L
use Rattle.design.proofs.plan.Design.method_text.Goals as goal

pub returns : goal.returns
returns c = search L.method_text_is
